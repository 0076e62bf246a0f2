-- `file::header::wrong_pending` meets its contract: a law for each way.
-- Assumes nothing.
use Rattle.file.proofs.HeaderLaws.{pending-above, pending-none, pending_unknown, pending-known}
use Rattle.std.proofs.Common.{rules}
use Rattle.file.proofs.header.wrong_pending.Goals as goal

pub returns-then-flag-gt-PENDING : goal.returns-then-flag-gt-PENDING
returns-then-flag-gt-PENDING c = search (rules, pending-above)

pub returns-then-flag-ne-PENDING : goal.returns-then-flag-ne-PENDING
returns-then-flag-ne-PENDING c = search (rules, pending-none)

pub returns-then-is_no_operation : goal.returns-then-is_no_operation
returns-then-is_no_operation c = search (rules, pending_unknown)

pub returns : goal.returns
returns c = search (rules, pending-known)
