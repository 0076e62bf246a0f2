-- `file::header::wrong_mark` meets its contract: a law for each way.
-- Assumes nothing.
use Rattle.file.proofs.HeaderLaws.{mark-first, mark-second}
use Rattle.std.proofs.Common.{rules}
use Rattle.file.proofs.header.wrong_mark.Goals as goal

pub returns-then-byte_at-ne-MARK_0 : goal.returns-then-byte_at-ne-MARK_0
returns-then-byte_at-ne-MARK_0 c = search (rules, mark-first)

pub returns : goal.returns
returns c = search (rules, mark-second)
