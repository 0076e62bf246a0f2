-- `file::readers::read_pending` meets its contract: the bytes are the decoded fields.
-- Assumes nothing.
use Rattle.file.proofs.StoreLaws.{pending-read}
use Rattle.std.proofs.Common.{rules}
use Rattle.file.proofs.readers.read_pending.Goals as goal

pub returns : goal.returns
returns c = search (rules, pending-read)
