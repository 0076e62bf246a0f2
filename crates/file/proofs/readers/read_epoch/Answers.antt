-- `file::readers::read_epoch` meets its contract: the byte is the decoded field.
-- Assumes nothing.
use Rattle.file.proofs.StoreLaws.{epoch-read}
use Rattle.std.proofs.Common.{rules}
use Rattle.file.proofs.readers.read_epoch.Goals as goal

pub returns : goal.returns
returns c = search (rules, epoch-read)
