-- `file::readers::logical_names` meets its contract: the names of the slaves looked at stand in front.
-- Assumes nothing.
use Rattle.std.proofs.Common.{rules}
use Rattle.file.proofs.NameReadLaws.{put_next, put-end}
use Rattle.file.proofs.readers.logical_names.Goals as goal

pub loop-slave-preserved : goal.loop-slave-preserved
loop-slave-preserved c = search (rules, put_next)

pub returns : goal.returns
returns c = search (rules, put-end)
