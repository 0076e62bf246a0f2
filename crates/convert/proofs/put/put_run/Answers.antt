-- `convert::put::put_run` meets its contract: the part of the buffer is what was copied.
-- Assumes nothing.
use Rattle.file.specs.Rules.Bytes.{part}
use Rattle.convert.proofs.Putting.{put-run}
use Rattle.std.proofs.Common.{rules}
use Rattle.convert.proofs.put.put_run.Goals as goal

pub returns : goal.returns
unfolding part
returns c = search (rules, put-run)
