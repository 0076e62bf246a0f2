-- `convert::put::put_u16` meets its contract: two stores.
-- Assumes nothing.
use Rattle.std.proofs.Common.{length-set, arith}
use Rattle.convert.proofs.Putting.{put-short}
use Rattle.convert.proofs.put.put_u16.Goals as goal

pub bounds-out-at-2 : goal.bounds-out-at-2
bounds-out-at-2 c = simp length-set (omega arith)

pub returns : goal.returns
returns c = put-short _ _ _
