-- `convert::put::put_zeros` meets its contract: the zeros so far stand in the buffer.
-- Assumes nothing.
use Rattle.convert.proofs.Putting.{put-none, put-room, zero_next, zeros-done}
use Rattle.std.proofs.Common.{arith, rules}
use Rattle.convert.proofs.put.put_zeros.Goals as goal

pub loop-done-init : goal.loop-done-init
loop-done-init c = (omega arith, put-none _ _)

pub bounds-out-at : goal.bounds-out-at
bounds-out-at c = omega (arith, put-room c.loop-done.invariant.1)

pub loop-done-preserved : goal.loop-done-preserved
loop-done-preserved c = (omega arith, zero_next _ c.loop-done.invariant.1)

pub shape_of-out : goal.shape_of-out
shape_of-out c = put-room c.loop-done.invariant.1

pub returns : goal.returns
returns c = search (rules, zeros-done)
