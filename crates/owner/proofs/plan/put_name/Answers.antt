-- `owner::plan::put_name` meets its contract: what is left of the mask has the slots that are still to be named.
-- Assumes nothing.
use Rattle.std.proofs.Common.{◌-◌, arith}
use lib.Bits.{and_le_r}
use Rattle.owner.proofs.MaskLaws.{first-of}
use Rattle.owner.proofs.SlavePlan.{putting_start, putting_next, putting_done}
use Rattle.owner.proofs.plan.put_name.Goals as goal

pub loop-rest-init : goal.loop-rest-init
loop-rest-init c = putting_start _ _ _

pub overflow_cast-slot : goal.overflow_cast-slot
overflow_cast-slot c = omega (arith, (first-of c.loop-rest.rest c.loop-rest-test.true (omega (arith, c.loop-rest.invariant.small))).1)

pub bounds-row-slot : goal.bounds-row-slot
bounds-row-slot c = omega (arith, (first-of c.loop-rest.rest c.loop-rest-test.true (omega (arith, c.loop-rest.invariant.small))).1, c.loop-rest.invariant.room, c.requires)

pub loop-rest-smaller : goal.loop-rest-smaller
loop-rest-smaller c = omega (arith, and_le_r c.loop-rest.rest (c.loop-rest.rest - 1))

pub loop-rest-preserved : goal.loop-rest-preserved
loop-rest-preserved c =
    let first = first-of c.loop-rest.rest c.loop-rest-test.true (omega (arith, c.loop-rest.invariant.small)) in
    putting_next c.loop-rest.invariant c.requires first.1 first.0

pub shape_of-row : goal.shape_of-row
shape_of-row c = c.loop-rest.invariant.room

pub returns : goal.returns
returns c = putting_done c.loop-rest.invariant c.loop-rest-test.false
