-- `owner::held::all_held` meets its contract. The invariant is `Holding`: the slaves passed are marked.
-- Assumes nothing.
use Rattle.std.proofs.Common.{◌<◌, refl, ◌∙◌, arith, length, length-set}
use Rattle.owner.proofs.HeldLaws.{holding_start, holding_next, holding_done}
use Rattle.owner.proofs.held.all_held.Goals as goal

pub loop-slave-init : goal.loop-slave-init
loop-slave-init c = (holding_start _ _, refl)

pub loop-slave-preserved : goal.loop-slave-preserved
loop-slave-preserved c =
    let loop = c.loop-slave in
    let room : loop.slave < length loop.held = omega (arith, c.requires.1, c.slave_count-slave-end.ensures, loop.invariant.1) in
    (holding_next loop.invariant.0 room c.rounds_held.ensures, length-set loop.held loop.slave c.rounds_held.result ∙ loop.invariant.1)

pub shape_of-held : goal.shape_of-held
shape_of-held c = c.loop-slave.invariant.1

pub returns : goal.returns
returns c =
    holding_done c.loop-slave.invariant.0 (omega (arith, c.slave_count-slave-end.ensures)) (omega (arith, c.requires.1, c.loop-slave.invariant.1))
