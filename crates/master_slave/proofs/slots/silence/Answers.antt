-- `master_slave::slots::silence` meets its contract. The invariant is `Filled`: the slots below `slot` hold what nobody sends.
-- Assumes nothing.
use Rattle.std.proofs.Common.{arith}
use Rattle.master_slave.specs.Rules.Bus.{nobody}
use Rattle.master_slave.proofs.Bus.{filled-start, filled-done}
use Rattle.master_slave.proofs.slots.silence.Goals as goal

pub loop-slot-init : goal.loop-slot-init
loop-slot-init c = filled-start nobody c.args.firework c.args.buffer.now c.requires

pub returns : goal.returns
returns c = filled-done c.args.buffer.now c.loop-slot.invariant (omega arith)
