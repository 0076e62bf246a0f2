-- `master_slave::slots::silence` meets its contract. The invariant is `Filled`: the slots below `slot` hold what nobody sends.
use Rattle.master_slave.specs.Rules.Bus.{nobody}
use Rattle.master_slave.proofs.Bus.{Filled}
use Rattle.master_slave.proofs.slots.silence.Given as goal

abbrev pub invariant-loop-slot : goal.invariant-loop-slot
invariant-loop-slot l = Filled nobody l.firework l.initial.buffer l.slot l.buffer
