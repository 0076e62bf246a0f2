-- `master_slave::slots::mask_to` meets its contract. The invariant is `Counting`: the mask is that of the slots below `slot`.
use Rattle.master_slave.proofs.Bus.{Counting}
use Rattle.master_slave.proofs.slots.mask_to.Given as goal

abbrev pub invariant-loop-slot : goal.invariant-loop-slot
invariant-loop-slot l = Counting l.last l.slot l.mask
