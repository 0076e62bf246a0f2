-- `master_slave::slots::mask_to` meets its contract. The invariant is `Counting`: the mask is that of the slots below `slot`.
-- Assumes nothing.
use Rattle.std.proofs.Common.{arith}
use Rattle.master_slave.proofs.Bus.{counting_next}
use Rattle.master_slave.proofs.slots.mask_to.Goals as goal

pub loop-slot-preserved : goal.loop-slot-preserved
loop-slot-preserved c = counting_next c.loop-slot.invariant (omega arith) c.with_sender-mask.ensures
