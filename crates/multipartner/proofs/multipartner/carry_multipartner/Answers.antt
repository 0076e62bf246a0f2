-- `multipartner::multipartner::carry_multipartner` meets its contract: the epoch raised, then the slots.
-- Assumes nothing.
use Rattle.file.proofs.ReaderLaws.{becomes-decoded}
use Rattle.master_slave.proofs.EpochLaws.{raised_placed}
use Rattle.multipartner.proofs.SlotLaws.{carried_accepted, raised_carries}
use Rattle.std.proofs.Common.{rules}
use Rattle.multipartner.proofs.multipartner.carry_multipartner.Goals as goal

pub read_epoch-epoch-requires : goal.read_epoch-epoch-requires
read_epoch-epoch-requires c = search (rules, becomes-decoded)

pub run_slots-mask-requires : goal.run_slots-mask-requires
run_slots-mask-requires c = search (rules, raised_placed)

pub wake_slaves-requires : goal.wake_slaves-requires
wake_slaves-requires c =
    carried_accepted c.run_slots-mask.ensures

pub returns : goal.returns
returns c = search (rules, raised_carries)
