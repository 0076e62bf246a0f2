-- The grounds of the call in their order, and the record 0x00 that it writes.
-- Assumes nothing.
use Rattle.std.proofs.Common.{refl}
use Rattle.owner.specs.Rules.OwnerFile.{owner_file}
use Rattle.owner.specs.Claims.OwnerGrounds.{GroundsInOrder}
use Rattle.owner.specs.Claims.Header.{HeaderIsZeros}
use Rattle.owner.proofs.Calls.{file_decides, multiplexed_decides, clash_decides, buffer_decides, none-holds}

pub grounds_in_order : GroundsInOrder
grounds_in_order =
    record { file = file_decides; multiplexed = multiplexed_decides; clash = clash_decides; buffer = buffer_decides; none = none-holds }

pub header-is-zeros : HeaderIsZeros
unfolding owner_file
header-is-zeros master slaves = refl
