-- Each claim of specs/Claims, and the theorem that has it as its type.
use Rattle.owner.specs.Claims.Call.{BufferRuns, PlainBufferRuns, PlannedAwake, UnknownEdition}
use Rattle.owner.specs.Claims.OwnerEditions.{OwnerConverted}
use Rattle.owner.specs.Claims.OwnerGrounds.{GroundsInOrder}
use Rattle.owner.specs.Claims.Header.{HeaderIsZeros}
use Rattle.owner.specs.Claims.PlannedRounds.{SendAsPlanned, CountAsPlanned, MaskAsPlanned, SenderOwns, OwnersRun, PlainCountAsPlanned, PlainAsPlanned, PlainOwnersRun, PlainMaskAsPlanned}
use Rattle.owner.specs.Claims.Sizes.{AtMostLongest, LongestFits, IndexBytes, FoundByIndex, NobodyPastRow}
use Rattle.owner.proofs.Asleep.{planned-awake}
use Rattle.owner.proofs.Buffer.{buffer-runs, plain_buffer-runs, mask_as_planned, plain_mask_as_planned}
use Rattle.owner.proofs.Calls.{owner-edition}
use Rattle.owner.proofs.OwnerEditions.{owner-converted}
use Rattle.owner.proofs.OwnerGrounds.{grounds_in_order, header-is-zeros}
use Rattle.owner.proofs.Runs.{send_as_planned, count_as_planned, sender_owns, owners-run, plain_count_as_planned, plain_as_planned, plain_owners-run}
use Rattle.owner.proofs.Sizes.{at-most-longest, longest-fits, index-bytes, found_by_index, nobody_past_row}

pub held-buffer-runs : BufferRuns
held-buffer-runs = buffer-runs

pub held_plain_buffer-runs : PlainBufferRuns
held_plain_buffer-runs = plain_buffer-runs

pub held-planned-awake : PlannedAwake
held-planned-awake = planned-awake

pub held_unknown_edition : UnknownEdition
held_unknown_edition = owner-edition

pub held_grounds_in_order : GroundsInOrder
held_grounds_in_order = grounds_in_order

pub held-header-is-zeros : HeaderIsZeros
held-header-is-zeros = header-is-zeros

pub held-send_as_planned : SendAsPlanned
held-send_as_planned = send_as_planned

pub held-count_as_planned : CountAsPlanned
held-count_as_planned = count_as_planned

pub held-mask_as_planned : MaskAsPlanned
held-mask_as_planned = mask_as_planned

pub held_sender_owns : SenderOwns
held_sender_owns = sender_owns

pub held-owners-run : OwnersRun
held-owners-run = owners-run

pub held_plain_count_as_planned : PlainCountAsPlanned
held_plain_count_as_planned = plain_count_as_planned

pub held_plain_as_planned : PlainAsPlanned
held_plain_as_planned = plain_as_planned

pub held_plain_owners-run : PlainOwnersRun
held_plain_owners-run = plain_owners-run

pub held_plain_mask_as_planned : PlainMaskAsPlanned
held_plain_mask_as_planned = plain_mask_as_planned

pub held-at-most-longest : AtMostLongest
held-at-most-longest = at-most-longest

pub held-longest-fits : LongestFits
held-longest-fits = longest-fits

pub held-index-bytes : IndexBytes
held-index-bytes = index-bytes

pub held_found_by_index : FoundByIndex
held_found_by_index = found_by_index

pub held-nobody_past_row : NobodyPastRow
held-nobody_past_row = nobody_past_row

pub held-owner-converted : OwnerConverted
held-owner-converted = owner-converted
