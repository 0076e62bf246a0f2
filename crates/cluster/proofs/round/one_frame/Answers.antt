-- `cluster::round::one_frame` meets its contract: a law for each firework.
-- Assumes nothing.
use Rattle.cluster.proofs.FrameCall.{frame-none, frame-address, frame-data, round-low, frame-long, frame-carried}
use Rattle.std.proofs.Common.{rules}
use Rattle.cluster.proofs.round.one_frame.Goals as goal
use Rattle.file.specs.Inner.Refusals.{refusal_number, outcome_of}

pub take_address-requires : goal.take_address-requires
take_address-requires c = search (rules, frame-address)

pub take_data-requires : goal.take_data-requires
take_data-requires c = search (rules, frame-data)

pub returns-then-frame-ne-FIREWORK_SIZE : goal.returns-then-frame-ne-FIREWORK_SIZE
unfolding outcome_of refusal_number
returns-then-frame-ne-FIREWORK_SIZE c =
    frame-long _ _ c.firework_in.ensures c.in-Some.is c.in-Multipartner.is _ _ c.requires.0.file c.if-frame-ne-FIREWORK_SIZE.true

pub carry_multipartner-requires : goal.carry_multipartner-requires
carry_multipartner-requires c = search (rules, round-low)

pub returns-in_default : goal.returns-in_default
unfolding outcome_of refusal_number
returns-in_default c = search (rules, frame-none)

pub returns-else-frame-ne-FIREWORK_SIZE : goal.returns-else-frame-ne-FIREWORK_SIZE
unfolding outcome_of refusal_number
returns-else-frame-ne-FIREWORK_SIZE c =
    frame-carried _ _ c.firework_in.ensures c.in-Some.is c.in-Multipartner.is _ _ c.if-frame-ne-FIREWORK_SIZE.false c.carry_multipartner.ensures
