-- `cluster::round::one_unheard` meets its contract: a law for each firework.
-- Assumes nothing.
use Rattle.cluster.proofs.FrameCall.{frame-address, frame-data, round-low}
use Rattle.cluster.proofs.UnheardLaws.{unheard_none, unheard-address, unheard_long, unheard_multipartner}
use Rattle.std.proofs.Common.{rules}
use Rattle.cluster.proofs.round.one_unheard.Goals as goal

pub pend_address-answer-requires : goal.pend_address-answer-requires
pend_address-answer-requires c = search (rules, frame-address)

pub take_unheard-requires : goal.take_unheard-requires
take_unheard-requires c = search (rules, frame-data)

pub returns-then-frame-ne-FIREWORK_SIZE : goal.returns-then-frame-ne-FIREWORK_SIZE
returns-then-frame-ne-FIREWORK_SIZE c =
    unheard_long _ _ _ c.requires.1 c.in-Some.is c.in-Multipartner.is c.requires.0.file c.if-frame-ne-FIREWORK_SIZE.true c.requires.3

pub carry_multipartner-requires : goal.carry_multipartner-requires
carry_multipartner-requires c = search (rules, round-low)

pub returns-in_default : goal.returns-in_default
returns-in_default c = search (rules, unheard_none)

pub returns-in-Address : goal.returns-in-Address
returns-in-Address c = search (rules, unheard-address, frame-address _ _ c.requires.1 c.in-Some.is c.in-Address.is)

pub returns-else-frame-ne-FIREWORK_SIZE : goal.returns-else-frame-ne-FIREWORK_SIZE
returns-else-frame-ne-FIREWORK_SIZE c =
    unheard_multipartner _ _ _ c.requires.1 c.in-Some.is c.in-Multipartner.is c.if-frame-ne-FIREWORK_SIZE.false c.carry_multipartner.ensures
