-- `frame::firework::firework_of` meets its contract: the round by the bits is the round by the list.
-- Assumes nothing.
use Rattle.std.proofs.Common.{rules}
use Rattle.frame.specs.Inner.FrameAnswers.{firework_round}
use Rattle.frame.proofs.FireworkBits.{opens-none, opens-data, opens-address, opens-multipartner}
use Rattle.frame.proofs.firework.firework_of.Goals as goal

pub returns-then-byte-high_bits : goal.returns-then-byte-high_bits
unfolding firework_round
returns-then-byte-high_bits c = search (rules, opens-none)

pub returns-in-1 : goal.returns-in-1
unfolding firework_round
returns-in-1 c = search (rules, opens-data)

pub returns-in-5 : goal.returns-in-5
unfolding firework_round
returns-in-5 c = search (rules, opens-address)

pub returns-in_default : goal.returns-in_default
unfolding firework_round
returns-in_default c = search (rules, opens-multipartner)
