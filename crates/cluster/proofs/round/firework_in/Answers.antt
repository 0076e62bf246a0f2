-- `cluster::round::firework_in` meets its contract: a law for each way.
-- Assumes nothing.
use Rattle.frame.specs.Inner.FrameAnswers.{firework_round}
use Rattle.cluster.proofs.FrameCall.{empty_opens, byte-opens}
use Rattle.std.proofs.Common.{rules}
use Rattle.cluster.proofs.round.firework_in.Goals as goal

pub returns-then-frame-eq0 : goal.returns-then-frame-eq0
unfolding firework_round
returns-then-frame-eq0 c = search (rules, empty_opens)

pub returns : goal.returns
returns c = search (rules, byte-opens)
