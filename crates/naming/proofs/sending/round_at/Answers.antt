-- `naming::sending::round_at` meets its contract: one law for each way.
-- Assumes nothing.
use Rattle.naming.specs.Rules.RunRounds.{sent}
use Rattle.naming.proofs.SendLaws.{at_high, at_low, writes_no_half, at_other}
use Rattle.std.proofs.Common.{rules}
use Rattle.naming.proofs.sending.round_at.Goals as goal

pub returns-then-at-eq-HIGH : goal.returns-then-at-eq-HIGH
unfolding sent
returns-then-at-eq-HIGH c = search at_high

pub returns-then-at-eq-LOW : goal.returns-then-at-eq-LOW
unfolding sent
returns-then-at-eq-LOW c = search at_low

pub other_round-requires : goal.other_round-requires
other_round-requires c = search (rules, writes_no_half)

pub returns : goal.returns
returns c = search at_other
