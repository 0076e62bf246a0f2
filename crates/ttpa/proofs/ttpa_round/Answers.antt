-- `ttpa::ttpa_round` meets its contract: the answer of the layer below and what is told of it.
-- Assumes nothing.
use Rattle.std.proofs.Common.{rules}
use Rattle.ttpa.proofs.CallLaws.{round-told}
use Rattle.ttpa.proofs.ttpa_round.Goals as goal

pub returns : goal.returns
returns c = search (rules, round-told)
