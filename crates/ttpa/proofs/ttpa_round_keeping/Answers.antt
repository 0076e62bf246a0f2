-- `ttpa::ttpa_round_keeping` meets its contract: the round and what is told of it.
-- Assumes nothing.
use Rattle.std.proofs.Common.{rules}
use Rattle.ttpa.proofs.CallLaws.{round-keeping-told}
use Rattle.ttpa.proofs.ttpa_round_keeping.Goals as goal

pub returns : goal.returns
returns c = search (rules, round-keeping-told)
