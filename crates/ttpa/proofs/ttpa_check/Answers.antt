-- `ttpa::ttpa_check` meets its contract: the answer of the layer below and what is told of it.
-- Assumes nothing.
use Rattle.std.proofs.Common.{rules}
use Rattle.ttpa.proofs.CallLaws.{check-told}
use Rattle.ttpa.proofs.ttpa_check.Goals as goal

pub returns : goal.returns
returns c = search (rules, check-told)
