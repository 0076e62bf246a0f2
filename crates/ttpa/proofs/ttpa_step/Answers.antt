-- `ttpa::ttpa_step` meets its contract: the step and what is told of it.
-- Assumes nothing.
use Rattle.std.proofs.Common.{rules}
use Rattle.ttpa.proofs.CallLaws.{step-told}
use Rattle.ttpa.proofs.ttpa_step.Goals as goal

pub returns : goal.returns
returns c = search (rules, step-told)
