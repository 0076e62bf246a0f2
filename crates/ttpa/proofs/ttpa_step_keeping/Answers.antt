-- `ttpa::ttpa_step_keeping` meets its contract: the step and what is told of it.
-- Assumes nothing.
use Rattle.std.proofs.Common.{rules}
use Rattle.ttpa.proofs.CallLaws.{step-keeping-told}
use Rattle.ttpa.proofs.ttpa_step_keeping.Goals as goal

pub returns : goal.returns
returns c = search (rules, step-keeping-told)
