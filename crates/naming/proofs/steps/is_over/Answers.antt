-- `naming::steps::is_over` meets its contract: one law for each way.
-- Assumes nothing.
use Rattle.naming.proofs.StepsLaws.{end-here, end_over, end_unfit}
use Rattle.naming.proofs.steps.is_over.Goals as goal

pub returns-then-run-until : goal.returns-then-run-until
returns-then-run-until c = search end-here

pub returns-then-run-ne-RUNNING : goal.returns-then-run-ne-RUNNING
returns-then-run-ne-RUNNING c = search end_over

pub returns : goal.returns
returns c = search end_unfit
