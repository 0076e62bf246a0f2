-- `naming::position::is_unfit` meets its contract: one law for each part of the ground.
-- Assumes nothing.
use Rattle.naming.specs.Inner.StepAnswers.{position_of}
use Rattle.naming.proofs.PositionLaws.{unfit_end, unfit_index, fit-ended, unfit_past, unfit_step, unfit_rounds, unfit_comparisons}
use Rattle.naming.proofs.position.is_unfit.Goals as goal

pub returns-then-run-gt-NAMES_USED_UP : goal.returns-then-run-gt-NAMES_USED_UP
returns-then-run-gt-NAMES_USED_UP c = search unfit_end

pub returns-then-count-run : goal.returns-then-count-run
returns-then-count-run c = search unfit_index

pub returns-then-run-ne-RUNNING : goal.returns-then-run-ne-RUNNING
returns-then-run-ne-RUNNING c = search fit-ended

pub returns-then-run-count : goal.returns-then-run-count
returns-then-run-count c = search unfit_past

pub returns-then-run-gt-LAST_STEP : goal.returns-then-run-gt-LAST_STEP
returns-then-run-gt-LAST_STEP c = search unfit_step

pub returns-then-run-ge-COUNT_LIMIT : goal.returns-then-run-ge-COUNT_LIMIT
returns-then-run-ge-COUNT_LIMIT c = search unfit_rounds

pub returns : goal.returns
returns c =
    search (unfit_comparisons c.args.names.now (position_of c.args.run), c.if-run-gt-NAMES_USED_UP.false, c.if-count-run.false, c.if-run-ne-RUNNING.false)
