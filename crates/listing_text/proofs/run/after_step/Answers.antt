-- `listing_text::run::after_step` meets its contract.
-- Assumes nothing.
use Rattle.listing_text.proofs.ListLaws.{length-names, after-step_silent, after-step-named}
use Rattle.std.proofs.Common.{arith}
use Rattle.listing_text.proofs.run.after_step.Goals as goal

pub returns-then-run-ne-LAST_STEP : goal.returns-then-run-ne-LAST_STEP
returns-then-run-ne-LAST_STEP c = search after-step_silent

pub bounds-names-index : goal.bounds-names-index
bounds-names-index c = rw (c.requires.0, length-names) c.requires.2.inside

pub overflow_add-result : goal.overflow_add-result
overflow_add-result c = omega (arith, c.requires.1.few, c.requires.2.inside)

pub returns : goal.returns
returns c = search after-step-named
