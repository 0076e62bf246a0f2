-- `listing_text::run::one_step` meets its contract: by the step's answer.
-- Assumes nothing.
use Rattle.std.proofs.Common.{◌∙◌, ap, Ok}
use Rattle.listing_text.proofs.ListLaws.{made_moves, one-step-refused, one-step-ended, one-step-made}
use Rattle.listing_text.proofs.run.one_step.Goals as goal

pub after_step-requires : goal.after_step-requires
after_step-requires c = (
  c.requires.0,
  c.requires.1,
  made_moves _ _ _ c.requires.0 c.step_on.ensures (c.in-Ok-Some.is ∙ ap Ok c.in-Ok-Some.field-0-is) c.requires.1.begins,
)

pub returns-in-Ok-None : goal.returns-in-Ok-None
returns-in-Ok-None c = one-step-ended _ _ _ c.requires.0 c.step_on.ensures (c.in-Ok-None.is ∙ ap Ok c.in-Ok-None.field-0-is) c.requires.1

pub returns-in-Err : goal.returns-in-Err
returns-in-Err c = one-step-refused _ _ _ c.requires.0 c.step_on.ensures c.in-Err.is c.requires.1

pub returns-in-Ok-Some : goal.returns-in-Ok-Some
returns-in-Ok-Some c =
    one-step-made _ _ _ c.requires.0 c.step_on.ensures (c.in-Ok-Some.is ∙ ap Ok c.in-Ok-Some.field-0-is) c.after_step.ensures
