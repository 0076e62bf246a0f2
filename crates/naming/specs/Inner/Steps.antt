-- Words of the functions that make several steps.
use Rattle.std.specs.Prelude.{ℕ, ◌≡◌, List, Bool, not, eqb, Ok, Err}
use Rattle.file.specs.Rules.Order.{either}
use Rattle.file.specs.Rules.Results.{Result, refused, done}
use Rattle.file.specs.Inner.Refusals.{Answered, refusal_number}
use Rattle.file.specs.Inner.Accepted.{Placed}
use Rattle.naming.specs.Rules.Position.{Position, running}
use Rattle.naming.specs.Rules.RunGrounds.{unfit_position}
use Rattle.naming.specs.Rules.Steps.{Progress, begun, steps_from, StepsDone, steps}
use Rattle.naming.specs.Inner.StepAnswers.{position_of}
use Rattle.naming.specs.declared.steps.MadeSteps.{MadeSteps}

abbrev pub progress_of : MadeSteps → List ℕ → List ℕ → Progress
progress_of m buffer file = record { made = m.steps; senders = m.senders; run = position_of m.run; buffer = buffer; file = file }

-- their answer, and the run after them: refused, it is left
unfoldable pub steps_of : Answered MadeSteps → Result StepsDone
steps_of (Err why) = refused (refusal_number why)
steps_of (Ok m) = done (steps m.steps m.senders)

unfoldable pub run_then : Position → Answered MadeSteps → Position
run_then p (Err why) = p
run_then p (Ok m) = position_of m.run

-- a position at a step of its pass
abbrev pub stands_at_lem : ℕ → Position → Bool
stands_at_lem step p = eqb p.place.step step

-- one that no other step is made of, on an accepted file: at a step that they stop at, ended, or refused by 17
unfoldable pub steps_end : List ℕ → ℕ → Position → Bool
steps_end names until p = either (stands_at_lem until p) (either (not (eqb p.end running)) (unfit_position names p))

-- the steps that were made, on a file that is known to be accepted
pub record StepsMade (names : List ℕ) (until most : ℕ) (file places : List ℕ) (p : Position) (buffer : List ℕ) (m : MadeSteps) (buffer' file' : List ℕ) : Type 0 where
  pub is : progress_of m buffer' file' ≡ steps_from (stands_at_lem until) names most (begun file p buffer)
  pub placed : Placed file' places
