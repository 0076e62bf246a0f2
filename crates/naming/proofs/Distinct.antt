-- No two answers of a call are taken to the same: the maps of `specs/Inner/StepAnswers.antt` and `specs/Inner/Steps.antt` can be undone, of a step's answers together
-- with the run after it.
-- Assumes nothing.
use mathlib.Core.Path.{◌≡◌, refl, sym, ◌∙◌, ap}
use Rattle.file.specs.Rules.Results.{Result, refused, done}
use Rattle.naming.specs.Rules.Position.{Position}
use Rattle.naming.specs.Rules.Step.{StepDone, ended, made}
use Rattle.naming.specs.Rules.Steps.{StepsDone, StepsDone.steps as several}
use Rattle.naming.specs.Inner.StepAnswers.{started_of, stepped_of, run_after}
use Rattle.naming.specs.Inner.Steps.{steps_of, run_then}
use Rattle.naming.specs.declared.position.RunPosition.{RunPosition}
use Rattle.file.specs.Inner.Refusals.{Answered}
use Rattle.std.specs.Prelude.{Ok, Err, Option, None}
use Rattle.file.proofs.Distinct.{refusal_in, refusal_back}
use Rattle.naming.specs.declared.run.MadeStep.{MadeStep}
use Rattle.naming.specs.declared.steps.MadeSteps.{MadeSteps}
use Rattle.std.specs.Prelude.{Some}

run : Position → RunPosition
run p =
    record {
      end = p.end;
      place = record { index = p.place.index; step = p.place.step; value = p.place.value };
      counts = record { rounds = p.counts.rounds; comparisons = p.counts.comparisons };
      halves = record { high = p.halves.high; low = p.halves.low };
    }

start : Result Position → (Answered RunPosition)
start (refused n) = Err (refusal_in n)
start (done p) = Ok (run p)

start_back : (a : Answered RunPosition) → start (started_of a) ≡ a
unfolding start started_of run
start_back (Err why) = ap Err (refusal_back why)
start_back (Ok p) = refl

pub starts_distinct : (a b : Answered RunPosition) → started_of a ≡ started_of b → a ≡ b
starts_distinct a b h = sym (start_back a) ∙ (ap start h ∙ start_back b)

stepped : Result StepDone × Position → (Answered (Option MadeStep))
stepped (refused n, p) = Err (refusal_in n)
stepped (done ended, p) = (Ok None)
stepped (done (made mask), p) = Ok (Some (record { senders = mask; run = run p }))

stepped-back : (p : Position) (a : Answered (Option MadeStep)) → stepped (stepped_of a, run_after p a) ≡ a
unfolding stepped stepped_of run_after run
stepped-back p (Err why) = ap Err (refusal_back why)
stepped-back p (Ok None) = refl
stepped-back p (Ok (Some step)) = refl

pub steps_distinct : (p : Position) (a b : Answered (Option MadeStep)) → stepped_of a ≡ stepped_of b → run_after p a ≡ run_after p b → a ≡ b
steps_distinct p a b h g = sym (stepped-back p a) ∙ (alike ∙ stepped-back p b)
  where
    alike : stepped (stepped_of a, run_after p a) ≡ stepped (stepped_of b, run_after p b)
    alike = rw (h, g)

severally : Result StepsDone × Position → (Answered MadeSteps)
severally (refused n, p) = Err (refusal_in n)
severally (done (several n mask), p) = Ok (record { steps = n; senders = mask; run = run p })

severally_back : (p : Position) (a : Answered MadeSteps) → severally (steps_of a, run_then p a) ≡ a
unfolding severally steps_of run_then run
severally_back p (Err why) = ap Err (refusal_back why)
severally_back p (Ok m) = refl

pub several_distinct : (p : Position) (a b : Answered MadeSteps) → steps_of a ≡ steps_of b → run_then p a ≡ run_then p b → a ≡ b
several_distinct p a b h g = sym (severally_back p a) ∙ (alike ∙ severally_back p b)
  where
    alike : severally (steps_of a, run_then p a) ≡ severally (steps_of b, run_then p b)
    alike = rw (h, g)
