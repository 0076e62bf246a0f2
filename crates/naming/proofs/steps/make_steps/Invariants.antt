-- `naming::steps::make_steps` meets its contract. The invariant is `Stepping`: those that are left, of the steps so far, are all of them from
use Rattle.std.proofs.Common.{◌^◌, ◌<◌, ◌≡◌, length}
use Rattle.naming.specs.Rules.Pass.{bits}
use Rattle.naming.specs.Rules.Steps.{begun}
use Rattle.naming.specs.Inner.StepAnswers.{position_of}
use Rattle.naming.proofs.StepsLaws.{Stepping}
use Rattle.naming.proofs.steps.make_steps.Given as goal

abbrev pub invariant-loop-steps : goal.invariant-loop-steps
invariant-loop-steps l =
    Stepping l.names l.until l.most l.places (begun l.initial.file (position_of l.initial.run) l.initial.answer) (record { made = l.steps; senders = l.senders; run = position_of l.run; buffer = l.answer; file = l.file }) ×
    (length l.file ≡ length l.initial.file) × (length l.answer ≡ length l.initial.answer) × (l.run.place.value < 2 ^ bits)
