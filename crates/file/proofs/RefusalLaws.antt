-- Every refusal has a number; the number of an answer, by its case.
-- Assumes nothing.
use Rattle.std.proofs.Common.{◌≡◌, ◌≤◌, arith, Ok, Err}
use Rattle.file.specs.Rules.Results.{number_in}
use Rattle.file.specs.Inner.Refusals.{refusal_number, Answered, outcome_of}
use Rattle.file.specs.declared.types.Refusal.{Refusal}
use Rattle.file.specs.declared.types.Refusal.TheVariants as grounds

pub refusal_least : (why : Refusal) → 1 ≤ refusal_number why
unfolding refusal_number
refusal_least grounds.Size = omega arith
refusal_least grounds.Mark = omega arith
refusal_least grounds.Edition = omega arith
refusal_least grounds.Length = omega arith
refusal_least grounds.Header = omega arith
refusal_least grounds.Layout = omega arith
refusal_least grounds.NeededFile = omega arith
refusal_least grounds.PhysicalNames = omega arith
refusal_least grounds.Buffer = omega arith
refusal_least grounds.Firework = omega arith
refusal_least grounds.FrameLength = omega arith
refusal_least grounds.Check = omega arith
refusal_least grounds.Operation = omega arith
refusal_least grounds.BroadcastRead = omega arith
refusal_least grounds.ListedName = omega arith
refusal_least grounds.NameTwice = omega arith
refusal_least grounds.RunPosition = omega arith
refusal_least grounds.FileNumber = omega arith
refusal_least grounds.Trace = omega arith
refusal_least grounds.TwoSenders = omega arith
refusal_least grounds.OwnerBuffer = omega arith
refusal_least grounds.LogicalNames = omega arith
refusal_least grounds.MultiplexedSend = omega arith
refusal_least grounds.Summary = omega arith
refusal_least grounds.EditionLimits = omega arith
refusal_least grounds.ConversionBuffer = omega arith
refusal_least grounds.Screen = omega arith
refusal_least grounds.ScreenWaiting = omega arith
refusal_least grounds.SharedName = omega arith
refusal_least grounds.JoinedLimits = omega arith
refusal_least grounds.Pattern = omega arith

pub refusal_some : (why : Refusal) → refusal_number why ≡ 0 → ⊥
refusal_some why none = omega (arith, refusal_least why)

module _ {a : Answered (Unit {0})} where
  pub ground_refuses : {why : Refusal} → a ≡ Err why → number_in (outcome_of a) ≡ refusal_number why
  unfolding number_in outcome_of
  ground_refuses e = rw e

  pub ground_some : {why : Refusal} → a ≡ Err why → number_in (outcome_of a) ≡ 0 → ⊥
  ground_some {why} e none = omega (arith, ground_refuses e, refusal_least why, none)

  pub ground_none : {u : Unit {0}} → a ≡ Ok u → number_in (outcome_of a) ≡ 0
  unfolding number_in outcome_of
  ground_none e = rw e
