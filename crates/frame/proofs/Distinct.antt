-- An answer can be had back from what it is taken to, so no two answers of one type are taken to the same.
-- Assumes nothing.
use mathlib.Core.Path.{◌≡◌, refl, ap}
use Rattle.frame.specs.declared.firework.Firework.{Firework}
use Rattle.frame.specs.declared.firework.Firework.TheVariants as fireworks
use Rattle.frame.specs.Rules.Fireworks.{Round}
use Rattle.file.specs.Rules.Results.{Result, refused, done}
use Rattle.frame.specs.Rules.Reading.{Parts}
use Rattle.frame.specs.Inner.FrameAnswers.{firework_round, reading_of}
use Rattle.file.specs.Inner.Refusals.{Answered, refusal_number, outcome_of}
use Rattle.std.specs.Prelude.{Ok, Err, Option, Some, None}
use Rattle.frame.specs.declared.types.AddressFrame.{AddressFrame}
use Rattle.file.proofs.Distinct.{refusal_in, refusal_back}

abbrev round_firework : Round → Option Firework
round_firework (Round.multipartner r) = Some (fireworks.Multipartner r)
round_firework Round.msd = Some fireworks.Data
round_firework Round.msa = Some fireworks.Address
round_firework Round.no_round = None

pub firework-back : (f : Option Firework) → round_firework (firework_round f) ≡ f
unfolding firework_round
firework-back (Some (fireworks.Multipartner r)) = refl
firework-back (Some fireworks.Data) = refl
firework-back (Some fireworks.Address) = refl
firework-back None = refl

abbrev reading_answer : Result Parts → (Answered AddressFrame)
reading_answer (refused n) = Err (refusal_in n)
reading_answer (done p) =
    Ok (record { epoch = p.epoch; name = record { 0 = p.name }; file = record { 0 = p.file }; operation = record { 0 = p.operation }; «record» = record { 0 = p.«record» } })

pub reading-back : (r : Answered AddressFrame) → reading_answer (reading_of r) ≡ r
unfolding reading_of
reading-back (Err why) = ap Err (refusal_back why)
reading-back (Ok read) = refl
