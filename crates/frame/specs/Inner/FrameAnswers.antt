-- The code's answers in document 01's numbers and values. No two answers of one type are taken to the same.
use Rattle.std.specs.Prelude.{Ok, Err, Option, Some, None}
use Rattle.file.specs.Inner.Refusals.{Answered, refusal_number}
use Rattle.file.specs.Inner.Typed.{file_in, record_in, name_in_lem, operation_in}
use Rattle.file.specs.Rules.Results.{Result, refused, done}
use Rattle.frame.specs.declared.firework.Firework.{Firework}
use Rattle.frame.specs.declared.firework.Firework.TheVariants as fireworks
use Rattle.frame.specs.declared.types.AddressFrame.{AddressFrame}
use Rattle.frame.specs.Rules.Fireworks.{Round, multipartner, msd, msa, no_round}
use Rattle.frame.specs.Rules.Reading.{Parts, parts}

unfoldable pub firework_round : Option Firework → Round
firework_round (Some (fireworks.Multipartner r)) = multipartner r
firework_round (Some fireworks.Data) = msd
firework_round (Some fireworks.Address) = msa
firework_round None = no_round

-- "If an answer is an enum, a definition gives this paper's number and values for each of its cases. The promises use this definition."
unfoldable pub reading_of : Answered AddressFrame → Result Parts
reading_of (Err why) = refused (refusal_number why)
reading_of (Ok read) =
    done (parts read.epoch (name_in_lem read.name) (file_in read.file) (operation_in read.operation) (record_in read.«record»))
