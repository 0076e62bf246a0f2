-- The code's answers in the terms of the rules. No two are taken to the same.
use Rattle.std.specs.Prelude.{ℕ, Ok, Err, Option, Some, None}
use Rattle.file.specs.Rules.Results.{Result, refused, done}
use Rattle.file.specs.Inner.Refusals.{Answered, refusal_number}
use Rattle.cluster.specs.Rules.Summary.{Held, nobody, at}

-- a number, the first holder's place, or that nobody holds the name
unfoldable pub holder_of : Answered (Option ℕ) → Result Held
holder_of (Err why) = refused (refusal_number why)
holder_of (Ok (Some place)) = done (at place)
holder_of (Ok None) = done nobody
