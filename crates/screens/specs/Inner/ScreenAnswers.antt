-- The code's answers in the terms of the rules. No two of one type are taken to the same.
use Rattle.std.specs.Prelude.{ℕ, Ok, Err, Option, Some, None}
use Rattle.file.specs.Rules.Results.{Result, refused, done}
use Rattle.file.specs.Inner.Refusals.{Answered, refusal_number}
use Rattle.screens.specs.declared.turn.Served.{Served}
use Rattle.screens.specs.Rules.Screens.{Due, nobody, screen}
use Rattle.screens.specs.Rules.Turn.{Turn, idle, served}

unfoldable pub due_of : Option ℕ → Due
due_of None = nobody
due_of (Some i) = screen i

unfoldable pub turned_of : Answered (Option Served) → Result Turn
turned_of (Err why) = refused (refusal_number why)
turned_of (Ok None) = done idle
turned_of (Ok (Some s)) = done (served s.screen s.senders)
