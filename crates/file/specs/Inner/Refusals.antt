-- A refusal's number, and the answer of a function that may refuse.
use Rattle.std.specs.Prelude.{ℕ, Ok, Err}
use Rattle.std.specs.Prelude as std
use Rattle.file.specs.Rules.Results.{Result, refused, done}
use Rattle.file.specs.declared.types.Refusal.{Refusal}
use Rattle.file.specs.declared.types.Refusal.TheVariants as grounds

-- "A refusal returns its number": document 01's numbers ("Grounds for turning something away"), from 19 on document 02's ("New numbers,
-- all joining document 01's")
unfoldable pub refusal_number : Refusal → ℕ
refusal_number grounds.Size = 1
refusal_number grounds.Mark = 2
refusal_number grounds.Edition = 3
refusal_number grounds.Length = 4
refusal_number grounds.Header = 5
refusal_number grounds.Layout = 6
refusal_number grounds.NeededFile = 7
refusal_number grounds.PhysicalNames = 8
refusal_number grounds.Buffer = 9
refusal_number grounds.Firework = 10
refusal_number grounds.FrameLength = 11
refusal_number grounds.Check = 12
refusal_number grounds.Operation = 13
refusal_number grounds.BroadcastRead = 14
refusal_number grounds.ListedName = 15
refusal_number grounds.NameTwice = 16
refusal_number grounds.RunPosition = 17
refusal_number grounds.FileNumber = 18
refusal_number grounds.Trace = 19
refusal_number grounds.TwoSenders = 20
refusal_number grounds.OwnerBuffer = 21
refusal_number grounds.LogicalNames = 22
refusal_number grounds.MultiplexedSend = 23
refusal_number grounds.Summary = 24
refusal_number grounds.EditionLimits = 25
refusal_number grounds.ConversionBuffer = 26
refusal_number grounds.Screen = 27
refusal_number grounds.ScreenWaiting = 28
refusal_number grounds.SharedName = 29
refusal_number grounds.JoinedLimits = 30
refusal_number grounds.Pattern = 31

-- refused, or done with a value of the code
abbrev pub Answered : Type 0 → Type 0
Answered A = std.Result A Refusal

-- the answer in the documents' number, or with the value
-- "If an answer is an enum, a definition gives this paper's number and values for each of its cases. The promises use this definition."
unfoldable pub outcome_of : {A : Type 0} → Answered A → Result A
outcome_of (Ok value) = done value
outcome_of (Err why) = refused (refusal_number why)
