-- No two answers of one type are taken to the same: each map of `specs/Inner/Refusals.antt` and `specs/Inner/FileAnswers.antt` can be undone.
-- Assumes nothing.
use Rattle.std.proofs.Common.{ℕ, ◌≡◌, refl, sym, ◌∙◌, ap, cond, eqb, Ok, Err, Option, Some, None}
use Rattle.file.specs.Rules.Results.{Result, refused, done}
use Rattle.file.specs.Inner.Accepted.{FoundFile, file_found, FoundRecord, record_at}
use Rattle.file.specs.Inner.Refusals.{refusal_number, Answered, outcome_of}
use Rattle.file.specs.Inner.FileAnswers.{found_file, found_record}
use Rattle.file.specs.declared.records.FileBytes.{FileBytes}
use Rattle.file.specs.declared.types.Refusal.{Refusal}
use Rattle.file.specs.declared.types.Refusal.TheVariants as grounds

-- the refusal of a number; of one that no refusal has, the first
unfoldable pub refusal_in : ℕ → Refusal
refusal_in n =
    cond (eqb n 2) grounds.Mark (
    cond (eqb n 3) grounds.Edition (
    cond (eqb n 4) grounds.Length (
    cond (eqb n 5) grounds.Header (
    cond (eqb n 6) grounds.Layout (
    cond (eqb n 7) grounds.NeededFile (
    cond (eqb n 8) grounds.PhysicalNames (
    cond (eqb n 9) grounds.Buffer (
    cond (eqb n 10) grounds.Firework (
    cond (eqb n 11) grounds.FrameLength (
    cond (eqb n 12) grounds.Check (
    cond (eqb n 13) grounds.Operation (
    cond (eqb n 14) grounds.BroadcastRead (
    cond (eqb n 15) grounds.ListedName (
    cond (eqb n 16) grounds.NameTwice (
    cond (eqb n 17) grounds.RunPosition (
    cond (eqb n 18) grounds.FileNumber (
    cond (eqb n 19) grounds.Trace (
    cond (eqb n 20) grounds.TwoSenders (
    cond (eqb n 21) grounds.OwnerBuffer (
    cond (eqb n 22) grounds.LogicalNames (
    cond (eqb n 23) grounds.MultiplexedSend (
    cond (eqb n 24) grounds.Summary (
    cond (eqb n 25) grounds.EditionLimits (
    cond (eqb n 26) grounds.ConversionBuffer (
    cond (eqb n 27) grounds.Screen (
    cond (eqb n 28) grounds.ScreenWaiting (
    cond (eqb n 29) grounds.SharedName (
    cond (eqb n 30) grounds.JoinedLimits (
    cond (eqb n 31) grounds.Pattern (
    grounds.Size))))))))))))))))))))))))))))))

pub refusal_back : (r : Refusal) → refusal_in (refusal_number r) ≡ r
unfolding refusal_in refusal_number
refusal_back grounds.Size = refl
refusal_back grounds.Mark = refl
refusal_back grounds.Edition = refl
refusal_back grounds.Length = refl
refusal_back grounds.Header = refl
refusal_back grounds.Layout = refl
refusal_back grounds.NeededFile = refl
refusal_back grounds.PhysicalNames = refl
refusal_back grounds.Buffer = refl
refusal_back grounds.Firework = refl
refusal_back grounds.FrameLength = refl
refusal_back grounds.Check = refl
refusal_back grounds.Operation = refl
refusal_back grounds.BroadcastRead = refl
refusal_back grounds.ListedName = refl
refusal_back grounds.NameTwice = refl
refusal_back grounds.RunPosition = refl
refusal_back grounds.FileNumber = refl
refusal_back grounds.Trace = refl
refusal_back grounds.TwoSenders = refl
refusal_back grounds.OwnerBuffer = refl
refusal_back grounds.LogicalNames = refl
refusal_back grounds.MultiplexedSend = refl
refusal_back grounds.Summary = refl
refusal_back grounds.EditionLimits = refl
refusal_back grounds.ConversionBuffer = refl
refusal_back grounds.Screen = refl
refusal_back grounds.ScreenWaiting = refl
refusal_back grounds.SharedName = refl
refusal_back grounds.JoinedLimits = refl
refusal_back grounds.Pattern = refl

answer : {A : Type 0} → Result A → Answered A
answer (done value) = Ok value
answer (refused n) = Err (refusal_in n)

answer_back : {A : Type 0} (a : Answered A) → answer (outcome_of a) ≡ a
unfolding answer outcome_of
answer_back (Ok value) = refl
answer_back (Err why) = ap Err (refusal_back why)

pub outcomes_distinct : {A : Type 0} (a b : Answered A) → outcome_of a ≡ outcome_of b → a ≡ b
outcomes_distinct a b h = sym (answer_back a) ∙ (ap answer h ∙ answer_back b)

file : FoundFile → Option FileBytes
file FoundFile.no_file_lem = None
file (file_found place size) = Some (record { place = place; size = size })

file-back : (a : Option FileBytes) → file (found_file a) ≡ a
unfolding file found_file
file-back (Some b) = refl
file-back None = refl

pub files_distinct : (a b : Option FileBytes) → found_file a ≡ found_file b → a ≡ b
files_distinct a b h = sym (file-back a) ∙ (ap file h ∙ file-back b)

place : FoundRecord → Option ℕ
place FoundRecord.no_record_lem = None
place (record_at at) = Some at

place-back : (a : Option ℕ) → place (found_record a) ≡ a
unfolding place found_record
place-back (Some at) = refl
place-back None = refl

pub records_distinct : (a b : Option ℕ) → found_record a ≡ found_record b → a ≡ b
records_distinct a b h = sym (place-back a) ∙ (ap place h ∙ place-back b)
