-- What job 8 of document 02 says of the summary, over files: when it matches, that a round given it keeps it true, which rounds leave it
-- true that are not given it, by what a round given it is refused, what the filling leaves, and what the question answers.
use Rattle.std.specs.Prelude.{ℕ, ◌≤◌, ◌<◌, ◌≡◌, ◌≢◌, ◌↔◌, List, map, false, length, take, drop, get_or}
use Rattle.file.specs.Rules.Bytes.{Bytes, All}
use Rattle.file.specs.Rules.Results.{refused, done}
use Rattle.file.specs.Rules.Cluster.{Slave, Cluster, logical_name, configuration, pb2_of, execute_operation}
use Rattle.file.specs.Rules.Layout.{pending_flag}
use Rattle.file.specs.Rules.Decode.{decode}
use Rattle.file.specs.Rules.FileGrounds.{file_ground}
use Rattle.frame.specs.Rules.Fireworks.{msd}
use Rattle.cluster.specs.Rules.RoundGrounds.{round_by_lem}
use Rattle.cluster.specs.Rules.Round.{round_ground, round_on}
use Rattle.cluster.specs.Rules.Summary.{Summary, without, kept, wrong_summary, round_keeping_ground, round_keeping, fill_on, nobody, at, holder_in, first_holder}
use Rattle.cluster.specs.Claims.Renaming.{names_of, name_after, Baptizes}

-- ---- when it matches

-- "a count and, in a lent slice .., each slave's logical name in table order"; a call that is given none has none to be wrong
pub data Matches (file : List ℕ) : Summary → Type 0 where
  given_none : Matches file without
  given_names : {count : ℕ} {slice : List ℕ} → count ≤ length slice → take count slice ≡ names_of file → Matches file (kept count slice)

-- the test of 24 is that
abbrev pub MatchesExactly : Type 0
MatchesExactly = (file : List ℕ) (summary : Summary) → (wrong_summary summary (names_of file) ≡ false) ↔ Matches file summary

-- ---- a round given it

-- "may be given the summary": without one it is the round
abbrev pub RoundWithout : Type 0
RoundWithout =
    (file frame buffer : List ℕ) →
    round_keeping file without frame buffer ≡
    ((round_on file frame buffer).0, (round_on file frame buffer).1, (round_on file frame buffer).2, without)

-- "New numbers: 24, a summary that does not match its file when handed in .., after 8": a file's ground is the first, then 24, then
-- every ground of the round, 9 the first of them
pub record RoundOrder (file : List ℕ) (summary : Summary) (frame buffer : List ℕ) : Type 0 where
  pub of_file : file_ground file ≢ 0 → round_keeping_ground file summary frame buffer ≡ file_ground file
  pub of_summary : file_ground file ≡ 0 → (Matches file summary → ⊥) → round_keeping_ground file summary frame buffer ≡ 24
  pub of_round : Matches file summary → round_keeping_ground file summary frame buffer ≡ round_ground file frame buffer

abbrev pub RoundsInOrder : Type 0
RoundsInOrder = (file : List ℕ) (summary : Summary) (frame buffer : List ℕ) → RoundOrder file summary frame buffer

-- 24 of an accepted file means just that
abbrev pub RoundRefusedBy24 : Type 0
RoundRefusedBy24 =
    (file : List ℕ) (summary : Summary) (frame buffer : List ℕ) → file_ground file ≡ 0 →
    (round_keeping_ground file summary frame buffer ≡ 24) ↔ (Matches file summary → ⊥)

-- "A refusal returns its number and alters nothing lent" (document 01): buffer, file and summary
abbrev pub RefusedKeepsSummary : Type 0
RefusedKeepsSummary =
    (file : List ℕ) (summary : Summary) (frame buffer : List ℕ) → round_keeping_ground file summary frame buffer ≢ 0 →
    round_keeping file summary frame buffer ≡ (refused (round_keeping_ground file summary frame buffer), buffer, file, summary)

-- a round that is given a summary and not refused is the round: its answer, its buffer, its file
abbrev pub KeepingIsRound : Type 0
KeepingIsRound =
    (file : List ℕ) (summary : Summary) (frame buffer : List ℕ) → round_keeping_ground file summary frame buffer ≡ 0 →
    ((round_keeping file summary frame buffer).0, (round_keeping file summary frame buffer).1, (round_keeping file summary frame buffer).2) ≡ round_on file frame buffer

-- what a call leaves of a summary: its count, and the bytes of the slice behind the names
pub data LeavesRest : Summary → Summary → Type 0 where
  of_none : LeavesRest without without
  of_names :
      {count : ℕ} {slice slice' : List ℕ} → length slice' ≡ length slice → drop count slice' ≡ drop count slice →
      LeavesRest (kept count slice) (kept count slice')

-- "and keeps it true": a summary that matches matches after the call, refused or carried out, with its count and its other bytes
abbrev pub RoundKeepsSummary : Type 0
RoundKeepsSummary =
    (file : List ℕ) (summary : Summary) (frame buffer : List ℕ) → Bytes file → Bytes frame → Matches file summary →
    Matches (round_keeping file summary frame buffer).2 (round_keeping file summary frame buffer).3 ×
    LeavesRest summary (round_keeping file summary frame buffer).3

-- ---- a round not given it

-- the exact condition: the names are the same afterwards
abbrev pub StillMatchesExactly : Type 0
StillMatchesExactly =
    (file after : List ℕ) (count : ℕ) (slice : List ℕ) → Matches file (kept count slice) →
    Matches after (kept count slice) ↔ (names_of after ≡ names_of file)

-- so after every round but a baptizing it matches still (Claims/Renaming, OnlyBaptizingRenames)
abbrev pub StillMatches : Type 0
StillMatches =
    (file : List ℕ) (summary : Summary) (frame buffer : List ℕ) → Bytes file → Bytes frame → Matches file summary →
    ((name : ℕ) → Baptizes file frame buffer name → ⊥) → Matches (round_on file frame buffer).2 summary

-- and after a baptizing where all whom it names had that name already
abbrev pub StillMatchesBaptized : Type 0
StillMatchesBaptized =
    (file frame buffer : List ℕ) (name count : ℕ) (slice : List ℕ) → Bytes file → Bytes frame → Baptizes file frame buffer name →
    Matches file (kept count slice) →
    Matches (round_on file frame buffer).2 (kept count slice) ↔ (map (name_after name) (decode file).slaves ≡ names_of file)

-- the rounds that are no baptizing: refused ones, address frames and multipartner rounds, and MSDs with nothing pending, a read, a write or
-- another execute
pub data NoBaptizing (file frame buffer : List ℕ) : Type 0 where
  refused_round : round_ground file frame buffer ≢ 0 → NoBaptizing file frame buffer
  no_msd : round_by_lem frame ≢ msd → NoBaptizing file frame buffer
  nothing_pending : (decode file).flag ≢ pending_flag → NoBaptizing file frame buffer
  other_operation : (decode file).pending_pb2 ≢ pb2_of configuration execute_operation → NoBaptizing file frame buffer
  other_record : (decode file).pending_pb3 ≢ 1 → NoBaptizing file frame buffer

abbrev pub NoBaptizingExactly : Type 0
NoBaptizingExactly =
    (file frame buffer : List ℕ) → NoBaptizing file frame buffer ↔ ((name : ℕ) → Baptizes file frame buffer name → ⊥)

-- ---- the filling

-- "a lent slice that a call fills from the file": with the count that it answers the slice matches, and the rest is as it was
pub record Filled (file slice : List ℕ) (count : ℕ) (after : List ℕ) : Type 0 where
  pub matches : Matches file (kept count after)
  pub all : count ≡ length (decode file).slaves
  pub size : length after ≡ length slice
  pub rest : drop count after ≡ drop count slice

abbrev pub FillingMatches : Type 0
FillingMatches =
    (file slice : List ℕ) → file_ground file ≡ 0 → length (decode file).slaves ≤ length slice →
    ((fill_on file slice).0 ≡ done (length (decode file).slaves)) × Filled file slice (length (decode file).slaves) (fill_on file slice).1

-- refused by the file's ground, then by 24 "for .. the filling a count above the slice's length"; the slice stays
pub record FillingRefused (file slice : List ℕ) : Type 0 where
  pub of_file : file_ground file ≢ 0 → fill_on file slice ≡ (refused (file_ground file), slice)
  pub of_room : file_ground file ≡ 0 → length slice < length (decode file).slaves → fill_on file slice ≡ (refused 24, slice)

abbrev pub FillingsRefused : Type 0
FillingsRefused = (file slice : List ℕ) → FillingRefused file slice

-- ---- the question

-- a slave's place in the slave table by its logical name: it has that name, and none before it has
pub record FirstAt (names : List ℕ) (name place : ℕ) : Type 0 where
  pub there : place < length names
  pub holds : get_or names place 0 ≡ name
  pub first : (other : ℕ) → other < place → get_or names other 0 ≢ name

-- "what a full reading of the file gives, or that nobody holds it": the first slave of that name, nobody exactly where no slave has it
pub record FullReading (c : Cluster) (name : ℕ) : Type 0 where
  pub place : (p : ℕ) → (first_holder c name ≡ at p) ↔ FirstAt (map logical_name c.slaves) name p
  pub none : (first_holder c name ≡ nobody) ↔ All (λ (s : Slave). logical_name s ≢ name) c.slaves

abbrev pub FullReadings : Type 0
FullReadings = (c : Cluster) (name : ℕ) → FullReading c name

-- of any summary whose count is within the slice, also one that does not match: the first of the counted names, nobody exactly where none
-- of them is the name
pub record FirstCounted (name count : ℕ) (slice : List ℕ) : Type 0 where
  pub place : (p : ℕ) → (holder_in name count slice ≡ done (at p)) ↔ FirstAt (take count slice) name p
  pub none : (holder_in name count slice ≡ done nobody) ↔ All (λ (n : ℕ). n ≢ name) (take count slice)

abbrev pub QuestionIsFirst : Type 0
QuestionIsFirst = (name count : ℕ) (slice : List ℕ) → count ≤ length slice → FirstCounted name count slice

-- "gives, if the summary matches, what a full reading of the file gives"
abbrev pub QuestionIsReading : Type 0
QuestionIsReading =
    (file : List ℕ) (name count : ℕ) (slice : List ℕ) → Matches file (kept count slice) →
    holder_in name count slice ≡ done (first_holder (decode file) name)

-- "for the question .. a count above the slice's length", and by nothing else
abbrev pub QuestionRefused : Type 0
QuestionRefused =
    (name count : ℕ) (slice : List ℕ) → ((holder_in name count slice ≡ refused 24) ↔ (length slice < count)) ×
    (count ≤ length slice → (n : ℕ) → holder_in name count slice ≢ refused n)
