-- The C calls (include/ttpa.h): 0 or the documents' number, and what lent memory holds then. "A refusal returns its number and alters
-- nothing lent".
use Rattle.std.specs.Prelude.{ℕ, ◌+◌, ◌-◌, ◌*◌, ◌^◌, List, [], ◌∷◌, get_or}
use Rattle.file.specs.Rules.FileGrounds.{load_verdict}
use Rattle.file.specs.Rules.Results.{Result, refused, done, number_in}
use Rattle.frame.specs.Rules.Reading.{Parts, read_address}
use Rattle.frame.specs.Rules.Writing.{write_address, write_data}
use Rattle.cluster.specs.Rules.Round.{round_on}
use Rattle.cluster.specs.Rules.Summary.{Summary, without, kept, round_keeping, fill_on, Held, nobody, at, holder_in}
use Rattle.trace.specs.Rules.TraceRun.{report_words, trace_on}
use Rattle.owner.specs.Rules.OwnerWriting.{owner_on}
use Rattle.convert.specs.Rules.Convert.{convert_on}
use Rattle.join.specs.Rules.Join.{join_on}
use Rattle.naming.specs.Rules.Position.{Position}
use Rattle.naming.specs.Rules.RunGrounds.{start_over}
use Rattle.naming.specs.Rules.Step.{StepDone, ended, made, step_on, step_keeping}
use Rattle.screens.specs.Rules.Screens.{read_by, fresh, post_on}
use Rattle.screens.specs.Rules.Turn.{Turn, idle, served, turn_on}
use Rattle.line.specs.Rules.Patterns.{PatternClass, data_byte, firework, broken, pattern_on}
use Rattle.contents.specs.Rules.Contents.{contents_on}

-- the version of these definitions, which is that of include/ttpa.h: the gate compares the three numbers
unfoldable pub version_major : ℕ
version_major = 1

unfoldable pub version_minor : ℕ
version_minor = 1

unfoldable pub version_patch : ℕ
version_patch = 0

-- the version as one number, TTPA_VERSION of the header. The call that returns it is lent nothing and refuses nothing
unfoldable pub version_call : ℕ
version_call = 10000 * version_major + 100 * version_minor + version_patch

-- what was lent is as it was after a refusal; else it becomes what the call did
unfoldable pub lent_after : {A B : Type 0} → Result A → B → (A → B) → B
lent_after (refused n) old new = old
lent_after (done value) old new = new value

-- check a file: grounds 1 to 8, and 22
-- (each call here) "Every other function that outside code may call states its result, and what it leaves in lent memory, as tightly"
unfoldable pub check_call : List ℕ → ℕ
check_call file = number_in (load_verdict file)

-- read an address frame: the five parts are epoch, logical name, file number, operation and record number
unfoldable pub part_bytes : Parts → List ℕ
part_bytes a = a.epoch ∷ a.name ∷ a.file ∷ a.operation ∷ a.«record» ∷ []

unfoldable pub read_address_call : List ℕ → List ℕ → ℕ × List ℕ
read_address_call frame parts = let r = read_address frame in (number_in r, lent_after r parts part_bytes)

-- write a frame
unfoldable pub write_address_call : List ℕ → ℕ → ℕ → ℕ → ℕ → ℕ → ℕ × List ℕ
write_address_call frame epoch name file operation «record» =
    let w = write_address frame epoch name file operation «record» in (number_in w.0, w.1)

unfoldable pub write_data_call : List ℕ → List ℕ → ℕ × List ℕ
write_data_call frame bytes = let w = write_data frame bytes in (number_in w.0, w.1)

-- one frame on a file: number, senders, answer buffer and file
unfoldable pub round_call : List ℕ → List ℕ → List ℕ → ℕ → ℕ × ℕ × List ℕ × List ℕ
round_call file frame answer senders =
    let r = round_on file frame answer in (number_in r.0, lent_after r.0 senders (λ (mask : ℕ). mask), r.1, r.2)

-- a trace on a file: number, report and file; the report's words are the numbers of MSA, MSD, multipartner and refused frames and
-- their sum
unfoldable pub trace_call : List ℕ → List ℕ → List ℕ → ℕ × List ℕ × List ℕ
trace_call file t report = let r = trace_on file t in (number_in r.0, lent_after r.0 report report_words, r.1)

-- the owner file of a file: number, length and buffer
unfoldable pub owner_call : List ℕ → ℕ → List ℕ → ℕ → ℕ × ℕ × List ℕ
owner_call file master buffer length = let r = owner_on file master buffer in (number_in r.0, lent_after r.0 length (λ (written : ℕ). written), r.1)

-- a file's form in an edition, of a call for each edition: number, length and buffer
unfoldable pub convert_call : ℕ → List ℕ → List ℕ → ℕ → ℕ × ℕ × List ℕ
convert_call edition file out length = let r = convert_on file edition out in (number_in r.0, lent_after r.0 length (λ (written : ℕ). written), r.1)

-- two files joined: number, length and buffer
unfoldable pub join_call : List ℕ → List ℕ → List ℕ → ℕ → ℕ × ℕ × List ℕ
join_call first second out length = let r = join_on first second out in (number_in r.0, lent_after r.0 length (λ (written : ℕ). written), r.1)

-- a run's eight words, by their places: end, index, step, value, rounds, comparisons, and the two halves last written
unfoldable pub words_of : Position → List ℕ
words_of p = p.end ∷ p.place.index ∷ p.place.step ∷ p.place.value ∷ p.counts.rounds ∷ p.counts.comparisons ∷ p.halves.high ∷ p.halves.low ∷ []

unfoldable pub position_in : List ℕ → Position
position_in run =
    record {
      end = get_or run 0 0;
      place = record { index = get_or run 1 0; step = get_or run 2 0; value = get_or run 3 0 };
      counts = record { rounds = get_or run 4 0; comparisons = get_or run 5 0 };
      halves = record { high = get_or run 6 0; low = get_or run 7 0 };
    }

-- a fresh run
unfoldable pub start_call : List ℕ → List ℕ → ℕ × List ℕ
start_call names run = let s = start_over names in (number_in s, lent_after s run words_of)

-- one naming step: number, senders, run, answer buffer and file; the step of an ended run returns 0 and alters nothing
unfoldable pub step_senders : Result StepDone → ℕ → ℕ
step_senders (refused n) senders = senders
step_senders (done ended) senders = senders
step_senders (done (made mask)) senders = mask

unfoldable pub step_words_lem : Result StepDone → Position → List ℕ → List ℕ
step_words_lem (refused n) p run = run
step_words_lem (done ended) p run = run
step_words_lem (done (made mask)) p run = words_of p

unfoldable pub step_call : List ℕ → List ℕ → List ℕ → List ℕ → ℕ → ℕ × ℕ × List ℕ × List ℕ × List ℕ
step_call file run names answer senders =
    let r = step_on file (position_in run) names answer in
    (number_in r.0, step_senders r.0 senders, step_words_lem r.0 r.1 run, r.2, r.3)

-- ---- the summary beside a file, lent as a slice and a count (document 02, job 8)

-- fill it from a file: number, count and slice
unfoldable pub fill_call : List ℕ → List ℕ → ℕ → ℕ × ℕ × List ℕ
fill_call file held count = let r = fill_on file held in (number_in r.0, lent_after r.0 count (λ (filled : ℕ). filled), r.1)

-- who holds a name: number and place, "or that nobody holds it", TTPA_NOBODY of the header, which is no place in a slice
unfoldable pub nobody_place : ℕ
nobody_place = 2 ^ 64 - 1

unfoldable pub place_of : Held → ℕ
place_of nobody = nobody_place
place_of (at place) = place

unfoldable pub holder_call : List ℕ → ℕ → ℕ → ℕ → ℕ × ℕ
holder_call held count name place = let r = holder_in name count held in (number_in r, lent_after r place place_of)

-- the slice of a summary
unfoldable pub slice_of : Summary → List ℕ
slice_of without = []
slice_of (kept count slice) = slice

-- one frame on a file given its summary: number, senders, answer buffer, file and slice
unfoldable pub round_keeping_call : List ℕ → List ℕ → List ℕ → ℕ → List ℕ → ℕ → ℕ × ℕ × List ℕ × List ℕ × List ℕ
round_keeping_call file frame answer senders held count =
    let r = round_keeping file (kept count held) frame answer in
    (number_in r.0, lent_after r.0 senders (λ (mask : ℕ). mask), r.1, r.2, slice_of r.3)

-- one naming step given the file's summary: number, senders, run, answer buffer, file and slice
unfoldable pub step_keeping_call : List ℕ → List ℕ → List ℕ → List ℕ → ℕ → List ℕ → ℕ → ℕ × ℕ × List ℕ × List ℕ × List ℕ × List ℕ
step_keeping_call file run names answer senders held count =
    let r = step_keeping file (position_in run) names (kept count held) answer in
    (number_in r.0, step_senders r.0 senders, step_words_lem r.0 r.1 run, r.2, r.3, slice_of r.4)

-- ---- screens that share one tester, their state lent as 33 bytes (document 02, job 12)

-- the state at the start: number and state. It refuses nothing, whatever the bytes were
unfoldable pub screens_call : List ℕ → ℕ × List ℕ
screens_call state = (0, fresh)

-- a screen posts a read: number and state
unfoldable pub post_call : List ℕ → ℕ → ℕ → ℕ → ℕ → ℕ × List ℕ
post_call state screen name file «record» = let r = post_on state screen (read_by name file «record») in (number_in r.0, r.1)

-- a turn "tells which"; "a turn with none waiting does nothing and says so", by TTPA_NO_SCREEN of the header
unfoldable pub none_waited : ℕ
none_waited = 8

unfoldable pub turn_screen : Result Turn → ℕ → ℕ
turn_screen (refused n) screen = screen
turn_screen (done idle) screen = none_waited
turn_screen (done (served i mask)) screen = i

unfoldable pub turn_senders : Result Turn → ℕ → ℕ
turn_senders (refused n) senders = senders
turn_senders (done idle) senders = senders
turn_senders (done (served i mask)) senders = mask

-- number, senders, screen, state, answer buffer and file
unfoldable pub turn_call : List ℕ → List ℕ → List ℕ → ℕ → ℕ → ℕ × ℕ × ℕ × List ℕ × List ℕ × List ℕ
turn_call file state answer senders screen =
    let r = turn_on state file answer in
    (number_in r.0, turn_senders r.0 senders, turn_screen r.0 screen, r.1, r.2, r.3)

-- ---- a nine-bit pattern of the line (document 02, job 14)

-- its class by the header's TTPA_DATA_BYTE, TTPA_FIREWORK and TTPA_BROKEN
unfoldable pub class_number : PatternClass → ℕ
class_number data_byte = 0
class_number firework = 1
class_number broken = 2

-- number and class
unfoldable pub pattern_call : ℕ → ℕ → ℕ × ℕ
pattern_call pattern kind = let r = pattern_on pattern in (number_in r, lent_after r kind class_number)

-- ---- a slave's file, read without a round

-- number, length and buffer
unfoldable pub contents_call : List ℕ → ℕ → ℕ → List ℕ → ℕ → ℕ × ℕ × List ℕ
contents_call file slave number buffer length =
    let r = contents_on file slave number buffer in (number_in r.0, lent_after r.0 length (λ (size : ℕ). size), r.1)
