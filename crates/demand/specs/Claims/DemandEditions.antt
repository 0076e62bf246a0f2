-- Both editions over the C calls (document 02, job 10: "All calls take both editions, and rounds give equal answers on a file and its
-- converted form"): what each call does with a file's converted form, lists of calls on it, and demand 3 where the program goes on with a
-- converted form in mid-run.
use Rattle.std.specs.Prelude.{ℕ, ◌^◌, ◌<◌, ◌≡◌, List, [], ◌∷◌, Bool, true, false, cond, not, eqb}
use Rattle.file.specs.Rules.Bytes.{Bytes, All}
use Rattle.file.specs.Rules.Order.{both}
use Rattle.file.specs.Rules.Layout.{OffsetWidth, width_in}
use Rattle.file.specs.Rules.Decode.{decode}
use Rattle.file.specs.Rules.Editions.{in_edition, exceeds}
use Rattle.cluster.specs.Claims.RoundEditions.{Convertible}
use Rattle.naming.specs.Rules.Pass.{bits}
use Rattle.ttpa.specs.Rules.Calls.{check_call, start_call, step_call, step_keeping_call, round_call, round_keeping_call, trace_call, turn_call}
use Rattle.ttpa.specs.Rules.Calls.{owner_call, convert_call, join_call, fill_call, contents_call, position_in}
use Rattle.demand.specs.Claims.DemandCalls.{CCall, GivenBytes, Memory, returned, memory_after, after_calls, permitted_call, halfway_on, permitted, TakenByRounds, CallsDemand, started}

-- ---- each call

-- the number returned and all lent memory are the same, but for the file, which is the converted form of the one that the call leaves on
-- the file itself. The calls that take no file are the three of frames, ttpa_start, ttpa_holder, ttpa_screens, ttpa_post, ttpa_pattern
-- and ttpa_version.
pub record CallsAlike (f : List ℕ) (e : ℕ) : Type 0 where
  pub check : check_call (in_edition f e) ≡ check_call f
  pub round :
      (bytes answer : List ℕ) (senders : ℕ) → Bytes bytes →
      round_call (in_edition f e) bytes answer senders ≡ (
        (round_call f bytes answer senders).0,
        (round_call f bytes answer senders).1,
        (round_call f bytes answer senders).2,
        in_edition (round_call f bytes answer senders).3 e,
      )
  pub round_keeping :
      (bytes answer : List ℕ) (senders : ℕ) (held : List ℕ) (count : ℕ) → Bytes bytes →
      round_keeping_call (in_edition f e) bytes answer senders held count ≡ (
        (round_keeping_call f bytes answer senders held count).0,
        (round_keeping_call f bytes answer senders held count).1,
        (round_keeping_call f bytes answer senders held count).2,
        in_edition (round_keeping_call f bytes answer senders held count).3 e,
        (round_keeping_call f bytes answer senders held count).4,
      )
  pub step :
      (run names answer : List ℕ) (senders : ℕ) → Bytes names → (position_in run).place.value < 2 ^ bits →
      step_call (in_edition f e) run names answer senders ≡ (
        (step_call f run names answer senders).0,
        (step_call f run names answer senders).1,
        (step_call f run names answer senders).2,
        (step_call f run names answer senders).3,
        in_edition (step_call f run names answer senders).4 e,
      )
  pub step_keeping :
      (run names answer : List ℕ) (senders : ℕ) (held : List ℕ) (count : ℕ) → Bytes names → (position_in run).place.value < 2 ^ bits →
      step_keeping_call (in_edition f e) run names answer senders held count ≡ (
        (step_keeping_call f run names answer senders held count).0,
        (step_keeping_call f run names answer senders held count).1,
        (step_keeping_call f run names answer senders held count).2,
        (step_keeping_call f run names answer senders held count).3,
        in_edition (step_keeping_call f run names answer senders held count).4 e,
        (step_keeping_call f run names answer senders held count).5,
      )
  pub trace :
      (t report : List ℕ) → Bytes t →
      trace_call (in_edition f e) t report ≡ ((trace_call f t report).0, (trace_call f t report).1, in_edition (trace_call f t report).2 e)
  pub turn :
      (state answer : List ℕ) (senders screen : ℕ) → Bytes state →
      turn_call (in_edition f e) state answer senders screen ≡ (
        (turn_call f state answer senders screen).0,
        (turn_call f state answer senders screen).1,
        (turn_call f state answer senders screen).2,
        (turn_call f state answer senders screen).3,
        (turn_call f state answer senders screen).4,
        in_edition (turn_call f state answer senders screen).5 e,
      )
  pub owner : (master : ℕ) (buffer : List ℕ) (length : ℕ) → owner_call (in_edition f e) master buffer length ≡ owner_call f master buffer length
  -- to either edition
  pub convert : (d : ℕ) (out : List ℕ) (length : ℕ) → convert_call d (in_edition f e) out length ≡ convert_call d f out length
  -- as the second file of a join; the first file's edition is the result's (`ttpa/specs/Claims/Join` JoinsConverted)
  pub join_second : (first out : List ℕ) (length : ℕ) → join_call first (in_edition f e) out length ≡ join_call first f out length
  pub fill : (held : List ℕ) (count : ℕ) → fill_call (in_edition f e) held count ≡ fill_call f held count
  pub contents :
      (slave number : ℕ) (buffer : List ℕ) (length : ℕ) →
      contents_call (in_edition f e) slave number buffer length ≡ contents_call f slave number buffer length

abbrev pub AllCallsAlike : Type 0
AllCallsAlike = (f : List ℕ) (e : ℕ) → Convertible f e → CallsAlike f e

-- ---- lists of calls

-- the memory with its file converted
unfoldable pub converted : Memory → ℕ → Memory
converted m e = record { file = in_edition m.file e; run = m.run }

-- the numbers that the calls return, in their order
unfoldable pub numbers_returned : List ℕ → Memory → List CCall → List ℕ
numbers_returned names m [] = []
numbers_returned names m (c ∷ cs) = returned names m c ∷ numbers_returned names (memory_after names m c) cs

-- the numbers returned, the run's words and which lists are permitted are the same, h being whether a round is half done; the file is the
-- converted form
pub record ListConverted (names : List ℕ) (m : Memory) (e : ℕ) (calls : List CCall) : Type 0 where
  pub numbers : numbers_returned names (converted m e) calls ≡ numbers_returned names m calls
  pub same : after_calls names (converted m e) calls ≡ converted (after_calls names m calls) e
  pub permits : (h : Bool) → permitted h names (converted m e) calls ≡ permitted h names m calls
  pub after : Convertible (after_calls names m calls).file e

abbrev pub ListsConverted : Type 0
ListsConverted =
    (names : List ℕ) (m : Memory) (e : ℕ) (calls : List CCall) → Convertible m.file e → Bytes names → (position_in m.run).place.value < 2 ^ bits →
    All GivenBytes calls → ListConverted names m e calls

-- ---- conversions in mid-run

-- a call, or a conversion: from there on the file is its form in that edition
pub data CallOrConversion : Type 0 where
  call : CCall → CallOrConversion
  convert : ℕ → CallOrConversion

unfoldable pub after_converting : List ℕ → Memory → List CallOrConversion → Memory
after_converting names m [] = m
after_converting names m (call c ∷ cs) = after_converting names (memory_after names m c) cs
after_converting names m (convert e ∷ cs) = after_converting names (converted m e) cs

-- permitted as the calls are: a conversion is no call of the run, and may come between the frames of a round
unfoldable pub permitted_converting : Bool → List ℕ → Memory → List CallOrConversion → Bool
permitted_converting h names m [] = not h
permitted_converting h names m (call c ∷ cs) =
    let carried = eqb (returned names m c) 0 in
    let rest = permitted_converting (cond carried (halfway_on h m c) h) names (memory_after names m c) cs in
    both (cond carried (permitted_call h m c) true) rest
permitted_converting h names m (convert e ∷ cs) = permitted_converting h names (converted m e) cs

-- the calls among them
unfoldable pub calls_among : List CallOrConversion → List CCall
calls_among [] = []
calls_among (call c ∷ cs) = c ∷ calls_among cs
calls_among (convert e ∷ cs) = calls_among cs

-- frames, traces and a turn's state are bytes, and an edition that is converted to is one that there is and has room for the file
pub data Fitting (file : List ℕ) : CallOrConversion → Type 0 where
  of_call : {c : CCall} → GivenBytes c → Fitting file (call c)
  of_conversion : {e : ℕ} → OffsetWidth (width_in e) → exceeds (width_in e) (decode file).slaves ≡ false → Fitting file (convert e)

-- Demand 3 with conversions anywhere between the calls: names, end and counts are those of the account, which is fed the calls alone
abbrev pub CallsDemandConverted : Type 0
CallsDemandConverted =
    (file : List ℕ) → Bytes file → TakenByRounds file → (names : List ℕ) → Bytes names → (run : List ℕ) → (start_call names run).0 ≡ 0 →
    (calls : List CallOrConversion) → All (Fitting file) calls → permitted_converting false names (started file names run) calls ≡ true →
    CallsDemand file names (calls_among calls) (after_converting names (started file names run) calls)
