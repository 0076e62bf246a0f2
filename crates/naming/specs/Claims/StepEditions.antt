-- Naming on a file and on its converted form (document 02, job 10: "All calls take both editions, and rounds give equal answers on a file
-- and its converted form"): steps, and whole lists of steps and rounds, also where the file is converted in mid-run.
use Rattle.std.specs.Prelude.{ℕ, ◌^◌, ◌<◌, ◌≡◌, List, [], ◌∷◌, Bool, true, false, not}
use Rattle.file.specs.Rules.Bytes.{Bytes, All}
use Rattle.file.specs.Rules.Order.{both}
use Rattle.file.specs.Rules.Layout.{OffsetWidth, width_in}
use Rattle.file.specs.Rules.Results.{Result}
use Rattle.file.specs.Rules.Decode.{decode}
use Rattle.file.specs.Rules.FileGrounds.{file_ground}
use Rattle.file.specs.Rules.Editions.{in_edition, exceeds}
use Rattle.cluster.specs.Rules.Round.{Answer}
use Rattle.cluster.specs.Rules.Summary.{Summary, round_keeping}
use Rattle.cluster.specs.Claims.RoundEditions.{Convertible}
use Rattle.naming.specs.Rules.Position.{Position, fresh}
use Rattle.naming.specs.Rules.Pass.{bits}
use Rattle.naming.specs.Rules.RunGrounds.{start_ground}
use Rattle.naming.specs.Rules.Step.{StepDone, step_on, step_keeping}
use Rattle.naming.specs.Rules.Account.{Call, step, frame}
use Rattle.naming.specs.Claims.Demand.{State, start_on, call_on, permitted_call, permitted, after_calls, OfBytes, Demand}

-- ---- a step

-- answer, position and buffer are the same, and the file that is left is the converted form of the one left by the step on the file itself,
-- which there is room for again
abbrev pub StepsConverted : Type 0
StepsConverted =
    (f : List ℕ) (e : ℕ) (p : Position) (names buffer : List ℕ) → Convertible f e → Bytes names → p.place.value < 2 ^ bits →
    (step_on (in_edition f e) p names buffer ≡ (
      (step_on f p names buffer).0,
      (step_on f p names buffer).1,
      (step_on f p names buffer).2,
      in_edition (step_on f p names buffer).3 e,
    )) ×
    Convertible (step_on f p names buffer).3 e

-- of a step given a summary, the summary too
abbrev pub StepsKeepingConverted : Type 0
StepsKeepingConverted =
    (f : List ℕ) (e : ℕ) (p : Position) (names : List ℕ) (summary : Summary) (buffer : List ℕ) → Convertible f e → Bytes names →
    p.place.value < 2 ^ bits →
    (step_keeping (in_edition f e) p names summary buffer ≡ (
      (step_keeping f p names summary buffer).0,
      (step_keeping f p names summary buffer).1,
      (step_keeping f p names summary buffer).2,
      in_edition (step_keeping f p names summary buffer).3 e,
      (step_keeping f p names summary buffer).4,
    )) ×
    Convertible (step_keeping f p names summary buffer).3 e

-- ---- lists of calls

-- the state with its file converted
unfoldable pub converted : State → ℕ → State
converted s e = record { file = in_edition s.file e; halfway = s.halfway }

-- what a call answers, with the buffer and the summary that it leaves
pub data Answered : Type 0 where
  by-step : Result StepDone → List ℕ → Summary → Answered
  by_frame : Answer → List ℕ → Summary → Answered

unfoldable pub answer_on : List ℕ → State → Position → Call → Answered
answer_on names s p (step arguments) =
    let r = step_keeping s.file p names arguments.summary arguments.buffer in by-step r.0 r.2 r.4
answer_on names s p (frame arguments) =
    let r = round_keeping s.file arguments.summary arguments.bytes arguments.buffer in by_frame r.0 r.1 r.3

-- of each call of a list, in their order
unfoldable pub answers_on : List ℕ → State → Position → List Call → List Answered
answers_on names s p [] = []
answers_on names s p (c ∷ cs) = answer_on names s p c ∷ answers_on names (call_on names s p c).0 (call_on names s p c).1 cs

-- the answers, the run, whether a round is half done, and which lists are permitted are the same, so its names, end and counts; the file is
-- the converted form
pub record CallsConverted (names : List ℕ) (s : State) (e : ℕ) (p : Position) (calls : List Call) : Type 0 where
  pub answers : answers_on names (converted s e) p calls ≡ answers_on names s p calls
  pub same : after_calls names (converted s e) p calls ≡ (converted (after_calls names s p calls).0 e, (after_calls names s p calls).1)
  pub permits : permitted names (converted s e) p calls ≡ permitted names s p calls
  pub after : Convertible (after_calls names s p calls).0.file e

abbrev pub AllCallsConverted : Type 0
AllCallsConverted =
    (names : List ℕ) (s : State) (e : ℕ) (p : Position) (calls : List Call) → Convertible s.file e → Bytes names → p.place.value < 2 ^ bits →
    All OfBytes calls → CallsConverted names s e p calls

-- ---- conversions in mid-run

-- a call, or a conversion of the file to an edition
pub data CallOrConversion : Type 0 where
  call : Call → CallOrConversion
  convert : ℕ → CallOrConversion

unfoldable pub after_converting : List ℕ → State → Position → List CallOrConversion → State × Position
after_converting names s p [] = (s, p)
after_converting names s p (call c ∷ ts) = after_converting names (call_on names s p c).0 (call_on names s p c).1 ts
after_converting names s p (convert e ∷ ts) = after_converting names (converted s e) p ts

-- permitted as the calls are: a conversion is no call of the run, and may come between the frames of a round
unfoldable pub permitted_converting : List ℕ → State → Position → List CallOrConversion → Bool
permitted_converting names s p [] = not s.halfway
permitted_converting names s p (call c ∷ ts) =
    let rest = permitted_converting names (call_on names s p c).0 (call_on names s p c).1 ts in both (permitted_call names s p c) rest
permitted_converting names s p (convert e ∷ ts) = permitted_converting names (converted s e) p ts

-- the calls among them
unfoldable pub calls_among : List CallOrConversion → List Call
calls_among [] = []
calls_among (call c ∷ ts) = c ∷ calls_among ts
calls_among (convert e ∷ ts) = calls_among ts

-- frames are bytes, and an edition that is converted to is one that there is and has room for the file
pub data Fitting (file : List ℕ) : CallOrConversion → Type 0 where
  of_call : {c : Call} → OfBytes c → Fitting file (call c)
  of_conversion : {e : ℕ} → OffsetWidth (width_in e) → exceeds (width_in e) (decode file).slaves ≡ false → Fitting file (convert e)

-- run and permission are those of the calls alone, and so are the bytes of the file, back in its own edition
pub record WithConversions (names : List ℕ) (s : State) (p : Position) (mixed : List CallOrConversion) : Type 0 where
  pub run : (after_converting names s p mixed).1 ≡ (after_calls names s p (calls_among mixed)).1
  pub back : in_edition (after_converting names s p mixed).0.file (decode s.file).edition ≡ (after_calls names s p (calls_among mixed)).0.file
  pub permits : permitted_converting names s p mixed ≡ permitted names s p (calls_among mixed)

abbrev pub ConvertedBetween : Type 0
ConvertedBetween =
    (names : List ℕ) (s : State) (p : Position) (mixed : List CallOrConversion) → Bytes s.file → file_ground s.file ≡ 0 → Bytes names →
    p.place.value < 2 ^ bits → All (Fitting s.file) mixed → WithConversions names s p mixed

-- Demand 3 with conversions anywhere between the calls: names, end and counts are those of the account, which is fed the calls alone
abbrev pub DemandConverted : Type 0
DemandConverted =
    (file : List ℕ) → Bytes file → file_ground file ≡ 0 → (names : List ℕ) → Bytes names → start_ground names ≡ 0 →
    (mixed : List CallOrConversion) → All (Fitting file) mixed → permitted_converting names (start_on file) (fresh names) mixed ≡ true →
    Demand file names (calls_among mixed) (after_converting names (start_on file) (fresh names) mixed).0.file
    (after_converting names (start_on file) (fresh names) mixed).1
