-- Demand 3 (document 01, "The naming run", third paragraph) over lists of calls in which a call may also be a captured trace
-- (document 02, job 2): such a list, carried out one call after the other on a file and a run, and what is then claimed.
use Rattle.std.specs.Prelude.{ℕ, ◌≡◌, List, [], ◌∷◌, ◌++◌, map, Bool, true, false, cond, replicate}
use Rattle.file.specs.Rules.Bytes.{Bytes, All}
use Rattle.file.specs.Rules.Results.{Result, refused, done}
use Rattle.file.specs.Rules.FileGrounds.{file_ground}
use Rattle.master_slave.specs.Rules.Bus.{slots}
use Rattle.cluster.specs.Rules.RoundGrounds.{round_by_lem}
use Rattle.cluster.specs.Rules.Summary.{without}
use Rattle.trace.specs.Rules.Trace.{broken_trace, frames_of}
use Rattle.trace.specs.Rules.TraceRun.{sent, Report, trace_on}
use Rattle.naming.specs.Rules.Position.{Position, fresh}
use Rattle.naming.specs.Rules.RunGrounds.{start_ground}
use Rattle.naming.specs.Rules.Account.{Call, frame, Account, account_after}
use Rattle.naming.specs.Claims.PermittedRounds.{SentBy}
use Rattle.naming.specs.Claims.Demand.{State, start_on, halfway_after, call_on, permitted, after_calls, OfBytes, Demand}

-- one of demand 3's calls, or a trace run on the file
pub data CallOrTrace : Type 0 where
  call : Call → CallOrTrace
  trace : List ℕ → CallOrTrace

-- a frame and a trace are bytes
pub data AllBytes : CallOrTrace → Type 0 where
  in_call : {c : Call} → OfBytes c → AllBytes (call c)
  in_trace : {t : List ℕ} → Bytes t → AllBytes (trace t)

-- ---- carried out

-- whether a round of others is half done after frames sent one after the other
unfoldable pub halfway_from : Bool → List ℕ → List (List ℕ) → Bool
halfway_from h file [] = h
halfway_from h file (x ∷ xs) = halfway_from (halfway_after h (sent file x).0 (round_by_lem x)) (sent file x).2 xs

-- and after a trace: one that is refused sends nothing
unfoldable pub halfway_after_trace : Bool → Result Report → List ℕ → List (List ℕ) → Bool
halfway_after_trace h (refused n) file frames = h
halfway_after_trace h (done r) file frames = halfway_from h file frames

-- a trace leaves the file as the call that runs it does, and the run alone
unfoldable pub after_trace : State → List ℕ → State
after_trace s t =
    record {
      file = (trace_on s.file t).1;
      halfway = halfway_after_trace s.halfway (trace_on s.file t).0 s.file (frames_of t);
    }

unfoldable pub call_or_trace_on : List ℕ → State → Position → CallOrTrace → State × Position
call_or_trace_on names s p (call c) = call_on names s p c
call_or_trace_on names s p (trace t) = (after_trace s t, p)

-- file and run after the calls
unfoldable pub after_all : List ℕ → State → Position → List CallOrTrace → State × Position
after_all names s p [] = (s, p)
after_all names s p (c ∷ cs) = after_all names (call_or_trace_on names s p c).0 (call_or_trace_on names s p c).1 cs

-- ---- "the frames sent singly in order"

-- a frame sent singly: demand 3's frame call, without a summary and with an answer buffer of 64 bytes
unfoldable pub frame_call : List ℕ → Call
frame_call x = frame (record { summary = without; bytes = x; buffer = replicate slots 0 })

-- what a trace stands for: its frames sent singly; nothing if 19 refuses it
unfoldable pub frames_singly : List ℕ → List Call
frames_singly t = cond (broken_trace t) [] (map frame_call (frames_of t))

-- the calls with each trace replaced by what it stands for
unfoldable pub singly : List CallOrTrace → List Call
singly [] = []
singly (call c ∷ cs) = c ∷ singly cs
singly (trace t ∷ cs) = frames_singly t ++ singly cs

-- the calls without the traces
unfoldable pub traces_aside : List CallOrTrace → List Call
traces_aside [] = []
traces_aside (call c ∷ cs) = c ∷ traces_aside cs
traces_aside (trace t ∷ cs) = traces_aside cs

-- ---- the claims

-- "The end state is that of the frames sent singly in order.": of every trace on every file, carried or refused
abbrev pub TraceSentSingly : Type 0
TraceSentSingly = (names : List ℕ) (s : State) (p : Position) (t : List ℕ) → after_calls names s p (frames_singly t) ≡ (after_trace s t, p)

-- and with any answer buffers of 64 bytes or more
abbrev pub TraceSentInOrder : Type 0
TraceSentInOrder =
    (names : List ℕ) (s : State) (p : Position) (t : List ℕ) → broken_trace t ≡ false → (calls : List Call) → SentBy (frames_of t) calls →
    after_calls names s p calls ≡ (after_trace s t, p)

-- and so of every list
abbrev pub AllSentSingly : Type 0
AllSentSingly = (names : List ℕ) (s : State) (p : Position) (calls : List CallOrTrace) → after_calls names s p (singly calls) ≡ after_all names s p calls

-- the account of demand 3 takes no notice of traces: "Refused calls and others' rounds change nothing here."
abbrev pub AccountTracesAside : Type 0
AccountTracesAside = (a : Account) (calls : List CallOrTrace) → account_after a (singly calls) ≡ account_after a (traces_aside calls)

-- Demand 3 with traces: as `DemandThree`, for every list of calls and traces that is permitted with the frames of its traces sent
-- singly. "It is one claim about the whole list of calls, not one for each."
abbrev pub DemandWithTraces : Type 0
DemandWithTraces =
    (file : List ℕ) → Bytes file → file_ground file ≡ 0 →
    (names : List ℕ) → Bytes names → start_ground names ≡ 0 →
    (calls : List CallOrTrace) → All AllBytes calls → permitted names (start_on file) (fresh names) (singly calls) ≡ true →
    Demand file names (traces_aside calls) (after_all names (start_on file) (fresh names) calls).0.file (after_all names (start_on file) (fresh names) calls).1
