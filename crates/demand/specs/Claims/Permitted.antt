-- Which lists demand 3 permits, over lists with traces and over the C calls: exactly those that `naming/specs/Claims/Permitted` writes out,
-- the frames of each trace being sent singly; and permitted rounds among them, in calls and in traces.
use Rattle.std.specs.Prelude.{ℕ, ◌≤◌, ◌≡◌, ◌↔◌, List, [], ◌∷◌, ◌++◌, map, true, false, length}
use Rattle.file.specs.Rules.Bytes.{Bytes, All}
use Rattle.trace.specs.Rules.Layout.{max_trace}
use Rattle.trace.specs.Rules.Encode.{encode_trace}
use Rattle.naming.specs.Rules.Position.{fresh}
use Rattle.naming.specs.Rules.Account.{Call}
use Rattle.naming.specs.Claims.Demand.{start_on, permitted as permitted_by_rules}
use Rattle.naming.specs.Claims.Permitted.{PermittedList}
use Rattle.naming.specs.Claims.PermittedRounds.{PermittedFrom, IsStep as IsStepByRules, Rounds, SentBy}
use Rattle.ttpa.specs.Rules.Calls.{start_call}
use Rattle.demand.specs.Claims.Traces.{CallOrTrace, singly}
use Rattle.demand.specs.Claims.DemandCalls.{CCall, ttpa_trace_lem, GivenBytes, permitted, TakenByRounds, after_calls, started, IsStep, Memory}
use Rattle.demand.specs.Claims.DemandCalls.{arguments_of_all}

-- a list of C calls, made after a ttpa_start that returns 0, is permitted if and only if the calls that it stands for are such a list
abbrev pub CallsPermittedExactly : Type 0
CallsPermittedExactly =
    (file names run : List ℕ) → (start_call names run).0 ≡ 0 → (calls : List CCall) → All GivenBytes calls →
    (permitted false names (started file names run) calls ≡ true) ↔
    PermittedList names file (fresh names) (singly (arguments_of_all names (started file names run) calls))

-- a trace of permitted rounds, "the whole at most 16,384 bytes", fits after any permitted calls and traces and before any steps
abbrev pub TraceFits : Type 0
TraceFits =
    (file names : List ℕ) (calls : List CallOrTrace) → PermittedFrom file names (singly calls) →
    (frames : List (List ℕ)) → Rounds frames → length (encode_trace frames) ≤ max_trace → (ds : List Call) → All IsStepByRules ds →
    permitted_by_rules names (start_on file) (fresh names) (singly (calls ++ CallOrTrace.trace (encode_trace frames) ∷ map CallOrTrace.call ds)) ≡ true

-- and over the C calls: permitted rounds, their frames sent by ttpa_round with buffers that are long enough, by ttpa_trace or by ttpa_turn,
-- among calls with summaries and without. (`Claims/Summary` has that ttpa_round_keeping with a summary that matches is permitted where
-- these are.)
abbrev pub RoundsFitCalls : Type 0
RoundsFitCalls =
    (file : List ℕ) → Bytes file → TakenByRounds file → (names : List ℕ) → Bytes names → (run : List ℕ) → (start_call names run).0 ≡ 0 →
    (cs : List CCall) → All GivenBytes cs → permitted false names (started file names run) cs ≡ true →
    (frames : List (List ℕ)) → Rounds frames → (rs : List CCall) →
    SentBy frames (singly (arguments_of_all names (after_calls names (started file names run) cs) rs)) → (ds : List CCall) → All IsStep ds →
    permitted false names (started file names run) (cs ++ (rs ++ ds)) ≡ true

-- a trace of permitted rounds so sends their frames
abbrev pub TraceSends : Type 0
TraceSends =
    (frames : List (List ℕ)) → Rounds frames → length (encode_trace frames) ≤ max_trace → (report names : List ℕ) (m : Memory) →
    SentBy frames (singly (arguments_of_all names m (ttpa_trace_lem (encode_trace frames) report ∷ [])))
