-- Turns among demand 3's calls (document 02, job 12): where a turn is permitted, what it sends, and who is awake after it.
-- (`ttpa/specs/Claims/Turns` has a turn as calls of ttpa_round, who is served when, and that a turn keeps a summary.)
use Rattle.std.specs.Prelude.{ℕ, ◌≡◌, ◌≢◌, List, [], ◌∷◌, ◌++◌, Bool, true, false}
use Rattle.file.specs.Rules.Bytes.{Bytes, All}
use Rattle.cluster.specs.Claims.Sleep.{AllAwake}
use Rattle.naming.specs.Rules.Position.{Position}
use Rattle.naming.specs.Claims.Demand.{State}
use Rattle.naming.specs.Claims.PermittedRounds.{Rounds, SentBy}
use Rattle.ttpa.specs.Rules.Calls.{start_call, none_waited, turn_call}
use Rattle.demand.specs.Claims.DemandCalls.{CCall, ttpa_turn, GivenBytes, Memory, memory_after, turn_frames, permitted, TakenByRounds, started}
use Rattle.demand.specs.Claims.DemandCalls.{IsStep, arguments_of, arguments_of_all}
use Rattle.demand.specs.Claims.Traces.{singly}
use Rattle.demand.specs.Claims.Renaming.{NoneBaptizes}
use Rattle.demand.specs.Claims.Sleep.{SomeWakes, NoneSleeps}

-- a turn that serves: it returns 0 and tells a screen, not TTPA_NO_SCREEN
pub record Serves (file state answer : List ℕ) (senders screen : ℕ) : Type 0 where
  pub number : (turn_call file state answer senders screen).0 ≡ 0
  pub told : (turn_call file state answer senders screen).2 ≢ none_waited

-- ---- where a turn is permitted

-- where no round is half done a turn is permitted, whatever it does, and leaves none half done: the calls after it decide
abbrev pub TurnsFit : Type 0
TurnsFit =
    (names : List ℕ) (m : Memory) (state answer : List ℕ) (senders screen : ℕ) → Bytes m.file → Bytes state → (calls : List CCall) →
    permitted false names m (ttpa_turn state answer senders screen ∷ calls) ≡
    permitted false names (memory_after names m (ttpa_turn state answer senders screen)) calls

-- "followed directly, refused calls aside": a turn that serves does not fit between another round's MSA and MSD
abbrev pub NoTurnWithin : Type 0
NoTurnWithin =
    (names : List ℕ) (m : Memory) (state answer : List ℕ) (senders screen : ℕ) →
    Bytes state → Serves m.file state answer senders screen →
    (calls : List CCall) → permitted true names m (ttpa_turn state answer senders screen ∷ calls) ≡ false

-- "a turn with none waiting does nothing": it leaves the memory, as one does that is refused, and fits anywhere, h being whether a round is
-- half done
abbrev pub OtherTurns : Type 0
OtherTurns =
    (names : List ℕ) (m : Memory) (state answer : List ℕ) (senders screen : ℕ) → (Serves m.file state answer senders screen → ⊥) →
    (memory_after names m (ttpa_turn state answer senders screen) ≡ m) ×
    ((h : Bool) (calls : List CCall) → permitted h names m (ttpa_turn state answer senders screen ∷ calls) ≡ permitted h names m calls)

-- what a turn sends is permitted rounds: one, or none
abbrev pub TurnsSendRounds : Type 0
TurnsSendRounds = (file state answer : List ℕ) → Bytes state → Rounds (turn_frames file state answer)

-- they are sent with answer buffers that are long enough, as by a trace (`Claims/Permitted` TraceSends): RoundsFitCalls there takes turns
abbrev pub TurnSends : Type 0
TurnSends =
    (names : List ℕ) (m : Memory) (state answer : List ℕ) (senders screen : ℕ) →
    SentBy (turn_frames m.file state answer) (singly (arguments_of_all names m (ttpa_turn state answer senders screen ∷ [])))

-- so there are many lists with turns: every list of steps and turns is permitted after every permitted list
pub data IsStepOrTurn : CCall → Type 0 where
  a_step : {c : CCall} → IsStep c → IsStepOrTurn c
  a_turn : {state answer : List ℕ} {senders screen : ℕ} → Bytes state → IsStepOrTurn (ttpa_turn state answer senders screen)

abbrev pub TurnsPermitted : Type 0
TurnsPermitted =
    (file : List ℕ) → Bytes file → TakenByRounds file → (names : List ℕ) → Bytes names → (run : List ℕ) → (start_call names run).0 ≡ 0 →
    (calls : List CCall) → All GivenBytes calls → permitted false names (started file names run) calls ≡ true →
    (more : List CCall) → All IsStepOrTurn more → permitted false names (started file names run) (calls ++ more) ≡ true

-- ---- "the read round": a turn neither baptizes nor puts to sleep, as `Claims/Renaming` CCallsRenameNobody and `Claims/Sleep` CCallsWake ask

abbrev pub TurnBaptizesNobody : Type 0
TurnBaptizesNobody =
    (names : List ℕ) (s : State) (p : Position) (state answer : List ℕ) (senders screen : ℕ) → Bytes s.file → Bytes state →
    NoneBaptizes names s p (singly (arguments_of s.file (ttpa_turn state answer senders screen)))

abbrev pub TurnPutsNobodyToSleep : Type 0
TurnPutsNobodyToSleep =
    (names : List ℕ) (s : State) (p : Position) (state answer : List ℕ) (senders screen : ℕ) → Bytes s.file → Bytes state →
    NoneSleeps names s p (singly (arguments_of s.file (ttpa_turn state answer senders screen)))

-- ---- who is awake after a turn

-- "awake after the next accepted MSD" (document 02, job 9): a turn that serves sends one, and leaves all awake
abbrev pub ServedTurnsWake : Type 0
ServedTurnsWake =
    (file state answer : List ℕ) (senders screen : ℕ) → Bytes file → Bytes state → Serves file state answer senders screen →
    SomeWakes file (turn_frames file state answer) × AllAwake (turn_call file state answer senders screen).5
