-- "A posted read is served within eight accepted turns, each call given the state the last one left, however often the others post."
-- (document 02, job 12)
use Rattle.std.specs.Prelude.{ℕ, suc, ◌+◌, ◌≤◌, ◌<◌, ◌≡◌, List, [], ◌∷◌, true, length, replicate}
use Rattle.file.specs.Rules.Results.{Result, refused, done}
use Rattle.file.specs.Rules.FileGrounds.{file_ground}
use Rattle.master_slave.specs.Rules.Bus.{slots}
use Rattle.cluster.specs.Rules.MasterSlave.{round_sent}
use Rattle.screens.specs.Rules.Screens.{screens, is_waiting, Read, read_of, post_on}
use Rattle.screens.specs.Rules.Turn.{Turn, served_by, read_sent, after_serving, turn_on}

-- a call: a post of a screen, or a turn with a file and an answer buffer of its own
pub data Call : Type 0 where
  post : ℕ → Read → Call
  turn : List ℕ → List ℕ → Call

unfoldable pub state_after : List ℕ → Call → List ℕ
state_after state (post i r) = (post_on state i r).1
state_after state (turn file buffer) = (turn_on state file buffer).1

-- the accepted turns, idle ones too
unfoldable pub one_if_done : Result Turn → ℕ
one_if_done (refused n) = 0
one_if_done (done t) = 1

unfoldable pub accepted_by : List ℕ → Call → ℕ
accepted_by state (post i r) = 0
accepted_by state (turn file buffer) = one_if_done (turn_on state file buffer).0

-- "each call given the state the last one left"
unfoldable pub accepted_turns : List ℕ → List Call → ℕ
accepted_turns state [] = 0
accepted_turns state (c ∷ cs) = accepted_by state c + accepted_turns (state_after state c) cs

-- a turn serves the i-th screen a read: that read stands in the state, and what the turn answers and leaves is its round
pub record Serves (state : List ℕ) (i : ℕ) (r : Read) (file buffer : List ℕ) : Type 0 where
  pub stands : read_of state i ≡ r
  pub turn :
      turn_on state file buffer ≡ (
        done (served_by i (round_sent file (read_sent r) buffer).0),
        after_serving state i,
        (round_sent file (read_sent r) buffer).1,
        (round_sent file (read_sent r) buffer).2,
      )

-- one of the first n accepted turns among the calls serves the i-th screen that read, and after each call before it the screen waits with it
pub data ServedWithin (i : ℕ) (r : Read) : ℕ → List ℕ → List Call → Type 0 where
  now :
      {n : ℕ} {state file buffer : List ℕ} {cs : List Call} → Serves state i r file buffer →
      ServedWithin i r (suc n) state (turn file buffer ∷ cs)
  later :
      {n m : ℕ} {state : List ℕ} {c : Call} {cs : List Call} → accepted_by state c + m ≤ n →
      is_waiting (state_after state c) i ≡ true → read_of (state_after state c) i ≡ r → ServedWithin i r m (state_after state c) cs →
      ServedWithin i r n state (c ∷ cs)

-- a read that waits, in a state of any content, is served by one of the first eight accepted turns of every list of calls, and it is that
-- read: its name, file and record are those that stood in the state at the start, and they stay until it is served
abbrev pub Fair : Type 0
Fair =
    (state : List ℕ) (i : ℕ) → i < screens → is_waiting state i ≡ true → (calls : List Call) → screens ≤ accepted_turns state calls →
    ServedWithin i (read_of state i) screens state calls

-- and so is a read that was posted
abbrev pub PostedIsServed : Type 0
PostedIsServed =
    (state : List ℕ) → length state ≡ 33 → (i : ℕ) (r : Read) → (post_on state i r).0 ≡ done tt → (calls : List Call) →
    screens ≤ accepted_turns (post_on state i r).1 calls → ServedWithin i r screens (post_on state i r).1 calls

-- eight is the least such number: where all eight wait, seven accepted turns do not serve the one last served
abbrev pub all_waiting : List ℕ
all_waiting = 0 ∷ replicate 32 1

-- one of the calls serves the i-th screen a read, whatever becomes of the state before it
pub data ServedAmong (i : ℕ) (r : Read) : List ℕ → List Call → Type 0 where
  here :
      {state file buffer : List ℕ} {cs : List Call} → Serves state i r file buffer → ServedAmong i r state (turn file buffer ∷ cs)
  behind : {state : List ℕ} {c : Call} {cs : List Call} → ServedAmong i r (state_after state c) cs → ServedAmong i r state (c ∷ cs)

pub record NotByTurns (file buffer : List ℕ) : Type 0 where
  pub accepted : accepted_turns all_waiting (replicate 7 (turn file buffer)) ≡ 7
  pub unserved : (r : Read) → ServedAmong 0 r all_waiting (replicate 7 (turn file buffer)) → ⊥

abbrev pub SevenAreTooFew : Type 0
SevenAreTooFew = (file buffer : List ℕ) → file_ground file ≡ 0 → slots ≤ length buffer → NotByTurns file buffer
