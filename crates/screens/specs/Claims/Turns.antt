-- What a post and a turn do, over files and states of bytes (document 02, job 12).
use Rattle.std.specs.Prelude.{ℕ, ◌+◌, ◌-◌, ◌*◌, ◌%◌, ◌<◌, ◌≡◌, ◌≢◌, ◌↔◌, List, true, false, length, get_or}
use Rattle.file.specs.Rules.Bytes.{Bytes}
use Rattle.file.specs.Rules.Results.{done}
use Rattle.file.specs.Rules.Decode.{decode}
use Rattle.cluster.specs.Rules.Round.{round_ground}
use Rattle.cluster.specs.Rules.MasterSlave.{address_sent, round_sent}
use Rattle.cluster.specs.Rules.Summary.{Summary}
use Rattle.cluster.specs.Claims.Renaming.{names_of}
use Rattle.cluster.specs.Claims.Summary.{Matches}
use Rattle.screens.specs.Rules.Screens.{screens, last_served, is_waiting, Read, read_by, read_of, fresh, nobody, screen, due, post_on}
use Rattle.screens.specs.Rules.Turn.{idle, served, read_sent, after_serving, turn_ground, turn_on}

-- ---- the state's bytes

-- of a state of any content: byte 0 is the screen last served, and of the i-th screen byte 1 + 4 i says whether it waits, 0 no and any other
-- value yes, before the name, file and record of its read
pub record LaidOut (state : List ℕ) (i : ℕ) : Type 0 where
  pub last : last_served state ≡ get_or state 0 0
  pub waits : (is_waiting state i ≡ true) ↔ (get_or state (1 + 4 * i) 0 ≢ 0)
  pub read : read_of state i ≡ read_by (get_or state (1 + 4 * i + 1) 0) (get_or state (1 + 4 * i + 2) 0) (get_or state (1 + 4 * i + 3) 0)

abbrev pub StatesLaidOut : Type 0
StatesLaidOut = (state : List ℕ) (i : ℕ) → LaidOut state i

-- a post makes the waiting byte 1 and writes the three behind it, a turn that serves makes it 0 and byte 0 the screen's number; every other
-- byte stays
pub record OthersStay (state : List ℕ) (i : ℕ) (after : List ℕ) : Type 0 where
  pub waiting : get_or after (1 + 4 * i) 0 ≡ 1
  pub before : (k : ℕ) → k < 1 + 4 * i → get_or after k 0 ≡ get_or state k 0
  pub behind : (k : ℕ) → 1 + 4 * i + 3 < k → get_or after k 0 ≡ get_or state k 0

abbrev pub PostBytes : Type 0
PostBytes = (state : List ℕ) (i : ℕ) (r : Read) → length state ≡ 33 → (post_on state i r).0 ≡ done tt → OthersStay state i (post_on state i r).1

abbrev pub ServedBytes : Type 0
ServedBytes =
    (state file buffer : List ℕ) (i mask : ℕ) → (turn_on state file buffer).0 ≡ done (served i mask) →
    (k : ℕ) → k ≢ 0 → k ≢ 1 + 4 * i → get_or (turn_on state file buffer).1 k 0 ≡ get_or state k 0

-- ---- a post

-- after a post that is not refused the screen waits with that read; the other screens and the one last served are as they were
pub record Waits (state : List ℕ) (i : ℕ) (r : Read) (after : List ℕ) : Type 0 where
  pub waits : is_waiting after i ≡ true
  pub read : read_of after i ≡ r
  pub others : (j : ℕ) → j ≢ i → (is_waiting after j ≡ is_waiting state j) × (read_of after j ≡ read_of state j)
  pub last : last_served after ≡ last_served state

abbrev pub PostWaits : Type 0
PostWaits = (state : List ℕ) (i : ℕ) (r : Read) → length state ≡ 33 → (post_on state i r).0 ≡ done tt → Waits state i r (post_on state i r).1

-- ---- who is next

-- "in cyclic order": how many screens come after the one last served before the i-th
abbrev pub away : ℕ → ℕ → ℕ
away last i = (i + 7 - last) % screens

-- "the next waiting screen after the one last served": it waits, and none that comes before it does
pub record NextWaiting (state : List ℕ) (i : ℕ) : Type 0 where
  pub few : i < screens
  pub waits : is_waiting state i ≡ true
  pub first : (j : ℕ) → j < screens → away (last_served state) j < away (last_served state) i → is_waiting state j ≡ false

abbrev pub NoneWaiting : List ℕ → Type 0
NoneWaiting state = (i : ℕ) → i < screens → is_waiting state i ≡ false

pub record DueExactly (state : List ℕ) : Type 0 where
  pub next : (i : ℕ) → (due state ≡ screen i) ↔ NextWaiting state i
  pub none : (due state ≡ nobody) ↔ NoneWaiting state

abbrev pub DueIsNext : Type 0
DueIsNext = (state : List ℕ) → last_served state < screens → DueExactly state

-- "from screen 0 at the start": none waits, and the i-th screen comes after i others
abbrev pub StartsAtZero : Type 0
StartsAtZero = NoneWaiting fresh × ((i : ℕ) → i < screens → away (last_served fresh) i ≡ i)

-- ---- a turn

-- "A turn serves the next waiting screen .. and tells which": both frames of the read are accepted, and "Its answer and file changes are
-- those of the read round, PB0 as in naming, sent alone on the file as it then is."
pub record TurnIsRound (state file buffer : List ℕ) (i mask : ℕ) : Type 0 where
  pub next : NextWaiting state i
  pub address : round_ground file (address_sent (decode file) (read_sent (read_of state i))) buffer ≡ 0
  pub answer : (round_sent file (read_sent (read_of state i)) buffer).0 ≡ done mask
  pub turn :
      turn_on state file buffer ≡ (
        done (served i mask),
        after_serving state i,
        (round_sent file (read_sent (read_of state i)) buffer).1,
        (round_sent file (read_sent (read_of state i)) buffer).2,
      )

abbrev pub TurnsAreRounds : Type 0
TurnsAreRounds =
    (state file buffer : List ℕ) (i mask : ℕ) → Bytes state → Bytes file → (turn_on state file buffer).0 ≡ done (served i mask) →
    TurnIsRound state file buffer i mask

-- "a turn with none waiting does nothing and says so", where it has no ground, and only such a turn says so
pub record IdleExactly (state file buffer : List ℕ) : Type 0 where
  pub nothing :
      NoneWaiting state →
      ((turn_on state file buffer).1 ≡ state) × ((turn_on state file buffer).2 ≡ buffer) × ((turn_on state file buffer).3 ≡ file)
  pub says : NoneWaiting state → turn_ground state file buffer ≡ 0 → (turn_on state file buffer).0 ≡ done idle
  pub only : (turn_on state file buffer).0 ≡ done idle → NoneWaiting state

abbrev pub IdleTurns : Type 0
IdleTurns = (state file buffer : List ℕ) → IdleExactly state file buffer

-- after a turn that serves, the screen is the one last served and waits no more; its read's bytes and the other screens are as they were
pub record WaitsNoMore (state : List ℕ) (i : ℕ) (after : List ℕ) : Type 0 where
  pub last : last_served after ≡ i
  pub waits : is_waiting after i ≡ false
  pub read : read_of after i ≡ read_of state i
  pub others : (j : ℕ) → j ≢ i → (is_waiting after j ≡ is_waiting state j) × (read_of after j ≡ read_of state j)

abbrev pub ServedWaitsNoMore : Type 0
ServedWaitsNoMore =
    (state file buffer : List ℕ) (i mask : ℕ) → length state ≡ 33 → (turn_on state file buffer).0 ≡ done (served i mask) →
    WaitsNoMore state i (turn_on state file buffer).1

-- a turn takes no summary and renames nobody, so that one that matches the file (document 02, job 8) matches it still
abbrev pub TurnRenamesNobody : Type 0
TurnRenamesNobody = (state file buffer : List ℕ) → Bytes state → Bytes file → names_of (turn_on state file buffer).3 ≡ names_of file

abbrev pub TurnKeepsSummary : Type 0
TurnKeepsSummary =
    (state file buffer : List ℕ) (summary : Summary) → Bytes state → Bytes file → Matches file summary →
    Matches (turn_on state file buffer).3 summary
