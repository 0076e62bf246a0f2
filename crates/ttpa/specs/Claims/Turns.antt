-- Screens that share one tester (document 02, job 12), over the C calls: what they return; after a post the screen waits, and after a turn that
-- serves it no more; a turn is the read round of the screen that is next, made by ttpa_write_address and two calls of ttpa_round; and every
-- read that waits is served within eight accepted turns.
-- (`screens/specs/Claims` has the same over states and files.)
use Rattle.std.specs.Prelude.{ℕ, suc, ◌+◌, ◌≤◌, ◌<◌, ◌≡◌, List, [], ◌∷◌, true, cond, length, eqb}
use Rattle.file.specs.Rules.Bytes.{Byte, Bytes, All}
use Rattle.file.specs.Rules.Cluster.{read_operation}
use Rattle.file.specs.Rules.Decode.{decode}
use Rattle.frame.specs.Rules.Fireworks.{data_firework}
use Rattle.frame.specs.Rules.Frames.{frame_size}
use Rattle.master_slave.specs.Rules.Slaves.{next_epoch}
use Rattle.cluster.specs.Rules.Summary.{kept}
use Rattle.cluster.specs.Claims.Summary.{Matches}
use Rattle.screens.specs.Rules.Screens.{screens, last_served, is_waiting, Read, read_by, read_of, post_ground}
use Rattle.screens.specs.Rules.Turn.{after_serving, turn_ground}
use Rattle.screens.specs.Claims.Turns.{Waits, away, NextWaiting, NoneWaiting, WaitsNoMore}
use Rattle.ttpa.specs.Rules.Calls.{write_address_call, round_call, screens_call, post_call, turn_call}

-- ---- the start, a post and a turn

-- "from screen 0 at the start": after ttpa_screens none waits, and the i-th screen comes after i others
abbrev pub ScreensStart : Type 0
ScreensStart =
    (state : List ℕ) →
    NoneWaiting (screens_call state).1 × ((i : ℕ) → i < screens → away (last_served (screens_call state).1) i ≡ i)

-- ttpa_post and ttpa_turn return the first of their grounds that holds, and 0 where none does
abbrev pub PostNumbers : Type 0
PostNumbers =
    (state : List ℕ) (i name file «record» : ℕ) →
    (post_call state i name file «record»).0 ≡ post_ground state i (read_by name file «record»)

abbrev pub TurnNumbers : Type 0
TurnNumbers =
    (file state answer : List ℕ) (senders screen : ℕ) → (turn_call file state answer senders screen).0 ≡ turn_ground state file answer

-- after a post that returns 0 the screen waits with that read; the other screens and the one last served are as they were
abbrev pub PostTaken : Type 0
PostTaken =
    (state : List ℕ) (i name file «record» : ℕ) → length state ≡ 33 → (post_call state i name file «record»).0 ≡ 0 →
    Waits state i (read_by name file «record») (post_call state i name file «record»).1

-- the screen that a turn tells is the one last served and waits no more; its read's bytes and the other screens are as they were
abbrev pub ServedWaitsNoMore : Type 0
ServedWaitsNoMore =
    (file state answer : List ℕ) (senders screen : ℕ) → length state ≡ 33 → (turn_call file state answer senders screen).0 ≡ 0 →
    (turn_call file state answer senders screen).2 < screens →
    WaitsNoMore state (turn_call file state answer senders screen).2 (turn_call file state answer senders screen).3

-- ---- a turn is the read round

-- "the read round, PB0 as in naming": the address frame of a read, in any six bytes
abbrev pub read_frame : List ℕ → Read → List ℕ → ℕ × List ℕ
read_frame file r frame =
    write_address_call frame (next_epoch (decode file).epoch) r.name r.file read_operation r.«record»

-- number, senders, buffer and file after the first of its frames, and after both
abbrev pub first_frame : List ℕ → Read → List ℕ → List ℕ → ℕ → ℕ × ℕ × List ℕ × List ℕ
first_frame file r frame answer senders = round_call file (read_frame file r frame).1 answer senders

abbrev pub both_frames : List ℕ → Read → List ℕ → List ℕ → ℕ → ℕ × ℕ × List ℕ × List ℕ
both_frames file r frame answer senders =
    let first = first_frame file r frame answer senders in round_call first.3 (data_firework ∷ []) first.2 first.1

-- "Its answer and file changes are those of the read round, .. sent alone on the file as it then is.": the three calls return 0, and the
-- turn leaves senders, buffer and file as they do, tells the screen, and leaves the state with that screen served
pub record ReadByRounds (file state answer : List ℕ) (senders screen i : ℕ) (r : Read) (frame : List ℕ) : Type 0 where
  pub written : (read_frame file r frame).0 ≡ 0
  pub first : (first_frame file r frame answer senders).0 ≡ 0
  pub second : (both_frames file r frame answer senders).0 ≡ 0
  pub turn :
      turn_call file state answer senders screen ≡ (
        0,
        (both_frames file r frame answer senders).1,
        i,
        after_serving state i,
        (both_frames file r frame answer senders).2,
        (both_frames file r frame answer senders).3,
      )

abbrev pub ServesRead : List ℕ → List ℕ → List ℕ → ℕ → ℕ → ℕ → Read → Type 0
ServesRead file state answer senders screen i r =
    (frame : List ℕ) → length frame ≡ frame_size → ReadByRounds file state answer senders screen i r frame

-- a turn that returns 0 serves the next waiting screen, or tells TTPA_NO_SCREEN and alters nothing else: "a turn with none waiting does
-- nothing and says so"
pub data TurnDone (file state answer : List ℕ) (senders screen : ℕ) : Type 0 where
  serves :
      {i : ℕ} → NextWaiting state i → ServesRead file state answer senders screen i (read_of state i) →
      TurnDone file state answer senders screen
  none_waits :
      NoneWaiting state → turn_call file state answer senders screen ≡ (0, senders, 8, state, answer, file) →
      TurnDone file state answer senders screen

abbrev pub TurnsAreRounds : Type 0
TurnsAreRounds =
    (file state answer : List ℕ) (senders screen : ℕ) → Bytes file → Bytes state → (turn_call file state answer senders screen).0 ≡ 0 →
    TurnDone file state answer senders screen

-- a turn takes no summary; one that matches the file matches it still
abbrev pub TurnKeepsSummary : Type 0
TurnKeepsSummary =
    (file state answer : List ℕ) (senders screen : ℕ) (held : List ℕ) (count : ℕ) → Bytes file → Bytes state →
    Matches file (kept count held) → Matches (turn_call file state answer senders screen).5 (kept count held)

-- ---- "A posted read is served within eight accepted turns, each call given the state the last one left, however often the others post."

-- a C call, by all that it is handed except the state: ttpa_post by screen, name, file and record, and ttpa_turn by a file of its own, the
-- answer buffer, the senders' word and the screen's byte. ttpa_screens is none of them: it begins anew, and every read is dropped
pub data ScreenCall : Type 0 where
  ttpa_post : ℕ → ℕ → ℕ → ℕ → ScreenCall
  ttpa_turn : List ℕ → List ℕ → ℕ → ℕ → ScreenCall

unfoldable pub state_after : List ℕ → ScreenCall → List ℕ
state_after state (ttpa_post screen name file «record») = (post_call state screen name file «record»).1
state_after state (ttpa_turn file answer senders screen) = (turn_call file state answer senders screen).3

-- the turns that return 0
unfoldable pub accepted_by : List ℕ → ScreenCall → ℕ
accepted_by state (ttpa_post screen name file «record») = 0
accepted_by state (ttpa_turn file answer senders screen) = cond (eqb (turn_call file state answer senders screen).0 0) 1 0

unfoldable pub accepted_turns : List ℕ → List ScreenCall → ℕ
accepted_turns state [] = 0
accepted_turns state (c ∷ cs) = accepted_by state c + accepted_turns (state_after state c) cs

-- the files are bytes
pub data FileOfBytes : ScreenCall → Type 0 where
  in_post : {screen name file «record» : ℕ} → FileOfBytes (ttpa_post screen name file «record»)
  in_turn : {file answer : List ℕ} {senders screen : ℕ} → Bytes file → FileOfBytes (ttpa_turn file answer senders screen)

-- one of the first n turns that return 0 serves the i-th screen that read, which stands in the state, and after each call before it the
-- screen waits with it
pub data ServedWithin (i : ℕ) (r : Read) : ℕ → List ℕ → List ScreenCall → Type 0 where
  now :
      {n : ℕ} {state file answer : List ℕ} {senders screen : ℕ} {cs : List ScreenCall} → read_of state i ≡ r →
      ServesRead file state answer senders screen i r → ServedWithin i r (suc n) state (ttpa_turn file answer senders screen ∷ cs)
  later :
      {n m : ℕ} {state : List ℕ} {c : ScreenCall} {cs : List ScreenCall} → accepted_by state c + m ≤ n →
      is_waiting (state_after state c) i ≡ true → read_of (state_after state c) i ≡ r → ServedWithin i r m (state_after state c) cs →
      ServedWithin i r n state (c ∷ cs)

-- a read that waits in a state of any bytes, and it is that read: name, file and record as they stood in the state, where they stay until it
-- is served
abbrev pub FairOverCalls : Type 0
FairOverCalls =
    (state : List ℕ) → Bytes state → (i : ℕ) → i < screens → is_waiting state i ≡ true →
    (calls : List ScreenCall) → All FileOfBytes calls → screens ≤ accepted_turns state calls →
    ServedWithin i (read_of state i) screens state calls

-- and so is a read that ttpa_post took
abbrev pub PostedIsServed : Type 0
PostedIsServed =
    (state : List ℕ) → length state ≡ 33 → (i name file «record» : ℕ) → Byte name → Byte «record» →
    (post_call state i name file «record»).0 ≡ 0 →
    (calls : List ScreenCall) → All FileOfBytes calls → screens ≤ accepted_turns (post_call state i name file «record»).1 calls →
    ServedWithin i (read_by name file «record») screens (post_call state i name file «record»).1 calls
