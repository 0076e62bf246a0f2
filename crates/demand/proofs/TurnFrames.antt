-- A turn and the frames that it sends: it is refused or idle, sends none and leaves the file; or it serves a screen, and leaves the file
-- that its two frames leave.
-- Assumes nothing.
use Prim.Native.Nat.{ℕ, ◌≤◌, ◌<◌}
use native.Mathlib.Omega.{arith}
use mathlib.Core.Path.{◌≡◌, refl, ap, ◌∙◌}
use mathlib.Core.Logic.{◌≢◌}
use mathlib.Core.List.{List, [], ◌∷◌}
use lib.ListN.{length, get_or}
use lib.Dec.{eqb}
use borrow.Author.Tests.{eqb-true, eqb-false}
use Rattle.file.specs.Rules.Bytes.{Bytes, All, All.all_empty, All.all_next as also}
use Rattle.file.specs.Rules.Results.{refused, done, number_in}
use Rattle.file.specs.Rules.Decode.{decode}
use Rattle.file.proofs.Order.{by_case}
use Rattle.master_slave.specs.Rules.Bus.{slots}
use Rattle.cluster.specs.Rules.Round.{Answer, frame_on, round_ground, round_on}
use Rattle.cluster.specs.Rules.MasterSlave.{Sent, address_sent, data_sent, round_sent}
use Rattle.cluster.specs.Inner.Sending.{MaySend}
use Rattle.master_slave.proofs.Bus.{answer-length}
use Rattle.cluster.proofs.Rounds.{round-refused, round-accepted}
use Rattle.cluster.proofs.SentRounds.{address-sent-bytes, data-sent-bytes}
use Rattle.trace.specs.Rules.TraceRun.{sent, after_frames}
use Rattle.trace.proofs.Runs.{sent_any}
use Rattle.screens.specs.Rules.Screens.{screens, read_of, Due, nobody, screen, due}
use Rattle.screens.specs.Rules.Turn.{idle, served_by, read_sent, after_serving, turn_ground, turn_on}
use Rattle.screens.proofs.PostLaws.{Readable}
use Rattle.screens.proofs.ScreenGrounds.{Free, turn_free, turn-refused, state_last, state_read}
use Rattle.screens.proofs.Due.{due-is-next}
use Rattle.screens.proofs.Turns.{turn_idles, turn-serves, may-send-bytes}
use Rattle.demand.specs.Claims.DemandCalls.{frames_served, turn_frames}

-- ---- what a turn does

-- a turn that serves screen i
pub record Serving (file state buffer : List ℕ) (i : ℕ) : Type 0 where
  pub none : turn_ground state file buffer ≡ 0
  pub is_due : due state ≡ screen i

pub data TurnCase (file state buffer : List ℕ) : Type 0 where
  turned-away : {n : ℕ} → n ≢ 0 → turn_on state file buffer ≡ (refused n, state, buffer, file) → TurnCase file state buffer
  idles : turn_on state file buffer ≡ (done idle, state, buffer, file) → TurnCase file state buffer
  serves : {i : ℕ} → Serving file state buffer i → TurnCase file state buffer

pub turn_case : (file state buffer : List ℕ) → TurnCase file state buffer
turn_case file state buffer =
    by_case (eqb (turn_ground state file buffer) 0)
    (λ z. by_due (eqb-true _ _ z) (due state) refl)
    (λ z. let some = eqb-false _ _ z in turned-away some (turn-refused state file buffer some))
  where
    by_due : turn_ground state file buffer ≡ 0 → (d : Due) → due state ≡ d → TurnCase file state buffer
    by_due none nobody is = idles (turn_idles state file buffer none is)
    by_due none (screen i) is = serves (record { none = none; is_due = is })

-- ---- a turn that serves

module _ {file state buffer : List ℕ} {i : ℕ} (serving : Serving file state buffer i) where
  pub free : Free state file buffer
  free = turn_free state file buffer serving.none

  pub few : i < screens
  few = (((due-is-next state (state_last state free.state)).next i).0 serving.is_due).few

  pub read_fits : Readable (read_of state i)
  read_fits = state_read state i serving.is_due free.state

  pub read-may : Bytes state → MaySend (read_sent (read_of state i))
  read-may b = may-send-bytes state i b serving.is_due free.state

  pub served-is :
      let r = round_sent file (read_sent (read_of state i)) buffer in
      turn_on state file buffer ≡ (done (served_by i r.0), after_serving state i, r.1, r.2)
  served-is = turn-serves state file buffer serving.none i serving.is_due

  abbrev read : Sent
  read = read_sent (read_of state i)

  pub frames-are : turn_frames file state buffer ≡ address_sent (decode file) read ∷ data_sent read ∷ []
  unfolding turn_frames frames_served served_by
  frames-are = rw served-is (by (round_sent file read buffer).0)
    where
      by : (a : Answer) → frames_served file state (done (served_by i a)) ≡ address_sent (decode file) read ∷ data_sent read ∷ []
      by (refused n) = refl
      by (done mask) = refl

-- a frame leaves a buffer that is long enough
pub still_long : (file frame buffer : List ℕ) → slots ≤ length buffer → slots ≤ length (round_on file frame buffer).1
still_long file frame buffer long =
    by_case (eqb (round_ground file frame buffer) 0)
    (λ z.
    let same = answer-length buffer (get_or frame 0 0) (frame_on (decode file) frame).senders long in
    rw (round-accepted file frame buffer (eqb-true _ _ z)) (omega (arith, long, same)))
    (λ z. rw (round-refused file frame buffer (eqb-false _ _ z)) long)

round-left : (file : List ℕ) (s : Sent) (buffer : List ℕ) → slots ≤ length buffer →
    (round_sent file s buffer).2 ≡ after_frames file (address_sent (decode file) s ∷ data_sent s ∷ [])
unfolding round_sent after_frames
round-left file s buffer long =
    let address = address_sent (decode file) s in
    let first = round_on file address buffer in
    (sent_any first.2 (data_sent s) first.1 (still_long file address buffer long)).file
    ∙ ap (λ (f : List ℕ). (sent f (data_sent s)).2) (sent_any file address buffer long).file

-- ---- every turn

module _ (file state buffer : List ℕ) where
  pub turn-left : (turn_on state file buffer).3 ≡ after_frames file (turn_frames file state buffer)
  turn-left = by (turn_case file state buffer)
    where
      by : TurnCase file state buffer → (turn_on state file buffer).3 ≡ after_frames file (turn_frames file state buffer)
      by (turned-away some e) = unfold turn_frames frames_served after_frames in rw e
      by (idles e) = unfold turn_frames frames_served after_frames in rw e
      by (serves {i} serving) =
          rw (frames-are serving, served-is serving) (round-left file (read_sent (read_of state i)) buffer (free serving).long)

  pub none-sent : number_in (turn_on state file buffer).0 ≢ 0 → turn_frames file state buffer ≡ []
  none-sent some = by (turn_case file state buffer)
    where
      by : TurnCase file state buffer → turn_frames file state buffer ≡ []
      by (turned-away other e) = unfold turn_frames frames_served in rw e
      by (idles e) = unfold turn_frames frames_served in rw e
      by (serves serving) = absurd (some (unfold number_in in rw (served-is serving)))

  pub turn-frames-bytes : Bytes state → All Bytes (turn_frames file state buffer)
  turn-frames-bytes b = by (turn_case file state buffer)
    where
      by : TurnCase file state buffer → All Bytes (turn_frames file state buffer)
      by (turned-away other e) = unfold turn_frames frames_served in rw e all_empty
      by (idles e) = unfold turn_frames frames_served in rw e all_empty
      by (serves {i} serving) =
          let may = read-may serving b in
          rw (frames-are serving) (also (address-sent-bytes (decode file) _ may) (also (data-sent-bytes (decode file) _ may) all_empty))
