-- What a turn does: that none of its grounds refuses is the round of the read due.
-- Assumes nothing.
use Rattle.std.proofs.Common.{ℕ, ◌+◌, ◌<◌, ◌≡◌, refl, sym, ap, ◌∙◌, subst, List, false, arith, length, eqb, eqb-true, le-ltb}
use borrow.Author.Tests.{eqb-false}
use Rattle.file.specs.Rules.Bytes.{Byte, Bytes}
use Rattle.file.specs.Rules.Order.{first_of}
use Rattle.file.specs.Rules.Results.{Result, refused, done}
use Rattle.file.specs.Rules.Decode.{decode}
use Rattle.file.proofs.Order.{by_case}
use Rattle.file.proofs.Bytes.{byte_at}
use Rattle.master_slave.specs.Rules.Bus.{slots, sender_mask}
use Rattle.cluster.specs.Rules.RoundGrounds.{short_answer}
use Rattle.cluster.specs.Rules.Round.{Answer, frame_on, round_ground}
use Rattle.cluster.specs.Rules.MasterSlave.{address_sent, data_sent, round_sent}
use Rattle.cluster.specs.Inner.Sending.{MaySend, asked}
use Rattle.cluster.proofs.SentRounds as rounds
use Rattle.screens.specs.Rules.Screens.{screens, last_served, place_of, Read, read_of, Due, nobody, screen, due}
use Rattle.screens.specs.Rules.Turn.{Turn, idle, served, served_by, read_sent, after_serving, state_grounds, turn_ground, turn_made, turn_on}
use Rattle.screens.specs.Claims.Turns.{NoneWaiting, TurnIsRound, TurnsAreRounds, IdleTurns, ServedBytes, ServedWaitsNoMore}
use Rattle.screens.specs.Claims.Fairness.{Serves}
use Rattle.screens.proofs.TurnLaws.{may_read}
use Rattle.screens.proofs.ScreenGrounds.{Free, turn_free, turn-refused, turn-made, state_last, state_read}
use Rattle.screens.proofs.Due.{due-is-next}
use Rattle.screens.proofs.StateBytes.{same-waits, same_read, serving_byte, serving_same, serving_last, serving_clears, serving_read}
use Rattle.screens.proofs.Distinct.{done_refused, idle-served, served-same, served_by_same}

-- the read due may be sent, where the state has no ground
may-send :
    (state : List ℕ) (i : ℕ) → Byte (read_of state i).name → Byte (read_of state i).«record» → due state ≡ screen i →
    first_of (state_grounds state) ≡ 0 → MaySend (read_sent (read_of state i))
may-send state i name record' is none = may_read {r = read_of state i} name record' (state_read state i is none)

pub may-send-bytes :
    (state : List ℕ) (i : ℕ) → Bytes state → due state ≡ screen i → first_of (state_grounds state) ≡ 0 → MaySend (read_sent (read_of state i))
unfolding read_of
may-send-bytes state i bytes = may-send state i (byte_at bytes (place_of i + 1)) (byte_at bytes (place_of i + 3))

module _ (state file buffer : List ℕ) (none : turn_ground state file buffer ≡ 0) where
  free : Free state file buffer
  free = turn_free state file buffer none

  last-few : last_served state < screens
  last-few = state_last state free.state

  pub turn_idles : due state ≡ nobody → turn_on state file buffer ≡ (done idle, state, buffer, file)
  unfolding turn_made
  turn_idles is = turn-made state file buffer none ∙ ap (λ (d : Due). turn_made d state file buffer) is

  module _ (i : ℕ) (is : due state ≡ screen i) where
    pub turn-serves :
        turn_on state file buffer ≡ (
          done (served_by i (round_sent file (read_sent (read_of state i)) buffer).0),
          after_serving state i,
          (round_sent file (read_sent (read_of state i)) buffer).1,
          (round_sent file (read_sent (read_of state i)) buffer).2,
        )
    unfolding turn_made
    turn-serves = turn-made state file buffer none ∙ ap (λ (d : Due). turn_made d state file buffer) is

    module _ (may : MaySend (read_sent (read_of state i))) (fb : Bytes file) where
      mask : ℕ
      mask =
          sender_mask (frame_on (asked (decode file) (read_sent (read_of state i))) (data_sent (read_sent (read_of state i)))).senders

      turn-round : TurnIsRound state file buffer i mask
      unfolding mask served_by
      turn-round =
          let long : short_answer buffer ≡ false = unfold short_answer in le-ltb (length buffer) slots free.long in
          let carried = ap (λ (r : Answer × List ℕ × List ℕ). r.0) (rounds.round_is file buffer fb free.accepted long may) in
          record {
            next = ((due-is-next state last-few).next i).0 is;
            address =
                rounds.frame-taken file (address_sent (decode file) (read_sent (read_of state i))) buffer free.accepted long
                (rounds.address-accepted (decode file) (read_sent (read_of state i)) may);
            answer = carried;
            turn = turn-serves ∙ rw carried;
          }

      pub turn-address : round_ground file (address_sent (decode file) (read_sent (read_of state i))) buffer ≡ 0
      turn-address = turn-round.address

idle_by : {P : Type 0} (i : ℕ) (a : Answer) → ◌≡◌ {A = Result Turn} (done idle) (done (served_by i a)) → P
unfolding served_by
idle_by i (refused n) e = idle-served e
idle_by i (done n) e = idle-served e

-- what a turn answers
abbrev told : Result Turn × List ℕ × List ℕ × List ℕ → Result Turn
told t = t.0

done_free : (state file buffer : List ℕ) (t : Turn) → (turn_on state file buffer).0 ≡ done t → turn_ground state file buffer ≡ 0
done_free state file buffer t e =
    by_case (eqb (turn_ground state file buffer) 0)
    (λ z. eqb-true _ _ z)
    (λ z. done_refused (sym e ∙ ap told (turn-refused state file buffer (eqb-false _ _ z))))

-- a turn that tells of a screen served the one due
served-due : (state file buffer : List ℕ) (i : ℕ) (a : Answer) → (turn_on state file buffer).0 ≡ done (served_by i a) → due state ≡ screen i
served-due state file buffer i a e = by_due (due state) refl
  where
    none : turn_ground state file buffer ≡ 0
    none = done_free state file buffer (served_by i a) e

    by_due : (d : Due) → due state ≡ d → due state ≡ screen i
    by_due nobody is = idle_by i a (sym (ap told (turn_idles state file buffer none is)) ∙ e)
    by_due (screen j) is = is ∙ ap screen (served_by_same j i _ a (sym (ap told (turn-serves state file buffer none j is)) ∙ e))

pub turns-are-rounds : TurnsAreRounds
unfolding served_by
turns-are-rounds state file buffer i n sb fb e =
    let none = done_free state file buffer (served i n) e in
    let is = served-due state file buffer i (done n) e in
    let may = may-send-bytes state i sb is (turn_free state file buffer none).state in
    let round = turn-round state file buffer none i is may fb in
    subst (λ (x : ℕ). TurnIsRound state file buffer i x) (served-same (sym (ap told round.turn) ∙ e)).1 round

-- a turn that no ground refuses is done
pub turn-done : (state file buffer : List ℕ) → turn_ground state file buffer ≡ 0 → (t : Turn) × ((turn_on state file buffer).0 ≡ done t)
turn-done state file buffer none = by_due (due state) refl
  where
    by_due : (d : Due) → due state ≡ d → (t : Turn) × ((turn_on state file buffer).0 ≡ done t)
    by_due nobody is = (idle, ap told (turn_idles state file buffer none is))
    by_due (screen i) is = (served_by i _, ap told (turn-serves state file buffer none i is))

-- a turn that serves a read of bytes, whatever else stands in the state
module _ (state file buffer : List ℕ) (i : ℕ) (r : Read) (name : Byte r.name) (record' : Byte r.«record»)
    (serves : Serves state i r file buffer) where
  free_of : turn_ground state file buffer ≡ 0
  free_of = done_free state file buffer _ (ap told serves.turn)

  is-due : due state ≡ screen i
  is-due = served-due state file buffer i _ (ap told serves.turn)

  pub serves_may : MaySend (read_sent (read_of state i))
  serves_may =
      let there : read_of state i ≡ r = serves.stands in
      may-send state i (rw there name) (rw there record') is-due (turn_free state file buffer free_of).state

  pub serves_round : Bytes file → (n : ℕ) × TurnIsRound state file buffer i n
  serves_round fb = (mask state file buffer free_of i is-due serves_may fb, turn-round state file buffer free_of i is-due serves_may fb)

-- ---- nobody waits

module _ (state file buffer : List ℕ) where
  none_idles : NoneWaiting state → turn_ground state file buffer ≡ 0 → turn_on state file buffer ≡ (done idle, state, buffer, file)
  none_idles nobody' none =
      turn_idles state file buffer none ((due-is-next state (last-few state file buffer none)).none.1 nobody')

  -- whether a ground refuses it or not
  none-alters :
      NoneWaiting state →
      ((turn_on state file buffer).1 ≡ state) × ((turn_on state file buffer).2 ≡ buffer) × ((turn_on state file buffer).3 ≡ file)
  none-alters nobody' =
      by_case (eqb (turn_ground state file buffer) 0)
      (λ z. rw (none_idles nobody' (eqb-true _ _ z)) (refl, refl, refl))
      (λ z. rw (turn-refused state file buffer (eqb-false _ _ z)) (refl, refl, refl))

  idle-none : (turn_on state file buffer).0 ≡ done idle → NoneWaiting state
  idle-none e = by_due (due state) refl
    where
      none : turn_ground state file buffer ≡ 0
      none = done_free state file buffer idle e

      by_due : (d : Due) → due state ≡ d → NoneWaiting state
      by_due nobody is = (due-is-next state (last-few state file buffer none)).none.0 is
      by_due (screen j) is = idle_by j _ (sym e ∙ ap told (turn-serves state file buffer none j is))

pub idle-turns : IdleTurns
idle-turns state file buffer =
    record {
      nothing = none-alters state file buffer;
      says = λ nobody' none. ap told (none_idles state file buffer nobody' none);
      only = idle-none state file buffer;
    }

-- ---- the screen that is served

pub served-bytes : ServedBytes
unfolding served_by
served-bytes state file buffer i n e k other else =
    let none = done_free state file buffer (served i n) e in
    let is = served-due state file buffer i (done n) e in
    rw (turn-serves state file buffer none i is) (serving_byte state i k other (unfold place_of in else))

pub served-waits_no_more : ServedWaitsNoMore
unfolding served_by
served-waits_no_more state file buffer i n long e =
    let none = done_free state file buffer (served i n) e in
    let is = served-due state file buffer i (done n) e in
    let few : i < screens = (((due-is-next state (last-few state file buffer none)).next i).0 is).few in
    let within : place_of i < length state = unfold place_of in omega (arith, few, long) in
    rw (turn-serves state file buffer none i is)
    (record {
      last = serving_last state i (omega (arith, long));
      waits = serving_clears state i within;
      read = serving_read state i;
      others =
          λ j other.
          let same = serving_same state j i other in
          (same-waits state (after_serving state i) j same, same_read state (after_serving state i) j same);
    })
