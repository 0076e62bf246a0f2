-- Turns among the C calls: a turn that serves a screen is a permitted round, and another leaves the memory.
-- Assumes nothing.
use Prim.Native.Nat.{ℕ}
use native.Mathlib.Omega.{arith}
use mathlib.Core.Path.{◌≡◌, refl, sym, ap, ◌∙◌, subst}
use mathlib.Core.Logic.{◌≢◌}
use mathlib.Core.List.{List, [], ◌∷◌, ◌++◌, map, append-nil, append_assoc}
use mathlib.Core.Bool.{Bool, true, false}
use borrow.Author.Tests.{ne_eqb}
use Rattle.file.specs.Rules.Bytes.{Bytes, All, All.all_empty, All.all_next as also}
use Rattle.file.specs.Rules.Results.{refused, done, number_in}
use Rattle.file.specs.Rules.Cluster.{read_operation}
use Rattle.file.specs.Rules.Decode.{decode}
use Rattle.file.proofs.Bytes.{all_append}
use Rattle.file.proofs.Order.{both-next, both_false_left}
use Rattle.frame.specs.Rules.Reading.{parts}
use Rattle.cluster.specs.Rules.Round.{Answer}
use Rattle.master_slave.specs.Rules.Slaves.{next_epoch}
use Rattle.cluster.specs.Rules.MasterSlave.{address_sent, data_sent, round_sent}
use Rattle.master_slave.proofs.Kept.{next_epoch-byte}
use Rattle.naming.specs.Claims.Permitted.{MayAsk}
use Rattle.naming.specs.Claims.PermittedRounds.{Rounds, no_rounds, master_slave_next, address_of, of_other_lem, no_frames}
use Rattle.screens.specs.Rules.Screens.{read_of}
use Rattle.screens.specs.Rules.Turn.{idle, served_by, read_sent, turn_on}
use Rattle.ttpa.specs.Rules.Calls.{start_call, none_waited, turn_screen, turn_call}
use Rattle.demand.specs.Claims.Traces.{halfway_from, frame_call, singly}
use Rattle.demand.specs.Claims.DemandCalls.{CCall, ttpa_turn, GivenBytes, given-step, given-step_keeping, given-turn, Memory, returned}
use Rattle.demand.specs.Claims.DemandCalls.{memory_after, after_calls}
use Rattle.demand.specs.Claims.DemandCalls.{frames_served, turn_frames, permitted_frames, permitted_call, halfway_on, permitted, TakenByRounds}
use Rattle.demand.specs.Claims.DemandCalls.{started, is-step, is-step_keeping, arguments_of, arguments_of_all}
use Rattle.demand.specs.Claims.Turns.{Serves, TurnsFit, TurnsSendRounds, IsStepOrTurn, a_step, a_turn, TurnsPermitted, NoTurnWithin}
use Rattle.demand.specs.Claims.Turns.{OtherTurns, TurnSends, TurnBaptizesNobody, TurnPutsNobodyToSleep, ServedTurnsWake}
use Rattle.demand.specs.Claims.Renaming.{NoneBaptizes}
use Rattle.demand.specs.Claims.Renaming as baptism
use Rattle.demand.specs.Claims.Sleep.{NoneSleeps}
use Rattle.demand.specs.Claims.Sleep as sleep
use Rattle.demand.proofs.TurnFrames.{Serving, TurnCase, turned-away, idles, serves, turn_case, few, read_fits, read-may, served-is}
use Rattle.demand.proofs.TurnFrames.{frames-are}
use Rattle.demand.proofs.DemandCalls.{frames_alone}
use Rattle.demand.proofs.Permitted.{frames-sent, rounds-fit_calls}
use Rattle.demand.proofs.ServedTurn.{barred_within, may-between, closed_after, awake-after, wakes, baptizes_nobody}
use Rattle.demand.proofs.ServedTurn.{puts-nobody-to_sleep}

-- ---- who is served

-- a turn that serves, by the screen
record Served (file state answer : List ℕ) : Type 0 where
  screen : ℕ
  serving : Serving file state answer screen

refused-serves-none :
    {file state answer : List ℕ} {senders screen n : ℕ} → n ≢ 0 → turn_on state file answer ≡ (refused n, state, answer, file) →
    Serves file state answer senders screen → ⊥
unfolding turn_call number_in
refused-serves-none some e s = some (rw e at s.number)

idle-serves-none :
    {file state answer : List ℕ} {senders screen : ℕ} → turn_on state file answer ≡ (done idle, state, answer, file) →
    Serves file state answer senders screen → ⊥
unfolding turn_call turn_screen
idle-serves-none e s = rw e at s.told refl

served-by : {file state answer : List ℕ} {senders screen : ℕ} → Serves file state answer senders screen → Served file state answer
served-by {file} {state} {answer} s = by (turn_case file state answer)
  where
    by : TurnCase file state answer → Served file state answer
    by (turned-away some e) = absurd (refused-serves-none some e s)
    by (idles e) = absurd (idle-serves-none e s)
    by (serves {i} serving) = record { screen = i; serving = serving }

-- and told
pub serving-told :
    {file state answer : List ℕ} {i : ℕ} (senders screen : ℕ) → Serving file state answer i → Serves file state answer senders screen
unfolding turn_call number_in
serving-told {file} {state} {answer} {i} senders screen serving =
    record { number = rw (served-is serving); told = rw (served-is serving) (by (round_sent file (read_sent (read_of state i)) answer).0) }
  where
    by : (a : Answer) → turn_screen (done (served_by i a)) screen ≢ none_waited
    by (refused n) e = unfold turn_screen served_by none_waited in omega (arith, few serving, e)
    by (done mask) e = unfold turn_screen served_by none_waited in omega (arith, few serving, e)

-- ---- where a turn is permitted

pub other-turns : OtherTurns
unfolding permitted permitted_call halfway_on returned memory_after turn_call number_in
other-turns names m state answer senders screen none = by (turn_case m.file state answer)
  where
    by : TurnCase m.file state answer →
        (memory_after names m (ttpa_turn state answer senders screen) ≡ m) ×
        ((h : Bool) (calls : List CCall) → permitted h names m (ttpa_turn state answer senders screen ∷ calls) ≡ permitted h names m calls)
    by (turned-away {n} some e) = (rw e, λ h calls. rw (e, ne_eqb n 0 some) (both-next _ refl))
    by (idles e) = (rw e, λ h calls. unfold turn_frames frames_served permitted_frames halfway_from in rw e (both-next _ refl))
    by (serves serving) = absurd (none (serving-told senders screen serving))

turn-fits :
    (names : List ℕ) (m : Memory) (state answer : List ℕ) (senders screen : ℕ) → Bytes m.file → Bytes state → {i : ℕ} →
    Serving m.file state answer i → (calls : List CCall) →
    permitted false names m (ttpa_turn state answer senders screen ∷ calls) ≡
    permitted false names (memory_after names m (ttpa_turn state answer senders screen)) calls
unfolding permitted permitted_call halfway_on returned
turn-fits names m state answer senders screen fb sb serving calls =
    rw ((serving-told senders screen serving).number, may-between sb serving fb, closed_after sb serving fb) (both-next _ refl)

pub turns_fit : TurnsFit
turns_fit names m state answer senders screen fb sb calls =
    by (turn_case m.file state answer)
  where
    alone : (Serves m.file state answer senders screen → ⊥) →
        permitted false names m (ttpa_turn state answer senders screen ∷ calls) ≡
        permitted false names (memory_after names m (ttpa_turn state answer senders screen)) calls
    alone none =
        let (same, may) = other-turns names m state answer senders screen none in
        may false calls ∙ ap (λ (k : Memory). permitted false names k calls) (sym same)

    by : TurnCase m.file state answer →
        permitted false names m (ttpa_turn state answer senders screen ∷ calls) ≡
        permitted false names (memory_after names m (ttpa_turn state answer senders screen)) calls
    by (turned-away some e) = alone (refused-serves-none some e)
    by (idles e) = alone (idle-serves-none e)
    by (serves serving) = turn-fits names m state answer senders screen fb sb serving calls

pub no_turn-within : NoTurnWithin
unfolding permitted permitted_call returned
no_turn-within names m state answer senders screen sb s calls =
    rw (s.number, barred_within sb (served-by s).serving) (both_false_left _ refl)

pub turns-send-rounds : TurnsSendRounds
turns-send-rounds file state answer sb = by (turn_case file state answer)
  where
    by : TurnCase file state answer → Rounds (turn_frames file state answer)
    by (turned-away some e) = unfold turn_frames frames_served in rw e no_rounds
    by (idles e) = unfold turn_frames frames_served in rw e no_rounds
    by (serves {i} serving) =
        let may = read-may serving sb in
        let r = read_of state i in
        rw (frames-are serving)
        (unfold address_sent data_sent read_sent address_of in
        master_slave_next {a = parts (next_epoch (decode file).epoch) r.name r.file read_operation r.«record»}
        (record {
          epoch = next_epoch-byte (decode file).epoch;
          name = may.name;
          file = (read_fits serving).fits;
          operation = omega arith;
          «record» = may.«record»;
          not_to_all = λ is. (read_fits serving).named;
        })
        (MayAsk.read refl) (of_other_lem refl) no_rounds)

pub turn-sends : TurnSends
unfolding arguments_of_all arguments_of
turn-sends names m state answer senders screen =
    rw (append-nil (arguments_of m.file (ttpa_turn state answer senders screen)), frames_alone (turn_frames m.file state answer))
    (frames-sent (turn_frames m.file state answer))

step_given : {c : CCall} → IsStepOrTurn c → GivenBytes c
step_given (a_step is-step) = given-step
step_given (a_step is-step_keeping) = given-step_keeping
step_given (a_turn sb) = given-turn sb

module _
    (file : List ℕ) (b : Bytes file) (taken : TakenByRounds file) (names : List ℕ) (n : Bytes names) (run : List ℕ)
    (starts : (start_call names run).0 ≡ 0) where
  abbrev May : List CCall → Type 0
  May calls = permitted false names (started file names run) calls ≡ true

  one-fits : {calls : List CCall} → All GivenBytes calls → May calls → {c : CCall} → IsStepOrTurn c → May (calls ++ c ∷ [])
  unfolding arguments_of_all singly
  one-fits {calls} given may (a_step is) =
      rounds-fit_calls file b taken names n run starts calls given may [] no_rounds [] no_frames _ (also is all_empty)
  one-fits {calls} given may (a_turn {state} {answer} {senders} {screen} sb) =
      let m = after_calls names (started file names run) calls in
      rounds-fit_calls file b taken names n run starts calls given may
      (turn_frames m.file state answer) (turns-send-rounds m.file state answer sb)
      (ttpa_turn state answer senders screen ∷ []) (turn-sends names m state answer senders screen) [] all_empty

  all_fit : {calls : List CCall} → All GivenBytes calls → May calls → {turns : List CCall} → All IsStepOrTurn turns → May (calls ++ turns)
  all_fit {calls} given may all_empty = rw (append-nil calls) may
  all_fit {calls} given may (also {a = c} {l = cs} one rest) =
      subst May (append_assoc calls (c ∷ []) cs)
      (all_fit (all_append given (also (step_given one) all_empty)) (one-fits given may one) rest)

pub turns-permitted : TurnsPermitted
turns-permitted file b taken names n run starts calls given may more steps = all_fit file b taken names n run starts given may steps

-- ---- a turn neither baptizes nor puts to sleep

pub turn_baptizes_nobody : TurnBaptizesNobody
unfolding arguments_of
turn_baptizes_nobody names s p state answer senders screen fb sb =
    rw (frames_alone (turn_frames s.file state answer)) (by (turn_case s.file state answer))
  where
    by : TurnCase s.file state answer → NoneBaptizes names s p (map frame_call (turn_frames s.file state answer))
    by (turned-away some e) = unfold turn_frames frames_served in rw e baptism.no_calls
    by (idles e) = unfold turn_frames frames_served in rw e baptism.no_calls
    by (serves serving) = baptizes_nobody names s p fb sb serving

pub turn-puts-nobody-to_sleep : TurnPutsNobodyToSleep
unfolding arguments_of
turn-puts-nobody-to_sleep names s p state answer senders screen fb sb =
    rw (frames_alone (turn_frames s.file state answer)) (by (turn_case s.file state answer))
  where
    by : TurnCase s.file state answer → NoneSleeps names s p (map frame_call (turn_frames s.file state answer))
    by (turned-away some e) = unfold turn_frames frames_served in rw e sleep.no_calls
    by (idles e) = unfold turn_frames frames_served in rw e sleep.no_calls
    by (serves serving) = puts-nobody-to_sleep names s p fb sb serving

-- ---- who is awake after a turn

pub served-turns_wake : ServedTurnsWake
unfolding turn_call
served-turns_wake file state answer senders screen fb sb s =
    let serving = (served-by s).serving in (wakes sb serving fb, awake-after sb serving fb)
