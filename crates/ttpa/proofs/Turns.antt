-- Turns over the C calls: a turn is ttpa_write_address and two calls of ttpa_round, and the lists of calls are those over states and files.
-- Assumes nothing.
use Prim.Native.Nat.{ℕ, ◌+◌, ◌≤◌}
use mathlib.Core.Path.{◌≡◌, refl, sym, ap, ◌∙◌, subst}
use mathlib.Core.List.{List, [], ◌∷◌, map}
use mathlib.Core.Bool.{true, cond}
use native.Mathlib.Omega.{arith}
use lib.ListN.{length, drop, replicate, drop_of_length-le}
use lib.Dec.{eqb}
use borrow.Author.Tests.{eqb-true, eqb-false}
use Rattle.file.specs.Rules.Bytes.{Byte, Bytes, All, all_empty, all_next}
use Rattle.file.specs.Rules.Order.{first_of, both, either}
use Rattle.file.specs.Rules.Results.{Result, refused, done, result_of, number_in}
use Rattle.file.specs.Rules.FileGrounds.{file_ground}
use Rattle.file.specs.Rules.Cluster.{read_operation}
use Rattle.file.specs.Rules.Decode.{decode}
use Rattle.file.proofs.Order.{by_case}
use Rattle.file.proofs.Bytes.{byte_at}
use Rattle.frame.specs.Rules.Frames.{frame_size, frame_of, address_bytes, address_frame}
use Rattle.frame.specs.Rules.FrameGrounds.{no_file_number, broadcast_read}
use Rattle.frame.proofs.Written.{write-fits, address-writes}
use Rattle.master_slave.specs.Rules.Bus.{slots}
use Rattle.cluster.specs.Rules.Round.{Answer}
use Rattle.master_slave.specs.Rules.Slaves.{next_epoch}
use Rattle.cluster.specs.Rules.MasterSlave.{address_sent, data_sent, round_sent}
use Rattle.cluster.specs.Inner.Sending.{MaySend}
use Rattle.screens.specs.Rules.Screens.{last_served, place_of, is_waiting, Read, read_by, read_of, Due, nobody, due, no_screen, read_grounds}
use Rattle.screens.specs.Rules.Screens.{post_ground, post_on}
use Rattle.screens.specs.Rules.Screens as Screens
use Rattle.screens.specs.Rules.Turn.{Turn, idle, served, served_by, read_sent, after_serving, turn_ground, turn_on}
use Rattle.screens.specs.Claims.Turns.{DueExactly, TurnIsRound, WaitsNoMore}
use Rattle.screens.specs.Claims.Fairness.{all_waiting}
use Rattle.screens.specs.Claims.Fairness as Fairness
use Rattle.screens.proofs.ScreenGrounds.{turn-refused, turn_free, state_last}
use Rattle.screens.proofs.Due.{due-is-next, starts-at_zero}
use Rattle.screens.proofs.Names.{turn_keeps_summary}
use Rattle.screens.proofs.Turns as turns
use Rattle.screens.proofs.Posts.{post-accepted, post-ground, post-waits}
use Rattle.screens.proofs.Fairness as fairness
use Rattle.screens.proofs.Eighth.{eight-turns, first-turn, eight_with_post, seven_waiting, posted_then_eight}
use Rattle.ttpa.specs.Rules.Calls.{lent_after, write_address_call, round_call, screens_call, post_call, none_waited, turn_screen, turn_senders, turn_call}
use Rattle.ttpa.specs.Claims.Turns.{ScreensStart, PostNumbers, TurnNumbers, PostTaken, ServedWaitsNoMore}
use Rattle.ttpa.specs.Claims.Turns.{read_frame, both_frames, ReadByRounds, ServesRead, TurnDone, serves, none_waits}
use Rattle.ttpa.specs.Claims.Turns.{TurnsAreRounds, TurnKeepsSummary, ScreenCall, ttpa_post, ttpa_turn, state_after, accepted_by}
use Rattle.ttpa.specs.Claims.Turns.{accepted_turns}
use Rattle.ttpa.specs.Claims.Turns.{FileOfBytes, in_turn, ServedWithin, now, later, FairOverCalls, PostedIsServed}
use Rattle.ttpa.proofs.Numbers.{round_number, post-number, turn-number}

-- ---- a turn that serves a read is its two frames

-- the frame that ttpa_write_address writes into six bytes
frame-written :
    (file : List ℕ) (r : Read) (frame : List ℕ) → length frame ≡ frame_size → MaySend (read_sent r) →
    read_frame file r frame ≡ (0, address_sent (decode file) (read_sent r))
unfolding write_address_call address_sent address_frame address_bytes frame_of read_sent number_in
frame-written file r frame six may =
    let fits = write-fits frame r.name r.file read_operation (omega (arith, six)) may.operation may.broadcast may.file in
    let none : drop frame_size frame ≡ [] = drop_of_length-le frame {i = frame_size} (omega (arith, six)) in
    rw (address-writes frame (next_epoch (decode file).epoch) r.name r.file read_operation r.«record» fits, none)

both-frames :
    (file : List ℕ) (r : Read) (frame answer : List ℕ) (senders n : ℕ) →
    read_frame file r frame ≡ (0, address_sent (decode file) (read_sent r)) →
    (round_sent file (read_sent r) answer).0 ≡ done n →
    both_frames file r frame answer senders ≡ (0, n, (round_sent file (read_sent r) answer).1, (round_sent file (read_sent r) answer).2)
unfolding round_call lent_after number_in round_sent data_sent read_sent
both-frames file r frame answer senders n written carried = rw (written, carried)

module _ (file state answer : List ℕ) (senders screen i : ℕ) where
  turn-told :
      (n : ℕ) → TurnIsRound state file answer i n →
      turn_call file state answer senders screen ≡ (
        0,
        n,
        i,
        after_serving state i,
        (round_sent file (read_sent (read_of state i)) answer).1,
        (round_sent file (read_sent (read_of state i)) answer).2,
      )
  unfolding turn_call turn_senders turn_screen number_in
  turn-told n round = rw round.turn

  by-rounds :
      (frame : List ℕ) → length frame ≡ frame_size → MaySend (read_sent (read_of state i)) → (n : ℕ) → TurnIsRound state file answer i n →
      ReadByRounds file state answer senders screen i (read_of state i) frame
  by-rounds frame six may n round =
      let written = frame-written file (read_of state i) frame six may in
      let both = both-frames file (read_of state i) frame answer senders n written round.answer in
      record {
        written = ap (λ (w : ℕ × List ℕ). w.0) written;
        first = rw written (round_number file (address_sent (decode file) (read_sent (read_of state i))) answer senders ∙ round.address);
        second = ap (λ (p : ℕ × ℕ × List ℕ × List ℕ). p.0) both;
        turn = rw both (turn-told n round);
      }

  pub serves-read :
      (r : Read) → Byte r.name → Byte r.«record» → Bytes file → Fairness.Serves state i r file answer →
      ServesRead file state answer senders screen i r
  serves-read r name record' fb given =
      let (n, round) = turns.serves_round state file answer i r name record' given fb in
      let may = turns.serves_may state file answer i r name record' given in
      subst (λ (q : Read). ServesRead file state answer senders screen i q) given.stands (λ frame six. by-rounds frame six may n round)

pub turns-are-rounds : TurnsAreRounds
turns-are-rounds file state answer senders told fb sb e = by_due (due state) refl
  where
    none : turn_ground state file answer ≡ 0
    none = sym (turn-number file state answer senders told) ∙ e

    due_exactly : DueExactly state
    due_exactly = due-is-next state (state_last state (turn_free state file answer none).state)

    by_due : (d : Due) → due state ≡ d → TurnDone file state answer senders told
    by_due nobody is =
        none_waits (due_exactly.none.0 is)
        (unfold turn_call turn_senders turn_screen none_waited number_in in rw (turns.turn_idles state file answer none is))
    by_due (Screens.screen i) is =
        let given : Fairness.Serves state i (read_of state i) file answer =
        record { stands = refl; turn = turns.turn-serves state file answer none i is } in
        let name : Byte (read_of state i).name = unfold read_of in byte_at sb (place_of i + 1) in
        let record' : Byte (read_of state i).«record» = unfold read_of in byte_at sb (place_of i + 3) in
        serves ((due_exactly.next i).0 is) (serves-read file state answer senders told i (read_of state i) name record' fb given)

-- ---- the start, a post, and a screen that is served

pub post-numbers : PostNumbers
post-numbers = post-number

pub turn-numbers : TurnNumbers
turn-numbers = turn-number

pub screens-start : ScreensStart
unfolding screens_call
screens-start state = starts-at_zero

post-answered :
    (state : List ℕ) (i name file «record» : ℕ) → (post_call state i name file «record»).0 ≡ 0 →
    (post_on state i (read_by name file «record»)).0 ≡ done tt
post-answered state i name file record' e =
    ap (λ (p : Result (Unit {0}) × List ℕ). p.0)
    (post-accepted state i (read_by name file record') (sym (post-number state i name file record') ∙ e))

pub post-taken-call : PostTaken
unfolding post_call
post-taken-call state i name file record' long e =
    post-waits state i (read_by name file record') long (post-answered state i name file record' e)

-- whatever the answer to the data frame, a served screen is told
served-told : (i : ℕ) (a : Answer) → (n : ℕ) × (served_by i a ≡ served i n)
unfolding served_by
served-told i (refused n) = (0, refl)
served-told i (done n) = (n, refl)

module _ (file state answer : List ℕ) (senders told : ℕ) where
  idle-told : (turn_on state file answer).0 ≡ done idle → (turn_call file state answer senders told).2 ≡ 8
  unfolding turn_call turn_screen none_waited
  idle-told is = rw is

  screen-told : (i n : ℕ) → (turn_on state file answer).0 ≡ done (served i n) → (turn_call file state answer senders told).2 ≡ i
  unfolding turn_call turn_screen
  screen-told i n is = rw is

  no_more :
      (i n : ℕ) → length state ≡ 33 → (turn_on state file answer).0 ≡ done (served i n) →
      WaitsNoMore state i (turn_call file state answer senders told).3
  unfolding turn_call
  no_more i n long is = turns.served-waits_no_more state file answer i n long is

-- what a turn answers
abbrev answered : Result Turn × List ℕ × List ℕ × List ℕ → Result Turn
answered t = t.0

pub served-waits_no_more_call : ServedWaitsNoMore
served-waits_no_more_call file state answer senders told long e few = by_due (due state) refl
  where
    none : turn_ground state file answer ≡ 0
    none = sym (turn-number file state answer senders told) ∙ e

    by_due :
        (d : Due) → due state ≡ d →
        WaitsNoMore state (turn_call file state answer senders told).2 (turn_call file state answer senders told).3
    by_due nobody is =
        let eight = idle-told file state answer senders told (ap answered (turns.turn_idles state file answer none is)) in
        absurd (omega (arith, eight, few))
    by_due (Screens.screen i) is =
        let (n, by) = served-told i (round_sent file (read_sent (read_of state i)) answer).0 in
        let done' : (turn_on state file answer).0 ≡ done (served i n) =
        ap answered (turns.turn-serves state file answer none i is) ∙ ap done by in
        subst (λ (j : ℕ). WaitsNoMore state j (turn_call file state answer senders told).3)
        (sym (screen-told file state answer senders told i n done')) (no_more file state answer senders told i n long done')

pub turn_keeps_summary-call : TurnKeepsSummary
unfolding turn_call
turn_keeps_summary-call file state answer senders told held count fb sb m = turn_keeps_summary state file answer _ sb fb m

-- ---- lists of calls

call_of : ScreenCall → Fairness.Call
call_of (ttpa_post screen name file «record») = Fairness.post screen (read_by name file «record»)
call_of (ttpa_turn file answer senders screen) = Fairness.turn file answer

same_state : (state : List ℕ) (c : ScreenCall) → Fairness.state_after state (call_of c) ≡ state_after state c
unfolding state_after Fairness.state_after call_of post_call turn_call
same_state state (ttpa_post screen name file «record») = refl
same_state state (ttpa_turn file answer senders screen) = refl

counted :
    (state file answer : List ℕ) (senders told : ℕ) →
    Fairness.one_if_done (turn_on state file answer).0 ≡ cond (eqb (turn_call file state answer senders told).0 0) 1 0
unfolding Fairness.one_if_done
counted state file answer senders told =
    by_case (eqb (turn_ground state file answer) 0)
    (λ t.
    let (u, made) = turns.turn-done state file answer (eqb-true _ _ t) in
    rw (turn-number file state answer senders told, t, made))
    (λ t. rw (turn-number file state answer senders told, t, turn-refused state file answer (eqb-false _ _ t)))

same_count : (state : List ℕ) (c : ScreenCall) → Fairness.accepted_by state (call_of c) ≡ accepted_by state c
unfolding accepted_by Fairness.accepted_by call_of
same_count state (ttpa_post screen name file «record») = refl
same_count state (ttpa_turn file answer senders screen) = counted state file answer senders screen

same-turns : (state : List ℕ) (cs : List ScreenCall) → Fairness.accepted_turns state (map call_of cs) ≡ accepted_turns state cs
unfolding accepted_turns Fairness.accepted_turns
same-turns state [] = refl
same-turns state (c ∷ cs) = rw (same_count state c, same_state state c, same-turns (state_after state c) cs)

module _ (i : ℕ) (r : Read) (name : Byte r.name) (record' : Byte r.«record») where
  still-waits :
      (state : List ℕ) (c : ScreenCall) → is_waiting (Fairness.state_after state (call_of c)) i ≡ true → is_waiting (state_after state c) i ≡ true
  still-waits state c w = subst (λ (x : List ℕ). is_waiting x i ≡ true) (same_state state c) w

  still_read : (state : List ℕ) (c : ScreenCall) → read_of (Fairness.state_after state (call_of c)) i ≡ r → read_of (state_after state c) i ≡ r
  still_read state c q = subst (λ (x : List ℕ). read_of x i ≡ r) (same_state state c) q

  over-calls :
      {n : ℕ} {state : List ℕ} (cs : List ScreenCall) → All FileOfBytes cs → Fairness.ServedWithin i r n state (map call_of cs) →
      ServedWithin i r n state cs
  unfolding call_of
  over-calls [] _ never = elim never [ ]
  over-calls {n = n} {state = state} (ttpa_post screen name file «record» ∷ cs) (all_next b bs) (Fairness.later {m = m} l w q s) =
      let c : ScreenCall = ttpa_post screen name file «record» in
      let bound : accepted_by state c + m ≤ n = rw (same_count state c) at l in
      later bound (still-waits state c w) (still_read state c q)
      (over-calls {n = m} cs bs (subst (λ (x : List ℕ). Fairness.ServedWithin i r m x (map call_of cs)) (same_state state c) s))
  over-calls {state = state} (ttpa_turn file answer senders screen ∷ cs) (all_next (in_turn fb) bs) (Fairness.now s) =
      now s.stands (serves-read file state answer senders screen i r name record' fb s)
  over-calls {n = n} {state = state} (ttpa_turn file answer senders screen ∷ cs) (all_next b bs) (Fairness.later {m = m} l w q s) =
      let c : ScreenCall = ttpa_turn file answer senders screen in
      let bound : accepted_by state c + m ≤ n = rw (same_count state c) at l in
      later bound (still-waits state c w) (still_read state c q)
      (over-calls cs bs (subst (λ (x : List ℕ). Fairness.ServedWithin i r m x (map call_of cs)) (same_state state c) s))

pub fair_over_calls : FairOverCalls
fair_over_calls state sb i few waits calls bytes enough =
    let name : Byte (read_of state i).name = unfold read_of in byte_at sb (place_of i + 1) in
    let record' : Byte (read_of state i).«record» = unfold read_of in byte_at sb (place_of i + 3) in
    over-calls i (read_of state i) name record' calls bytes
    (fairness.fair state i few waits (map call_of calls) (rw (same-turns state calls) enough))

pub posted-is-served : PostedIsServed
unfolding post_call
posted-is-served state long i name file record' nb rb e calls bytes enough =
    let taken = post-answered state i name file record' e in
    over-calls i (read_by name file record') nb rb calls bytes
    (fairness.posted-is-served state long i (read_by name file record') taken (map call_of calls) (rw (same-turns _ calls) enough))

-- ---- what the claims on fairness ask can be met: eight turns in a row that return 0, and eight with a post between them

-- the screen that the first turn serves posts again: ttpa_post takes it, and the turns after it are accepted
pub record PostBetween (file answer : List ℕ) : Type 0 where
  pub taken : (post_call (state_after all_waiting (ttpa_turn file answer 0 0)) 1 1 1 1).0 ≡ 0
  pub accepted :
      accepted_turns all_waiting (ttpa_turn file answer 0 0 ∷ ttpa_post 1 1 1 1 ∷ replicate 7 (ttpa_turn file answer 0 0)) ≡ 8

-- the post first, and eight turns behind it
pub record PostedThenEight (file answer : List ℕ) : Type 0 where
  pub taken : (post_call seven_waiting 1 1 1 1).0 ≡ 0
  pub accepted : accepted_turns (post_call seven_waiting 1 1 1 1).1 (replicate 8 (ttpa_turn file answer 0 0)) ≡ 8
  pub served : ServedWithin 1 (read_by 1 1 1) 8 (post_call seven_waiting 1 1 1 1).1 (replicate 8 (ttpa_turn file answer 0 0))

post-taken : (post_call (after_serving all_waiting 1) 1 1 1 1).0 ≡ 0
unfolding post_call post_on post_ground after_serving is_waiting last_served place_of no_screen read_grounds no_file_number broadcast_read first_of either both result_of number_in
post-taken = refl

module _ (file answer : List ℕ) (good : file_ground file ≡ 0) (long : slots ≤ length answer) where
  pub eight-turns_over_calls : accepted_turns all_waiting (replicate 8 (ttpa_turn file answer 0 0)) ≡ 8
  unfolding call_of
  eight-turns_over_calls = sym (same-turns all_waiting (replicate 8 (ttpa_turn file answer 0 0))) ∙ eight-turns file answer good long

  first-left : state_after all_waiting (ttpa_turn file answer 0 0) ≡ after_serving all_waiting 1
  unfolding call_of
  first-left = sym (same_state all_waiting (ttpa_turn file answer 0 0)) ∙ first-turn file answer good long

  pub post-between_over_calls : PostBetween file answer
  unfolding call_of
  post-between_over_calls =
      record {
        taken = ap (λ (s : List ℕ). (post_call s 1 1 1 1).0) first-left ∙ post-taken;
        accepted =
            sym (same-turns all_waiting (ttpa_turn file answer 0 0 ∷ ttpa_post 1 1 1 1 ∷ replicate 7 (ttpa_turn file answer 0 0)))
            ∙ eight_with_post file answer good long;
      }

  -- the one screen that does not wait posts, and the eighth turn behind the post serves it
  pub posted_then_eight_over_calls : Bytes file → PostedThenEight file answer
  unfolding call_of post_call
  posted_then_eight_over_calls fb =
      let turns : List ScreenCall = replicate 8 (ttpa_turn file answer 0 0) in
      let given = posted_then_eight file answer good long in
      let taken : (post_call seven_waiting 1 1 1 1).0 ≡ 0 =
      post-number seven_waiting 1 1 1 1 ∙ post-ground seven_waiting 1 (read_by 1 1 1) given.taken in
      let accepted : accepted_turns (post_call seven_waiting 1 1 1 1).1 turns ≡ 8 =
      sym (same-turns (post_on seven_waiting 1 (read_by 1 1 1)).1 turns) ∙ given.accepted in
      let by : FileOfBytes (ttpa_turn file answer 0 0) = in_turn fb in
      let bytes : All FileOfBytes turns =
      all_next by (all_next by (all_next by (all_next by (all_next by (all_next by (all_next by (all_next by all_empty))))))) in
      record {
        taken = taken;
        accepted = accepted;
        served = posted-is-served seven_waiting refl 1 1 1 1 (omega arith) (omega arith) taken turns bytes (omega (arith, accepted));
      }
