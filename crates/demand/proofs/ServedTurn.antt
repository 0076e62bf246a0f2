-- A turn that serves a screen: both its frames are accepted, where no round is half done they are permitted, they neither baptize nor put
-- to sleep, and all are awake after them.
-- Assumes nothing.
use Prim.Native.Nat.{ℕ, ◌+◌, ◌*◌}
use native.Mathlib.Omega.{arith}
use mathlib.Core.Path.{◌≡◌, refl, sym, ap, ◌∙◌, subst}
use mathlib.Core.Logic.{◌≢◌}
use mathlib.Core.List.{List, map}
use mathlib.Core.Bool.{Bool, true, false, cond}
use lib.ListN.{replicate}
use lib.Dec.{eqb}
use Rattle.file.specs.Rules.Bytes.{Bytes}
use Rattle.file.specs.Rules.Results.{refused, done, number_in}
use Rattle.file.specs.Rules.Cluster.{pb2_of, operation_of, read_operation, execute_operation, configuration}
use Rattle.file.specs.Rules.Decode.{decode}
use Rattle.file.proofs.Order.{both_true, both_false_left, both_false_right, either_left}
use Rattle.frame.specs.Rules.Fireworks.{msd, msa, round_of, round_in}
use Rattle.frame.specs.Rules.Frames.{frame_of, address_bytes, address_frame}
use Rattle.master_slave.specs.Rules.Bus.{slots}
use Rattle.cluster.specs.Rules.RoundGrounds.{round_by_lem}
use Rattle.cluster.specs.Rules.Round.{Answer, round_ground, round_on}
use Rattle.cluster.specs.Rules.MasterSlave.{address_sent, data_sent, round_sent}
use Rattle.cluster.specs.Claims.Pending.{AcceptedMsa}
use Rattle.cluster.specs.Claims.Sleep.{AllAwake, PutsToSleep}
use Rattle.cluster.proofs.Rounds.{round-bytes}
use Rattle.cluster.proofs.Sent.{round-fits}
use Rattle.cluster.proofs.SentRounds.{address-accepted, address-sent-bytes, data-sent-bytes}
use Rattle.cluster.proofs.Sleep.{data-wakes}
use Rattle.cluster.proofs.StaysPending.{msa-becomes-pending}
use Rattle.trace.specs.Rules.TraceRun.{sent}
use Rattle.trace.specs.Claims.Sleep.{sent_ground}
use Rattle.trace.proofs.Runs.{sent_any}
use Rattle.naming.specs.Rules.Position.{Position}
use Rattle.naming.specs.Claims.Demand.{State, call_on, halfway_after, changes_configuration, permitted_address, permitted_frame}
use Rattle.naming.proofs.Lists.{accepted-halfway}
use Rattle.naming.proofs.Unasked.{frame-plain}
use Rattle.screens.specs.Rules.Screens.{read_of}
use Rattle.screens.specs.Rules.Turn.{served_by, read_sent, turn_on}
use Rattle.screens.specs.Claims.Turns.{TurnIsRound}
use Rattle.screens.proofs.Turns.{turns-are-rounds}
use Rattle.demand.specs.Claims.Traces.{halfway_from, frame_call}
use Rattle.demand.specs.Claims.DemandCalls.{turn_frames, permitted_frames}
use Rattle.demand.specs.Claims.Sleep.{SomeWakes, this_one, later_one, NoneSleeps}
use Rattle.demand.specs.Claims.Sleep as sleep
use Rattle.demand.specs.Claims.Renaming.{NoneBaptizes}
use Rattle.demand.specs.Claims.Renaming as baptism
use Rattle.demand.proofs.Traces.{zeros-long}
use Rattle.demand.proofs.TurnFrames.{Serving, still_long, free, read-may, served-is, frames-are}
use Rattle.demand.proofs.DemandCalls.{round_number}

no_msa : msd ≢ msa
no_msa e = let z : ◌≡◌ {A = ℕ} 0 1 = cc in omega arith

-- the mask that a turn tells
pub record Made (file state answer : List ℕ) (i : ℕ) : Type 0 where
  pub mask : ℕ
  pub round : TurnIsRound state file answer i mask

pub made : {file state answer : List ℕ} {i : ℕ} → Bytes file → Bytes state → Serving file state answer i → Made file state answer i
made {file} {state} {answer} {i} fb sb serving = by (round_sent file (read_sent (read_of state i)) answer).0 refl
  where
    by : (a : Answer) → (round_sent file (read_sent (read_of state i)) answer).0 ≡ a → Made file state answer i
    by (refused n) e =
        record { mask = 0; round = turns-are-rounds state file answer i 0 sb fb (rw (served-is serving, e) (unfold served_by in refl)) }
    by (done mask) e =
        record {
          mask = mask;
          round = turns-are-rounds state file answer i mask sb fb (rw (served-is serving, e) (unfold served_by in refl));
        }

module _ {file state answer : List ℕ} {i : ℕ} (sb : Bytes state) (serving : Serving file state answer i) where
  abbrev address : List ℕ
  address = address_sent (decode file) (read_sent (read_of state i))

  abbrev content : List ℕ
  content = data_sent (read_sent (read_of state i))

  -- ---- the MSA, with an answer buffer of 64 bytes

  address-sent : sent_ground file address ≡ 0
  address-sent =
      round-fits file address (replicate slots 0) (free serving).accepted zeros-long
      (address-accepted (decode file) (read_sent (read_of state i)) (read-may serving sb))

  address_is : round_by_lem address ≡ msa
  unfolding address_sent address_frame frame_of round_by_lem round_of round_in
  address_is = refl

  -- it asks for a read
  address-may : permitted_address address ≡ true
  unfolding permitted_address changes_configuration address_sent address_frame address_bytes frame_of read_sent pb2_of
  address-may =
      let file : ℕ = (read_of state i).file in
      let reads : operation_of (4 * file + read_operation) ≡ read_operation = omega arith in
      rw reads (either_left _ (rw (both_false_right _ refl)))

  -- within a round of others it is not permitted
  pub barred_within : permitted_frames true file (turn_frames file state answer) ≡ false
  unfolding permitted_frames sent
  barred_within =
      rw (frames-are serving, round_number file address (replicate slots 0), address-sent, address_is)
      (unfold permitted_frame in both_false_left _ refl)

  module _ (fb : Bytes file) where
    abbrev first : Answer × List ℕ × List ℕ
    first = round_on file address answer

    -- ---- the MSD, on the file that the MSA leaves

    content-is : round_by_lem content ≡ msd
    unfolding data_sent read_sent round_by_lem round_of round_in
    content-is = refl

    content-taken : round_ground first.2 content first.1 ≡ 0
    unfolding round_sent number_in
    content-taken =
        sym (round_number first.2 content first.1) ∙ ap (λ (a : Answer). number_in a) (made fb sb serving).round.answer

    -- with an answer buffer of 64 bytes
    content-sent : sent_ground (sent file address).2 content ≡ 0
    unfolding sent
    content-sent =
        let long = (free serving).long in
        let same = (sent_any first.2 content first.1 (still_long file address answer long)).answer in
        subst (λ (f : List ℕ). sent_ground f content ≡ 0) (sent_any file address answer long).file
        (sym (round_number first.2 content (replicate slots 0)) ∙ ap (λ (a : Answer). number_in a) (sym same)
        ∙ round_number first.2 content first.1 ∙ content-taken)

    -- ---- both

    opened : halfway_after false (sent file address).0 (round_by_lem address) ≡ true
    unfolding sent
    opened = accepted-halfway false file address (replicate slots 0) msa address-sent address_is ∙ unfold halfway_after in refl

    address-fits : permitted_frame false (round_by_lem address) address ≡ true
    unfolding permitted_frame
    address-fits = rw address_is address-may

    content-fits : permitted_frame true (round_by_lem content) content ≡ true
    unfolding permitted_frame
    content-fits = rw content-is

    pub may-between : permitted_frames false file (turn_frames file state answer) ≡ true
    unfolding permitted_frames
    may-between =
        rw (frames-are serving, opened)
        (both_true (may file address address-sent address-fits)
        (both_true (may (sent file address).2 content content-sent content-fits) refl))
      where
        may : (f x : List ℕ) {b : Bool} → sent_ground f x ≡ 0 → b ≡ true → cond (eqb (number_in (sent f x).0) 0) b true ≡ true
        may f x taken is = unfold sent in rw (round_number f x (replicate slots 0), taken, is)

    pub closed_after : halfway_from false file (turn_frames file state answer) ≡ false
    unfolding halfway_from sent
    closed_after =
        rw (frames-are serving)
        (accepted-halfway _ (sent file address).2 content (replicate slots 0) msd content-sent content-is ∙ unfold halfway_after in refl)

    -- ---- who is awake

    -- a read is pending after the MSA, and no execute
    asks-no-execute :
        (buffer : List ℕ) → round_ground file address buffer ≡ 0 →
        (decode (round_on file address buffer).2).pending_pb2 ≡ pb2_of configuration execute_operation → ⊥
    unfolding address_sent address_frame address_bytes frame_of read_sent pb2_of
    asks-no-execute buffer taken execute =
        let accepted : AcceptedMsa file address buffer = record { is_msa = address_is; accepted = taken } in
        let asked = msa-becomes-pending file address buffer fb (address-sent-bytes (decode file) _ (read-may serving sb)) accepted in
        omega (arith, execute, asked.pending.is_pb2)

    sleeps-nobody : (name : ℕ) → PutsToSleep first.2 content first.1 name → ⊥
    sleeps-nobody name asleep = asks-no-execute answer (made fb sb serving).round.address asleep.pending.is_pb2

    pub awake-after : AllAwake (turn_on state file answer).3
    unfolding round_sent
    awake-after =
        let may = read-may serving sb in
        rw (served-is serving)
        (data-wakes first.2 content first.1 (round-bytes file address answer fb (address-sent-bytes (decode file) _ may))
        (data-sent-bytes (decode file) _ may) content-taken content-is sleeps-nobody)

    pub wakes : SomeWakes file (turn_frames file state answer)
    wakes = rw (frames-are serving) (later_one (this_one content-sent (λ is. no_msa (sym content-is ∙ is))))

-- ---- what its frames do, each with an answer buffer of 64 bytes

module _
    (names : List ℕ) (s : State) (p : Position) {state answer : List ℕ} {i : ℕ} (fb : Bytes s.file) (sb : Bytes state)
    (serving : Serving s.file state answer i) where
  abbrev msa_sent : List ℕ
  msa_sent = address_sent (decode s.file) (read_sent (read_of state i))

  -- the MSD comes on the file that the MSA leaves
  msa_leaves : (call_on names s p (frame_call msa_sent)).0.file ≡ (round_on s.file msa_sent (replicate slots 0)).2
  unfolding frame_call
  msa_leaves = ap (λ (w : State × Position). w.0.file) (frame-plain names s p msa_sent (replicate slots 0))

  no_execute : (decode (call_on names s p (frame_call msa_sent)).0.file).pending_pb2 ≡ pb2_of configuration execute_operation → ⊥
  no_execute execute =
      asks-no-execute sb serving fb (replicate slots 0) (address-sent sb serving)
      (subst (λ (f : List ℕ). (decode f).pending_pb2 ≡ pb2_of configuration execute_operation) msa_leaves execute)

  no_data : round_by_lem msa_sent ≡ msd → ⊥
  no_data is = no_msa (sym is ∙ address_is sb serving)

  pub baptizes_nobody : NoneBaptizes names s p (map frame_call (turn_frames s.file state answer))
  unfolding frame_call
  baptizes_nobody =
      rw (frames-are serving)
      (baptism.one_more_lem (baptism.in_frame (λ g name b. no_data b.is_msd))
      (baptism.one_more_lem (baptism.in_frame (λ g name b. no_execute b.pending.is_pb2)) baptism.no_calls))

  pub puts-nobody-to_sleep : NoneSleeps names s p (map frame_call (turn_frames s.file state answer))
  unfolding frame_call
  puts-nobody-to_sleep =
      rw (frames-are serving)
      (sleep.one_more_lem (sleep.in_frame (λ g name b. no_data b.is_msd))
      (sleep.one_more_lem (sleep.in_frame (λ g name b. no_execute b.pending.is_pb2)) sleep.no_calls))
