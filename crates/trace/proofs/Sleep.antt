-- Who is awake after a trace: frame by frame, from what one frame does.
-- Assumes nothing.
use Rattle.std.proofs.Common.{ℕ, arith, ◌≡◌, refl, sym, ap, ◌∙◌, subst, ◌≢◌, List, replicate, eqb, eqb-true}
use borrow.Author.Tests.{eqb-false}
use Rattle.file.specs.Rules.Bytes.{All, all_empty, all_next, Bytes}
use Rattle.file.specs.Rules.Cluster.{Slave}
use Rattle.file.specs.Rules.Decode.{decode}
use Rattle.file.proofs.Order.{by_case}
use Rattle.frame.specs.Rules.Fireworks.{Round, multipartner, msd, msa, no_round}
use Rattle.master_slave.specs.Rules.Bus.{slots}
use Rattle.cluster.specs.Rules.RoundGrounds.{round_by_lem}
use Rattle.cluster.specs.Inner.EachGround.{frame_ground}
use Rattle.cluster.specs.Rules.Round.{round_ground, round_on}
use Rattle.cluster.specs.Claims.Sleep.{AllAwake, PutsToSleep}
use Rattle.cluster.proofs.Rounds.{round_facts, round-refused, round-bytes}
use Rattle.cluster.proofs.Sleep.{data-wakes, multipartner-wakes, address-wakes-nobody}
use Rattle.trace.specs.Rules.Trace.{frame_count, frames_of}
use Rattle.trace.specs.Rules.TraceRun.{sent, after_frames, trace_ground, trace_on}
use Rattle.trace.specs.Claims.Sleep.{EachSent, none_left_lem, one_sent, NoSleep, Woken, woken, later, TraceWakes, TraceStaysAwake, OnlyAddress, AddressesWakeNobody}
use Rattle.trace.proofs.Runs.{none-fits, frames-bytes}
use Rattle.trace.proofs.Calls.{trace-refused, trace-run}

-- ---- one frame, answered into any buffer

module _ (file frame buffer : List ℕ) (b : Bytes file) (fb : Bytes frame) where
  has-round : round_ground file frame buffer ≡ 0 → round_by_lem frame ≢ no_round
  unfolding frame_ground
  has-round accepted = none-fits (decode file) (round_by_lem frame) frame (round_facts file frame buffer accepted).fits

  refused-same : round_ground file frame buffer ≢ 0 → (round_on file frame buffer).2 ≡ file
  refused-same some = rw (round-refused file frame buffer some)

  address_same : round_ground file frame buffer ≡ 0 → round_by_lem frame ≡ msa →
      (decode (round_on file frame buffer).2).slaves ≡ (decode file).slaves
  address_same accepted is = address-wakes-nobody file frame buffer b fb accepted is

  pub frame-wakes : round_ground file frame buffer ≡ 0 → round_by_lem frame ≢ msa → ((name : ℕ) → PutsToSleep file frame buffer name → ⊥) →
      AllAwake (round_on file frame buffer).2
  frame-wakes accepted other none = by (round_by_lem frame) refl
    where
      by : (round : Round) → round_by_lem frame ≡ round → AllAwake (round_on file frame buffer).2
      by (multipartner r) is = multipartner-wakes file frame buffer r b fb accepted is
      by msd is = data-wakes file frame buffer b fb accepted is none
      by msa is = absurd (other is)
      by no_round is = absurd (has-round accepted is)

  -- a frame that wakes nobody leaves the slaves
  others_same : (round_ground file frame buffer ≡ 0 → round_by_lem frame ≡ msa) →
      (decode (round_on file frame buffer).2).slaves ≡ (decode file).slaves
  others_same only =
      by_case (eqb (round_ground file frame buffer) 0)
      (λ z. let accepted = eqb-true _ _ z in address_same accepted (only accepted))
      (λ z. ap (λ (f : List ℕ). (decode f).slaves) (refused-same (eqb-false _ _ z)))

  pub frame_stays : ((name : ℕ) → PutsToSleep file frame buffer name → ⊥) → AllAwake file → AllAwake (round_on file frame buffer).2
  frame_stays none up =
      by_case (eqb (round_ground file frame buffer) 0)
      (λ z. accepted_stays (eqb-true _ _ z) (round_by_lem frame) refl)
      (λ z. subst AllAwake (sym (refused-same (eqb-false _ _ z))) up)
    where
      accepted_stays : round_ground file frame buffer ≡ 0 → (round : Round) → round_by_lem frame ≡ round → AllAwake (round_on file frame buffer).2
      accepted_stays accepted msa is = subst (λ (ss : List Slave). All (λ (s : Slave). s.asleep ≡ 0) ss) (sym (address_same accepted is)) up
      accepted_stays accepted (multipartner r) is = frame-wakes accepted (λ e. let same = sym is ∙ e in let z : ◌≡◌ {A = ℕ} 0 1 = cc in omega arith) none
      accepted_stays accepted msd is = frame-wakes accepted (λ e. let same = sym is ∙ e in let z : ◌≡◌ {A = ℕ} 0 1 = cc in omega arith) none
      accepted_stays accepted no_round is = absurd (has-round accepted is)

-- ---- frames, one after the other

sent-bytes : (file frame : List ℕ) → Bytes file → Bytes frame → Bytes (sent file frame).2
unfolding sent
sent-bytes file frame b fb = round-bytes file frame (replicate slots 0) b fb

frames_stay : {file : List ℕ} {xs : List (List ℕ)} → Bytes file → All Bytes xs → EachSent NoSleep file xs → AllAwake file →
    AllAwake (after_frames file xs)
unfolding after_frames sent
frames_stay b fs none_left_lem up = up
frames_stay {file} b (all_next {a = x} f fs) (one_sent none rest) up =
    frames_stay (sent-bytes file x b f) fs rest (frame_stays file x (replicate slots 0) b f none up)

frames_wake : {file : List ℕ} {xs : List (List ℕ)} → Bytes file → All Bytes xs → Woken file xs → AllAwake (after_frames file xs)
unfolding after_frames sent
frames_wake b all_empty never = elim never [ ]
frames_wake {file} b (all_next {a = x} f fs) (woken accepted other (one_sent none rest)) =
    frames_stay (sent-bytes file x b f) fs rest (frame-wakes file x (replicate slots 0) b f accepted other none)
frames_wake {file} b (all_next {a = x} f fs) (later rest) = frames_wake {file = (sent file x).2} (sent-bytes file x b f) fs rest

frames-same : {file : List ℕ} {xs : List (List ℕ)} → Bytes file → All Bytes xs → EachSent OnlyAddress file xs →
    (decode (after_frames file xs)).slaves ≡ (decode file).slaves
unfolding after_frames sent
frames-same b fs none_left_lem = refl
frames-same {file} b (all_next {a = x} f fs) (one_sent only rest) =
    frames-same (sent-bytes file x b f) fs rest ∙ others_same file x (replicate slots 0) b f only

-- ---- a trace

trace-bytes : {t : List ℕ} → Bytes t → All Bytes (frames_of t)
unfolding frames_of
trace-bytes {t} b = frames-bytes b 4 (frame_count t)

-- what its frames leave, or the file where it is refused
of_trace : (P : List ℕ → Type 0) (file t : List ℕ) → P file → P (after_frames file (frames_of t)) → P (trace_on file t).1
of_trace P file t here after =
    by_case (eqb (trace_ground file t) 0)
    (λ z. rw (trace-run file t (eqb-true _ _ z)) after)
    (λ z. rw (trace-refused file t (eqb-false _ _ z)) here)

pub trace-wakes : TraceWakes
trace-wakes file t b tb runs wakes = rw (trace-run file t runs) (frames_wake b (trace-bytes tb) wakes)

pub trace_stays_awake : TraceStaysAwake
trace_stays_awake file t b tb none up = of_trace AllAwake file t up (frames_stay b (trace-bytes tb) none up)

pub addresses_wake_nobody : AddressesWakeNobody
addresses_wake_nobody file t b tb only =
    of_trace (λ (f : List ℕ). (decode f).slaves ≡ (decode file).slaves) file t refl (frames-same b (trace-bytes tb) only)
