-- One frame of any bytes: one law for each firework, and for each way of the call from outside; and the places, which it leaves as they
-- were.
-- Assumes nothing.
use Prim.Native.Nat.{ℕ, ◌≤◌, ◌<◌}
use mathlib.Core.Path.{◌≡◌, refl, sym, ◌∙◌, subst}
use mathlib.Core.List.{List, [], ◌∷◌}
use native.Mathlib.Omega.{arith}
use borrow.Author.Tests.{eqb-true, eq-eqb, ne_eqb}
use lib.ListN.{length, get_or}
use lib.Dec.{eqb}
use Rattle.file.specs.Rules.Bytes.{Bytes}
use Rattle.file.specs.Rules.Order.{first_of}
use Rattle.file.specs.Rules.Results.{refused, done}
use Rattle.file.specs.Rules.Cluster.{Cluster}
use Rattle.file.specs.Rules.Decode.{decode}
use Rattle.file.specs.Inner.Accepted.{Becomes, Placed}
use Rattle.file.specs.Inner.Surveyed.{Surveyed}
use Rattle.file.specs.declared.types.Refusal.{Refusal}
use Rattle.file.proofs.Order.{by_case}
use Rattle.file.proofs.Surveyed.{survey-accepted, survey-becomes, survey-refused, placed-kept}
use Rattle.frame.specs.Rules.Fireworks.{Round, multipartner, msd, msa, round_of}
use Rattle.frame.specs.Rules.FrameGrounds.{wrong_frame_length}
use Rattle.frame.specs.Inner.FrameAnswers.{firework_round}
use Rattle.frame.specs.declared.firework.Firework.{Firework}
use Rattle.frame.specs.declared.firework.Firework.TheVariants as fireworks
use Rattle.master_slave.specs.Rules.Bus.{slots}
use Rattle.cluster.specs.Rules.RoundGrounds.{round_by_lem, grounds_on}
use Rattle.cluster.specs.Inner.EachGround.{no_firework, firework_size, length_for, wrong_length_on, wrong_check_on, no_operation_on, broadcast_read_on, frame_ground}
use Rattle.master_slave.specs.Rules.Effect.{Effect}
use Rattle.cluster.specs.Rules.Round.{Answer, effect_of, frame_on, round_on}
use Rattle.multipartner.specs.Inner.Slots.{multipartner_effect}
use Rattle.master_slave.specs.Inner.Carried.{Carried}
use Rattle.cluster.specs.Inner.Exchanged.{left_by_lem, Exchanged}
use Rattle.master_slave.proofs.Kept.{ClusterKept, kept_refl}
use Rattle.cluster.proofs.Rounds.{frame-kept}
use Rattle.cluster.proofs.FrameLaws.{exchange-refused, exchange-carried, first-of, never_multipartner}
use Rattle.cluster.proofs.RoundNumbers.{multipartner-low}
use Rattle.cluster.proofs.RoundCall.{file-refused, buffer-refused, exchanged-round}
use Rattle.file.specs.Inner.Refusals.{Answered, refusal_number, outcome_of}
use Rattle.std.specs.Prelude.{Ok, Err}
use Rattle.std.specs.Prelude.{Option, Some, None}

-- ---- the firework of a frame

round_by : (frame : List ℕ) → (length frame ≡ 0 → ⊥) → round_by_lem frame ≡ round_of (get_or frame 0 0)
unfolding round_by_lem
round_by [] some = absurd (some refl)
round_by (b ∷ bs) some = refl

pub empty_opens : (frame : List ℕ) → length frame ≡ 0 → Round.no_round ≡ round_by_lem frame
unfolding round_by_lem
empty_opens [] z = refl
empty_opens (b ∷ bs) z = absurd (omega arith)

pub byte-opens : (frame : List ℕ) (w : Option Firework) → (length frame ≡ 0 → ⊥) → firework_round w ≡ round_of (get_or frame 0 0) → firework_round w ≡ round_by_lem frame
byte-opens frame w some e = e ∙ sym (round_by frame some)

no_round_ground : (c : Cluster) (frame : List ℕ) → round_by_lem frame ≡ Round.no_round → 10 ≡ frame_ground c frame
unfolding frame_ground grounds_on first_of no_firework
no_round_ground c frame e = rw e

module _ (frame : List ℕ) (w : Option Firework) (is : firework_round w ≡ round_by_lem frame) where
  pub no_ground_ten : (c : Cluster) → w ≡ None → 10 ≡ frame_ground c frame
  unfolding firework_round
  no_ground_ten c e = no_round_ground c frame (sym (rw e at is))

  pub frame-none : (c : Cluster) (buffer : List ℕ) {f : List ℕ} → w ≡ None → Becomes f c → Exchanged c frame buffer buffer (refused 10) f
  frame-none c buffer e h = exchange-refused c frame buffer h (no_ground_ten c e) (λ z. omega arith)

  pub frame-address : {opened : Firework} → w ≡ Some opened → opened ≡ fireworks.Address → round_by_lem frame ≡ msa
  unfolding firework_round
  frame-address e k = sym (rw (e, k) at is)

  pub frame-data : {opened : Firework} → w ≡ Some opened → opened ≡ fireworks.Data → round_by_lem frame ≡ msd
  unfolding firework_round
  frame-data e k = sym (rw (e, k) at is)

  module _ {opened : Firework} (e : w ≡ Some opened) {r : ℕ} (k : opened ≡ fireworks.Multipartner r) where
    pub round_is : round_by_lem frame ≡ multipartner r
    unfolding firework_round
    round_is = sym (rw (e, k) at is)

    pub round-low : r < 0x10
    round-low = multipartner-low (get_or frame 0 0) (first-of frame (multipartner r) never_multipartner round_is)

    pub ground_eleven : (c : Cluster) → (length frame ≡ firework_size → ⊥) → 11 ≡ frame_ground c frame
    unfolding frame_ground grounds_on first_of no_firework wrong_length_on length_for wrong_frame_length
    ground_eleven c other = rw (round_is, ne_eqb (length frame) firework_size other)

    pub ground_none : (c : Cluster) → length frame ≡ firework_size → frame_ground c frame ≡ 0
    unfolding frame_ground grounds_on first_of no_firework wrong_length_on length_for wrong_frame_length wrong_check_on no_operation_on broadcast_read_on
    ground_none c one = rw (round_is, eq-eqb (length frame) firework_size one)

    pub frame_effect : (c : Cluster) → frame_on c frame ≡ multipartner_effect c r
    unfolding frame_on effect_of
    frame_effect c = rw round_is

    pub frame-long : (c : Cluster) (buffer : List ℕ) {f : List ℕ} → Becomes f c → (length frame ≡ firework_size → ⊥) → Exchanged c frame buffer buffer (refused 11) f
    frame-long c buffer h other = exchange-refused c frame buffer h (ground_eleven c other) (λ z. omega arith)

    pub frame-carried :
        (c : Cluster) (old : List ℕ) {new : List ℕ} {mask : ℕ} {f : List ℕ} → length frame ≡ firework_size →
        Carried (multipartner_effect c r) (get_or frame 0 0) old new mask f → Exchanged c frame old new (done mask) f
    frame-carried c old {new} {mask} {f} one carried =
        exchange-carried c frame old (ground_none c one) (subst (λ (x : Effect). Carried x (get_or frame 0 0) old new mask f) (sym (frame_effect c)) carried)

-- ---- the call from outside, by the answer of the survey

module _ (frame buffer : List ℕ) {file places : List ℕ} {a : Answered (Unit {0})} (s : Surveyed file (outcome_of a) places) where
  pub call-refused : {why : Refusal} → a ≡ Err why → (refused (refusal_number why), buffer, file) ≡ round_on file frame buffer
  call-refused e = let reason = survey-refused s e in file-refused file frame buffer reason.0 reason.1

  module _ {u : Unit {0}} (yes : a ≡ Ok u) where
    pub call-short : length buffer < slots → (refused 9, buffer, file) ≡ round_on file frame buffer
    call-short short = buffer-refused file frame buffer (survey-accepted s yes) short

    pub call-made : {new : List ℕ} {answer : Answer} {after : List ℕ} → slots ≤ length buffer → Exchanged (decode file) frame buffer new answer after → (answer, new, after) ≡ round_on file frame buffer
    call-made long x = exchanged-round file frame (survey-becomes s yes) long x

-- ---- the places after a frame

-- a frame leaves a cluster of the same edition and shape
left-kept : (c : Cluster) (frame : List ℕ) → Bytes frame → ClusterKept c (left_by_lem c frame)
unfolding left_by_lem
left-kept c frame b =
    by_case (eqb (frame_ground c frame) 0)
    (λ e. rw e (frame-kept c frame b (eqb-true _ _ e)))
    (λ e. rw e (kept_refl c))

-- so the places of the slaves' files are what they were
pub left-placed : {file places frame file' : List ℕ} → Placed file places → Bytes frame → Becomes file' (left_by_lem (decode file) frame) → Placed file' places
left-placed {file} {frame = frame} p b becomes =
    let kept = left-kept (decode file) frame b in
    placed-kept p becomes kept.edition kept.shape
