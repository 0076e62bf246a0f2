-- Laws of a round for the layers above: an accepted one leaves a legal cluster of the same shape and physical names and a file of the
-- same length, a refused one leaves all as it was, and the answer to a file of unknown edition depends on its length and first three bytes alone.
-- Assumes nothing.
use Prim.Native.Nat.{ℕ, ◌≤◌, ◌<◌}
use native.Mathlib.Omega.{arith}
use mathlib.Core.Path.{◌≡◌, refl, sym, ◌∙◌}
use mathlib.Core.Logic.{◌≢◌}
use mathlib.Core.List.{List, ◌∷◌, ◌++◌}
use mathlib.Core.Bool.{false}
use lib.ListN.{length, get_or}
use lib.Dec.{eqb}
use borrow.Author.Tests.{eqb-true, eqb-false, eq-eqb, ne_eqb, lt-ltb, le-ltb, ltb-false}
use Rattle.file.specs.Rules.Bytes.{Byte, Bytes, All}
use Rattle.file.specs.Rules.Order.{Ground, first_of}
use Rattle.file.specs.Rules.Layout.{pending_flag}
use Rattle.file.specs.Rules.Cluster.{Cluster, operation_of, execute_operation}
use Rattle.file.specs.Rules.Encode.{encode}
use Rattle.file.specs.Rules.Decode.{decode}
use Rattle.file.specs.Rules.FileGrounds.{file_grounds, file_ground}
use Rattle.file.specs.Rules.Legal.{LegalPending}
use Rattle.file.specs.Rules.Changes.{with_epoch, with_pending}
use Rattle.file.specs.Inner.Accepted.{Becomes}
use Rattle.file.proofs.Order.{by_case, clash, first-none, first_next, both_true, joined-next, joined-here, joined-left, joined_right}
use Rattle.file.proofs.Results.{file-first, file_numbered}
use Rattle.file.proofs.Bytes.{byte_at}
use Rattle.file.proofs.AtWidth.{length-kept}
use Rattle.file.proofs.Accepted.{encode-bytes, legal-becomes, accepted-becomes}
use Rattle.file.proofs.Edition.{unknown_edition, refused-edition}
use Rattle.frame.specs.Rules.Fireworks.{Round, multipartner, msd, msa, no_round}
use Rattle.frame.specs.Rules.Frames.{between}
use Rattle.frame.specs.Rules.FrameGrounds.{no_operation, broadcast_read}
use Rattle.master_slave.specs.Rules.Bus.{slots}
use Rattle.master_slave.specs.Rules.Slaves.{with_address, epoch_raised, nothing, pending_duty, slaves_after}
use Rattle.multipartner.specs.Rules.Multipartner.{cluster_below}
use Rattle.cluster.specs.Rules.RoundGrounds.{short_answer, round_by_lem, grounds_on}
use Rattle.cluster.specs.Inner.EachGround.{no_firework, length_for, wrong_length_on, wrong_check_on, no_operation_on, broadcast_read_on, frame_ground}
use Rattle.multipartner.specs.Rules.Multipartner.{passed_over_lem}
use Rattle.cluster.specs.Rules.Round.{effect_of, frame_on, round_ground, round_on}
use Rattle.master_slave.specs.Inner.Duties.{data_effect}
use Rattle.multipartner.specs.Inner.Slots.{multipartner_effect}
use Rattle.cluster.specs.Inner.Effects.{carried_by, buffer_by}
use Rattle.cluster.specs.Claims.Edition.{UnknownEditionRound}
use Rattle.cluster.specs.Claims.Kept.{RefusedAltersNothing, RoundKeepsFile}
use Rattle.master_slave.proofs.Kept.{ClusterKept, kept_refl, kept_trans, kept-epoch, kept_raised, kept-pending, kept-after, kept-rested}
use Rattle.multipartner.proofs.StoresKept.{kept-below}

-- ---- the grounds of a frame that is accepted

pub record Fits (c : Cluster) (round : Round) (frame : List ℕ) : Type 0 where
  pub firework : no_firework round ≡ false
  pub size : wrong_length_on c round frame ≡ false
  pub check : wrong_check_on c round frame ≡ false
  pub operation : no_operation_on round frame ≡ false
  pub broadcast_read : broadcast_read_on round frame ≡ false

pub fits_facts : (c : Cluster) (round : Round) (frame : List ℕ) → first_of (grounds_on c round frame) ≡ 0 → Fits c round frame
unfolding grounds_on no_firework wrong_length_on length_for wrong_check_on no_operation_on broadcast_read_on
fits_facts c (multipartner r) frame e = record { firework = refl; size = (first-none 10 _ _ e).0; check = refl; operation = refl; broadcast_read = refl }
fits_facts c msd frame e =
    let f₁ = first-none 10 _ _ e in
    let f₂ = first-none 11 _ _ f₁.1 in
    record { firework = refl; size = f₁.0; check = f₂.0; operation = refl; broadcast_read = refl }
fits_facts c msa frame e =
    let f₁ = first-none 10 _ _ e in
    let f₂ = first-none 11 _ _ f₁.1 in
    let f₃ = first-none 12 _ _ f₂.1 in
    let f₄ = first-none 13 _ _ f₃.1 in
    record { firework = refl; size = f₁.0; check = f₂.0; operation = f₃.0; broadcast_read = f₄.0 }
fits_facts c no_round frame e = clash refl (first-none 9 _ _ e).0

pub fits-none : (c : Cluster) (round : Round) (frame : List ℕ) → Fits c round frame → first_of (grounds_on c round frame) ≡ 0
unfolding grounds_on first_of no_firework wrong_length_on length_for wrong_check_on no_operation_on broadcast_read_on
fits-none c (multipartner r) frame f = rw f.size
fits-none c msd frame f = rw (f.size, f.check)
fits-none c msa frame f = rw (f.size, f.check, f.operation, f.broadcast_read)
fits-none c no_round frame f = clash refl f.firework

-- ---- what an accepted frame keeps

pub address-pending : (c : Cluster) (pb0 pb1 pb2 pb3 : ℕ) → Byte pb0 → Byte pb1 → Byte pb2 → Byte pb3 → no_operation (operation_of pb2) ≡ false → broadcast_read (operation_of pb2) pb1 ≡ false →
    LegalPending (with_pending (with_epoch c pb0) pending_flag pb1 pb2 pb3)
unfolding with_pending with_epoch no_operation broadcast_read
address-pending c pb0 pb1 pb2 pb3 b0 b1 b2 b3 op read =
    record {
      epoch = b0;
      flag = omega arith;
      name = b1;
      pb2 = b2;
      pb3 = b3;
      operation = λ _ three. omega (arith, ltb-false execute_operation (operation_of pb2) op, three);
      broadcast_read = λ _ is_read_lem is_all. clash (both_true (eq-eqb _ _ is_read_lem) (eq-eqb _ _ is_all)) read;
    }

pub address_kept : (c : Cluster) (pb0 pb1 pb2 pb3 : ℕ) → Byte pb0 → Byte pb1 → Byte pb2 → Byte pb3 → no_operation (operation_of pb2) ≡ false → broadcast_read (operation_of pb2) pb1 ≡ false →
    ClusterKept c (with_address c pb0 pb1 pb2 pb3)
unfolding with_address
address_kept c pb0 pb1 pb2 pb3 b0 b1 b2 b3 op read =
    kept_trans (kept-epoch c pb0 b0)
    (kept-pending (with_epoch c pb0) pending_flag pb1 pb2 pb3 (address-pending c pb0 pb1 pb2 pb3 b0 b1 b2 b3 op read))

pub data-kept : (c : Cluster) {bytes : List ℕ} → Bytes bytes → ClusterKept c (data_effect c bytes).after
data-kept c {bytes} bs =
    kept_trans (kept_trans (kept_raised c) (kept-after (pending_duty c) bs (epoch_raised c)))
    (kept-rested (pending_duty c) (slaves_after (pending_duty c) bytes (epoch_raised c)))

pub multipartner-kept : (c : Cluster) (r : ℕ) → ClusterKept c (multipartner_effect c r).after
multipartner-kept c r =
    kept_trans (kept_trans (kept_raised c) (kept-below (passed_over_lem c) r (epoch_raised c) slots))
    (kept-rested nothing (cluster_below (passed_over_lem c) r (epoch_raised c) slots))

pub between-bytes : {frame : List ℕ} → Bytes frame → Bytes (between frame)
between-bytes bs = All.all_next (byte_at bs 1) (All.all_next (byte_at bs 2) (All.all_next (byte_at bs 3) (All.all_next (byte_at bs 4) All.all_empty)))

effect_kept : (c : Cluster) (round : Round) (frame : List ℕ) → Bytes frame → Fits c round frame → ClusterKept c (effect_of c round frame).after
unfolding effect_of no_operation_on broadcast_read_on
effect_kept c (multipartner r) frame bs f = multipartner-kept c r
effect_kept c msd frame bs f = data-kept c (between-bytes bs)
effect_kept c msa frame bs f =
    address_kept c (get_or frame 1 0) (get_or frame 2 0) (get_or frame 3 0) (get_or frame 4 0)
    (byte_at bs 1) (byte_at bs 2) (byte_at bs 3) (byte_at bs 4) f.operation f.broadcast_read
effect_kept c no_round frame bs f = kept_refl c

pub frame-kept : (c : Cluster) (frame : List ℕ) → Bytes frame → frame_ground c frame ≡ 0 → ClusterKept c (frame_on c frame).after
unfolding frame_on frame_ground
frame-kept c frame bs e = effect_kept c (round_by_lem frame) frame bs (fits_facts c (round_by_lem frame) frame e)

-- ---- "Checked in this order": the file's grounds, the buffer's, and then those of the call

module _ (file buffer : List ℕ) (others : List Ground) where
  abbrev in_order_lem : List Ground
  in_order_lem = file_grounds file ++ (9, short_answer buffer) ∷ others

  -- the first of them is the file's; or else the buffer's; or else one of the call's
  pub file_decides : file_ground file ≢ 0 → first_of in_order_lem ≡ file_ground file
  file_decides some = joined-here (file_grounds file) _ (file_numbered file) (λ z. some (sym (file-first file) ∙ z)) ∙ file-first file

  after-file : file_ground file ≡ 0 → first_of in_order_lem ≡ first_of ((9, short_answer buffer) ∷ others)
  after-file accepted = joined-next (file_grounds file) _ (file_numbered file) (file-first file ∙ accepted)

  pub buffer_decides : file_ground file ≡ 0 → length buffer < slots → first_of in_order_lem ≡ 9
  unfolding short_answer first_of
  buffer_decides accepted short = after-file accepted ∙ rw (lt-ltb (length buffer) slots short)

  pub others_decide : file_ground file ≡ 0 → slots ≤ length buffer → first_of in_order_lem ≡ first_of others
  unfolding short_answer
  others_decide accepted long = after-file accepted ∙ first_next _ others (le-ltb (length buffer) slots long)

  -- none of them
  pub record NoGround : Type 0 where
    pub accepted : file_ground file ≡ 0
    pub long : slots ≤ length buffer
    pub rest : first_of others ≡ 0

  pub none-holds : first_of in_order_lem ≡ 0 → NoGround
  unfolding short_answer
  none-holds e =
      let tail = first-none 8 _ _ (joined_right (file_grounds file) _ (file_numbered file) e) in
      record {
        accepted = sym (file-first file) ∙ joined-left (file_grounds file) _ (file_numbered file) e;
        long = ltb-false _ _ tail.0;
        rest = tail.1;
      }

-- ---- the round call

-- a refused round returns its number and leaves all as it was
pub round-refused : RefusedAltersNothing
unfolding round_on
round-refused file frame buffer h = rw (ne_eqb _ _ h)

pub round-accepted : (file frame buffer : List ℕ) → round_ground file frame buffer ≡ 0 →
    round_on file frame buffer ≡ (carried_by (frame_on (decode file) frame), buffer_by (frame_on (decode file) frame) (get_or frame 0 0) buffer, encode (frame_on (decode file) frame).after)
unfolding round_on
round-accepted file frame buffer h = rw (eq-eqb _ _ h)

-- what an accepted round was given
pub record RoundFits (file frame buffer : List ℕ) : Type 0 where
  pub accepted : file_ground file ≡ 0
  pub long : slots ≤ length buffer
  pub fits : frame_ground (decode file) frame ≡ 0

pub round_facts : (file frame buffer : List ℕ) → round_ground file frame buffer ≡ 0 → RoundFits file frame buffer
unfolding round_ground frame_ground
round_facts file frame buffer e =
    let none = none-holds file buffer (grounds_on (decode file) (round_by_lem frame) frame) e in
    record { accepted = none.accepted; long = none.long; fits = none.rest }

-- an accepted round leaves an accepted file, which holds the rules' cluster: legal, of the same shape and physical names
pub round-becomes : (file frame buffer : List ℕ) → Bytes file → Bytes frame → round_ground file frame buffer ≡ 0 → Becomes (round_on file frame buffer).2 (frame_on (decode file) frame).after
round-becomes file frame buffer fb rb e =
    let given = round_facts file frame buffer e in
    let old : Becomes file (decode file) = accepted-becomes file fb given.accepted in
    rw (round-accepted file frame buffer e) (legal-becomes (frame_on (decode file) frame).after ((frame-kept (decode file) frame rb given.fits).legal old.legal))

-- accepted or refused, a round leaves bytes
pub round-bytes : (file frame buffer : List ℕ) → Bytes file → Bytes frame → Bytes (round_on file frame buffer).2
round-bytes file frame buffer fb rb =
    by_case (eqb (round_ground file frame buffer) 0)
    (λ e.
    let new = round-becomes file frame buffer fb rb (eqb-true _ _ e) in
    rw new.encoded (encode-bytes (frame_on (decode file) frame).after new.legal))
    (λ e. rw (round-refused file frame buffer (eqb-false _ _ e)) fb)

pub round-kept : (file frame buffer : List ℕ) → Bytes frame → round_ground file frame buffer ≡ 0 → ClusterKept (decode file) (frame_on (decode file) frame).after
round-kept file frame buffer rb e = frame-kept (decode file) frame rb (round_facts file frame buffer e).fits

-- an accepted round leaves a file of the same length
pub round-length : (file frame buffer : List ℕ) → Bytes file → Bytes frame → round_ground file frame buffer ≡ 0 → length (round_on file frame buffer).2 ≡ length file
round-length file frame buffer fb rb e =
    let old : Becomes file (decode file) = accepted-becomes file fb (round_facts file frame buffer e).accepted in
    let new : Becomes (round_on file frame buffer).2 (frame_on (decode file) frame).after = round-becomes file frame buffer fb rb e in
    let kept = round-kept file frame buffer rb e in
    length-kept old new kept.edition kept.shape

pub round_keeps_file : RoundKeepsFile
round_keeps_file file frame buffer fb rb accepted =
    by_case (eqb (round_ground file frame buffer) 0)
    (λ e.
    let none = eqb-true _ _ e in
    ((round-becomes file frame buffer fb rb none).accepted, round-length file frame buffer fb rb none))
    (λ e. rw (round-refused file frame buffer (eqb-false _ _ e)) (accepted, refl))

-- a file of unknown edition: answer and buffer are the same for two files of one length with the same first three bytes
pub round-edition : UnknownEditionRound
unfolding round_ground
round-edition f g frame buffer long front other =
    let refused-f : file_ground f ≢ 0 = refused-edition f other in
    let same : file_ground f ≡ file_ground g = unknown_edition f g long front other in
    let here-f : round_ground f frame buffer ≡ file_ground f = file_decides f buffer _ refused-f in
    let refused-g : file_ground g ≢ 0 = λ z. refused-f (same ∙ z) in
    let here-g : round_ground g frame buffer ≡ file_ground g = file_decides g buffer _ refused-g in
    let left = round-refused f frame buffer (λ z. refused-f (sym here-f ∙ z)) in
    let right = round-refused g frame buffer (λ z. refused-g (sym here-g ∙ z)) in
    (rw (left, right, here-f, here-g, same), rw (left, right))
