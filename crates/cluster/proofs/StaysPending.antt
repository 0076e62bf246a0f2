-- What is pending: an accepted MSA sets it, and nothing else does.
-- Assumes nothing.
use Prim.Native.Nat.{ℕ, zero, suc, ◌+◌, ◌%◌}
use mathlib.Core.Path.{◌≡◌, refl, sym, ◌∙◌, subst}
use mathlib.Core.Logic.{◌≢◌}
use mathlib.Core.List.{List, [], ◌∷◌}
use mathlib.Core.Bool.{Bool}
use lib.Dec.{eqb}
use borrow.Author.Tests.{eqb-true, eqb-false}
use Rattle.file.specs.Rules.Bytes.{Bytes, all_empty, all_next}
use Rattle.file.specs.Rules.Cluster.{Cluster}
use Rattle.file.specs.Rules.Decode.{decode}
use Rattle.file.specs.Rules.Changes.{with_slaves, with_epoch, with_pending}
use Rattle.file.proofs.Order.{by_case}
use Rattle.frame.specs.Rules.Fireworks.{Round, multipartner, msd, msa, no_round}
use Rattle.master_slave.specs.Rules.Bus.{slots}
use Rattle.master_slave.specs.Rules.Slaves.{with_address, next_epoch, epoch_raised, Duty, nothing, slaves_after, rested}
use Rattle.multipartner.specs.Rules.Entries.{Entry}
use Rattle.multipartner.specs.Rules.Multipartner.{received_in, sent_in, cluster_below}
use Rattle.cluster.specs.Rules.RoundGrounds.{round_by_lem}
use Rattle.multipartner.specs.Rules.Multipartner.{passed_over_lem}
use Rattle.cluster.specs.Rules.Round.{effect_of, frame_on, round_ground, round_on}
use Rattle.cluster.specs.Claims.Pending.{file_after, AcceptedMsa, no_calls, one_more_lem, Pending, Addressed, MsaBecomesPending, StaysPending, RaisesEpoch, by_msd, by_multipartner, EpochRaised}
use Rattle.cluster.proofs.Rounds.{round-refused, round-becomes, round-bytes}

-- the same is pending in both
abbrev Alike : Cluster → Cluster → Type 0
Alike c d = Pending d c.flag c.pending_name c.pending_pb2 c.pending_pb3

alike_refl : (c : Cluster) → Alike c c
alike_refl c = record { is_flag = refl; is_name = refl; is_pb2 = refl; is_pb3 = refl }

alike_trans : (c d e : Cluster) → Alike c d → Alike d e → Alike c e
alike_trans c d e p q =
    record {
      is_flag = q.is_flag ∙ p.is_flag;
      is_name = q.is_name ∙ p.is_name;
      is_pb2 = q.is_pb2 ∙ p.is_pb2;
      is_pb3 = q.is_pb3 ∙ p.is_pb3;
    }

-- ---- a frame that is no MSA

received_alike : (passed : Entry → Bool) (round slot : ℕ) (c : Cluster) (sent : List ℕ) → Alike c (received_in passed round slot c sent)
unfolding received_in with_slaves
received_alike passed round slot c [] = alike_refl c
received_alike passed round slot c (b ∷ bs) = record { is_flag = refl; is_name = refl; is_pb2 = refl; is_pb3 = refl }

below_alike : (passed : Entry → Bool) (round : ℕ) (c : Cluster) (n : ℕ) → Alike c (cluster_below passed round c n)
unfolding cluster_below
below_alike passed round c zero = alike_refl c
below_alike passed round c (suc n) =
    alike_trans c (cluster_below passed round c n) (received_in passed round n (cluster_below passed round c n) (sent_in passed round n (cluster_below passed round c n)))
    (below_alike passed round c n) (received_alike passed round n (cluster_below passed round c n) (sent_in passed round n (cluster_below passed round c n)))

raised_alike : (c : Cluster) → Alike c (epoch_raised c)
unfolding epoch_raised with_epoch
raised_alike c = record { is_flag = refl; is_name = refl; is_pb2 = refl; is_pb3 = refl }

rested-alike : (o : Duty) (c : Cluster) → Alike c (rested o c)
unfolding rested with_slaves
rested-alike o c = record { is_flag = refl; is_name = refl; is_pb2 = refl; is_pb3 = refl }

effect_alike : (c : Cluster) (round : Round) (frame : List ℕ) → round ≢ msa → Alike c (effect_of c round frame).after
unfolding effect_of rested slaves_after with_slaves epoch_raised with_epoch
effect_alike c (multipartner r) frame other =
    let below : Cluster = cluster_below (passed_over_lem c) r (epoch_raised c) slots in
    alike_trans c (epoch_raised c) (rested nothing below) (raised_alike c)
    (alike_trans (epoch_raised c) below (rested nothing below) (below_alike (passed_over_lem c) r (epoch_raised c) slots) (rested-alike nothing below))
effect_alike c msd frame other = record { is_flag = refl; is_name = refl; is_pb2 = refl; is_pb3 = refl }
effect_alike c msa frame other = absurd (other refl)
effect_alike c no_round frame other = alike_refl c

frame-alike : (c : Cluster) (frame : List ℕ) → round_by_lem frame ≢ msa → Alike c (frame_on c frame).after
unfolding frame_on
frame-alike c frame other = effect_alike c (round_by_lem frame) frame other

-- ---- one call

call-alike : (file frame buffer : List ℕ) → Bytes file → Bytes frame → (AcceptedMsa file frame buffer → ⊥) → Alike (decode file) (decode (round_on file frame buffer).2)
call-alike file frame buffer fb rb none =
    by_case (eqb (round_ground file frame buffer) 0)
    (λ e.
    let accepted : round_ground file frame buffer ≡ 0 = eqb-true (round_ground file frame buffer) 0 e in
    let new = round-becomes file frame buffer fb rb accepted in
    subst (λ (d : Cluster). Alike (decode file) d) (sym new.decoded)
    (frame-alike (decode file) frame (λ is. none (record { is_msa = is; accepted = accepted }))))
    (λ e. rw (round-refused file frame buffer (eqb-false (round_ground file frame buffer) 0 e)) (alike_refl (decode file)))

-- ---- the claims

msa-after : (c : Cluster) (frame : List ℕ) → round_by_lem frame ≡ msa → Addressed (frame_on c frame).after frame
unfolding frame_on effect_of with_address with_pending with_epoch
msa-after c frame is = rw is (record { epoch = refl; pending = record { is_flag = refl; is_name = refl; is_pb2 = refl; is_pb3 = refl } })

pub msa-becomes-pending : MsaBecomesPending
msa-becomes-pending file frame buffer fb rb m =
    let new = round-becomes file frame buffer fb rb m.accepted in
    subst (λ (d : Cluster). Addressed d frame) (sym new.decoded) (msa-after (decode file) frame m.is_msa)

pub stays_pending : StaysPending
unfolding file_after
stays_pending file [] fb all_empty no_calls = alike_refl (decode file)
stays_pending file (c ∷ cs) fb (all_next rb rest) (one_more_lem none later) =
    let now : List ℕ = (round_on file c.frame c.buffer).2 in
    alike_trans (decode file) (decode now) (decode (file_after now cs))
    (call-alike file c.frame c.buffer fb rb none)
    (stays_pending now cs (round-bytes file c.frame c.buffer fb rb) rest later)

-- ---- the epoch

received_epoch : (passed : Entry → Bool) (round slot : ℕ) (c : Cluster) (sent : List ℕ) → (received_in passed round slot c sent).epoch ≡ c.epoch
unfolding received_in with_slaves
received_epoch passed round slot c [] = refl
received_epoch passed round slot c (b ∷ bs) = refl

below-epoch : (passed : Entry → Bool) (round : ℕ) (c : Cluster) (n : ℕ) → (cluster_below passed round c n).epoch ≡ c.epoch
unfolding cluster_below
below-epoch passed round c zero = refl
below-epoch passed round c (suc n) =
    received_epoch passed round n (cluster_below passed round c n) (sent_in passed round n (cluster_below passed round c n)) ∙ below-epoch passed round c n

effect_epoch : (c : Cluster) (round : Round) (frame : List ℕ) → RaisesEpoch round → (effect_of c round frame).after.epoch ≡ (c.epoch + 1) % 256
unfolding effect_of rested slaves_after with_slaves epoch_raised with_epoch next_epoch
effect_epoch c msa frame never = elim never [ ]
effect_epoch c no_round frame never = elim never [ ]
effect_epoch c msd frame by_msd = refl
effect_epoch c (multipartner r) frame by_multipartner = below-epoch (passed_over_lem c) r (epoch_raised c) slots

pub epoch-raised : EpochRaised
unfolding frame_on
epoch-raised file frame buffer fb rb accepted raises =
    let new = round-becomes file frame buffer fb rb accepted in
    subst (λ (d : Cluster). d.epoch ≡ ((decode file).epoch + 1) % 256) (sym new.decoded) (effect_epoch (decode file) (round_by_lem frame) frame raises)
