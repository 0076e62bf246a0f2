-- The sender mask, of any sender rule and of an accepted round: "bit s is set exactly when someone sent in slot s"; "bit 0 is never
-- set".
-- Assumes nothing.
use Prim.Native.Nat.{ℕ, ◌/◌, ◌%◌, ◌^◌, ◌<◌}
use native.Mathlib.Omega.{arith}
use mathlib.Core.Path.{◌≡◌, refl, sym, ap, ◌∙◌}
use mathlib.Core.Logic.{◌≢◌, ◌↔◌}
use mathlib.Core.List.{List, [], ◌∷◌}
use lib.Dec.{eqb}
use Rattle.file.specs.Rules.Cluster.{Slave, Cluster}
use Rattle.file.specs.Rules.Decode.{decode}
use Rattle.file.specs.Rules.Results.{done, result_of}
use Rattle.file.proofs.Order.{by_case}
use Rattle.file.proofs.Results.{same-value}
use Rattle.frame.specs.Rules.Fireworks.{Round, multipartner, msd, msa, no_round}
use Rattle.master_slave.specs.Rules.Bus.{Senders, anyone, slots, sender_mask, nobody}
use Rattle.master_slave.specs.Rules.Slaves.{Duty, in_slot, sent_to, pending_duty}
use Rattle.multipartner.specs.Rules.Multipartner.{sent_in, sent_during}
use Rattle.cluster.specs.Rules.RoundGrounds.{round_by_lem}
use Rattle.cluster.specs.Rules.Round.{effect_of, frame_on, round_ground, round_on}
use Rattle.cluster.specs.Claims.Mask.{BitsAreSenders, BitZeroNeverSet}
use Rattle.master_slave.proofs.Bus.{mask_below, mask-bit}

pub mask_64 : (r : Senders) → sender_mask r < 2 ^ 64
unfolding sender_mask
mask_64 r = mask_below r slots

pub sender_bit : (r : Senders) (s : ℕ) → s < slots → sender_mask r / 2 ^ s % 2 ≡ anyone (r s)
unfolding sender_mask
sender_bit r s h = mask-bit r slots s h

anyone-some : (l : List ℕ) → (anyone l ≡ 1) ↔ (l ≢ [])
unfolding anyone
anyone-some [] = (λ e h. omega (arith, e), λ h. absurd (h refl))
anyone-some (x ∷ xs) = (λ e h. let z : ◌≡◌ {A = ℕ} 0 1 = sym (ap anyone h) in omega (arith, z), λ h. refl)

pub sender_set : (r : Senders) (s : ℕ) → s < slots → (sender_mask r / 2 ^ s % 2 ≡ 1) ↔ (r s ≢ [])
sender_set r s h = (λ e. (anyone-some (r s)).0 (sym (sender_bit r s h) ∙ e), λ n. sender_bit r s h ∙ (anyone-some (r s)).1 n)

-- nobody sends in slot 0, in any round
sent_to_zero : (o : Duty) (ss : List Slave) → sent_to o ss 0 ≡ []
unfolding sent_to in_slot
sent_to_zero o [] = refl
sent_to_zero o (s ∷ ss) = sent_to_zero o ss

senders_zero : (c : Cluster) (round : Round) (frame : List ℕ) → (effect_of c round frame).senders 0 ≡ []
unfolding effect_of sent_during sent_in nobody
senders_zero c (multipartner r) frame = refl
senders_zero c msd frame = sent_to_zero (pending_duty c) c.slaves
senders_zero c msa frame = refl
senders_zero c no_round frame = refl

pub bit_zero : (c : Cluster) (frame : List ℕ) → sender_mask (frame_on c frame).senders % 2 ≡ 0
unfolding frame_on anyone
bit_zero c frame =
    let bit : sender_mask (frame_on c frame).senders / 2 ^ 0 % 2 ≡ 0 = sender_bit (frame_on c frame).senders 0 (omega arith) ∙ ap anyone (senders_zero c (round_by_lem frame) frame) in
    omega (arith, bit)

-- ---- the mask that an accepted round answers

round-answer : (file frame buffer : List ℕ) → (round_on file frame buffer).0 ≡ result_of (round_ground file frame buffer) (sender_mask (frame_on (decode file) frame).senders)
unfolding round_on result_of
round-answer file frame buffer = by_case (eqb (round_ground file frame buffer) 0) (λ e. rw e) (λ e. rw e)

answered-mask : (file frame buffer : List ℕ) (mask : ℕ) → (round_on file frame buffer).0 ≡ done mask → mask ≡ sender_mask (frame_on (decode file) frame).senders
answered-mask file frame buffer mask h =
    same-value (sender_mask (frame_on (decode file) frame).senders) (round_ground file frame buffer) (sym h ∙ round-answer file frame buffer)

pub bits-are-senders : BitsAreSenders
bits-are-senders file frame buffer mask h =
    let is : mask ≡ sender_mask (frame_on (decode file) frame).senders = answered-mask file frame buffer mask h in
    rw is (record { size = mask_64 (frame_on (decode file) frame).senders; bits = sender_set (frame_on (decode file) frame).senders })

pub bit_zero_never_set : BitZeroNeverSet
bit_zero_never_set file frame buffer mask h = rw (answered-mask file frame buffer mask h) (bit_zero (decode file) frame)
