-- What the call leaves in the buffer, and the rounds as they run.
-- Assumes nothing.
use Rattle.std.proofs.Common.{ℕ, ◌+◌, ◌*◌, ◌/◌, ◌%◌, ◌^◌, ◌<◌, arith, ◌≡◌, sym, ap, ◌∙◌, ◌≢◌, ◌↔◌, List, [], true, false, length, get_or, drop, eqb, eqb-true}
use borrow.Author.Tests.{eqb-false}
use Rattle.file.specs.Rules.Layout.{record_size}
use Rattle.file.specs.Rules.Results.{Result, refused, done, written_in}
use Rattle.file.specs.Rules.Decode.{decode}
use Rattle.file.specs.Rules.Changes.{with_epoch}
use Rattle.file.specs.Rules.FileGrounds.{file_ground}
use Rattle.file.proofs.Order.{by_case}
use Rattle.master_slave.specs.Rules.Bus.{slots}
use Rattle.frame.specs.Rules.Fireworks.{multipartner}
use Rattle.cluster.specs.Rules.RoundGrounds.{round_by_lem}
use Rattle.cluster.specs.Rules.Round.{effect_of, frame_on, round_on}
use Rattle.cluster.specs.Claims.Sleep.{awake_among}
use Rattle.cluster.proofs.Mask.{bits-are-senders}
use Rattle.owner.specs.Rules.Plan.{rounds, is_owned, senders_in, two_send, multiplexed_send}
use Rattle.owner.specs.Rules.OwnerFile.{row_of, owner_of, owner_file}
use Rattle.owner.specs.Rules.OwnerWriting.{owner_ground, owner_on}
use Rattle.owner.specs.Claims.PlannedRounds.{sent_as_run, MaskAsPlanned, PlainMaskAsPlanned}
use Rattle.owner.specs.Claims.Call.{BufferRuns, PlainBufferRuns}
use Rattle.owner.proofs.Calls.{file_decides, multiplexed_decides, clash_decides, owner-refused, owner-written}
use Rattle.owner.proofs.Runs.{no_length, count_as_planned, someone-sends, owners-run, plain_count_as_planned, plain_owners-run}
use Rattle.owner.proofs.Sizes.{front-owner, row_most}

refused-done : {P : Type 0} {m n : ℕ} → ◌≡◌ {A = Result ℕ} (refused m) (done n) → P
refused-done e = let z : ◌≡◌ {A = ℕ} 0 1 = ap (λ (r : Result ℕ). tag r) e in absurd (omega (arith, z))
  where
    tag : Result ℕ → ℕ
    tag (refused n) = 0
    tag (done n) = 1

module _ (file : List ℕ) (master : ℕ) (buffer : List ℕ) (n : ℕ) (is : (owner_on file master buffer).0 ≡ done n) where
  no_ground : owner_ground file master buffer ≡ 0
  no_ground =
      by_case (eqb (owner_ground file master buffer) 0)
      (λ q. eqb-true _ 0 q)
      (λ q. refused-done (sym (ap (λ (r : Result ℕ × List ℕ). r.0) (owner-refused file master buffer (eqb-false _ 0 q))) ∙ is))

  file-accepted : file_ground file ≡ 0
  file-accepted =
      by_case (eqb (file_ground file) 0)
      (λ q. eqb-true _ 0 q)
      (λ q. absurd (eqb-false _ 0 q (sym (file_decides file master buffer (eqb-false _ 0 q)) ∙ no_ground)))

  no_multiplexed : multiplexed_send (decode file).slaves ≡ false
  no_multiplexed =
      by_case (multiplexed_send (decode file).slaves)
      (λ q. let bad : ◌≡◌ {A = ℕ} 23 0 = sym (multiplexed_decides file master buffer file-accepted q) ∙ no_ground in absurd (omega (arith, bad)))
      (λ q. q)

  no_clash : two_send (decode file).slaves ≡ false
  no_clash =
      by_case (two_send (decode file).slaves)
      (λ q. let bad : ◌≡◌ {A = ℕ} 20 0 = sym (clash_decides file master buffer file-accepted no_multiplexed q) ∙ no_ground in absurd (omega (arith, bad)))
      (λ q. q)

  left : (owner_on file master buffer).1 ≡ written_in buffer (owner_file master (decode file).slaves)
  left = ap (λ (r : Result ℕ × List ℕ). r.1) (owner-written file master buffer no_ground)

-- the byte of a slot is its owner
slot_owner : (file : List ℕ) (master : ℕ) (buffer : List ℕ) (n : ℕ) → (owner_on file master buffer).0 ≡ done n → (round : ℕ) → round < rounds → is_owned round ≡ true → (slot : ℕ)
    → slot < length (row_of master (decode file).slaves round)
    → get_or (owner_on file master buffer).1 (record_size * get_or (owner_on file master buffer).1 (record_size + round) 0 + slot) 0 ≡ owner_of master round (decode file).slaves slot
unfolding written_in
slot_owner file master buffer n is round few owned slot inside =
    rw (left file master buffer n is)
    (front-owner master (decode file).slaves (drop (length (owner_file master (decode file).slaves)) buffer) round few owned slot inside)

pub buffer-runs : BufferRuns
unfolding with_epoch
buffer-runs file master buffer n is round few owned epoch slot some inside =
    let small : slot < slots = omega (arith, row_most master (decode file).slaves round) in
    rw (slot_owner file master buffer n is round few owned slot inside)
    (owners-run (with_epoch (decode file) epoch) (no_multiplexed file master buffer n is) (no_clash file master buffer n is) master round few owned slot some small)

pub plain_buffer-runs : PlainBufferRuns
unfolding with_epoch
plain_buffer-runs file master buffer n is round few owned plain epoch slot some inside =
    let small : slot < slots = omega (arith, row_most master (decode file).slaves round) in
    rw (slot_owner file master buffer n is round few owned slot inside)
    (plain_owners-run (with_epoch (decode file) epoch) (no_clash file master buffer n is) master round few owned plain slot some small)

module _ (file frame answer : List ℕ) (mask round : ℕ) (is : (round_on file frame answer).0 ≡ done mask) (by : round_by_lem frame ≡ multipartner round) (slot : ℕ) (l : slot < slots) where
  bit-sent : (mask / 2 ^ slot % 2 ≡ 1) ↔ (sent_as_run (decode file) round slot ≢ [])
  unfolding frame_on effect_of sent_as_run
  bit-sent =
      let bit = (bits-are-senders file frame answer mask is).bits slot l in
      let senders : (frame_on (decode file) frame).senders slot ≡ sent_as_run (decode file) round slot = rw by in
      (λ set none. bit.0 set (senders ∙ none), λ some. bit.1 (λ none. some (sym senders ∙ none)))

pub mask_as_planned : MaskAsPlanned
mask_as_planned file frame answer mask round is by few owned free slot l =
    let bit = bit-sent file frame answer mask round is by slot l in
    record {
      set = λ set none.
          bit.0 set (no_length (sent_as_run (decode file) round slot) (omega (arith, count_as_planned (decode file) free round few owned slot, ap length none)));
      planned = λ before after s stands some awake e alone.
          bit.1 (someone-sends (decode file) free round few owned slot some l before after s stands awake e alone);
    }

pub plain_mask_as_planned : PlainMaskAsPlanned
plain_mask_as_planned file frame answer mask round is by few plain slot l =
    let bit = bit-sent file frame answer mask round is by slot l in
    let same = plain_count_as_planned (decode file) round few plain slot in (
      λ set none. bit.0 set (no_length (sent_as_run (decode file) round slot) (same ∙ ap length none)),
      λ some. bit.1 (λ none. some (no_length (awake_among (senders_in round slot (decode file).slaves)) (sym same ∙ ap length none))),
    )
