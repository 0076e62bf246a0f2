-- Frames that the writers wrote, sent on an accepted file with a buffer of 64 bytes: an address frame leaves exactly its epoch, name,
-- file, operation and record pending; a data frame, with a write pending, puts exactly its bytes into each addressed slave that may
-- store them, as the rule of a write says, and changes nothing else but the epoch.
-- Assumes nothing.
use Prim.Native.Nat.{ℕ, ◌≤◌}
use native.Mathlib.Omega.{arith}
use mathlib.Core.Path.{◌≡◌, refl, sym, ap, ◌∙◌}
use mathlib.Core.List.{List, [], ◌∷◌}
use mathlib.Core.Bool.{true, false}
use lib.ListN.{length, get_or, take}
use Rattle.file.specs.Rules.Results.{done}
use Rattle.file.specs.Rules.Cluster.{Cluster, pb2_of}
use Rattle.file.specs.Rules.Encode.{encode}
use Rattle.file.specs.Rules.Decode.{decode}
use Rattle.file.specs.Rules.FileGrounds.{file_ground}
use borrow.Author.Tests.{eq-eqb}
use Rattle.file.specs.Rules.Order.{both}
use Rattle.file.proofs.Order.{first-none}
use Rattle.file.proofs.Results.{no_ground}
use Rattle.frame.specs.Rules.Fireworks.{msd, msa, data_firework, address_firework, round_of, round_in}
use Rattle.frame.specs.Rules.Frames.{frame_size, frame_of, between, data_frame}
use Rattle.frame.specs.Rules.Check.{data_check}
use Rattle.frame.specs.Rules.FrameGrounds.{wrong_frame_length}
use Rattle.frame.specs.Rules.Reading.{parts, read_ground, read_address}
use Rattle.frame.specs.Rules.Writing.{write_frame, data_ground, write_address, write_data}
use Rattle.frame.proofs.Tests as Tests
use Rattle.frame.proofs.RoundTrip.{written-reads}
use Rattle.master_slave.specs.Rules.Bus.{slots, sender_mask, answer_bytes, answer_in, nobody}
use Rattle.master_slave.specs.Rules.Slaves.{with_address, epoch_raised, nothing, writing, pending_duty, sent_to, slaves_after, rested, reply_to}
use Rattle.cluster.specs.Rules.RoundGrounds.{round_by_lem, write_pending}
use Rattle.cluster.specs.Inner.EachGround.{no_firework, length_for, wrong_length_on, wrong_check_on, no_operation_on, broadcast_read_on, frame_ground}
use Rattle.cluster.specs.Rules.Round.{effect_of, frame_on, round_ground, round_on}
use Rattle.master_slave.proofs.Bus.{mask-nobody, answer-alike}
use Rattle.master_slave.proofs.DataLaws.{sent-nothing, writing-wakes}
use Rattle.cluster.proofs.WritePending.{pending-writes}
use Rattle.cluster.proofs.Cases.{quiet_mask}
use Rattle.cluster.proofs.Rounds.{fits-none, round-accepted}
use Rattle.cluster.proofs.RoundCall.{frame_decides}
use Rattle.cluster.proofs.FrameLaws.{address_ground, data-first, data-fits, PartsAre, parts_facts}

-- an accepted file, a buffer of 64 bytes and a frame that fits
pub round-fits : (file frame buffer : List ℕ) → file_ground file ≡ 0 → slots ≤ length buffer → frame_ground (decode file) frame ≡ 0 → round_ground file frame buffer ≡ 0
round-fits file frame buffer accepted long fits = frame_decides file frame buffer accepted long ∙ fits

-- ---- an address frame

address-round : (frame : List ℕ) → get_or frame 0 0 ≡ address_firework → round_by_lem frame ≡ msa
unfolding round_by_lem round_of round_in
address-round [] e = absurd (omega (arith, e))
address-round (b ∷ bs) e = rw e

-- a frame that the reader takes apart, sent
pub address-sent :
    (file frame buffer : List ℕ) (epoch name number operation «record» : ℕ) → file_ground file ≡ 0 → slots ≤ length buffer →
    done (parts epoch name number operation «record») ≡ read_address frame →
    round_on file frame buffer ≡ (done 0, answer_in buffer (answer_bytes address_firework nobody), encode (with_address (decode file) epoch name (pb2_of number operation) «record»))
unfolding read_ground frame_on effect_of
address-sent file frame buffer epoch name number operation «record» accepted long reads =
    let facts : PartsAre frame epoch name number operation «record» = parts_facts frame reads in
    let first : get_or frame 0 0 ≡ address_firework = Tests.address-first frame (first-none 9 _ _ facts.reason).0 in
    let is_address : round_by_lem frame ≡ msa = address-round frame first in
    let fits : frame_ground (decode file) frame ≡ 0 = address_ground (decode file) frame is_address ∙ facts.reason in
    round-accepted file frame buffer (round-fits file frame buffer accepted long fits)
    ∙ rw (is_address, first, ← mask-nobody, facts.pb0, facts.pb1, facts.pb2, facts.pb3)

-- the six bytes that the address writer wrote, sent
pub written-address-sent :
    (file buffer answer : List ℕ) (epoch name number operation «record» : ℕ) → file_ground file ≡ 0 → slots ≤ length answer →
    (write_address buffer epoch name number operation «record»).0 ≡ done tt →
    round_on file (take frame_size (write_address buffer epoch name number operation «record»).1) answer ≡
    (done 0, answer_in answer (answer_bytes address_firework nobody), encode (with_address (decode file) epoch name (pb2_of number operation) «record»))
written-address-sent file buffer answer epoch name number operation «record» accepted long written =
    address-sent file (take frame_size (write_address buffer epoch name number operation «record»).1) answer epoch name number operation «record» accepted long
    (sym (written-reads buffer epoch name number operation «record» written))

-- ---- a data frame

-- without data it is its firework alone
pub alone_round : round_by_lem (data_firework ∷ []) ≡ msd
unfolding round_by_lem round_of round_in
alone_round = refl

pub alone_fits : (c : Cluster) → write_pending c ≡ false → frame_ground c (data_firework ∷ []) ≡ 0
unfolding frame_ground
alone_fits c none =
    rw alone_round
    (fits-none c msd (data_firework ∷ [])
    (record {
      firework = unfold no_firework in refl;
      size = unfold wrong_length_on wrong_frame_length length_for in rw none;
      check = unfold wrong_check_on both in rw none;
      operation = unfold no_operation_on in refl;
      broadcast_read = unfold broadcast_read_on in refl;
    }))

nobody-sends : (name n r : ℕ) (c : Cluster) (slot : ℕ) → sent_to (writing name n r) c.slaves slot ≡ nobody slot
unfolding nobody reply_to
nobody-sends name n r c slot = sent-nothing (writing name n r) (λ s. refl) c.slaves slot

module _ (b₀ b₁ b₂ b₃ : ℕ) where
  abbrev bytes : List ℕ
  bytes = b₀ ∷ b₁ ∷ b₂ ∷ b₃ ∷ []

  pub data-round : round_by_lem (data_frame bytes) ≡ msd
  unfolding round_by_lem round_of round_in data_frame frame_of
  data-round = refl

  between-data : between (data_frame bytes) ≡ bytes
  unfolding data_frame frame_of
  between-data = refl

  pub frame-fits : (c : Cluster) → write_pending c ≡ true → frame_ground c (data_frame bytes) ≡ 0
  unfolding data_frame frame_of
  frame-fits c w = data-fits c (data_frame bytes) data-round (sym w) refl {check = data_check bytes} refl refl refl

  -- the frame that the data writer writes for these bytes, sent with a write pending
  pub data-sent : (file buffer : List ℕ) (name n r : ℕ) → file_ground file ≡ 0 → slots ≤ length buffer → pending_duty (decode file) ≡ writing name n r →
      round_on file (data_frame bytes) buffer ≡ (done 0, answer_in buffer (answer_bytes data_firework nobody), encode (rested nothing (slaves_after (writing name n r) bytes (epoch_raised (decode file)))))
  unfolding frame_on effect_of
  data-sent file buffer name n r accepted long p =
      let quiet : (slot : ℕ) → sent_to (writing name n r) (decode file).slaves slot ≡ nobody slot = nobody-sends name n r (decode file) in
      let fits : frame_ground (decode file) (data_frame bytes) ≡ 0 = frame-fits (decode file) (pending-writes (decode file) p) in
      let mask : sender_mask (sent_to (writing name n r) (decode file).slaves) ≡ 0 = quiet_mask (sent_to (writing name n r) (decode file).slaves) quiet in
      let heard : answer_in buffer (answer_bytes data_firework (sent_to (writing name n r) (decode file).slaves)) ≡ answer_in buffer (answer_bytes data_firework nobody) =
      answer-alike buffer data_firework (sent_to (writing name n r) (decode file).slaves) nobody quiet in
      round-accepted file (data_frame bytes) buffer (round-fits file (data_frame bytes) buffer accepted long fits)
      ∙ rw (data-round, p, mask, data-first (data_frame bytes) data-round, heard, between-data, ← writing-wakes name n r (slaves_after (writing name n r) bytes (epoch_raised (decode file))))

  written-frame : (buffer : List ℕ) → (write_data buffer bytes).0 ≡ done tt → take frame_size (write_data buffer bytes).1 ≡ data_frame bytes
  unfolding write_data write_frame data_frame frame_of
  written-frame buffer written = rw (eq-eqb (data_ground buffer) 0 (no_ground tt (data_ground buffer) (sym written)))

  -- the six bytes that the data writer wrote, sent with a write pending
  pub written-data-sent :
      (file buffer answer : List ℕ) (name n r : ℕ) → file_ground file ≡ 0 → slots ≤ length answer → pending_duty (decode file) ≡ writing name n r →
      (write_data buffer bytes).0 ≡ done tt →
      round_on file (take frame_size (write_data buffer bytes).1) answer ≡
      (done 0, answer_in answer (answer_bytes data_firework nobody), encode (rested nothing (slaves_after (writing name n r) bytes (epoch_raised (decode file)))))
  written-data-sent file buffer answer name n r accepted long p written =
      ap (λ (frame : List ℕ). round_on file frame answer) (written-frame buffer written) ∙ data-sent file answer name n r accepted long p
