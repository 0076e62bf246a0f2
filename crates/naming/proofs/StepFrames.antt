-- A step that no ground refuses, of a running position, is the two frames of its round; and a step that meets these premises.
-- Assumes nothing.
use Rattle.std.proofs.Common.{ℕ, ◌^◌, ◌<◌, ◌≡◌, refl, ap, ◌∙◌, List, [], ◌∷◌, false, length, arith, le-ltb}
use Rattle.file.specs.Rules.Bytes.{Bytes}
use Rattle.file.specs.Rules.Order.{first_of, both, either}
use Rattle.file.specs.Rules.FileGrounds.{is_among, has_repeat}
use Rattle.file.specs.Rules.Decode.{decode}
use Rattle.master_slave.specs.Rules.Bus.{slots, sender_mask}
use Rattle.cluster.specs.Rules.RoundGrounds.{short_answer}
use Rattle.cluster.specs.Rules.Round.{Answer, frame_on}
use Rattle.cluster.specs.Rules.MasterSlave.{address_sent, data_sent, round_sent}
use Rattle.cluster.specs.Inner.Sending.{MaySend, asked}
use Rattle.cluster.proofs.Rounds.{NoGround, none-holds, others_decide}
use Rattle.cluster.proofs.SentRounds as rounds
use Rattle.naming.specs.Rules.RunRounds.{sent}
use Rattle.naming.specs.Rules.Position.{Position, running, fresh, end_at}
use Rattle.naming.specs.Rules.Pass.{bits}
use Rattle.naming.specs.Rules.Run.{next_round}
use Rattle.naming.specs.Rules.RunGrounds.{run_grounds, names_grounds, unfit_name, unfit_position}
use Rattle.naming.specs.Rules.Step.{is_reply, made_by_lem, step_ground}
use Rattle.naming.specs.Claims.StepFrames.{TwoFrames, StepsAreFrames}
use Rattle.naming.specs.Claims.Files.{m10_file}
use Rattle.naming.specs.Claims.Cases.{answer_buffer}
use Rattle.naming.proofs.StepLaws.{step-made}
use Rattle.naming.proofs.StepRound.{may-send}
use Rattle.naming.proofs.RunLaws.{runs, next_sendable}
use Rattle.naming.proofs.Examples.{m10_accepted}
use Rattle.file.proofs.BytesBelow.{all_below, bytes_below}

-- the round may be sent
pub next-sent :
    (file : List ℕ) (p : Position) (names buffer : List ℕ) → Bytes names → p.place.value < 2 ^ bits → step_ground file p names buffer ≡ 0 → p.end ≡ running →
    MaySend (sent (next_round names p))
unfolding step_ground
next-sent file p names buffer n small g going =
    may-send (next_sendable (runs (none-holds file buffer (run_grounds names p) g).rest going) n small)

pub steps-are-frames : StepsAreFrames
unfolding step_ground round_sent is_reply made_by_lem
steps-are-frames file p names buffer b n small g going =
    let none : NoGround file buffer (run_grounds names p) = none-holds file buffer (run_grounds names p) g in
    let long : short_answer buffer ≡ false = unfold short_answer in le-ltb (length buffer) slots none.long in
    let may : MaySend (sent (next_round names p)) = next-sent file p names buffer n small g going in
    let is = rounds.round_is file buffer b none.accepted long may in
    record {
      mask = sender_mask (frame_on (asked (decode file) (sent (next_round names p))) (data_sent (sent (next_round names p)))).senders;
      address-accepted =
          rounds.frame-taken file (address_sent (decode file) (sent (next_round names p))) buffer none.accepted long
          (rounds.address-accepted (decode file) (sent (next_round names p)) may);
      data-accepted = ap (λ (r : Answer × List ℕ × List ℕ). r.0) is;
      step = step-made file p names buffer g going ∙ rw (ap (λ (r : Answer × List ℕ × List ℕ). r.0) is);
    }

-- ---- the first step of a fresh run over names 1 and 2 on the file of M10 is one

m10_bytes : Bytes m10_file
m10_bytes = bytes_below m10_file (unfold m10_file all_below both in refl)

m10_names : List ℕ
m10_names = 1 ∷ 2 ∷ []

names-bytes : Bytes m10_names
names-bytes = bytes_below m10_names (unfold m10_names all_below both in refl)

m10_run : first_of (run_grounds m10_names (fresh m10_names)) ≡ 0
unfolding m10_names run_grounds names_grounds first_of unfit_name unfit_position has_repeat is_among fresh end_at both either
m10_run = refl

m10_goes : step_ground m10_file (fresh m10_names) m10_names answer_buffer ≡ 0
unfolding step_ground
m10_goes = others_decide m10_file answer_buffer (run_grounds m10_names (fresh m10_names)) m10_accepted (omega arith) ∙ m10_run

m10_step : TwoFrames m10_file (fresh m10_names) m10_names answer_buffer
m10_step =
    steps-are-frames m10_file (fresh m10_names) m10_names answer_buffer m10_bytes names-bytes (unfold fresh in omega arith) m10_goes
    (unfold fresh end_at m10_names in refl)
