-- One frame on a cluster and on a file (document 01, "What slaves do": "Answer, buffer and file are one equation over these rules,
-- for every input.").
use Rattle.std.specs.Prelude.{ℕ, List, ◌∷◌, ◌++◌, cond, get_or, eqb}
use Rattle.file.specs.Rules.Order.{first_of}
use Rattle.file.specs.Rules.Results.{Result, refused, done}
use Rattle.file.specs.Rules.Cluster.{Cluster}
use Rattle.file.specs.Rules.Encode.{encode}
use Rattle.file.specs.Rules.Decode.{decode}
use Rattle.file.specs.Rules.FileGrounds.{file_grounds}
use Rattle.frame.specs.Rules.Fireworks.{Round, multipartner, msd, msa, no_round}
use Rattle.frame.specs.Rules.Frames.{between}
use Rattle.master_slave.specs.Rules.Bus.{slots, sender_mask, answer_bytes, answer_in, nobody}
use Rattle.master_slave.specs.Rules.Slaves.{with_address, epoch_raised, nothing, pending_duty, sent_to, slaves_after, rested}
use Rattle.master_slave.specs.Rules.Effect.{Effect}
use Rattle.multipartner.specs.Rules.Multipartner.{cluster_below, sent_during, passed_over_lem}
use Rattle.cluster.specs.Rules.RoundGrounds.{short_answer, round_by_lem, grounds_on}

-- MSA: "An accepted MSA sets the epoch to PB0 and becomes pending until the next one; nobody sends."
-- MSD: "MSD carries out the pending operation, or nothing." Multipartner: "Slots 1 to 63 run in order"
-- Both: addressed slaves "fall asleep after that round", a sleeping one "is awake after the next accepted MSD or multipartner round"
-- (document 02, job 9)
unfoldable pub effect_of : Cluster → Round → List ℕ → Effect
effect_of c msa frame =
    record { senders = nobody; after = with_address c (get_or frame 1 0) (get_or frame 2 0) (get_or frame 3 0) (get_or frame 4 0) }
effect_of c msd frame =
    let duty = pending_duty c in
    record { senders = sent_to duty c.slaves; after = rested duty (slaves_after duty (between frame) (epoch_raised c)) }
effect_of c (multipartner r) frame =
    record { senders = sent_during (passed_over_lem c) r (epoch_raised c); after = rested nothing (cluster_below (passed_over_lem c) r (epoch_raised c) slots) }
effect_of c no_round frame = record { senders = nobody; after = c }

unfoldable pub frame_on : Cluster → List ℕ → Effect
frame_on c frame = effect_of c (round_by_lem frame) frame

-- refused by a number, or done, with the mask of the slots in which someone sent
abbrev pub Answer : Type 0
Answer = Result ℕ

-- "Checked in this order": the file's grounds, the buffer's, the frame's
unfoldable pub round_ground : List ℕ → List ℕ → List ℕ → ℕ
round_ground file frame buffer =
    first_of (file_grounds file ++ (9, short_answer buffer) ∷ grounds_on (decode file) (round_by_lem frame) frame)

-- one frame on a file: answer, buffer and file. "A refusal returns its number and alters nothing lent"
-- "Answer, buffer and file are one equation over these rules, for every input."
-- "A cluster that never replies, or stores nothing, contradicts it (demand 2)."
unfoldable pub round_on : List ℕ → List ℕ → List ℕ → Answer × List ℕ × List ℕ
round_on file frame buffer =
    let reason = round_ground file frame buffer in let effect = frame_on (decode file) frame in
    cond (eqb reason 0)
    (done (sender_mask effect.senders), answer_in buffer (answer_bytes (get_or frame 0 0) effect.senders), encode effect.after)
    (refused reason, buffer, file)
