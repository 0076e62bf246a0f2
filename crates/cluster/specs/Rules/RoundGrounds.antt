-- The grounds of a frame on a cluster, 9 to 14 (document 01, "Grounds for turning something away"; the frames' lengths in
-- "Fireworks and frames").
use Rattle.std.specs.Prelude.{ℕ, List, [], ◌∷◌, Bool, true, cond, length, get_or, eqb, ltb}
use Rattle.file.specs.Rules.Order.{Ground, both}
use Rattle.file.specs.Rules.Layout.{pending_flag}
use Rattle.file.specs.Rules.Cluster.{Cluster, operation_of, write_operation}
use Rattle.frame.specs.Rules.Fireworks.{Round, multipartner, msd, msa, no_round, round_of}
use Rattle.frame.specs.Rules.Check.{address_check, data_check}
use Rattle.frame.specs.Rules.Frames.{frame_size}
use Rattle.frame.specs.Rules.FrameGrounds.{wrong_frame_length, wrong_check, no_operation, broadcast_read}
use Rattle.master_slave.specs.Rules.Bus.{slots}

-- 9. "The answer buffer is shorter than 64 bytes"
unfoldable pub short_answer : List ℕ → Bool
short_answer buffer = ltb (length buffer) slots

-- the round that the frame's first byte opens; an empty frame has none
unfoldable pub round_by_lem : List ℕ → Round
round_by_lem [] = no_round
round_by_lem (b ∷ bs) = round_of b

unfoldable pub write_pending : Cluster → Bool
write_pending c = both (eqb c.flag pending_flag) (eqb (operation_of c.pending_pb2) write_operation)

-- "Checked in this order": the grounds of a frame on a cluster, those that the round of its first byte can have
-- 10. "The frame is empty or its first byte is no firework"
-- 11. "The frame's length does not fit its firework.": "MSA is 6 bytes"; "MSD is 6 bytes .. if a write is pending, otherwise 1."
-- "A multipartner frame is 1 byte."
-- 12. "The check byte is wrong."
-- 13. "An address frame .. has operation 3"
-- 14. "A read, received .., is addressed to 0x00."
unfoldable pub grounds_on : Cluster → Round → List ℕ → List Ground
grounds_on c no_round frame = (10, true) ∷ []
grounds_on c (multipartner r) frame = (11, wrong_frame_length 1 frame) ∷ []
grounds_on c msd frame =
    (11, wrong_frame_length (cond (write_pending c) frame_size 1) frame) ∷ (12, both (write_pending c) (wrong_check data_check frame)) ∷ []
grounds_on c msa frame =
    let name = get_or frame 2 0 in let operation = operation_of (get_or frame 3 0) in
    (11, wrong_frame_length frame_size frame) ∷ (12, wrong_check address_check frame) ∷
    (13, no_operation operation) ∷ (14, broadcast_read operation name) ∷ []
