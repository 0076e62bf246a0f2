-- `frame::reader::read_address` meets its contract: at each `return` one law of the reading says what the tests before it leave.
-- Assumes nothing.
use Prim.Native.Nat.{ℕ}
use mathlib.Core.List.{List}
use Rattle.frame.specs.Inner.FrameAnswers.{reading_of}
use Rattle.frame.proofs.Tests.{other_length}
use Rattle.frame.proofs.Reading.{Formed, refuse_10, refuse_11, refuse_12, refuse_13, refuse_14, formed_by, accept}
use Rattle.std.proofs.Common.{rules}
use Rattle.frame.proofs.reader.read_address.Goals as goal
use Rattle.frame.proofs.reader.read_address.Goals.{Else-is_wrong_check}
use Rattle.file.specs.Inner.Refusals.{refusal_number}

-- after the third test: the frame that is read, and that none of grounds 10 to 12 holds
read-frame : Else-is_wrong_check → List ℕ
read-frame c =
    c.args.frame.now

well-formed : (c : Else-is_wrong_check) → Formed (read-frame c)
unfolding read-frame
well-formed c = search formed_by

pub returns-then-is_no_address : goal.returns-then-is_no_address
unfolding reading_of refusal_number
returns-then-is_no_address c = search (rules, refuse_10)

pub returns-then-frame-ne-FRAME_SIZE : goal.returns-then-frame-ne-FRAME_SIZE
unfolding reading_of refusal_number
returns-then-frame-ne-FRAME_SIZE c = search (rules, refuse_11, other_length)

pub returns-then-is_wrong_check : goal.returns-then-is_wrong_check
unfolding reading_of refusal_number
returns-then-is_wrong_check c = search (rules, refuse_12)

pub returns-then-is_no_operation : goal.returns-then-is_no_operation
unfolding reading_of refusal_number
returns-then-is_no_operation c = search (refuse_13, formed_by)

pub returns-then-is_broadcast_read : goal.returns-then-is_broadcast_read
unfolding reading_of refusal_number
returns-then-is_broadcast_read c = search (refuse_14, formed_by)

pub returns : goal.returns
unfolding reading_of read-frame refusal_number
returns c =
    accept _ (well-formed (goal.at.returns c).Else-is_wrong_check)
    c.new-name.ensures
    c.operation_of-operation.ensures
    c.is_no_operation.ensures
    c.if-is_no_operation.false
    c.is_broadcast_read.ensures
    c.file_number_of.ensures
    c.if-is_broadcast_read.false
