-- `frame::writer::write_address` meets its contract: at each `return` one law of the writing says what the tests before it leave.
-- Assumes nothing.
use Rattle.frame.proofs.Tests.{short, long, file-high, file-fits, past-last, upto-last}
use Rattle.frame.proofs.Writing.{joined-byte, address_9, address_13, address_14, address_18, address-written}
use Rattle.std.proofs.Common.{rules}
use Rattle.frame.proofs.writer.write_address.Goals as goal
use Rattle.file.specs.Inner.Refusals.{refusal_number, outcome_of}

pub returns-then-buf-lt-FRAME_SIZE : goal.returns-then-buf-lt-FRAME_SIZE
unfolding outcome_of refusal_number
returns-then-buf-lt-FRAME_SIZE c = search (address_9, short)

pub returns-then-is_no_operation : goal.returns-then-is_no_operation
unfolding outcome_of refusal_number
returns-then-is_no_operation c = search (address_13, long)

pub returns-then-is_broadcast_read : goal.returns-then-is_broadcast_read
unfolding outcome_of refusal_number
returns-then-is_broadcast_read c = search (address_14, long)

pub returns-then-lt : goal.returns-then-lt
unfolding outcome_of refusal_number
returns-then-lt c = search (address_18, long, file-high, past-last)

pub pb2_of-pb2-requires : goal.pb2_of-pb2-requires
pb2_of-pb2-requires c = search (rules, joined-byte, upto-last)

pub returns : goal.returns
unfolding outcome_of refusal_number
returns c = search (address-written, long, file-fits, upto-last)
