-- `frame::writer::write_data` meets its contract.
-- Assumes nothing.
use Rattle.frame.proofs.Tests.{short, long}
use Rattle.frame.proofs.Writing.{data_9, data-written}
use Rattle.frame.proofs.writer.write_data.Goals as goal
use Rattle.file.specs.Inner.Refusals.{refusal_number, outcome_of}

pub returns-then-buf-lt-FRAME_SIZE : goal.returns-then-buf-lt-FRAME_SIZE
unfolding outcome_of refusal_number
returns-then-buf-lt-FRAME_SIZE c = search (data_9, short)

pub returns : goal.returns
unfolding outcome_of refusal_number
returns c = search (data-written, long)
