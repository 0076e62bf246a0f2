-- `cluster::msd::read_data` meets its contract: a law for each way.
-- Assumes nothing.
use Rattle.cluster.specs.Inner.RoundAnswers.{data_read}
use Rattle.cluster.proofs.FrameLaws.{data-not-one, data-one, data-not_six, data_wrong, data_right}
use Rattle.std.proofs.Common.{rules}
use Rattle.file.specs.Inner.Refusals.{refusal_number}
use Rattle.cluster.proofs.msd.read_data.Goals as goal

pub returns-then-frame-ne-FIREWORK_SIZE : goal.returns-then-frame-ne-FIREWORK_SIZE
unfolding data_read refusal_number
returns-then-frame-ne-FIREWORK_SIZE c = search (rules, data-not-one)

pub returns-then-not-is_write_pending : goal.returns-then-not-is_write_pending
unfolding data_read refusal_number
returns-then-not-is_write_pending c = search (rules, data-one)

pub returns-then-frame-ne-FRAME_SIZE : goal.returns-then-frame-ne-FRAME_SIZE
unfolding data_read refusal_number
returns-then-frame-ne-FRAME_SIZE c = search (rules, data-not_six)

pub returns-then-frame-data_check : goal.returns-then-frame-data_check
unfolding data_read refusal_number
returns-then-frame-data_check c = search (rules, data_wrong)

pub returns : goal.returns
unfolding data_read refusal_number
returns c = search (rules, data_right)
