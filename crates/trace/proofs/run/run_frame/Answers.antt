-- `trace::run::run_frame` meets its contract: a frame that nobody hears is sent, and no frame moves the slaves' files.
-- Assumes nothing.
use Rattle.std.proofs.Common.{rules}
use Rattle.trace.proofs.RunLaws.{frame-sent, frame_sleepers}
use Rattle.trace.proofs.run.run_frame.Goals as goal

pub returns : goal.returns
returns c = search (rules, frame-sent, frame_sleepers)
