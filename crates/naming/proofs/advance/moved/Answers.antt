-- `naming::advance::moved` meets its contract: one law for each way.
-- Assumes nothing.
use Rattle.naming.proofs.WritingLaws.{moved-poll, asks_here, moved_asked, moved-last, moved_giving}
use Rattle.std.proofs.Common.{rules}
use Rattle.naming.proofs.advance.moved.Goals as goal

pub returns-then-run-eq-POLL : goal.returns-then-run-eq-POLL
returns-then-run-eq-POLL c = search moved-poll

pub compared-requires : goal.compared-requires
compared-requires c = search (rules, asks_here)

pub returns-then-run-lt-GIVE_NAME : goal.returns-then-run-lt-GIVE_NAME
returns-then-run-lt-GIVE_NAME c = search moved_asked

pub returns-then-run-eq-LAST_STEP : goal.returns-then-run-eq-LAST_STEP
returns-then-run-eq-LAST_STEP c = search moved-last

pub returns : goal.returns
returns c = search (rules, moved_giving)
