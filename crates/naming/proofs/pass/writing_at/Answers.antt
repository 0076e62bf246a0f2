-- `naming::pass::writing_at` meets its contract: one law for each way.
-- Assumes nothing.
use Rattle.naming.proofs.WritingLaws.{writes-poll, writes-given, writes-asked}
use Rattle.std.proofs.Common.{rules}
use Rattle.naming.proofs.pass.writing_at.Goals as goal

pub returns-then-step-eq-POLL : goal.returns-then-step-eq-POLL
returns-then-step-eq-POLL c = search writes-poll

pub returns-then-step-ge-GIVE_NAME : goal.returns-then-step-ge-GIVE_NAME
returns-then-step-ge-GIVE_NAME c = search (rules, writes-given)

pub returns : goal.returns
returns c = search (rules, writes-asked)
