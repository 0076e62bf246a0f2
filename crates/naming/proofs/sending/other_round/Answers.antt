-- `naming::sending::other_round` meets its contract: one law for each way.
-- Assumes nothing.
use Rattle.naming.proofs.SendLaws.{at-poll, give-name, give-baptize, at-execute}
use Rattle.naming.proofs.sending.other_round.Goals as goal

pub returns-then-step-eq-POLL : goal.returns-then-step-eq-POLL
returns-then-step-eq-POLL c = search at-poll

pub returns-then-step-eq-GIVE_NAME : goal.returns-then-step-eq-GIVE_NAME
returns-then-step-eq-GIVE_NAME c = search give-name

pub returns-then-step-eq-LAST_STEP : goal.returns-then-step-eq-LAST_STEP
returns-then-step-eq-LAST_STEP c = search give-baptize

pub returns : goal.returns
returns c = search at-execute
