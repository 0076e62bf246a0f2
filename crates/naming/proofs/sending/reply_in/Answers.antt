-- `naming::sending::reply_in` meets its contract: bit 1 decides.
-- Assumes nothing.
use Rattle.naming.proofs.RunLaws.{one-heard, one_silent}
use Rattle.naming.proofs.sending.reply_in.Goals as goal

pub returns-then-senders-eq1 : goal.returns-then-senders-eq1
returns-then-senders-eq1 c = one-heard _ c.if-senders-eq1.true

pub returns : goal.returns
returns c = one_silent _ c.if-senders-eq1.false
