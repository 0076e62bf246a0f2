-- `multipartner::entry::is_in_turn` meets its contract: a law for each way.
-- Assumes nothing.
use Rattle.std.proofs.Common.{arith}
use Rattle.multipartner.proofs.EntryLaws.{turn_plain, turn-other, turn_fourth, turn_eighth}
use Rattle.std.proofs.Common.{rules}
use Rattle.multipartner.proofs.entry.is_in_turn.Goals as goal

pub returns-then-kind-lt-FIRST_MULTIPLEXED_KIND : goal.returns-then-kind-lt-FIRST_MULTIPLEXED_KIND
returns-then-kind-lt-FIRST_MULTIPLEXED_KIND c = search (rules, turn_plain)

pub returns-then-start-epoch : goal.returns-then-start-epoch
returns-then-start-epoch c = turn-other _ _ _ (omega arith) (omega arith) (omega arith) (search rules)

pub returns-then-kind-eq0 : goal.returns-then-kind-eq0
returns-then-kind-eq0 c = turn_fourth _ _ _ (omega arith) (omega arith) (omega arith) (search rules) (search rules)

pub returns : goal.returns
returns c = turn_eighth _ _ _ (omega arith) (omega arith) (omega arith) (search rules) (search rules)
