-- `join::join::join_both` meets its contract: 29, or the answer to files that share no name.
-- Assumes nothing.
use Rattle.file.specs.Inner.Refusals.{refusal_number, outcome_of}
use Rattle.join.proofs.JoinLaws.{call-shared, names_apart}
use Rattle.std.proofs.Common.{rules}
use Rattle.join.proofs.join.join_both.Goals as goal

pub returns-then-shares_name : goal.returns-then-shares_name
unfolding outcome_of refusal_number
returns-then-shares_name c = search (rules, call-shared)

pub join_apart-requires : goal.join_apart-requires
join_apart-requires c = search (rules, names_apart)
