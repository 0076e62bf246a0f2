-- `join::names::shares_name` meets its contract: the first file's remainders, then the search.
-- Assumes nothing.
use Rattle.join.proofs.MarkLaws.{none-set}
use Rattle.join.proofs.NamesLaws.{places-room}
use Rattle.std.proofs.Common.{rules}
use Rattle.join.proofs.names.shares_name.Goals as goal

pub mark_remainders-requires : goal.mark_remainders-requires
mark_remainders-requires c = search (rules, none-set)

pub is_any_named-requires : goal.is_any_named-requires
is_any_named-requires c = search (rules, places-room)
