-- `file::names::is_named_from` meets its contract: what is left of the search is what the whole search gives.
-- Assumes nothing.
use Rattle.file.proofs.NamesLaws.{search_start, searched_here, searched_next, searched_end}
use Rattle.std.proofs.Common.{rules}
use Rattle.file.proofs.names.is_named_from.Goals as goal

pub loop-slave-init : goal.loop-slave-init
loop-slave-init c = search (rules, search_start)

pub returns-then-name_at-name : goal.returns-then-name_at-name
returns-then-name_at-name c = search (rules, searched_here)

pub loop-slave-preserved : goal.loop-slave-preserved
loop-slave-preserved c = search (rules, searched_next)

pub returns : goal.returns
returns c = search (rules, searched_end)
