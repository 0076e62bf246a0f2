-- `join::names::is_any_named` meets its contract: what is left of the search is what the whole search gives.
-- Assumes nothing.
use Rattle.std.proofs.Common.{length-take, arith, rules}
use Rattle.convert.proofs.ReadLaws.{below-count}
use Rattle.join.proofs.NamesLaws.{names_stand, new-name, asking_start, asking_here, asking_next, asking_end}
use Rattle.join.proofs.names.is_any_named.Goals as goal

pub slice_bounds-stated-end : goal.slice_bounds-stated-end
slice_bounds-stated-end c = simp length-take (omega arith)

pub loop-slave-init : goal.loop-slave-init
loop-slave-init c = asking_start _ _

pub physical_name-name-requires : goal.physical_name-name-requires
physical_name-name-requires c = search (rules, below-count)

pub is_named_again-requires : goal.is_named_again-requires
is_named_again-requires c = search (rules, names_stand, new-name)

pub returns-then-is_named_again : goal.returns-then-is_named_again
returns-then-is_named_again c = search (rules, asking_here)

pub loop-slave-preserved : goal.loop-slave-preserved
loop-slave-preserved c = search (rules, asking_next)

pub returns : goal.returns
returns c = search (rules, asking_end)
