-- `file::names::equal_names` meets its contract: the remainders of the names after the slave are kept, and none of these names occurs twice.
-- Assumes nothing.
use Rattle.file.proofs.NamesLaws.{few-names-at, two-names-at, compared-start, compared-below, equal_new, equal_here, equal_next}
use Rattle.std.proofs.Common.{rules}
use Rattle.file.proofs.names.equal_names.Goals as goal

pub returns-then-count-lt2 : goal.returns-then-count-lt2
returns-then-count-lt2 c = search (rules, few-names-at)

pub returns-then-count-eq2 : goal.returns-then-count-eq2
returns-then-count-eq2 c = search (rules, two-names-at)

pub loop-slave-init : goal.loop-slave-init
loop-slave-init c = search (rules, compared-start)

pub is_repeated-requires : goal.is_repeated-requires
is_repeated-requires c = search (rules, compared-below, equal_new)

pub returns-then-is_repeated : goal.returns-then-is_repeated
returns-then-is_repeated c = search (rules, equal_here)

pub loop-slave-preserved : goal.loop-slave-preserved
loop-slave-preserved c = search (rules, equal_next)
