-- `file::held::is_seen_twice` meets its contract: the marks are those of the names held from the slave on, and none of these occurs twice.
-- Assumes nothing.
use Rattle.std.proofs.Common.{rules}
use Rattle.file.proofs.HeldLaws.{slaves-start, slaves-here, slaves-next}
use Rattle.file.proofs.held.is_seen_twice.Goals as goal

pub loop-slave-init : goal.loop-slave-init
loop-slave-init c = search (rules, slaves-start)

pub returns-then-seen-mark : goal.returns-then-seen-mark
returns-then-seen-mark c = search (rules, slaves-here)

pub loop-slave-preserved : goal.loop-slave-preserved
loop-slave-preserved c = search (rules, slaves-next)
