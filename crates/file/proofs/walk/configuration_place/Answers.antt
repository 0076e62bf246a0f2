-- `file::walk::configuration_place` meets its contract: none, the first entry, or what the search from the front finds.
-- Assumes nothing.
use Rattle.std.proofs.Common.{rules}
use Rattle.file.proofs.SeekLaws.{none-stated, first_short, first-here}
use Rattle.file.proofs.walk.configuration_place.Goals as goal

pub returns-then-count-eq0 : goal.returns-then-count-eq0
returns-then-count-eq0 c = search (rules, none-stated)

pub overflow_cast-result : goal.overflow_cast-result
overflow_cast-result c = search (rules, first_short)

pub returns-then-is_stated : goal.returns-then-is_stated
returns-then-is_stated c = search (rules, first-here)
