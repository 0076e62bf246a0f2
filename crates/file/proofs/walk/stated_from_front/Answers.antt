-- `file::walk::stated_from_front` meets its contract: what the walk from here on states is what the whole directory states.
-- Assumes nothing.
use Rattle.std.proofs.Common.{rules}
use Rattle.file.proofs.SeekLaws.{seeking_done, seeking_next, seeking_here, seeking_short}
use Rattle.file.proofs.walk.stated_from_front.Goals as goal

pub overflow_cast-result : goal.overflow_cast-result
overflow_cast-result c = search (rules, seeking_short)

pub returns-then-is_stated : goal.returns-then-is_stated
returns-then-is_stated c = search (rules, seeking_here)

pub loop-entry-preserved : goal.loop-entry-preserved
loop-entry-preserved c = search (rules, seeking_next)

pub returns : goal.returns
returns c = search (rules, seeking_done)
