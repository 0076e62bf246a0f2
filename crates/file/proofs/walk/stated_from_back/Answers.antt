-- `file::walk::stated_from_back` meets its contract: the entries before state what the whole directory states.
-- Assumes nothing.
use Rattle.std.proofs.Common.{rules}
use Rattle.file.proofs.SeekLaws.{back_done, back-next, back-here, back-short}
use Rattle.file.proofs.walk.stated_from_back.Goals as goal

pub overflow_cast-result : goal.overflow_cast-result
overflow_cast-result c = search (rules, back-short)

pub returns-then-is_stated : goal.returns-then-is_stated
returns-then-is_stated c = search (rules, back-here)

pub loop-entry-preserved : goal.loop-entry-preserved
loop-entry-preserved c = search (rules, back-next)

pub returns : goal.returns
returns c = search (rules, back_done)
