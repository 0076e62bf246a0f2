-- `file::walk::is_stated` meets its contract: a law for each way.
-- Assumes nothing.
use Rattle.file.proofs.Order.{other_if_ne, same_if_ne}
use Rattle.file.proofs.SeekLaws.{states-other, states-last}
use Rattle.std.proofs.Common.{rules}
use Rattle.file.proofs.walk.is_stated.Goals as goal

pub returns-then-ne : goal.returns-then-ne
returns-then-ne c = search (rules, states-other, other_if_ne)

pub returns : goal.returns
returns c = search (rules, states-last, same_if_ne)
