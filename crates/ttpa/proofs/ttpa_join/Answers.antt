-- `ttpa::ttpa_join` meets its contract: the answer of the layer below and what is told of it.
-- Assumes nothing.
use Rattle.ttpa.proofs.CallLaws.{join-told}
use Rattle.ttpa.proofs.ttpa_join.Goals as goal

pub returns : goal.returns
returns c = join-told _ _ c.number_telling.ensures _ _ _ (rw c.in_word.ensures c.join.ensures)
