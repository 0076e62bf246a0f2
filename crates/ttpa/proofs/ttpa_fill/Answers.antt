-- `ttpa::ttpa_fill` meets its contract: the answer of the layer below and what is told of it.
-- Assumes nothing.
use Rattle.ttpa.proofs.CallLaws.{fill-told}
use Rattle.ttpa.proofs.ttpa_fill.Goals as goal

pub returns : goal.returns
returns c = fill-told _ _ c.number_telling.ensures _ _ (rw c.in_word.ensures c.fill.ensures)
