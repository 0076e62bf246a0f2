-- `ttpa::ttpa_contents` meets its contract: the answer of the layer below and what is told of it.
-- Assumes nothing.
use Rattle.ttpa.proofs.CallLaws.{contents-told}
use Rattle.ttpa.proofs.ttpa_contents.Goals as goal

pub returns : goal.returns
returns c = contents-told _ _ c.number_telling.ensures _ _ _ _ (rw c.in_word.ensures c.read_contents.ensures)
