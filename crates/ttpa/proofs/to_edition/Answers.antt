-- `ttpa::to_edition` meets its contract: the answer of the layer below and what is told of it.
-- Assumes nothing.
use Rattle.ttpa.proofs.CallLaws.{convert-told}
use Rattle.ttpa.proofs.to_edition.Goals as goal

pub returns : goal.returns
returns c = convert-told _ _ c.number_telling.ensures _ _ _ (rw c.in_word.ensures c.convert.ensures)
