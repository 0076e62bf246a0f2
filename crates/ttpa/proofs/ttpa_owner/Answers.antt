-- `ttpa::ttpa_owner` meets its contract: the answer of the layer below and what is told of it.
-- Assumes nothing.
use Rattle.ttpa.proofs.CallLaws.{owner-told}
use Rattle.ttpa.proofs.ttpa_owner.Goals as goal

pub returns : goal.returns
returns c = owner-told _ _ c.number_telling.ensures _ _ _ c.new.ensures (rw c.in_word.ensures c.write_owner.ensures)
