-- `convert::put::put_fill` meets its contract: none, or two zeros.
-- Assumes nothing.
use Rattle.convert.proofs.Putting.{fill_none, fill-two, fill-fits}
use Rattle.std.proofs.Common.{rules}
use Rattle.convert.proofs.put.put_fill.Goals as goal

pub returns-then-width-eq-OFFSET_WIDTH : goal.returns-then-width-eq-OFFSET_WIDTH
returns-then-width-eq-OFFSET_WIDTH c = search (rules, fill_none)

pub put_u16-requires : goal.put_u16-requires
put_u16-requires c = search (rules, fill-fits)

pub returns : goal.returns
returns c = search (rules, fill-two)
