-- `listing_text::run::all_names` meets its contract: the names so far stand in front.
-- Assumes nothing.
use Rattle.std.proofs.Common.{arith}
use Rattle.listing_text.proofs.ListLaws.{naming_start, naming_next, naming_end}
use Rattle.listing_text.proofs.run.all_names.Goals as goal

pub loop-i-init : goal.loop-i-init
loop-i-init c = naming_start

pub bounds-names-i : goal.bounds-names-i
bounds-names-i c = let r = c.loop-i.invariant.room in omega arith

pub loop-i-preserved : goal.loop-i-preserved
loop-i-preserved c = naming_next c.loop-i.invariant c.loop-i-test.true

pub returns : goal.returns
returns c = naming_end c.loop-i.invariant c.loop-i-test.false
