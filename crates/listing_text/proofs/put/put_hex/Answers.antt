-- `listing_text::put::put_hex` meets its contract: what is left to spell is what the whole spelling leaves.
-- Assumes nothing.
use Rattle.listing_text.proofs.PutLaws.{spelling_start, spelling_next, spelling_end}
use Rattle.listing_text.proofs.put.put_hex.Goals as goal

pub loop-left-init : goal.loop-left-init
loop-left-init c = spelling_start _ _ _ _

pub loop-left-preserved : goal.loop-left-preserved
loop-left-preserved c = search spelling_next

pub shape_of-text : goal.shape_of-text
shape_of-text c = c.loop-left.invariant.room

pub returns : goal.returns
returns c = search spelling_end
