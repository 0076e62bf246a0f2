-- `listing_text::put::put_totals` meets its contract: its fields one after the other.
-- Assumes nothing.
use Rattle.listing_text.proofs.PutLaws.{puts-totals}
use Rattle.listing_text.proofs.put.put_totals.Goals as goal

pub returns : goal.returns
returns c = search puts-totals
