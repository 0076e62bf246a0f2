-- `listing_text::put::put_refused` meets its contract: its fields one after the other.
-- Assumes nothing.
use Rattle.listing_text.proofs.PutLaws.{puts-refused}
use Rattle.listing_text.proofs.put.put_refused.Goals as goal

pub returns : goal.returns
returns c = search puts-refused
