-- `listing_text::put::put_name` meets its contract: its fields one after the other.
-- Assumes nothing.
use Rattle.listing_text.proofs.PutLaws.{puts-name}
use Rattle.listing_text.proofs.put.put_name.Goals as goal

pub returns : goal.returns
returns c = search puts-name
