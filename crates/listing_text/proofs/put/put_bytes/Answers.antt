-- `listing_text::put::put_bytes` meets its contract: a copy of the bytes.
-- Assumes nothing.
use Rattle.listing_text.proofs.PutLaws.{puts-copy}
use Rattle.listing_text.proofs.put.put_bytes.Goals as goal

pub returns : goal.returns
returns c = search puts-copy
