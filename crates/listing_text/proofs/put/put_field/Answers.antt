-- `listing_text::put::put_field` meets its contract: the word, then the number.
-- Assumes nothing.
use Rattle.listing_text.proofs.PutLaws.{puts-field}
use Rattle.listing_text.proofs.put.put_field.Goals as goal

pub returns : goal.returns
returns c = search puts-field
