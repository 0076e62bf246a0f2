-- `listing_text::put::put_decimal` meets its contract. The measure is the number that is left.
-- Assumes nothing.
use Rattle.listing_text.proofs.PutLaws.{puts-digit, tenth-room, puts-decimal}
use Rattle.listing_text.proofs.put.+put_decimal.Goals as goal

pub returns-then-value-lt-DECIMAL_BASE : goal.returns-then-value-lt-DECIMAL_BASE
returns-then-value-lt-DECIMAL_BASE t c = search puts-digit

pub put_bytes-requires-2 : goal.put_bytes-requires-2
put_bytes-requires-2 t c = search tenth-room

pub returns : goal.returns
returns t c = search puts-decimal
