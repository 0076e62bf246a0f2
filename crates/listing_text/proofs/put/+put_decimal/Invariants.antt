-- `listing_text::put::put_decimal` meets its contract. The measure is the number that is left.
use Rattle.listing_text.proofs.put.+put_decimal.Given as goal

abbrev pub decreases-put_decimal : goal.decreases-put_decimal
decreases-put_decimal l = l.value
