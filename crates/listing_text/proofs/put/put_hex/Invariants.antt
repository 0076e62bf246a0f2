-- `listing_text::put::put_hex` meets its contract: what is left to spell is what the whole spelling leaves.
use Rattle.listing_text.proofs.PutLaws.{Spelling}
use Rattle.listing_text.proofs.put.put_hex.Given as goal

abbrev pub invariant-loop-left : goal.invariant-loop-left
invariant-loop-left l = Spelling l.initial.text l.at l.digits l.value l.text l.place l.left
