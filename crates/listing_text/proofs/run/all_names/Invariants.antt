-- `listing_text::run::all_names` meets its contract: the names so far stand in front.
use Rattle.listing_text.proofs.ListLaws.{Naming}
use Rattle.listing_text.proofs.run.all_names.Given as goal

abbrev pub invariant-loop-i : goal.invariant-loop-i
invariant-loop-i l = Naming l.names l.i
