-- `listing_text::run::list` meets its contract: the refused line, or the listing of an accepted file.
-- Assumes nothing.
use Rattle.listing_text.proofs.ListLaws.{listed-refused}
use Rattle.listing_text.proofs.BatchLaws.{load_accepted}
use Rattle.std.proofs.Common.{rules}
use Rattle.listing_text.proofs.run.list.Goals as goal

pub returns-in-Err : goal.returns-in-Err
returns-in-Err c = listed-refused _ c.check.ensures c.in-Err.is (rw c.number.ensures at c.put_refused.ensures)

pub list_accepted-requires : goal.list_accepted-requires
list_accepted-requires c = search (rules, load_accepted)
