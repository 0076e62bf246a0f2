-- `listing_text::run::is_over` meets its contract: one law for each way.
-- Assumes nothing.
use Rattle.listing_text.proofs.BatchLaws.{none_left, none_named}
use Rattle.listing_text.proofs.run.is_over.Goals as goal

pub returns-then-left-eq0 : goal.returns-then-left-eq0
returns-then-left-eq0 c = search none_left

pub returns : goal.returns
returns c = search none_named
