-- `listing_text::run::list_accepted` meets its contract: the lines and the totals.
-- Assumes nothing.
use Rattle.listing_text.proofs.ListLaws.{start-room, listed-accepted}
use Rattle.listing_text.proofs.BatchLaws.{load_answered, load_placed}
use Rattle.std.proofs.Common.{rules}
use Rattle.listing_text.proofs.run.list_accepted.Goals as goal

pub unwrap-requires : goal.unwrap-requires
unwrap-requires c = load_answered _ _ c.requires.0 c.survey.ensures

pub all_steps-done-requires : goal.all_steps-done-requires
all_steps-done-requires c = search (rules, start-room, load_placed)

pub returns : goal.returns
returns c = search listed-accepted
