-- `screens::post::post_ground` meets its contract: a law for each way.
-- Assumes nothing.
use Rattle.screens.proofs.PostLaws.{post-screen, post-last, post-waiting, post_read}
use Rattle.std.proofs.Common.{rules}
use Rattle.file.specs.Rules.Results.{number_in}
use Rattle.file.specs.Inner.Refusals.{outcome_of, refusal_number}
use Rattle.screens.proofs.post.post_ground.Goals as goal

pub returns-then-screen-gt-LAST_SCREEN : goal.returns-then-screen-gt-LAST_SCREEN
unfolding number_in outcome_of refusal_number
returns-then-screen-gt-LAST_SCREEN c = search (rules, post-screen)

pub returns-then-state-gt-LAST_SCREEN : goal.returns-then-state-gt-LAST_SCREEN
unfolding number_in outcome_of refusal_number
returns-then-state-gt-LAST_SCREEN c = search (rules, post-last)

pub returns-then-is_waiting : goal.returns-then-is_waiting
unfolding number_in outcome_of refusal_number
returns-then-is_waiting c = search (rules, post-waiting)

pub returns : goal.returns
unfolding number_in outcome_of refusal_number
returns c = search (rules, post_read)
