-- `screens::post::read_ground` meets its contract: a law for each way.
-- Assumes nothing.
use Rattle.std.proofs.Common.{rules}
use Rattle.screens.proofs.PostLaws.{read-file, read-broadcast, read_fits}
use Rattle.file.specs.Rules.Results.{number_in}
use Rattle.file.specs.Inner.Refusals.{outcome_of, refusal_number}
use Rattle.screens.proofs.post.read_ground.Goals as goal

pub returns-then-lt : goal.returns-then-lt
unfolding number_in outcome_of refusal_number
returns-then-lt c = search (rules, read-file)

pub returns-then-eq : goal.returns-then-eq
unfolding number_in outcome_of refusal_number
returns-then-eq c = search (rules, read-broadcast)

pub returns : goal.returns
unfolding number_in outcome_of refusal_number
returns c = search (rules, read_fits)
