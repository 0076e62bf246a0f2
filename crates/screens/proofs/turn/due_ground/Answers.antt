-- `screens::turn::due_ground` meets its contract.
-- Assumes nothing.
use Rattle.screens.proofs.TurnLaws.{due-few, ground_nobody, ground-read}
use Rattle.file.specs.Rules.Results.{number_in}
use Rattle.file.specs.Inner.Refusals.{outcome_of}
use Rattle.screens.proofs.turn.due_ground.Goals as goal

pub posted_read-requires : goal.posted_read-requires
posted_read-requires c = search due-few

pub returns-in-None : goal.returns-in-None
unfolding number_in outcome_of
returns-in-None c = search ground_nobody

pub returns-in-Some : goal.returns-in-Some
unfolding number_in outcome_of
returns-in-Some c = search ground-read
