-- `owner::plan::Planner::add_slave` meets its contract.
-- Assumes nothing.
use Rattle.file.specs.Inner.Places.{slave_of}
use Rattle.owner.proofs.RoundLaws.{round-next}
use Rattle.owner.proofs.PlannerLaws.{planned-placed}
use Rattle.owner.proofs.plan.Planner.add_slave.Goals as goal

pub logical_name-name-requires : goal.logical_name-name-requires
logical_name-name-requires c = (planned-placed c.args.self.now.known, c.requires.0)

pub returns : goal.returns
unfolding slave_of
returns c =
    record { planned = λ master h. round-next h c.requires.0 c.plan_slave-plan.ensures c.logical_name-name.ensures c.put_name.ensures }
