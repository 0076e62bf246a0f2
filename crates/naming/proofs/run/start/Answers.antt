-- `naming::run::start` meets its contract.
-- Assumes nothing.
use Rattle.std.proofs.Common.{◌≡◌, Err, rules}
use Rattle.file.proofs.RefusalLaws.{ground_refuses, ground_some, ground_none}
use Rattle.naming.specs.Inner.StepAnswers.{started_of}
use Rattle.naming.proofs.NameLaws.{start-refused, start-fresh}
use Rattle.naming.proofs.run.start.Goals as goal

pub returns-in_err-names_ground : goal.returns-in_err-names_ground
unfolding started_of
returns-in_err-names_ground c =
    let e : c.from_residual.result ≡ Err c.in_err-names_ground.field-0.0 = search rules in
    rw (e, ← ground_refuses c.in_err-names_ground.was) (start-refused _ c.names_ground.ensures (ground_some c.in_err-names_ground.was))

pub returns : goal.returns
unfolding started_of
returns c = start-fresh _ c.names_ground.ensures (ground_none c.in_ok-names_ground.was) c.first_position.ensures
