-- `naming::run::run_ground` meets its contract: the first of grounds 15 to 17 that holds.
-- Assumes nothing.
use Rattle.std.proofs.Common.{◌≡◌, Err, rules}
use Rattle.file.specs.Rules.Results.{number_in}
use Rattle.file.specs.Inner.Refusals.{outcome_of, refusal_number}
use Rattle.file.proofs.RefusalLaws.{ground_some, ground_none}
use Rattle.naming.proofs.RunLaws.{run-names, run_unfit, run_fits}
use Rattle.naming.proofs.run.run_ground.Goals as goal

pub returns-in_err-names_ground : goal.returns-in_err-names_ground
returns-in_err-names_ground c =
    let e : c.from_residual.result ≡ Err c.in_err-names_ground.field-0.0 = search rules in
    rw (e, ← c.in_err-names_ground.was) (run-names _ _ c.names_ground.ensures (ground_some c.in_err-names_ground.was))

pub returns-then-is_unfit : goal.returns-then-is_unfit
unfolding number_in outcome_of refusal_number
returns-then-is_unfit c = run_unfit _ _ c.names_ground.ensures (ground_none c.in_ok-names_ground.was) c.is_unfit.ensures c.if-is_unfit.true

pub returns : goal.returns
unfolding number_in outcome_of
returns c = run_fits _ _ c.names_ground.ensures (ground_none c.in_ok-names_ground.was) c.is_unfit.ensures c.if-is_unfit.false
