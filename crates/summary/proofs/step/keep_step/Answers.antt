-- `summary::step::keep_step` meets its contract: no step moves the slaves' files, so the names are read at the same places.
-- Assumes nothing.
use Rattle.std.proofs.Common.{◌≡◌, refl, Err, arith, rules}
use Rattle.file.proofs.SurveyLaws.{bytes-known}
use Rattle.naming.proofs.Moves.{step-moved}
use Rattle.summary.specs.Inner.Kept.{names_put}
use Rattle.summary.proofs.StepLaws.{answer_refused, answer_done, slice-turned, slice-put}
use Rattle.summary.proofs.step.keep_step.Goals as goal

pub returns-in_err-stepped : goal.returns-in_err-stepped
returns-in_err-stepped c =
    let e : c.from_residual.result ≡ Err c.in_err-stepped.field-0.0 = search rules in
    rw (e, ← c.in_err-stepped.was) (slice-turned _ _ _ _ _ c.step_on.ensures refl (answer_refused c.in_err-stepped.was))

pub logical_names-requires : goal.logical_names-requires
logical_names-requires c =
    let bytes = bytes-known c.args.names.now (λ k. omega (arith, c.type_inv.names k)) in
    let moved = step-moved _ _ c.requires.0 bytes (omega arith) c.step_on.ensures in
    (moved.placed, omega (arith, moved.count, c.requires.1))

pub returns : goal.returns
unfolding names_put
returns c =
    rw (← c.in_ok-stepped.was) (slice-put _ _ _ _ _ c.step_on.ensures refl (answer_done c.in_ok-stepped.was) c.logical_names.ensures)
