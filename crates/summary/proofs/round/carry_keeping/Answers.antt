-- `summary::round::carry_keeping` meets its contract: no frame moves the slaves' files, so the names are read at the same places.
-- Assumes nothing.
use Rattle.std.proofs.Common.{◌≡◌, Err, arith, rules}
use Rattle.file.proofs.SurveyLaws.{bytes-known}
use Rattle.file.specs.Inner.Refusals.{outcome_of}
use Rattle.summary.proofs.RoundLaws.{frame-moved, frame_refused, frame-carried}
use Rattle.summary.proofs.round.carry_keeping.Goals as goal

pub returns-in_err-mask : goal.returns-in_err-mask
unfolding outcome_of
returns-in_err-mask c =
    let e : c.from_residual.result ≡ Err c.in_err-mask.field-0.0 = search rules in
    rw e (frame_refused c.requires.0 c.requires.1 c.one_frame.ensures _ c.in_err-mask.was)

pub logical_names-requires : goal.logical_names-requires
logical_names-requires c =
    let bytes = bytes-known c.args.frame.now (λ k. omega (arith, c.type_inv.frame k)) in
    let moved = frame-moved c.requires.0 c.requires.1 c.one_frame.ensures bytes in
    (moved.placed, omega (arith, moved.count, c.requires.2))

pub returns : goal.returns
unfolding outcome_of
returns c = frame-carried c.requires.0 c.requires.1 c.one_frame.ensures c.in_ok-mask.was c.logical_names.ensures
