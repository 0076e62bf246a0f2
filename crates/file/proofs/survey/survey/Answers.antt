-- `file::survey::survey` meets its contract: a law for each way.
-- Assumes nothing.
use Rattle.std.proofs.Common.{◌≡◌, Err, arith, rules}
use borrow.Author.Tests.{not-false}
use Rattle.file.specs.Rules.Bytes.{Bytes}
use Rattle.file.specs.Inner.Refusals.{refusal_number, outcome_of}
use Rattle.file.proofs.SurveyLaws.{header_good, refused_by_header, refused_by_layout, whole, survey-answers, bytes-known}
use Rattle.file.proofs.survey.survey.Goals as goal

pub returns-in_err-header_ground : goal.returns-in_err-header_ground
unfolding outcome_of refusal_number
returns-in_err-header_ground c =
    let e : c.from_residual.result ≡ Err c.in_err-header_ground.field-0.0 = search rules in
    rw e (refused_by_header c.width_of-width.ensures _ c.header_ground.ensures c.in_err-header_ground.was)

pub walk_body-requires : goal.walk_body-requires
walk_body-requires c = (search rules, header_good c.header_ground.ensures c.in_ok-header_ground.was, record { room = omega (arith, c.walk_body-arg-1.given.0.1) })

pub returns-then-not-walk_body : goal.returns-then-not-walk_body
unfolding outcome_of refusal_number
returns-then-not-walk_body c = refused_by_layout c.width_of-width.ensures _ (header_good c.header_ground.ensures c.in_ok-header_ground.was) c.walk_body.ensures c.if-not-walk_body.true

pub slaves_ground-requires : goal.slaves_ground-requires
slaves_ground-requires c =
    (whole c.walk_body.ensures c.if-not-walk_body.false, record { room = omega arith })

pub returns : goal.returns
returns c =
    -- the file is bytes
    let known : Bytes c.args.file.now = bytes-known _ (λ k. omega (arith, c.shared_slice_known-1.given k)) in
    search (rules, survey-answers, not-false)
