-- The call that runs a trace: its grounds in their order, what it answers, and the claims of `specs/Claims/TraceRun.antt`.
-- Assumes nothing.
use Prim.Native.Nat.{ℕ}
use native.Mathlib.Omega.{arith}
use mathlib.Core.Path.{◌≡◌, refl, sym, ap, ◌∙◌}
use mathlib.Core.Logic.{◌≢◌}
use mathlib.Core.List.{List, [], ◌∷◌}
use mathlib.Core.Bool.{Bool, true, false}
use lib.Dec.{eqb}
use borrow.Author.Tests.{eqb-true, eqb-false, eq-eqb, ne_eqb}
use Rattle.file.specs.Rules.Order.{first_of}
use Rattle.file.specs.Rules.Results.{Result, refused, done}
use Rattle.file.specs.Rules.FileGrounds.{file_grounds, file_ground}
use Rattle.file.specs.Inner.Surveyed.{Surveyed}
use Rattle.file.specs.declared.types.Refusal.{Refusal}
use Rattle.file.proofs.Order.{by_case, first-none, joined-here, joined-next, joined_right}
use Rattle.file.proofs.Results.{file-first, file_numbered}
use Rattle.file.proofs.Surveyed.{survey-accepted, survey-refused}
use Rattle.file.proofs.Edition.{unknown_edition, refused-edition}
use Rattle.trace.specs.Rules.Trace.{frame_count, data_place_lem, broken_trace, frames_of}
use Rattle.trace.specs.Rules.TraceRun.{after_frames, Report, no_frames, sum_of, report_from, trace_grounds, trace_ground, trace_on}
use Rattle.trace.specs.Inner.Sent.{FewFrames, TraceSent}
use Rattle.trace.specs.Claims.TraceRun.{SumIsCount, RunKeepsFile, UnknownEdition}
use Rattle.trace.proofs.Facts.{trace_facts}
use Rattle.trace.proofs.Encoded.{frames-count}
use Rattle.trace.proofs.Runs.{report-sum, frames-bytes, frames_keep}
use Rattle.file.specs.Inner.Refusals.{Answered, refusal_number, outcome_of}
use Rattle.std.specs.Prelude.{Ok, Err}

module _ (file t : List ℕ) where
  -- the first ground is the file's, or else 19
  pub file_decides : file_ground file ≢ 0 → trace_ground file t ≡ file_ground file
  unfolding trace_ground trace_grounds
  file_decides some = joined-here (file_grounds file) _ (file_numbered file) (λ z. some (sym (file-first file) ∙ z)) ∙ file-first file

  after-file : file_ground file ≡ 0 → trace_ground file t ≡ first_of ((19, broken_trace t) ∷ [])
  unfolding trace_ground trace_grounds
  after-file accepted = joined-next (file_grounds file) _ (file_numbered file) (file-first file ∙ accepted)

  pub layout_decides : file_ground file ≡ 0 → broken_trace t ≡ true → trace_ground file t ≡ 19
  unfolding first_of
  layout_decides accepted broken = after-file accepted ∙ rw broken

  pub none-holds : file_ground file ≡ 0 → broken_trace t ≡ false → trace_ground file t ≡ 0
  unfolding first_of
  none-holds accepted whole = after-file accepted ∙ rw whole

  -- refused, with the file as it was; or run
  pub trace-refused : trace_ground file t ≢ 0 → trace_on file t ≡ (refused (trace_ground file t), file)
  unfolding trace_on
  trace-refused some = rw (ne_eqb _ _ some)

  pub trace-run : trace_ground file t ≡ 0 → trace_on file t ≡ (done (report_from no_frames file (frames_of t)), after_frames file (frames_of t))
  unfolding trace_on
  trace-run none = rw (eq-eqb _ _ none)

  -- a trace that is run breaks nothing
  pub run-whole : trace_ground file t ≡ 0 → broken_trace t ≡ false
  unfolding trace_ground trace_grounds
  run-whole none = (first-none 18 _ _ (joined_right (file_grounds file) _ (file_numbered file) none)).0

  -- it was run if it has a report
  pub ran_ground : {r : Report} → (trace_on file t).0 ≡ done r → trace_ground file t ≡ 0
  ran_ground {r} e =
      by_case (eqb (trace_ground file t) 0)
      (λ z. eqb-true _ _ z)
      (λ z.
      let not-run : refused (trace_ground file t) ≡ done r = sym (ap (λ (x : Result Report × List ℕ). x.0) (trace-refused (eqb-false _ _ z))) ∙ e in
      let bad : ◌≡◌ {A = ℕ} 0 1 = cc in
      absurd (omega arith))

-- ---- the ways of the call, by the answer of the survey

module _ (t : List ℕ) {file places : List ℕ} {a : Answered (Unit {0})} (s : Surveyed file (outcome_of a) places) where
  pub call-refused : {why : Refusal} → a ≡ Err why → (refused (refusal_number why), file) ≡ trace_on file t
  call-refused {why} e =
      let reason = survey-refused s e in
      let here : trace_ground file t ≡ file_ground file = file_decides file t (λ z. reason.1 (reason.0 ∙ z)) in
      sym (trace-refused file t (λ z. reason.1 (reason.0 ∙ sym here ∙ z)) ∙ rw (here, reason.0))

  module _ {u : Unit {0}} (accepted : a ≡ Ok u) {broken : Bool} (is : broken ≡ broken_trace t) where
    pub call-broken : broken ≡ true → (refused 19, file) ≡ trace_on file t
    call-broken e =
        let here : trace_ground file t ≡ 19 = layout_decides file t (survey-accepted s accepted) (sym is ∙ e) in
        sym (trace-refused file t (λ z. let bad : ◌≡◌ {A = ℕ} 19 0 = sym here ∙ z in omega (arith, bad)) ∙ rw here)

    pub call-run : {r : Report} {after : List ℕ} → broken ≡ false → TraceSent file t r after → (done r, after) ≡ trace_on file t
    call-run e x = rw (x.report, x.after) (sym (trace-run file t (none-holds file t (survey-accepted s accepted) (sym is ∙ e))))

-- ---- the claims

run-sum : (file t : List ℕ) → sum_of (report_from no_frames file (frames_of t)) ≡ frame_count t
unfolding frames_of
run-sum file t = omega (arith, report-sum no_frames file (frames_of t), frames-count t 4 (frame_count t))

pub sum-is-count : SumIsCount
sum-is-count file t r e =
    let ran : done (report_from no_frames file (frames_of t)) ≡ done r =
    sym (ap (λ (x : Result Report × List ℕ). x.0) (trace-run file t (ran_ground file t e))) ∙ e in
    let same : report_from no_frames file (frames_of t) ≡ r = cc in
    rw (sym same) (run-sum file t)

-- so a report's sum is small
pub ran-few : (file t : List ℕ) (r : Report) → (trace_on file t).0 ≡ done r → FewFrames r
unfolding data_place_lem
ran-few file t r e =
    let f = trace_facts t (run-whole file t (ran_ground file t e)) in
    omega (arith, sum-is-count file t r e, f.long, f.high)

pub run_keeps_file : RunKeepsFile
unfolding frames_of
run_keeps_file file t b tb g =
    by_case (eqb (trace_ground file t) 0)
    (λ z. rw (trace-run file t (eqb-true _ _ z)) (frames_keep file (frames_of t) b g (frames-bytes tb 4 (frame_count t))))
    (λ z. rw (trace-refused file t (eqb-false _ _ z)) (record { accepted = g; length = refl }))

pub trace-edition : UnknownEdition
trace-edition f g t u long front other =
    let refused-f : file_ground f ≢ 0 = refused-edition f other in
    let same : file_ground f ≡ file_ground g = unknown_edition f g long front other in
    let refused-g : file_ground g ≢ 0 = λ z. refused-f (same ∙ z) in
    let here-f = file_decides f t refused-f in
    let here-g = file_decides g u refused-g in
    let left = trace-refused f t (λ z. refused-f (sym here-f ∙ z)) in
    let right = trace-refused g u (λ z. refused-g (sym here-g ∙ z)) in
    rw (left, right, here-f, here-g, same)
