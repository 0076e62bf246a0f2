-- The summary over naming steps, and over lists of steps and rounds.
-- Assumes nothing.
use Rattle.std.proofs.Common.{ℕ, ◌^◌, ◌≤◌, ◌<◌, arith, ◌≡◌, refl, sym, ◌∙◌, ◌≢◌, List, [], ◌∷◌, length, eqb, eqb-true}
use borrow.Author.Tests.{eqb-false}
use Rattle.file.specs.Rules.Bytes.{Bytes, All, all_empty}
use Rattle.file.specs.Rules.Order.{Ground, first_of}
use Rattle.file.specs.Rules.Decode.{decode}
use Rattle.file.specs.Rules.FileGrounds.{file_ground, file_grounds}
use Rattle.file.proofs.Order.{by_case, first-most, joined-next}
use Rattle.file.proofs.Results.{file-first, file_numbered}
use Rattle.cluster.specs.Rules.Summary.{Summary, without, kept, kept_for, round_keeping_ground, round_keeping}
use Rattle.cluster.specs.Claims.Summary.{Matches, given_none, LeavesRest, of_names}
use Rattle.cluster.proofs.Rounds.{round-bytes}
use Rattle.cluster.proofs.SummaryLaws.{kept_for-true, rest-same, rest_trans, numbered_most}
use Rattle.cluster.proofs.Keeping.{keeping_refused, keeping-accepted, round_keeps_summary, same_names, still_matches, still_matches_exactly}
use Rattle.cluster.proofs.Holders.{filling_matches, question_is-reading}
use Rattle.naming.specs.Rules.Position.{Position}
use Rattle.naming.specs.Rules.Pass.{bits}
use Rattle.naming.specs.Rules.RunGrounds.{run_grounds, names_grounds}
use Rattle.naming.specs.Rules.Step.{step_ground, step_on, step_keeping_ground, step_keeping}
use Rattle.naming.specs.Claims.Summary.{StepWithout, StepsInOrder, StepRefusedBy24, RefusedStepKeepsSummary, KeepingIsStep, StepKeepsSummary, StepStillMatches, StepStillMatchesBaptized}
use Rattle.naming.specs.Claims.Summary.{AnyCall, WellTyped, typed_step, typed_frame, keeping_call, plain_call, given, not_given, listed_call, listed_calls}
use Rattle.naming.specs.Claims.Summary.{BaptizesNobody, in_step_lem, in_frame_lem, no_calls, next_given, next_not_given, CallsKeepSummary, filled_from, AnswersAsFile}
use Rattle.naming.specs.Claims.Summary.{FilledAndKept}
use Rattle.naming.proofs.StepLaws.{step-refused}
use Rattle.naming.proofs.StepKeeping.{others, matched_step, file-step, wrong_step, step-keeping-refused, step-keeping-accepted}
use Rattle.naming.proofs.Renaming.{baptizing-step_renames, only-baptizing-steps_rename, step-bytes, step_value, step_count}

-- ---- a step given it

pub steps_in_order : StepsInOrder
steps_in_order file p names summary buffer =
    record {
      of_file = file-step file p names summary buffer;
      of_summary = wrong_step file p names summary buffer;
      of_step_lem = matched_step file p names summary buffer;
    }

-- a step's own numbers are below 24
run-most : (names : List ℕ) (p : Position) → All (λ (g : Ground). g.0 ≤ 17) (run_grounds names p)
unfolding run_grounds names_grounds
run-most names p =
    numbered_most 17 15 _ (omega arith) (numbered_most 17 16 _ (omega arith) (numbered_most 17 17 _ (omega arith) all_empty))

step-most : (file : List ℕ) (p : Position) (names buffer : List ℕ) → file_ground file ≡ 0 → step_ground file p names buffer ≤ 17
unfolding step_ground
step-most file p names buffer none =
    let rest : first_of (others file p names without buffer) ≤ 17 = first-most 17 (numbered_most 17 9 _ (omega arith) (run-most names p)) in
    let behind = joined-next (file_grounds file) (others file p names without buffer) (file_numbered file) (file-first file ∙ none) in
    rw behind rest

pub step-refused_by_24 : StepRefusedBy24
step-refused_by_24 file p names summary buffer none = (
  λ is m. let most = step-most file p names buffer none in let same = matched_step file p names summary buffer m in omega (arith, is),
  λ never. wrong_step file p names summary buffer none never,
)

pub refused-step_keeps_summary : RefusedStepKeepsSummary
refused-step_keeps_summary file p names summary buffer some = step-keeping-refused file p names summary buffer some

pub keeping_is-step : KeepingIsStep
keeping_is-step file p names summary buffer none = rw (step-keeping-accepted file p names summary buffer none)

pub step-without : StepWithout
step-without file p names buffer =
    let same : step_keeping_ground file p names without buffer ≡ step_ground file p names buffer = matched_step file p names without buffer given_none in
    by_case (eqb (step_ground file p names buffer) 0)
    (λ t. step-keeping-accepted file p names without buffer (same ∙ eqb-true _ _ t) ∙ unfold kept_for in refl)
    (λ f.
    let some : step_ground file p names buffer ≢ 0 = eqb-false _ _ f in
    step-keeping-refused file p names without buffer (λ z. some (sym same ∙ z)) ∙ rw (same, step-refused file p names buffer some))

pub step_keeps_summary : StepKeepsSummary
step_keeps_summary file p names summary buffer fb nb small m =
    by_case (eqb (step_keeping_ground file p names summary buffer) 0)
    (λ t.
    rw (step-keeping-accepted file p names summary buffer (eqb-true _ _ t))
    (kept_for-true file (step_on file p names buffer).3 m (step_count file p names buffer fb nb small)))
    (λ f. rw (step-keeping-refused file p names summary buffer (eqb-false _ _ f)) (m, rest-same summary))

-- ---- a step not given it

pub step_still_matches : StepStillMatches
step_still_matches file p names summary buffer fb nb small m never =
    same_names file (step_on file p names buffer).3 (only-baptizing-steps_rename file p names buffer fb nb small never) m

pub step_still_matches_baptized : StepStillMatchesBaptized
step_still_matches_baptized file p names buffer count slice fb b m =
    let renamed = baptizing-step_renames file p names buffer fb b in
    let (there, back) = still_matches_exactly file (step_on file p names buffer).3 count slice m in
    (λ n. sym renamed ∙ there n, λ e. back (renamed ∙ e))

-- ---- lists of calls

-- the file that a call given a summary leaves is of bytes
pub keeping-step-bytes :
    (file : List ℕ) (p : Position) (names : List ℕ) (summary : Summary) (buffer : List ℕ) → Bytes file → Bytes names → p.place.value < 2 ^ bits →
    Bytes (step_keeping file p names summary buffer).3
keeping-step-bytes file p names summary buffer fb nb small =
    by_case (eqb (step_keeping_ground file p names summary buffer) 0)
    (λ t. rw (step-keeping-accepted file p names summary buffer (eqb-true _ _ t)) (step-bytes file p names buffer fb nb small))
    (λ f. rw (step-keeping-refused file p names summary buffer (eqb-false _ _ f)) fb)

-- and the position has a value of 64 bits
pub keeping-step-value :
    (file : List ℕ) (p : Position) (names : List ℕ) (summary : Summary) (buffer : List ℕ) → p.place.value < 2 ^ bits →
    (step_keeping file p names summary buffer).1.place.value < 2 ^ bits
keeping-step-value file p names summary buffer small =
    by_case (eqb (step_keeping_ground file p names summary buffer) 0)
    (λ t. rw (step-keeping-accepted file p names summary buffer (eqb-true _ _ t)) (step_value file p names buffer small))
    (λ f. rw (step-keeping-refused file p names summary buffer (eqb-false _ _ f)) small)

pub keeping_round-bytes : (file : List ℕ) (summary : Summary) (frame buffer : List ℕ) → Bytes file → Bytes frame → Bytes (round_keeping file summary frame buffer).2
keeping_round-bytes file summary frame buffer fb rb =
    by_case (eqb (round_keeping_ground file summary frame buffer) 0)
    (λ t. rw (keeping-accepted file summary frame buffer (eqb-true _ _ t)) (round-bytes file frame buffer fb rb))
    (λ f. rw (keeping_refused file summary frame buffer (eqb-false _ _ f)) fb)

call-bytes : (file : List ℕ) (summary : Summary) {c : AnyCall} → Bytes file → WellTyped c → Bytes (keeping_call file summary c).0
unfolding keeping_call
call-bytes file summary fb (typed_step {p} {names} {buffer} nb small) = keeping-step-bytes file p names summary buffer fb nb small
call-bytes file summary fb (typed_frame {bytes} {buffer} rb) = keeping_round-bytes file summary bytes buffer fb rb

call-keeps :
    (file : List ℕ) (summary : Summary) {c : AnyCall} → Bytes file → WellTyped c → Matches file summary →
    Matches (keeping_call file summary c).0 (keeping_call file summary c).1 × LeavesRest summary (keeping_call file summary c).1
unfolding keeping_call
call-keeps file summary fb (typed_step {p} {names} {buffer} nb small) m = step_keeps_summary file p names summary buffer fb nb small m
call-keeps file summary fb (typed_frame {bytes} {buffer} rb) m = round_keeps_summary file summary bytes buffer fb rb m

-- and after a call that is not given it

plain_bytes : (file : List ℕ) {c : AnyCall} → Bytes file → WellTyped c → Bytes (plain_call file c)
unfolding plain_call
plain_bytes file fb (typed_step {p} {names} {buffer} nb small) = step-bytes file p names buffer fb nb small
plain_bytes file fb (typed_frame {bytes} {buffer} rb) = round-bytes file bytes buffer fb rb

plain_leaves : (file : List ℕ) (summary : Summary) {c : AnyCall} → Bytes file → WellTyped c → BaptizesNobody file c → Matches file summary → Matches (plain_call file c) summary
unfolding plain_call
plain_leaves file summary fb (typed_step {p} {names} {buffer} nb small) (in_step_lem never) m = step_still_matches file p names summary buffer fb nb small m never
plain_leaves file summary fb (typed_frame {bytes} {buffer} rb) (in_frame_lem never) m = still_matches file summary bytes buffer fb rb m never

pub calls_keep_summary : CallsKeepSummary
unfolding listed_calls listed_call
calls_keep_summary file summary [] fb no_calls m = (m, rest-same summary)
calls_keep_summary file summary (given c ∷ cs) fb (next_given t more) m =
    let (matches, rest) = call-keeps file summary fb t m in
    let (after, later) = calls_keep_summary (keeping_call file summary c).0 (keeping_call file summary c).1 cs (call-bytes file summary fb t) more matches in
    (after, rest_trans rest later)
calls_keep_summary file summary (not_given c ∷ cs) fb (next_not_given t nobody more) m =
    calls_keep_summary (plain_call file c) summary cs (plain_bytes file fb t) more (plain_leaves file summary fb t nobody m)

-- a summary with its count is one afterwards, and answers as the file
answers_as_file : (file : List ℕ) (count : ℕ) {slice : List ℕ} {summary : Summary} → Matches file summary → LeavesRest (kept count slice) summary → AnswersAsFile file summary count
answers_as_file file count m (of_names {slice' = slice'} size same) =
    record { slice = slice'; is = refl; answers = λ name. question_is-reading file name count slice' m }

pub filled_and_kept : FilledAndKept
filled_and_kept file slice calls fb none long through =
    let filled = (filling_matches file slice none long).1 in
    let (m, rest) = calls_keep_summary file (filled_from file slice) calls fb through filled.matches in
    answers_as_file (listed_calls file (filled_from file slice) calls).0 (length (decode file).slaves) m rest
