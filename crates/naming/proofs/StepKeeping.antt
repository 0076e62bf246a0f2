-- Laws of a step given the summary: its grounds, a refused one leaves all as it was, and one that is not refused is the step.
-- Assumes nothing.
use Rattle.std.proofs.Common.{ℕ, ◌≡◌, sym, ◌∙◌, ◌≢◌, List, ◌∷◌, Bool, ne_eqb}
use Rattle.file.specs.Rules.Order.{Ground}
use Rattle.file.specs.Rules.Results.{refused}
use Rattle.file.specs.Rules.FileGrounds.{file_ground}
use Rattle.file.proofs.Edition.{unknown_edition, refused-edition}
use Rattle.cluster.specs.Rules.RoundGrounds.{short_answer}
use Rattle.cluster.specs.Rules.Summary.{Summary, wrong_summary, kept_for}
use Rattle.cluster.specs.Claims.Renaming.{names_of}
use Rattle.cluster.specs.Claims.Summary.{Matches}
use Rattle.cluster.proofs.SummaryLaws.{matches_right, mismatch_wrong, given-file, given_wrong, given_right, given-none}
use Rattle.naming.specs.Rules.Position.{Position}
use Rattle.naming.specs.Rules.RunGrounds.{run_grounds}
use Rattle.naming.specs.Rules.Step.{step_ground, step_on, step_keeping_ground, step_keeping}
use Rattle.naming.specs.Claims.Edition.{UnknownEditionStepKeeping}

module _ (file : List ℕ) (p : Position) (names : List ℕ) (summary : Summary) (buffer : List ℕ) where
  abbrev pub others : List Ground
  others = (9, short_answer buffer) ∷ run_grounds names p

  abbrev wrong : Bool
  wrong = wrong_summary summary (names_of file)

  -- without its summary a step given one has the grounds behind it
  pub keeping_step : step_keeping_ground file p names summary buffer ≡ 0 → step_ground file p names buffer ≡ 0
  unfolding step_keeping_ground step_ground
  keeping_step e = (given-none file wrong others e).1

  pub matched_step : Matches file summary → step_keeping_ground file p names summary buffer ≡ step_ground file p names buffer
  unfolding step_keeping_ground step_ground
  matched_step m = given_right file wrong others (matches_right file m)

  pub file-step : file_ground file ≢ 0 → step_keeping_ground file p names summary buffer ≡ file_ground file
  unfolding step_keeping_ground
  file-step some = given-file file wrong others some

  pub wrong_step : file_ground file ≡ 0 → (Matches file summary → ⊥) → step_keeping_ground file p names summary buffer ≡ 24
  unfolding step_keeping_ground
  wrong_step none never = given_wrong file wrong others none (mismatch_wrong file summary never)

  pub step-keeping-refused :
      step_keeping_ground file p names summary buffer ≢ 0 →
      step_keeping file p names summary buffer ≡ (refused (step_keeping_ground file p names summary buffer), p, buffer, file, summary)
  unfolding step_keeping
  step-keeping-refused some = rw (ne_eqb _ _ some)

  pub step-keeping-accepted :
      step_keeping_ground file p names summary buffer ≡ 0 →
      step_keeping file p names summary buffer ≡ (
        (step_on file p names buffer).0,
        (step_on file p names buffer).1,
        (step_on file p names buffer).2,
        (step_on file p names buffer).3,
        kept_for summary (names_of (step_on file p names buffer).3),
      )
  unfolding step_keeping
  step-keeping-accepted none = rw none

-- a file of unknown edition
pub step_keeping_edition : UnknownEditionStepKeeping
step_keeping_edition f g p names summary buffer long front other =
    let refused-f : file_ground f ≢ 0 = refused-edition f other in
    let same : file_ground f ≡ file_ground g = unknown_edition f g long front other in
    let refused-g : file_ground g ≢ 0 = λ z. refused-f (same ∙ z) in
    let here-f = file-step f p names summary buffer refused-f in
    let here-g = file-step g p names summary buffer refused-g in
    let left = step-keeping-refused f p names summary buffer (λ z. refused-f (sym here-f ∙ z)) in
    let right = step-keeping-refused g p names summary buffer (λ z. refused-g (sym here-g ∙ z)) in
    record {
      answer = rw (left, right, here-f, here-g, same);
      position = rw (left, right);
      buffer = rw (left, right);
      summary = rw (left, right);
    }
