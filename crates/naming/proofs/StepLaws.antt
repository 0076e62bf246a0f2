-- Laws of a step: a refused one returns its number and leaves all as it was, an ended run's step leaves all, a step that makes a
-- round leaves the file of its two frames, and the answer to a file of unknown edition depends on its length and first three bytes
-- alone.
-- Assumes nothing.
use Rattle.std.proofs.Common.{ℕ, ◌≡◌, sym, ◌∙◌, ◌≢◌, List, eq-eqb, ne_eqb}
use Rattle.file.specs.Rules.FileGrounds.{file_ground}
use Rattle.file.specs.Rules.Results.{refused, done}
use Rattle.file.proofs.Edition.{unknown_edition, refused-edition}
use Rattle.cluster.proofs.Rounds.{file_decides}
use Rattle.naming.specs.Rules.RunRounds.{sent}
use Rattle.naming.specs.Rules.Position.{Position, running}
use Rattle.naming.specs.Rules.Run.{next_round, advance}
use Rattle.naming.specs.Rules.Step.{ended, made_by_lem, step_ground, step_made, step_on, is_reply}
use Rattle.cluster.specs.Rules.MasterSlave.{round_sent}
use Rattle.naming.specs.Claims.StepFrames.{EndedAltersNothing}
use Rattle.naming.specs.Claims.Edition.{UnknownEditionStep}

module _ (file : List ℕ) (p : Position) (names buffer : List ℕ) where
  pub step-refused : step_ground file p names buffer ≢ 0 → step_on file p names buffer ≡ (refused (step_ground file p names buffer), p, buffer, file)
  unfolding step_on
  step-refused n = rw (ne_eqb (step_ground file p names buffer) 0 n)

  pub step-ended : step_ground file p names buffer ≡ 0 → p.end ≢ running → step_on file p names buffer ≡ (done ended, p, buffer, file)
  unfolding step_on
  step-ended g n = rw (g, ne_eqb p.end running n)

  pub step-made : step_ground file p names buffer ≡ 0 → p.end ≡ running →
      step_on file p names buffer ≡ (
        done (made_by_lem (round_sent file (sent (next_round names p)) buffer).0),
        advance names p (is_reply (round_sent file (sent (next_round names p)) buffer).0),
        (round_sent file (sent (next_round names p)) buffer).1,
        (round_sent file (sent (next_round names p)) buffer).2,
      )
  unfolding step_on step_made
  step-made g m = rw (g, eq-eqb p.end running m)

pub ended_alters_nothing : EndedAltersNothing
ended_alters_nothing = step-ended

-- a file of unknown edition
pub step-edition : UnknownEditionStep
unfolding step_ground
step-edition f g p names buffer long front other =
    let refused-f : file_ground f ≢ 0 = refused-edition f other in
    let same : file_ground f ≡ file_ground g = unknown_edition f g long front other in
    let refused-g : file_ground g ≢ 0 = λ z. refused-f (same ∙ z) in
    let here-f : step_ground f p names buffer ≡ file_ground f = file_decides f buffer _ refused-f in
    let here-g : step_ground g p names buffer ≡ file_ground g = file_decides g buffer _ refused-g in
    let left = step-refused f p names buffer (λ z. refused-f (sym here-f ∙ z)) in
    let right = step-refused g p names buffer (λ z. refused-g (sym here-g ∙ z)) in
    record { answer = rw (left, right, here-f, here-g, same); position = rw (left, right); buffer = rw (left, right) }
