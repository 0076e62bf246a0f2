-- Demand 3's calls that are given no summary are the plain step and the plain round, and are judged by their grounds; so are those that
-- are given one that matches.
-- Assumes nothing.
use Rattle.std.proofs.Common.{ℕ, ◌≡◌, refl, sym, ap, ◌∙◌, ◌≢◌, List, [], ◌∷◌, map, Bool, true, cond, not, eqb, eqb-true}
use borrow.Author.Tests.{eqb-false}
use Rattle.file.specs.Rules.Order.{both}
use Rattle.file.proofs.Order.{by_case}
use Rattle.cluster.specs.Rules.RoundGrounds.{round_by_lem}
use Rattle.cluster.specs.Rules.Round.{round_ground, round_on}
use Rattle.cluster.specs.Rules.Summary.{without, round_keeping_ground}
use Rattle.cluster.specs.Claims.Summary.{Matches, given_none}
use Rattle.cluster.proofs.Rounds.{round-refused}
use Rattle.cluster.proofs.Keeping.{matched_ground, keeping_refused, keeping-accepted, round-without}
use Rattle.naming.specs.Rules.Position.{Position}
use Rattle.naming.specs.Rules.Step.{step_ground, step_on, step_keeping_ground}
use Rattle.naming.specs.Rules.Account.{StepArguments, FrameArguments, Call, step, frame}
use Rattle.naming.specs.Claims.Demand.{State, halfway_after, call_on, permitted_frame, permitted_call, permitted, after_calls}
use Rattle.naming.specs.Claims.Summary.{none_given, step_given_lem, frame_given, as_plain, GivenMakesNoDifference}
use Rattle.naming.proofs.StepLaws.{step-refused}
use Rattle.naming.proofs.StepKeeping.{matched_step, step-keeping-refused, step-keeping-accepted}
use Rattle.naming.proofs.Summaries.{step-without}

-- a step by its buffer, and a frame by its bytes and its buffer
abbrev pub plain_step : List ℕ → Call
plain_step buffer = step (record { summary = without; buffer = buffer })

abbrev pub plain_frame : List ℕ → List ℕ → Call
plain_frame bytes buffer = frame (record { summary = without; bytes = bytes; buffer = buffer })

pub step_unasked : (file : List ℕ) (p : Position) (names buffer : List ℕ) → step_keeping_ground file p names without buffer ≡ step_ground file p names buffer
step_unasked file p names buffer = matched_step file p names without buffer given_none

pub frame_unasked : (file bytes buffer : List ℕ) → round_keeping_ground file without bytes buffer ≡ round_ground file bytes buffer
frame_unasked file bytes buffer = matched_ground file without bytes buffer given_none

module _ (names : List ℕ) (s : State) (p : Position) where
  pub step-plain :
      (buffer : List ℕ) → call_on names s p (plain_step buffer) ≡
      (record { file = (step_on s.file p names buffer).3; halfway = s.halfway }, (step_on s.file p names buffer).1)
  unfolding call_on
  step-plain buffer = rw (step-without s.file p names buffer)

  pub frame-plain :
      (bytes buffer : List ℕ) → call_on names s p (plain_frame bytes buffer) ≡ (
        record {
          file = (round_on s.file bytes buffer).2;
          halfway = halfway_after s.halfway (round_on s.file bytes buffer).0 (round_by_lem bytes);
        },
        p,
      )
  unfolding call_on
  frame-plain bytes buffer = rw (round-without s.file bytes buffer)

  pub step_plain_may : (buffer : List ℕ) → permitted_call names s p (plain_step buffer) ≡ cond (eqb (step_ground s.file p names buffer) 0) (not s.halfway) true
  unfolding permitted_call
  step_plain_may buffer = rw (step_unasked s.file p names buffer)

  pub frame-plain-may :
      (bytes buffer : List ℕ) →
      permitted_call names s p (plain_frame bytes buffer) ≡
      cond (eqb (round_ground s.file bytes buffer) 0) (permitted_frame s.halfway (round_by_lem bytes) bytes) true
  unfolding permitted_call
  frame-plain-may bytes buffer = rw (frame_unasked s.file bytes buffer)

-- ---- with a summary that matches they are the plain ones too

module _ (names : List ℕ) (s : State) (p : Position) where
  step_given : (arguments : StepArguments) → Matches s.file arguments.summary → call_on names s p (step arguments) ≡ call_on names s p (plain_step arguments.buffer)
  unfolding call_on
  step_given arguments m =
      let file = s.file in
      let buffer = arguments.buffer in
      let same = matched_step file p names arguments.summary buffer m in
      rw (step-without file p names buffer)
      (by_case (eqb (step_ground file p names buffer) 0)
      (λ t. rw (step-keeping-accepted file p names arguments.summary buffer (same ∙ eqb-true _ _ t)))
      (λ f.
      let some : step_ground file p names buffer ≢ 0 = eqb-false _ _ f in
      rw (step-keeping-refused file p names arguments.summary buffer (λ z. some (sym same ∙ z)), step-refused file p names buffer some)))

  frame-given : (arguments : FrameArguments) → Matches s.file arguments.summary → call_on names s p (frame arguments) ≡ call_on names s p (plain_frame arguments.bytes arguments.buffer)
  unfolding call_on
  frame-given arguments m =
      let file = s.file in
      let bytes = arguments.bytes in
      let buffer = arguments.buffer in
      let same = matched_ground file arguments.summary bytes buffer m in
      rw (round-without file bytes buffer)
      (by_case (eqb (round_ground file bytes buffer) 0)
      (λ t. rw (keeping-accepted file arguments.summary bytes buffer (same ∙ eqb-true _ _ t)))
      (λ f.
      let some : round_ground file bytes buffer ≢ 0 = eqb-false _ _ f in
      rw (keeping_refused file arguments.summary bytes buffer (λ z. some (sym same ∙ z)), round-refused file bytes buffer some, same)))

  step-given-may : (arguments : StepArguments) → Matches s.file arguments.summary → permitted_call names s p (step arguments) ≡ permitted_call names s p (plain_step arguments.buffer)
  unfolding permitted_call
  step-given-may arguments m =
      rw (matched_step s.file p names arguments.summary arguments.buffer m, step_unasked s.file p names arguments.buffer)

  frame-given-may :
      (arguments : FrameArguments) → Matches s.file arguments.summary →
      permitted_call names s p (frame arguments) ≡ permitted_call names s p (plain_frame arguments.bytes arguments.buffer)
  unfolding permitted_call
  frame-given-may arguments m =
      rw (matched_ground s.file arguments.summary arguments.bytes arguments.buffer m, frame_unasked s.file arguments.bytes arguments.buffer)

judged : {a b c d : Bool} → a ≡ b → c ≡ d → both a c ≡ both b d
judged e f = rw (e, f)

pub given_makes_no_difference : GivenMakesNoDifference
unfolding after_calls permitted as_plain
given_makes_no_difference names s p [] none_given = (refl, refl)
given_makes_no_difference names s p (step arguments ∷ cs) (step_given_lem m ms) =
    let (after, may) = given_makes_no_difference names (call_on names s p (step arguments)).0 (call_on names s p (step arguments)).1 cs ms in
    let same = step_given names s p arguments m in (
      after ∙ ap (λ (w : State × Position). after_calls names w.0 w.1 (map as_plain cs)) same,
      judged (step-given-may names s p arguments m) (may ∙ ap (λ (w : State × Position). permitted names w.0 w.1 (map as_plain cs)) same),
    )
given_makes_no_difference names s p (frame arguments ∷ cs) (frame_given m ms) =
    let (after, may) = given_makes_no_difference names (call_on names s p (frame arguments)).0 (call_on names s p (frame arguments)).1 cs ms in
    let same = frame-given names s p arguments m in (
      after ∙ ap (λ (w : State × Position). after_calls names w.0 w.1 (map as_plain cs)) same,
      judged (frame-given-may names s p arguments m) (may ∙ ap (λ (w : State × Position). permitted names w.0 w.1 (map as_plain cs)) same),
    )
