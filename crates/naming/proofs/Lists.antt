-- Laws of permitted lists of calls: every list of steps is permitted, a permitted list goes on with any list that is permitted where it
-- ends, and with nothing else.
-- Assumes nothing.
use Rattle.std.proofs.Common.{ℕ, ◌≡◌, refl, ◌∙◌, List, [], ◌∷◌, ◌++◌, Bool, true, false, cond, not, eqb}
use borrow.Author.Tests.{not-true}
use Rattle.file.specs.Rules.Bytes.{All, all_empty, all_next}
use Rattle.file.specs.Rules.Results.{done}
use Rattle.file.proofs.Order.{both_left, both_right, both_true, both-next}
use Rattle.frame.specs.Rules.Fireworks.{Round, multipartner, msd, msa}
use Rattle.cluster.specs.Rules.RoundGrounds.{round_by_lem}
use Rattle.cluster.specs.Rules.Round.{round_ground, round_on}
use Rattle.cluster.proofs.Rounds.{round-accepted}
use Rattle.naming.specs.Rules.Position.{Position}
use Rattle.naming.specs.Rules.Step.{step_keeping_ground}
use Rattle.naming.specs.Rules.Account.{StepArguments, Call, step}
use Rattle.naming.specs.Claims.Demand.{State, halfway_after, call_on, permitted_call, permitted, after_calls}
use Rattle.naming.specs.Claims.PermittedRounds.{IsStep, is-step}

-- a step keeps a round of others as it was, done or half done
step-halfway : (names : List ℕ) (s : State) (p : Position) (arguments : StepArguments) → (call_on names s p (step arguments)).0.halfway ≡ s.halfway
unfolding call_on
step-halfway names s p arguments = refl

-- every list of steps is permitted
pub steps-permitted : (names : List ℕ) (s : State) (p : Position) {cs : List Call} → s.halfway ≡ false → All IsStep cs → permitted names s p cs ≡ true
unfolding permitted permitted_call
steps-permitted names s p closed all_empty = rw closed
steps-permitted names s p closed (all_next {l = cs} (is-step {arguments}) h) =
    both_true (may (eqb (step_keeping_ground s.file p names arguments.summary arguments.buffer) 0))
    (steps-permitted names (call_on names s p (step arguments)).0 (call_on names s p (step arguments)).1 (step-halfway names s p arguments ∙ closed) h)
  where
    may : (t : Bool) → cond t (not s.halfway) true ≡ true
    may true = rw closed
    may false = refl

-- a permitted list ends with no round half done
pub permitted_closed : (names : List ℕ) (s : State) (p : Position) (cs : List Call) → permitted names s p cs ≡ true → (after_calls names s p cs).0.halfway ≡ false
unfolding permitted after_calls
permitted_closed names s p [] e = not-true s.halfway e
permitted_closed names s p (c ∷ cs) e =
    permitted_closed names (call_on names s p c).0 (call_on names s p c).1 cs (both_right (permitted_call names s p c) _ e)

-- what comes after a permitted list is judged where it ends
pub permitted-append :
    (names : List ℕ) (s : State) (p : Position) (cs ds : List Call) → permitted names s p cs ≡ true →
    permitted names s p (cs ++ ds) ≡ permitted names (after_calls names s p cs).0 (after_calls names s p cs).1 ds
unfolding permitted after_calls
permitted-append names s p [] ds e = refl
permitted-append names s p (c ∷ cs) ds e =
    both-next _ (both_left (permitted_call names s p c) _ e)
    ∙ permitted-append names (call_on names s p c).0 (call_on names s p c).1 cs ds (both_right (permitted_call names s p c) _ e)

-- where an accepted frame leaves a round
any_mask : (h : Bool) (mask : ℕ) (round : Round) → halfway_after h (done mask) round ≡ halfway_after h (done 0) round
unfolding halfway_after
any_mask h mask (multipartner r) = refl
any_mask h mask msd = refl
any_mask h mask msa = refl
any_mask h mask Round.no_round = refl

pub accepted-halfway : (h : Bool) (file bytes buffer : List ℕ) (round : Round) → round_ground file bytes buffer ≡ 0 → round_by_lem bytes ≡ round →
    halfway_after h (round_on file bytes buffer).0 (round_by_lem bytes) ≡ halfway_after h (done 0) round
accepted-halfway h file bytes buffer round g m = rw (round-accepted file bytes buffer g, m) (any_mask h _ round)

-- after a permitted list, a list that is permitted where it ends, and after both any steps
pub fits-between :
    (names : List ℕ) (s : State) (p : Position) (cs rs : List Call) {ds : List Call} → permitted names s p cs ≡ true →
    permitted names (after_calls names s p cs).0 (after_calls names s p cs).1 rs ≡ true → All IsStep ds →
    permitted names s p (cs ++ (rs ++ ds)) ≡ true
fits-between names s p cs rs {ds} e k steps =
    let t = after_calls names s p cs in
    permitted-append names s p cs (rs ++ ds) e
    ∙ permitted-append names t.0 t.1 rs ds k
    ∙ steps-permitted names (after_calls names t.0 t.1 rs).0 (after_calls names t.0 t.1 rs).1 (permitted_closed names t.0 t.1 rs k) steps
