-- A turn: a law for each way of its functions.
-- Assumes nothing.
use Prim.Native.Nat.{ℕ, ◌≤◌, ◌<◌}
use mathlib.Core.Path.{◌≡◌, refl, sym, ◌∙◌}
use mathlib.Core.List.{List}
use native.Mathlib.Omega.{arith}
use Rattle.std.proofs.Common.{Option, None, Some}
use lib.ListN.{length, get_or}
use borrow.Author.Tests.{ne_eqb}
use Rattle.file.specs.Rules.Bytes.{Byte}
use Rattle.file.specs.Rules.Order.{first_of, both}
use Rattle.file.specs.Rules.Results.{Result, refused, done}
use Rattle.file.specs.Inner.Surveyed.{Surveyed}
use Rattle.file.specs.declared.types.Refusal.{Refusal}
use Rattle.file.proofs.Surveyed.{survey-accepted, survey-refused}
use Rattle.frame.specs.Rules.FrameGrounds.{broadcast_read}
use Rattle.master_slave.specs.Rules.Bus.{slots}
use Rattle.cluster.specs.Rules.MasterSlave.{Sent, round_sent}
use Rattle.cluster.specs.Inner.Sending.{MaySend, of_other}
use Rattle.master_slave.specs.declared.types.RecordAddress.{RecordAddress}
use Rattle.screens.specs.Rules.Screens.{screens, last_served, Read, nobody, screen, due, read_grounds}
use Rattle.screens.specs.Rules.Turn.{Turn, idle, served, served_by, read_sent, after_serving, state_grounds, turn_ground, turn_made, turn_on}
use Rattle.screens.specs.Inner.ScreenAnswers.{due_of}
use Rattle.screens.specs.Inner.Parts.{read_in, PostedRead}
use Rattle.screens.proofs.PostLaws.{Readable}
use Rattle.screens.proofs.ScreenGrounds.{last-refused, by_nobody, by_read, state_last, state_read, state_decides, turn-file, turn-buffer, turn-none}
use Rattle.screens.proofs.ScreenGrounds.{turn-refused, turn-made}
use Rattle.screens.proofs.Due.{due-is-next}
use Rattle.file.specs.Inner.Refusals.{Answered, refusal_number, outcome_of}
use Rattle.std.specs.Prelude.{Ok, Err, Option, Some, None}

pub may_read : {r : Read} → Byte r.name → Byte r.«record» → Readable r → MaySend (read_sent r)
unfolding read_sent
may_read {r} name record' may =
    record {
      name = name;
      file = may.fits;
      operation = omega arith;
      «record» = record';
      broadcast = unfold broadcast_read both in rw (ne_eqb r.name 0 may.named);
      content = of_other refl;
    }

module _ (state : List ℕ) {d : Option ℕ} (is : due_of d ≡ due state) where
  due-nobody : d ≡ None → due state ≡ nobody
  unfolding due_of
  due-nobody e = sym (rw e at is)

  due-one : {i : ℕ} → d ≡ Some i → due state ≡ screen i
  unfolding due_of
  due-one e = sym (rw e at is)

  -- ---- the grounds of the read that is due

  module _ (last : last_served state < screens) where
    pub due-few : {i : ℕ} → d ≡ Some i → i < screens
    due-few {i} e = (((due-is-next state last).next i).0 (due-one e)).few

    pub ground_nobody : d ≡ None → 0 ≡ first_of (state_grounds state)
    ground_nobody e = sym (by_nobody state (omega arith) (due-nobody e))

    pub ground-read :
        {i : ℕ} {a : RecordAddress} {g : ℕ} → d ≡ Some i → PostedRead state i a → g ≡ first_of (read_grounds (read_in a)) →
        g ≡ first_of (state_grounds state)
    ground-read {i} e posts reason = reason ∙ rw posts.is (sym (by_read state i (omega arith) (due-one e)))

  -- ---- a turn that no ground refuses

  pub serve-idle : (f buffer : List ℕ) → d ≡ None → (done idle, state, buffer, f) ≡ turn_made (due state) state f buffer
  unfolding turn_made
  serve-idle f buffer e = rw (due-nobody e)

  module _ (none : first_of (state_grounds state) ≡ 0) {i : ℕ} (e : d ≡ Some i) where
    pub serve-few : i < screens
    serve-few = due-few (state_last state none) e

    module _ {a : RecordAddress} (posts : PostedRead state i a) {sent : Sent} (same : sent ≡ read_sent (read_in a)) where
      pub may-serve : MaySend sent
      may-serve = rw same (may_read posts.name posts.«record» (rw posts.is (state_read state i (due-one e) none)))

      pub serve-done :
          (f buffer : List ℕ) {mask : ℕ} {new file after : List ℕ} → (done mask, new, file) ≡ round_sent f sent buffer →
          after ≡ after_serving state i → (done (served i mask), after, new, file) ≡ turn_made (due state) state f buffer
      unfolding turn_made served_by
      serve-done f buffer made is' = rw (is', due-one e, ← posts.is, ← same, ← made)

-- ---- a turn

pub last-few : (state : List ℕ) → get_or state 0 0 ≤ 7 → last_served state < screens
unfolding last_served
last-few state h = omega arith

pub state_free : (state : List ℕ) {g : ℕ} → g ≡ first_of (state_grounds state) → g ≡ 0 → first_of (state_grounds state) ≡ 0
state_free state reason fits = sym reason ∙ fits

module _ (state f buffer : List ℕ) where
  refused_by : {w : ℕ} → turn_ground state f buffer ≡ w → (w ≡ 0 → ⊥) → (refused w, state, buffer, f) ≡ turn_on state f buffer
  refused_by by some = rw (turn-refused state f buffer (λ z. some (sym by ∙ z)), by)

  pub turn_unfit : {g : ℕ} → g ≡ first_of (state_grounds state) → (g ≡ 0 → ⊥) → (refused g, state, buffer, f) ≡ turn_on state f buffer
  turn_unfit reason some = refused_by (state_decides state f buffer (λ z. some (reason ∙ z)) ∙ sym reason) some

  pub turn-screen : 7 < get_or state 0 0 → (refused 27, state, buffer, f) ≡ turn_on state f buffer
  unfolding last_served
  turn-screen h = turn_unfit (sym (last-refused state h)) (λ z. omega arith)

  module _ {g : ℕ} (reason : g ≡ first_of (state_grounds state)) (fits : g ≡ 0) {a : Answered (Unit {0})} {places : List ℕ}
      (s : Surveyed f (outcome_of a) places) where
    pub turn_unaccepted : {w : Refusal} → a ≡ Err w → (refused (refusal_number w), state, buffer, f) ≡ turn_on state f buffer
    turn_unaccepted e =
        let by = survey-refused s e in
        refused_by (turn-file state f buffer (state_free state reason fits) (λ z. by.1 (by.0 ∙ z)) ∙ sym by.0) by.1

    module _ {u : Unit {0}} (accepted : a ≡ Ok u) where
      pub turn-short : length buffer < slots → (refused 9, state, buffer, f) ≡ turn_on state f buffer
      turn-short h = refused_by (turn-buffer state f buffer (state_free state reason fits) (survey-accepted s accepted) h) (λ z. omega arith)

      pub turn-carried :
          {r : Result Turn × List ℕ × List ℕ × List ℕ} → slots ≤ length buffer → r ≡ turn_made (due state) state f buffer →
          r ≡ turn_on state f buffer
      turn-carried h made = made ∙ sym (turn-made state f buffer (turn-none state f buffer (state_free state reason fits) (survey-accepted s accepted) h))
