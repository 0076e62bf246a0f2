-- The state's functions: who is due, the read in a screen's bytes, and a screen served.
-- Assumes nothing.
use Rattle.std.proofs.Common.{ℕ, suc, ◌+◌, ◌-◌, ◌%◌, ◌≤◌, ◌<◌, ◌≡◌, refl, sym, ◌∙◌, List, Bool, true, false, arith, get_or}
use Rattle.file.specs.declared.types.LogicalName.{LogicalName}
use Rattle.file.specs.Inner.Typed.{name_in_lem}
use Rattle.master_slave.specs.declared.types.RecordAddress.{RecordAddress}
use Rattle.screens.specs.Rules.Screens.{screens, last_served, place_of, is_waiting, read_of, nobody, screen, next_screen, due_from, due}
use Rattle.screens.specs.Claims.Turns.{away}
use Rattle.screens.specs.Inner.Parts.{ReadAt, PostedRead}

-- ---- the cyclic order

pub next-is : (i : ℕ) → next_screen i ≡ (i + 1) % 8
unfolding next_screen
next-is i = refl

pub first-away : (last : ℕ) → last < 8 → away last ((last + 1) % 8) ≡ 0
first-away last h = omega arith

pub next-away : (last x j : ℕ) → last < 8 → j < 8 → x ≡ (last + 1) % 8 → (j ≡ x → ⊥) → away last j ≡ suc (away x j)
next-away last x j h k e n = omega (arith, e)

-- ---- who is due

-- what is still to be asked: the screens after the i-th, in cyclic order, those that are left of the eight
pub record Asking (state : List ℕ) (asked i : ℕ) : Type 0 where
  pub few : i < screens
  pub same : due_from state i (screens - asked) ≡ due state

pub asking_start : {state : List ℕ} → last_served state < screens → Asking state 0 (get_or state 0 0)
unfolding last_served due
asking_start h = record { few = h; same = refl }

module _ {state : List ℕ} {asked i : ℕ} (a : Asking state asked i) where
  pub asking_few : i < screens
  asking_few = a.few

  pub asking_none : screens ≤ asked → nobody ≡ due state
  unfolding due_from
  asking_none all = let z : screens - asked ≡ 0 = omega arith in rw z at a.same

  module _ {next : ℕ} (is : next ≡ next_screen i) where
    pub next-few : next < screens
    next-few = omega (arith, is, next-is i)

    module _ (more : asked < screens) {t : Bool} (w : t ≡ is_waiting state next) where
      left : screens - asked ≡ suc (screens - (asked + 1))
      left = omega arith

      pub asking_found : t ≡ true → screen next ≡ due state
      unfolding due_from
      asking_found taken =
          let x : is_waiting state (next_screen i) ≡ true = rw is at (sym w ∙ taken) in
          rw (is, ← (rw x at (rw left at a.same)))

      pub asking_on : t ≡ false → Asking state (asked + 1) next
      unfolding due_from
      asking_on idle =
          let x : is_waiting state (next_screen i) ≡ false = rw is at (sym w ∙ idle) in
          record { few = next-few; same = rw is (rw x at (rw left at a.same)) }

-- ---- a screen's bytes

pub read-there :
    (state : List ℕ) (place : ℕ) {a : LogicalName} → name_in_lem a ≡ get_or state (place + 1) 0 → ((k : ℕ) → get_or state k 0 < 256) →
    ReadAt state place
    (record { name = a; number = record { 0 = get_or state (place + 2) 0 }; «record» = record { 0 = get_or state (place + 3) 0 } })
read-there state place e bytes = record { is = rw e; name = rw e (bytes (place + 1)); «record» = bytes (place + 3) }

pub posted-there :
    (state : List ℕ) (i : ℕ) {place : ℕ} {a : RecordAddress} → place ≡ place_of i → ReadAt state place a → PostedRead state i a
unfolding read_of
posted-there state i at r = record { is = r.is ∙ rw at; name = r.name; «record» = r.«record» }
