-- When the tests of the grounds pass, in the terms of the code's own tests.
-- Assumes nothing.
use Prim.Native.Nat.{ℕ, ◌<◌, ◌≤◌}
use mathlib.Core.Path.{◌≡◌, sym, ◌∙◌}
use mathlib.Core.List.{List}
use mathlib.Core.Bool.{Bool, true, false, not}
use native.Mathlib.Omega.{arith}
use lib.ListN.{length, get_or}
use lib.Dec.{eqb}
use borrow.Author.Tests.{lt-ltb, le-ltb, eq-eqb, ne_eqb, eqb-true, leb-false, lt-leb, not-false}
use Rattle.std.specs.Ordering.{is_lt, nat_cmp}
use Rattle.std.proofs.lemmas.Bool.Decides.{nat_tests}
use Rattle.file.proofs.Order.{either_left, either_false, either_false_right}
use Rattle.frame.specs.Rules.Frames.{frame_size, between}
use Rattle.frame.specs.Rules.Fireworks.{address_firework}
use Rattle.frame.specs.Rules.FrameGrounds.{short_frame_buffer, no_address, wrong_frame_length, wrong_check, no_operation, no_file_number}

-- a test of equality that is negated
pub differs : {a b : ℕ} → (a ≡ b → ⊥) → not (eqb a b) ≡ true
differs {a} {b} h = rw (ne_eqb a b h)

pub agrees : {a b : ℕ} → a ≡ b → not (eqb a b) ≡ false
agrees {a} {b} h = rw (eq-eqb a b h)

pub agree : (a b : ℕ) → not (eqb a b) ≡ false → a ≡ b
agree a b p = eqb-true a b (not-false (eqb a b) p)

module _ (buffer : List ℕ) where
  pub short : length buffer < frame_size → short_frame_buffer buffer ≡ true
  unfolding short_frame_buffer
  short h = lt-ltb _ _ h

  pub long : frame_size ≤ length buffer → short_frame_buffer buffer ≡ false
  unfolding short_frame_buffer
  long h = le-ltb _ _ h

module _ (frame : List ℕ) where
  pub empty : length frame ≡ 0 → no_address frame ≡ true
  unfolding no_address
  empty h = either_left _ (eq-eqb _ _ h)

  pub address : (length frame ≡ 0 → ⊥) → get_or frame 0 0 ≡ address_firework → no_address frame ≡ false
  unfolding no_address
  address h e = either_false (ne_eqb _ _ h) (agrees e)

  pub address-first : no_address frame ≡ false → get_or frame 0 0 ≡ address_firework
  unfolding no_address
  address-first p = agree _ _ (either_false_right _ _ p)

  pub right_length : {size : ℕ} → length frame ≡ size → wrong_frame_length size frame ≡ false
  unfolding wrong_frame_length
  right_length e = agrees e

  pub other_length : {size : ℕ} → (length frame ≡ size → ⊥) → wrong_frame_length size frame ≡ true
  unfolding wrong_frame_length
  other_length h = differs h

  pub length-is : (size : ℕ) → wrong_frame_length size frame ≡ false → length frame ≡ size
  unfolding wrong_frame_length
  length-is size p = agree _ _ p

  -- the code's check byte is a value of its own, with its equation
  module _ (f : List ℕ → ℕ) {check : ℕ} (made : check ≡ f (between frame)) where
    pub right_check : get_or frame 5 0 ≡ check → wrong_check f frame ≡ false
    unfolding wrong_check
    right_check same = agrees (same ∙ made)

  pub check-is : (f : List ℕ → ℕ) → wrong_check f frame ≡ false → get_or frame 5 0 ≡ f (between frame)
  unfolding wrong_check
  check-is f p = agree _ _ p

pub operation-fits : (operation : ℕ) → operation ≤ 2 → no_operation operation ≡ false
unfolding no_operation
operation-fits operation h = lt-leb 3 operation (omega arith)

pub operation-low : {known : Bool} (operation : ℕ) → known ≡ no_operation operation → known ≡ false → operation ≤ 2
unfolding no_operation
operation-low operation e p = omega (arith, leb-false 3 operation (sym e ∙ p))

module _ (file : ℕ) where
  pub file-high : 63 < file → no_file_number file ≡ true
  unfolding no_file_number
  file-high h = lt-ltb _ _ h

  pub file-fits : file ≤ 63 → no_file_number file ≡ false
  unfolding no_file_number
  file-fits h = le-ltb _ _ h

-- the code's comparison of a file number with the last one
module _ {t : Bool} (file : ℕ) (is : t ≡ is_lt (nat_cmp 63 file)) where
  pub past-last : t ≡ true → 63 < file
  past-last h = grind (arith, nat_tests)

  pub upto-last : t ≡ false → file ≤ 63
  upto-last h = grind (arith, nat_tests)
