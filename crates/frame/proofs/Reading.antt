-- The reader's answer, ground by ground: one law for each way that the reader can end.
-- Assumes nothing.
use Prim.Native.Nat.{ℕ}
use mathlib.Core.Path.{◌≡◌, refl, sym, ◌∙◌}
use mathlib.Core.List.{List}
use mathlib.Core.Bool.{Bool, true, false, cond}
use lib.ListN.{length, get_or}
use lib.Dec.{eqb}
use Rattle.file.specs.Rules.Order.{first_of}
use Rattle.file.specs.Rules.Cluster.{file_number_of, operation_of}
use Rattle.frame.specs.Rules.Fireworks.{address_firework}
use Rattle.frame.specs.Rules.Check.{address_check}
use Rattle.frame.specs.Rules.Frames.{frame_size, between}
use Rattle.frame.specs.Rules.FrameGrounds.{no_address, wrong_frame_length, wrong_check, no_operation, broadcast_read}
use Rattle.file.specs.Rules.Results.{refused, done, result_of}
use Rattle.frame.specs.Rules.Reading.{parts, parts_of, read_ground, read_address}
use Rattle.frame.proofs.Tests.{address, right_length, right_check}

module _ (frame : List ℕ) where
  refuse : {g : ℕ} → eqb g 0 ≡ false → read_ground frame ≡ g → refused g ≡ read_address frame
  unfolding read_address result_of
  refuse {g} n e = rw (e, n)

  -- The code's tests are values of its own, with their equations.
  pub refuse_10 : {t : Bool} → t ≡ no_address frame → t ≡ true → refused 10 ≡ read_address frame
  unfolding read_ground first_of
  refuse_10 e p = refuse refl (rw (← e, p))

  module _ {t : Bool} (first : t ≡ no_address frame) (first_so : t ≡ false) where
    pub refuse_11 : wrong_frame_length frame_size frame ≡ true → refused 11 ≡ read_address frame
    unfolding read_ground first_of
    refuse_11 q = refuse refl (rw (← first, first_so, q))

    pub refuse_12 : {u : Bool} → length frame ≡ frame_size → u ≡ wrong_check address_check frame → u ≡ true → refused 12 ≡ read_address frame
    unfolding read_ground first_of
    refuse_12 long e r = refuse refl (rw (← first, first_so, right_length frame long, ← e, r))

  -- no ground of the frame's form holds
  pub record Formed : Type 0 where
    pub firework : no_address frame ≡ false
    pub size : wrong_frame_length frame_size frame ≡ false
    pub check : wrong_check address_check frame ≡ false

  pub formed : {check : ℕ} → (length frame ≡ 0 → ⊥) → get_or frame 0 0 ≡ address_firework → length frame ≡ frame_size
      → check ≡ address_check (between frame) → get_or frame 5 0 ≡ check → Formed
  formed some first long e same =
      record { firework = address frame some first; size = right_length frame long; check = right_check frame address_check e same }

  pub formed_by : {t u : Bool} → t ≡ no_address frame → t ≡ false → length frame ≡ frame_size → u ≡ wrong_check address_check frame → u ≡ false → Formed
  formed_by first first_so long check check-so =
      record { firework = sym first ∙ first_so; size = right_length frame long; check = sym check ∙ check-so }

  -- The code's logical name, operation and tests are values of its own, with their equations.
  pub refuse_13 : {o : ℕ} {t : Bool} → Formed → o ≡ operation_of (get_or frame 3 0) → t ≡ no_operation o → t ≡ true → refused 13 ≡ read_address frame
  unfolding read_ground first_of
  refuse_13 f does e s = refuse refl (rw (f.firework, f.size, f.check, ← does, ← e, s))

  module _ {n o : ℕ} {t u : Bool} (formed : Formed) (named : n ≡ get_or frame 2 0) (does : o ≡ operation_of (get_or frame 3 0))
      (known : t ≡ no_operation o) (Known-so : t ≡ false) (reads : u ≡ broadcast_read o n) where
    grounds : read_ground frame ≡ cond u 14 0
    unfolding read_ground first_of
    grounds = rw (formed.firework, formed.size, formed.check, ← does, ← known, Known-so, ← named, ← reads)

    pub refuse_14 : u ≡ true → refused 14 ≡ read_address frame
    refuse_14 p = refuse refl (grounds ∙ rw p)

    pub accept : {file : ℕ} → file ≡ file_number_of (get_or frame 3 0) → u ≡ false → done (parts (get_or frame 1 0) n file o (get_or frame 4 0)) ≡ read_address frame
    unfolding read_address parts_of result_of
    accept number p = rw (grounds, p, named, does, number)
