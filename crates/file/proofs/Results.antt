-- The file's grounds as a list that other grounds are joined to; and a result taken apart: done is by no ground, and a refusal is by its
-- own ground.
-- Assumes nothing.
use Prim.Native.Nat.{ℕ, ◌≤◌}
use mathlib.Core.Path.{◌≡◌, refl, sym, ◌∙◌}
use native.Mathlib.Omega.{arith}
use mathlib.Core.List.{List, []}
use mathlib.Core.Bool.{false, cond}
use lib.Dec.{eqb}
use borrow.Author.Tests.{eqb-true, eqb-false, eq-eqb, ne_eqb}
use Rattle.file.specs.Rules.Bytes.{All, all_empty, all_next}
use Rattle.file.specs.Rules.Order.{first_of}
use Rattle.file.specs.Rules.Layout.{width_of}
use Rattle.file.specs.Rules.Cluster.{logical_names}
use Rattle.file.specs.Rules.Decode.{decode}
use Rattle.file.specs.Rules.FileGrounds.{file_grounds_at, file_ground_at, file_grounds, file_ground, has_repeat, held_names, equal_logical_names, load_ground}
use Rattle.file.proofs.Order.{Numbered, by_case, first-none, first-most, joined-here, joined-next, joined-left, joined_right}
use Rattle.file.specs.Rules.Results.{refused, done, result_of}

pub file-first : (f : List ℕ) → first_of (file_grounds f) ≡ file_ground f
unfolding file_grounds file_ground file_ground_at
file-first f = refl

pub file_numbered : (f : List ℕ) → All Numbered (file_grounds f)
unfolding file_grounds file_grounds_at
file_numbered f = all_next refl (all_next refl (all_next refl (all_next refl (all_next refl (all_next refl (all_next refl (all_next refl all_empty)))))))

-- a file's own ground is one of 1 to 8
pub file-most : (f : List ℕ) → file_ground f ≤ 8
unfolding file_ground file_ground_at file_grounds_at
file-most f =
    first-most 8
    (all_next (omega arith) (all_next (omega arith) (all_next (omega arith) (all_next (omega arith)
    (all_next (omega arith) (all_next (omega arith) (all_next (omega arith) (all_next (omega arith) all_empty))))))))

-- ---- on loading: the file's own ground decides first, then 22

module _ (f : List ℕ) where
  pub load_first : (file_ground f ≡ 0 → ⊥) → load_ground f ≡ file_ground f
  unfolding load_ground
  load_first some = joined-here (file_grounds f) _ (file_numbered f) (λ z. some (sym (file-first f) ∙ z)) ∙ file-first f

  pub load_last : file_ground f ≡ 0 → load_ground f ≡ cond (equal_logical_names (width_of f) f) 22 0
  unfolding load_ground first_of
  load_last none = joined-next (file_grounds f) _ (file_numbered f) (file-first f ∙ none)

  pub load_file : load_ground f ≡ 0 → file_ground f ≡ 0
  unfolding load_ground
  load_file none = sym (file-first f) ∙ joined-left (file_grounds f) _ (file_numbered f) none

  pub load_names : load_ground f ≡ 0 → equal_logical_names (width_of f) f ≡ false
  unfolding load_ground
  load_names none = (first-none 21 (equal_logical_names (width_of f) f) [] (joined_right (file_grounds f) _ (file_numbered f) none)).0

  -- the same by the names of the decoded cluster, for the layers above: 22 exactly where a name other than 0xFF is held twice
  pub load_twice : file_ground f ≡ 0 → load_ground f ≡ cond (has_repeat (held_names (logical_names (decode f)))) 22 0
  unfolding equal_logical_names decode
  load_twice none = load_last none

  pub load_once : load_ground f ≡ 0 → has_repeat (held_names (logical_names (decode f))) ≡ false
  unfolding equal_logical_names decode
  load_once none = load_names none

-- ---- a result taken apart

module _ {A : Type 0} where
  pub result_done : {value : A} {n : ℕ} → n ≡ 0 → result_of n value ≡ done value
  unfolding result_of
  result_done {n = n} none = rw (eq-eqb n 0 none)

  pub result_refused : (value : A) {n : ℕ} → (n ≡ 0 → ⊥) → refused n ≡ result_of n value
  unfolding result_of
  result_refused value {n} some = rw (ne_eqb n 0 some)

  -- done, so by no ground and with that value; refused, so by that ground
  module _ (value : A) where
    pub no_ground : {other : A} (n : ℕ) → done other ≡ result_of n value → n ≡ 0
    unfolding result_of
    no_ground n h =
        by_case (eqb n 0)
        (λ e. eqb-true n 0 e)
        (λ e. let r = rw e at h in let z : ◌≡◌ {A = ℕ} 0 1 = cc in absurd (omega arith))

    pub same-value : {other : A} (n : ℕ) → done other ≡ result_of n value → other ≡ value
    unfolding result_of
    same-value n h =
        by_case (eqb n 0)
        (λ e. let r = rw e at h in cc)
        (λ e. let r = rw e at h in let z : ◌≡◌ {A = ℕ} 0 1 = cc in absurd (omega arith))

    pub that_ground : (m n : ℕ) → refused m ≡ result_of n value → (m ≡ n) × (m ≡ 0 → ⊥)
    unfolding result_of
    that_ground m n h =
        by_case (eqb n 0)
        (λ e. let r = rw e at h in let z : ◌≡◌ {A = ℕ} 0 1 = cc in absurd (omega arith))
        (λ e. let r = rw e at h in let same : m ≡ n = cc in (same, λ z. eqb-false n 0 e (sym same ∙ z)))
