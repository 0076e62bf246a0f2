-- One law for each way through the checks of the header: what the tests on the way say, and the ground that follows.
-- Assumes nothing.
use Prim.Native.Nat.{ℕ, suc, ◌+◌, ◌*◌, ◌-◌, ◌/◌, ◌≤◌, ◌<◌}
use mathlib.Core.Path.{◌≡◌, refl, sym, subst, ◌∙◌}
use mathlib.Core.List.{List, [], ◌∷◌}
use mathlib.Core.Bool.{Bool, true, false, not}
use native.Mathlib.Omega.{arith}
use borrow.Author.Tests.{lt-ltb, le-ltb, eq-eqb, ne_eqb, eqb-true, eqb-false}
use lib.ListN.{length, get_or}
use lib.Dec.{eqb}
use Rattle.file.specs.Rules.Order.{first_of, either}
use Rattle.file.specs.Rules.Layout.{OffsetWidth, pending_flag, length_place, epoch_place, flag_place, pending_name_place, pending_pb2_place, zeros_place}
use Rattle.file.specs.Rules.Cluster.{operation_of, no_operation, broadcast_read}
use Rattle.file.specs.Rules.Bytes.{part, all_zero}
use Rattle.file.specs.Inner.Numbers.{ByteAt, NumberAt}
use Rattle.file.specs.Rules.Decode.{offset_at}
use Rattle.file.specs.Rules.FileGrounds.{wrong_size, wrong_mark, wrong_edition, wrong_length, wrong_header, wrong_pending, broken_layout, lacks_needed, equal_physical_names, file_grounds_at, file_ground_at}
use Rattle.file.specs.Inner.Checked.{HeaderFits, GoodHeader, HeaderChecked}
use Rattle.file.proofs.Order.{by_case, clash, both_false_left, both-next, either_left, either-next, either_false}
use Rattle.file.proofs.Facts.{true_unless, false_unless, size_facts, header_facts, zeros-at, zeros-rest, zeros_more, zeros-none}
use Rattle.file.proofs.NumberLaws.{zero_number, number_zero}
use Rattle.file.proofs.Width.{Which, narrow, wide, which}

-- ---- the header's ground

refuse : {w : ℕ} {f : List ℕ} {n : ℕ} → suc n ≡ file_ground_at w f → HeaderChecked w f (suc n)
refuse e = record { refused = λ _. e; passed = λ z. absurd (no z) }
  where
    no : {n : ℕ} → suc n ≡ 0 → ⊥
    no z = omega arith

-- a file is long enough for its header once ground 1 does not hold
pub long_enough : {w : ℕ} (f : List ℕ) {t : Bool} → OffsetWidth w → t ≡ wrong_size w f → t ≡ false → HeaderFits w f
long_enough {w} f width p e = record { width = width; room = (size_facts w f (sym p ∙ e)).low }

pub long-mark : (w : ℕ) (f : List ℕ) {t : Bool} → t ≡ wrong_size w f → t ≡ false → 2 ≤ length f
long-mark w f p e = omega (arith, (size_facts w f (sym p ∙ e)).low)

module _ {w : ℕ} {f : List ℕ} {a : Bool} (is₁ : a ≡ wrong_size w f) where
  pub ground_1 : a ≡ true → HeaderChecked w f 1
  unfolding file_ground_at file_grounds_at first_of
  ground_1 e = refuse (rw (← is₁, e))

  module _ (no₁ : a ≡ false) {b : Bool} (is₂ : b ≡ wrong_mark f) where
    pub ground_2 : b ≡ true → HeaderChecked w f 2
    unfolding file_ground_at file_grounds_at first_of
    ground_2 e = refuse (rw (← is₁, no₁, ← is₂, e))

    module _ (no₂ : b ≡ false) {c : Bool} (is₃ : c ≡ wrong_edition w f) where
      pub ground_3 : c ≡ true → HeaderChecked w f 3
      unfolding file_ground_at file_grounds_at first_of
      ground_3 e = refuse (rw (← is₁, no₁, ← is₂, no₂, ← is₃, e))

      module _ (no₃ : c ≡ false) {d : Bool} (is₄ : d ≡ wrong_length w f) where
        pub ground_4 : d ≡ true → HeaderChecked w f 4
        unfolding file_ground_at file_grounds_at first_of
        ground_4 e = refuse (rw (← is₁, no₁, ← is₂, no₂, ← is₃, no₃, ← is₄, e))

        module _ (no₄ : d ≡ false) {x : Bool} (is₅ : x ≡ wrong_header w f) where
          pub ground_5 : x ≡ true → HeaderChecked w f 5
          unfolding file_ground_at file_grounds_at first_of
          ground_5 e = refuse (rw (← is₁, no₁, ← is₂, no₂, ← is₃, no₃, ← is₄, no₄, ← is₅, e))

          pub header-passed : x ≡ false → HeaderChecked w f 0
          header-passed no₅ =
              record {
                refused = λ no. absurd (no refl);
                passed = λ _. record {
                  size = sym is₁ ∙ no₁;
                  mark = sym is₂ ∙ no₂;
                  edition = sym is₃ ∙ no₃;
                  length_field = sym is₄ ∙ no₄;
                  rest = sym is₅ ∙ no₅;
                };
              }

-- after a good header the other three grounds decide
pub after-header : (w : ℕ) (f : List ℕ) → GoodHeader w f → file_ground_at w f ≡
    first_of ((6, broken_layout w f) ∷ (7, lacks_needed w f) ∷ (8, equal_physical_names w f) ∷ [])
unfolding file_ground_at file_grounds_at first_of
after-header w f h = rw (h.size, h.mark, h.edition, h.length_field, h.rest)

-- ---- the tests

pub mark-first : {f : List ℕ} {b : ℕ} → ByteAt f 0 b → (b ≡ 0x54 → ⊥) → true ≡ wrong_mark f
unfolding wrong_mark
mark-first {f} {b} k h = rw (both_false_left (eqb (get_or f 1 0) 0x41) (ne_eqb (get_or f 0 0) 0x54 (λ q. h (k.is ∙ q))))

pub mark-second : {f : List ℕ} {a b : ℕ} → ByteAt f 0 a → a ≡ 0x54 → ByteAt f 1 b → not (eqb b 0x41) ≡ wrong_mark f
unfolding wrong_mark
mark-second {f} {a} {b} p e q = rw (both-next (eqb (get_or f 1 0) 0x41) (eq-eqb (get_or f 0 0) 0x54 (sym p.is ∙ e)), ← q.is)

pub edition_test : (w : ℕ) {f : List ℕ} {b : ℕ} → ByteAt f 2 b → not (eqb b (w / 2)) ≡ wrong_edition w f
unfolding wrong_edition
edition_test w k = rw k.is

pub length_test : {w : ℕ} {f : List ℕ} {n : ℕ} → NumberAt f (length_place w) w n → not (eqb n (length f)) ≡ wrong_length w f
unfolding wrong_length offset_at
length_test k = rw k.is

pub header-count : (w : ℕ) {f : List ℕ} {b : ℕ} → ByteAt f 3 b → 16 * w < b → true ≡ wrong_header w f
header-count w {f} {b} k h = sym (true_unless (λ e. let facts = header_facts w f e in omega (arith, facts.count, k.is)))

pub header-table : {w : ℕ} {f : List ℕ} {n : ℕ} → NumberAt f 4 w n → (n ≡ 8 + 4 * w → ⊥) → true ≡ wrong_header w f
unfolding offset_at
header-table {w} {f} {n} k h = sym (true_unless (λ e. h (k.is ∙ (header_facts w f e).table)))

pub header_zero : (k : ℕ) {w : ℕ} {f : List ℕ} {b : ℕ} → k < 3 → HeaderFits w f → ByteAt f (epoch_place w + (5 + k)) b → (b ≡ 0 → ⊥) → true ≡ wrong_header w f
header_zero k {w} {f} {b} l long is h =
    let there : zeros_place w + k ≡ epoch_place w + (5 + k) = omega arith in
    let few : k < 2 * w - 1 = omega (arith, long.width.least) in
    sym (true_unless (λ e. h (is.is ∙ rw there at (zeros-at f (zeros_place w) (2 * w - 1) k few (header_facts w f e).zeros))))

-- the zeros beyond the first three
zeros-behind : (w : ℕ) (f : List ℕ) → 2 ≤ w → 8 + 4 * w ≤ length f → all_zero (part f (zeros_place w) (2 * w - 1)) ≡ true → all_zero (part f (epoch_place w + 8) (2 * w - 4)) ≡ true
zeros-behind w f least room z =
    let more : 2 * w - 1 ≡ suc (suc (suc (2 * w - 4))) = omega arith in
    let three : suc (suc (suc (zeros_place w))) ≡ epoch_place w + 8 = omega arith in
    let z₁ = zeros-rest f (zeros_place w) (suc (suc (2 * w - 4))) (omega arith) (rw more at z) in
    let z₂ = zeros-rest f (suc (zeros_place w)) (suc (2 * w - 4)) (omega arith) z₁ in
    rw three at (zeros-rest f (suc (suc (zeros_place w))) (2 * w - 4) (omega arith) z₂)

pub header_more : {w : ℕ} {f : List ℕ} {t : Bool} → HeaderFits w f → t ≡ all_zero (part f (epoch_place w + 8) (2 * w - 4)) → t ≡ false → true ≡ wrong_header w f
header_more {w} {f} long is e = sym (true_unless (λ h. clash (zeros-behind w f long.width.least long.room (header_facts w f h).zeros) (sym is ∙ e)))

pub header-last : {w : ℕ} {f : List ℕ} {count table z₁ z₂ z₃ name : ℕ} {t r : Bool} → HeaderFits w f → ByteAt f 3 count → count ≤ 16 * w →
    NumberAt f 4 w table → table ≡ 8 + 4 * w → ByteAt f (epoch_place w + 5) z₁ → z₁ ≡ 0 → ByteAt f (epoch_place w + 6) z₂ → z₂ ≡ 0 → ByteAt f (epoch_place w + 7) z₃ → z₃ ≡ 0 →
    t ≡ all_zero (part f (epoch_place w + 8) (2 * w - 4)) → t ≡ true →
    name ≡ get_or f (epoch_place w + 2) 0 → r ≡ wrong_pending (get_or f (epoch_place w + 1) 0) name (get_or f (epoch_place w + 3) 0) → r ≡ wrong_header w f
unfolding wrong_header offset_at
header-last {w} {f} fits is₁ low is₂ size is₃ e₃ is₄ e₄ is₅ e₅ is₆ e₆ named r =
    let long = fits.room in
    let least = fits.width.least in
    let c = le-ltb (16 * w) (get_or f 3 0) (omega (arith, is₁.is)) in
    let t = eq-eqb _ _ (sym is₂.is ∙ size) in
    let a₀ : epoch_place w + 5 ≡ zeros_place w = omega arith in
    let a₁ : epoch_place w + 6 ≡ suc (zeros_place w) = omega arith in
    let a₂ : epoch_place w + 7 ≡ suc (suc (zeros_place w)) = omega arith in
    let a₃ : epoch_place w + 8 ≡ suc (suc (suc (zeros_place w))) = omega arith in
    let y₀ : get_or f (zeros_place w) 0 ≡ 0 = rw a₀ at (sym is₃.is ∙ e₃) in
    let y₁ : get_or f (suc (zeros_place w)) 0 ≡ 0 = rw a₁ at (sym is₄.is ∙ e₄) in
    let y₂ : get_or f (suc (suc (zeros_place w))) 0 ≡ 0 = rw a₂ at (sym is₅.is ∙ e₅) in
    let y₃ : all_zero (part f (suc (suc (suc (zeros_place w)))) (2 * w - 4)) ≡ true = rw a₃ at (sym is₆ ∙ e₆) in
    let more : suc (suc (suc (2 * w - 4))) ≡ 2 * w - 1 = omega arith in
    let x₂ = zeros_more f (suc (suc (zeros_place w))) (2 * w - 4) (omega arith) y₂ y₃ in
    let x₁ = zeros_more f (suc (zeros_place w)) (suc (2 * w - 4)) (omega arith) y₁ x₂ in
    let z : all_zero (part f (zeros_place w) (2 * w - 1)) ≡ true =
    rw more at (zeros_more f (zeros_place w) (suc (suc (2 * w - 4))) (omega arith) y₀ x₁) in
    let f₁ : flag_place w ≡ epoch_place w + 1 = omega arith in
    let f₂ : pending_name_place w ≡ epoch_place w + 2 = omega arith in
    let f₃ : pending_pb2_place w ≡ epoch_place w + 3 = omega arith in
    rw (either-next _ c, t, either-next _ refl, z, either-next _ refl, f₁, f₂, f₃, ← named) r

-- the four zeros more
pub more_none : {w : ℕ} (f : List ℕ) (at : ℕ) → w ≡ 2 → true ≡ all_zero (part f at (2 * w - 4))
more_none f at e = rw e (sym (zeros-none f at))

more_there : {w n : ℕ} {f : List ℕ} {at : ℕ} → Which w → (w ≡ 2 → ⊥) → NumberAt f at w n → eqb n 0 ≡ all_zero (part f at (2 * w - 4))
more_there narrow other h = absurd (other refl)
more_there {n = n} {f} {at} wide other h =
    by_case (eqb n 0)
    (λ t. t ∙ sym (number_zero (part f at 4) (sym h.is ∙ eqb-true n 0 t)))
    (λ t. t ∙ sym (false_unless (λ z. eqb-false n 0 t (h.is ∙ zero_number (part f at 4) z))))

pub more_zeros : {w n : ℕ} {f : List ℕ} {at : ℕ} → OffsetWidth w → (w ≡ 2 → ⊥) → NumberAt f at w n → eqb n 0 ≡ all_zero (part f at (2 * w - 4))
more_zeros width other h = more_there (which width) other h

-- ---- the pending operation

module _ (flag name pb2 : ℕ) where
  pub pending-above : pending_flag < flag → true ≡ wrong_pending flag name pb2
  unfolding wrong_pending
  pending-above h = sym (either_left _ (lt-ltb _ _ h))

  module _ (low : flag ≤ pending_flag) where
    pub pending-none : (flag ≡ pending_flag → ⊥) → false ≡ wrong_pending flag name pb2
    unfolding wrong_pending
    pending-none other = sym (either_false (le-ltb _ _ low) (both_false_left _ (ne_eqb _ _ other)))

    -- the code's operation and its tests are values of its own, with their equations
    module _ (pending : flag ≡ pending_flag) {operation : ℕ} {t : Bool} (does : operation ≡ operation_of pb2) (known : t ≡ no_operation operation) where
      by_operation : wrong_pending flag name pb2 ≡ either t (broadcast_read operation name)
      unfolding wrong_pending
      by_operation = rw (either-next _ (le-ltb pending_flag flag low), both-next _ (eq-eqb flag pending_flag pending), ← does, ← known)

      pub pending_unknown : t ≡ true → true ≡ wrong_pending flag name pb2
      pending_unknown e = sym (by_operation ∙ either_left _ e)

      pub pending-known : {u : Bool} → t ≡ false → u ≡ broadcast_read operation name → u ≡ wrong_pending flag name pb2
      pending-known e reads = reads ∙ sym (by_operation ∙ either-next _ e)

-- ---- the width as a literal

module _ {w : ℕ} (width : OffsetWidth w) {f : List ℕ} {n : ℕ} where
  pub narrow_checked : w ≡ 2 → HeaderChecked 2 f n → HeaderChecked w f n
  narrow_checked two h = subst (λ (v : ℕ). HeaderChecked v f n) (sym two) h

  pub wide_checked : (w ≡ 2 → ⊥) → HeaderChecked 4 f n → HeaderChecked w f n
  wide_checked other h =
      let four : 4 ≡ w = omega (arith, width.least, width.most, width.even) in
      subst (λ (v : ℕ). HeaderChecked v f n) four h
