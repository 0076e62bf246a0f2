-- The table of the 512 classes, and its rule proved once over the whole table.
-- Assumes nothing.
use Rattle.std.proofs.Common.{ℕ, zero, suc, ◌/◌, ◌≤◌, ◌<◌, ◌≡◌, refl, sym, ap, ◌∙◌, List, [], ◌∷◌, Bool, true, cond, arith, eqb, get_or, eqb-true, ne_eqb, lt-ltb, le-ltb}
use lib.Count.{ones_in}
use Rattle.file.specs.Rules.Results.{done, refused, result_of}
use Rattle.file.specs.Rules.Order.{both, either, first_of}
use Rattle.file.specs.Rules.FileGrounds.{is_among}
use Rattle.line.specs.Rules.Patterns.{PatternClass, data_byte, firework, broken, ones, is_listed, class_of, pattern_ground, pattern_on}
use Rattle.line.specs.Inner.Rows.{entry_of, entry_in, RowByRule}
use Rattle.line.proofs.Computed.{all_below, at}

-- the words of the code's table; `row_at` is proved with these, so that they are the same
unfoldable pub rows : List ℕ
rows =
    0x8228288228828228 ∷
    0x2882822882282882 ∷
    0x2882822882242882 ∷
    0x8228288228828128 ∷
    0x2882422882282882 ∷
    0x8218288228828228 ∷
    0x8228288228828228 ∷
    0x2882822882282882 ∷
    0x2882822882282882 ∷
    0x8228288228828228 ∷
    0x8228248228828228 ∷
    0x2881822882282882 ∷
    0x8228288228428228 ∷
    0x2882822882281882 ∷
    0x2882822882282882 ∷
    0x8228288228828228 ∷
    []

-- "Each of the 512 patterns has an entry": that of its class by the rule, which antt computes of every one
by_rule : ℕ → Bool
by_rule pattern = eqb (entry_in (get_or rows (pattern / 32) 0) pattern) (entry_of (class_of pattern))

computed : all_below 512 by_rule ≡ true
unfolding all_below by_rule rows entry_of class_of ones ones_in is_listed is_among either both
computed = refl

pub rows_by_rule : (pattern : ℕ) → pattern < 512 → entry_in (get_or rows (pattern / 32) 0) pattern ≡ entry_of (class_of pattern)
unfolding by_rule
rows_by_rule pattern few = eqb-true _ _ (at 512 by_rule computed pattern few)

-- a row read by its number
pub row_by_rule : {row number : ℕ} → row < 16 → row ≡ number → RowByRule row (get_or rows number 0)
row_by_rule {row} {number} few is =
    record {
      entries =
          λ pattern there.
          let same : pattern / 32 ≡ number = there ∙ is in
          sym (ap (λ (r : ℕ). entry_in (get_or rows r 0) pattern) same) ∙ rows_by_rule pattern (omega arith);
    }

-- what a `match` knows of its number behind the arms of 0, 1 and so on
abbrev NoneBelow : ℕ → ℕ → Type 0
NoneBelow x zero = Unit
NoneBelow x (suc n) = NoneBelow x n × (x ≡ n → ⊥)

least : (x n : ℕ) → NoneBelow x n → n ≤ x
least x zero none = omega arith
least x (suc n) none =
    let before : n ≤ x = least x n none.0 in
    let other : x ≡ n → ⊥ = none.1 in
    omega (arith, other)

-- the last row, which has no number in the code
pub last_by_rule : {row : ℕ} → row < 16 → NoneBelow row 15 → RowByRule row (get_or rows 15 0)
last_by_rule {row} few none = row_by_rule few (omega (arith, least row 15 none))

-- the call above 511, and below 512 by the entry found there
pub above : (p : ℕ) → 511 < p → refused 31 ≡ pattern_on p
unfolding pattern_on pattern_ground first_of result_of
above p h = rw (lt-ltb 511 p h)

pub below : (p : ℕ) → p < 512 → done (class_of p) ≡ pattern_on p
unfolding pattern_on pattern_ground first_of result_of
below p h = rw (le-ltb 511 p (omega arith))

-- the class of an entry; 3 stands in no row
class_by_lem : ℕ → PatternClass
class_by_lem entry = cond (eqb entry 0) data_byte (cond (eqb entry 1) firework broken)

class_back : (c : PatternClass) → class_by_lem (entry_of c) ≡ c
unfolding class_by_lem entry_of
class_back data_byte = refl
class_back firework = refl
class_back broken = refl

module _ (p : ℕ) {row : ℕ} (few : p < 512) (there : RowByRule (p / 32) row) where
  class_by : {entry : ℕ} → entry_in row p ≡ entry → done (class_by_lem entry) ≡ pattern_on p
  class_by e = ap done (ap class_by_lem (sym e ∙ there.entries p refl) ∙ class_back (class_of p)) ∙ below p few

  pub data-entry : entry_in row p ≡ 0 → done data_byte ≡ pattern_on p
  unfolding class_by_lem
  data-entry e = class_by e

  pub firework-entry : entry_in row p ≡ 1 → done firework ≡ pattern_on p
  unfolding class_by_lem
  firework-entry e = class_by e

  pub broken-entry : entry_in row p ≡ 2 → done broken ≡ pattern_on p
  unfolding class_by_lem
  broken-entry e = class_by e

  pub other-entry : NoneBelow (entry_in row p) 3 → done broken ≡ pattern_on p
  unfolding class_by_lem
  other-entry none =
      let c : done (class_by_lem (entry_in row p)) ≡ pattern_on p = class_by refl in
      rw (ne_eqb (entry_in row p) 0 none.0.0.1, ne_eqb (entry_in row p) 1 none.0.1) at c
