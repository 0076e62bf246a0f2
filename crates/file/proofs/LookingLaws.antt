-- A search along a list of numbers, element by element.
-- Assumes nothing.
use Rattle.std.proofs.Common.{ℕ, zero, suc, ◌+◌, ◌≤◌, ◌<◌, ◌≡◌, refl, sym, List, [], ◌∷◌, Bool, true, false, arith, add-one, eq-eqb, ne_eqb, length}
use Rattle.std.proofs.Common.{get_or, drop, drop_of_length-le, drop-cons, eqb}
use Rattle.file.specs.Rules.Order.{either}
use Rattle.file.specs.Rules.FileGrounds.{is_among, has_repeat}
use Rattle.file.proofs.Order.{either_right}

-- what is left of a search from a place on is what the whole of it gives
pub record Looking (n : ℕ) (l : List ℕ) (from i : ℕ) : Type 0 where
  pub within : i ≤ length l
  pub left : is_among n (drop i l) ≡ is_among n (drop from l)

pub looking_start : (n : ℕ) (l : List ℕ) (from : ℕ) → from ≤ length l → Looking n l from from
looking_start n l from h = record { within = h; left = refl }

module _ {n : ℕ} {l : List ℕ} {from i : ℕ} (h : Looking n l from i) where
  pub looking_here : i < length l → get_or l i 0 ≡ n → true ≡ is_among n (drop from l)
  unfolding is_among either
  looking_here more is =
      let r : is_among n (get_or l i 0 ∷ drop (suc i) l) ≡ is_among n (drop from l) = rw (drop-cons l i 0 more) at h.left in
      rw (eq-eqb n (get_or l i 0) (sym is)) at r

  pub looking_next : i < length l → (get_or l i 0 ≡ n → ⊥) → Looking n l from (i + 1)
  unfolding is_among either
  looking_next more other =
      let r : is_among n (get_or l i 0 ∷ drop (suc i) l) ≡ is_among n (drop from l) = rw (drop-cons l i 0 more) at h.left in
      record { within = omega arith; left = rw add-one (rw (ne_eqb n (get_or l i 0) (λ q. other (sym q))) at r) }

  pub looking_end : length l ≤ i → false ≡ is_among n (drop from l)
  unfolding is_among
  looking_end past = rw (drop_of_length-le l past) at h.left

-- what was found so far, or is left of a search, is what the whole search gives
pub record Gathering (n : ℕ) (l : List ℕ) (b : Bool) (i : ℕ) : Type 0 where
  pub within : i ≤ length l
  pub left : either b (is_among n (drop i l)) ≡ is_among n l

pub gathering_start : (n : ℕ) (l : List ℕ) → Gathering n l false 0
unfolding either
gathering_start n l = record { within = omega arith; left = refl }

pub either-none : (b : Bool) → either b false ≡ b
unfolding either
either-none true = refl
either-none false = refl

either_found : (b c : Bool) → c ≡ true → either b c ≡ true
unfolding either
either_found true c e = refl
either_found false c e = e

module _ {n : ℕ} {l : List ℕ} {b : Bool} {i : ℕ} (h : Gathering n l b i) where
  pub gathering_here : i < length l → get_or l i 0 ≡ n → Gathering n l true (i + 1)
  unfolding is_among either
  gathering_here more is =
      let r : either b (is_among n (get_or l i 0 ∷ drop (suc i) l)) ≡ is_among n l = rw (drop-cons l i 0 more) at h.left in
      let t : either b true ≡ is_among n l = rw (eq-eqb n (get_or l i 0) (sym is)) at r in
      record { within = omega arith; left = rw (sym (either_found b true refl)) t }

  pub gathering_next : i < length l → (get_or l i 0 ≡ n → ⊥) → Gathering n l b (i + 1)
  unfolding is_among either
  gathering_next more other =
      let r : either b (is_among n (get_or l i 0 ∷ drop (suc i) l)) ≡ is_among n l = rw (drop-cons l i 0 more) at h.left in
      record { within = omega arith; left = rw add-one (rw (ne_eqb n (get_or l i 0) (λ q. other (sym q))) at r) }

  pub gathering_found : {b' : Bool} → i < length l → get_or l i 0 ≡ n → b' ≡ true → Gathering n l b' (i + 1)
  gathering_found more is e = rw e (gathering_here more is)

  pub gathering_past : {b' : Bool} → i < length l → (get_or l i 0 ≡ n → ⊥) → b' ≡ b → Gathering n l b' (i + 1)
  gathering_past more other e = rw e (gathering_next more other)

  pub gathering_end : length l ≤ i → b ≡ is_among n l
  unfolding is_among either
  gathering_end past =
      let r : either b false ≡ is_among n l = rw (drop_of_length-le l past) at h.left in
      rw (sym (either-none b)) r

-- ---- a number that a list holds twice

pub few_once : (l : List ℕ) → length l < 2 → false ≡ has_repeat l
unfolding has_repeat is_among either
few_once [] few = refl
few_once (n ∷ []) few = refl
few_once (n ∷ m ∷ ns) few = absurd (omega arith)

pub two_once : (l : List ℕ) → length l ≡ 2 → eqb (get_or l 0 0) (get_or l 1 0) ≡ has_repeat l
unfolding has_repeat is_among either
two_once [] two = absurd (omega arith)
two_once (n ∷ []) two = absurd (omega arith)
two_once (n ∷ m ∷ []) two = sym (rw (either-none (either (eqb n m) false)) (either-none (eqb n m)))
two_once (n ∷ m ∷ k ∷ ns) two = absurd (omega arith)

pub repeat_after : (k : ℕ) (l : List ℕ) → has_repeat (drop k l) ≡ true → has_repeat l ≡ true
unfolding has_repeat
repeat_after zero l h = h
repeat_after (suc k) [] h = h
repeat_after (suc k) (n ∷ ns) h = either_right (is_among n ns) (repeat_after k ns h)
