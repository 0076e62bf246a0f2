-- Laws of tests that are joined, and of the first ground that holds. A test's facts are read and made through these, so that no
-- proof opens `both`, `either` or `first_of`.
-- Assumes nothing.
use Rattle.std.proofs.Common.{ℕ, suc, ◌≤◌, arith, suc-ne-zero, ◌≡◌, refl, sym, ◌∙◌, List, [], ◌∷◌, ◌++◌, Bool, true, false, cond, not, eqb, eqb-true}
use Rattle.std.proofs.Common.{eq-eqb, ne_eqb}
use Rattle.file.specs.Rules.Bytes.{All, all_empty, all_next}
use Rattle.file.specs.Rules.Order.{Ground, first_of, both, either}

-- by cases on a test, with its equation
pub by_case : {P : Type 0} (b : Bool) → (b ≡ true → P) → (b ≡ false → P) → P
by_case true t f = t refl
by_case false t f = f refl

-- true is not false
pub clash : {P : Type 0} {b : Bool} → b ≡ true → b ≡ false → P
clash {b = b} p q = let z : ◌≡◌ {A = Bool} true false = sym p ∙ q in absurd (mathlib.Core.Bool.true≢false z)

-- what the answer of a derived `==`, or `!=`, says of two numbers
pub same_if_eq : {a b : ℕ} {t : Bool} → t ≡ eqb a b → t ≡ true → a ≡ b
same_if_eq {a} {b} is e = eqb-true a b (sym is ∙ e)

pub other_if_eq : {a b : ℕ} {t : Bool} → t ≡ eqb a b → t ≡ false → a ≡ b → ⊥
other_if_eq {a} {b} is e same = clash (eq-eqb a b same) (sym is ∙ e)

pub other_if_ne : {a b : ℕ} {t : Bool} → t ≡ not (eqb a b) → t ≡ true → a ≡ b → ⊥
other_if_ne {a} {b} is e same = clash e (is ∙ rw (eq-eqb a b same))

pub same_if_ne : {a b : ℕ} {t : Bool} → t ≡ not (eqb a b) → t ≡ false → a ≡ b
same_if_ne {a} {b} is e = by_case (eqb a b) (eqb-true a b) (λ f. clash (is ∙ rw f) e)

pub both_left : (a b : Bool) → both a b ≡ true → a ≡ true
unfolding both
both_left a b p = go a p
  where
    go : (x : Bool) → cond x b false ≡ true → x ≡ true
    go true q = refl
    go false q = q

pub both_right : (a b : Bool) → both a b ≡ true → b ≡ true
unfolding both
both_right a b p = go a p
  where
    go : (x : Bool) → cond x b false ≡ true → b ≡ true
    go true q = q
    go false q = clash q refl

pub both_true : {a b : Bool} → a ≡ true → b ≡ true → both a b ≡ true
unfolding both
both_true p q = rw p q

pub both_false_left : {a : Bool} (b : Bool) → a ≡ false → both a b ≡ false
unfolding both
both_false_left b p = rw p

pub both_false_right : (a : Bool) {b : Bool} → b ≡ false → both a b ≡ false
unfolding both
both_false_right true q = q
both_false_right false q = refl

pub both-next : {a : Bool} (b : Bool) → a ≡ true → both a b ≡ b
unfolding both
both-next b p = rw p

-- not both: where the first passes the second fails
pub both_unless : (a : Bool) {b : Bool} → (a ≡ true → b ≡ false) → both a b ≡ false
unfolding both
both_unless true q = q refl
both_unless false q = refl

pub both_false_next : {a : Bool} (b : Bool) → a ≡ true → both a b ≡ false → b ≡ false
both_false_next b p q = sym (both-next b p) ∙ q

pub either_left : {a : Bool} (b : Bool) → a ≡ true → either a b ≡ true
unfolding either
either_left b p = rw p

pub either_right : (a : Bool) {b : Bool} → b ≡ true → either a b ≡ true
unfolding either
either_right true q = refl
either_right false q = q

pub either-next : {a : Bool} (b : Bool) → a ≡ false → either a b ≡ b
unfolding either
either-next b p = rw p

pub either_false : {a b : Bool} → a ≡ false → b ≡ false → either a b ≡ false
unfolding either
either_false p q = rw p q

pub either_false_left : (a b : Bool) → either a b ≡ false → a ≡ false
unfolding either
either_false_left a b p = go a p
  where
    go : (x : Bool) → cond x true b ≡ false → x ≡ false
    go true q = q
    go false q = refl

pub either_false_right : (a b : Bool) → either a b ≡ false → b ≡ false
unfolding either
either_false_right a b p = go a p
  where
    go : (x : Bool) → cond x true b ≡ false → b ≡ false
    go true q = clash refl q
    go false q = q

-- the first ground that holds: it holds, or it does not and the rest decides
pub first_next : (g : Ground) (gs : List Ground) → g.1 ≡ false → first_of (g ∷ gs) ≡ first_of gs
unfolding first_of
first_next g gs p = rw p

pub first-end : first_of [] ≡ 0
unfolding first_of
first-end = refl

-- no ground holds: the first does not, and no other does
pub first-none : (n : ℕ) (b : Bool) (gs : List Ground) → first_of ((suc n, b) ∷ gs) ≡ 0 → (b ≡ false) × (first_of gs ≡ 0)
unfolding first_of
first-none n true gs p = absurd (suc-ne-zero n p)
first-none n false gs p = (refl, p)

-- two lists of grounds that start with the same ground, and that agree after it where it does not hold, agree
pub first_alike :
    (n : ℕ) {a b : Bool} (gs hs : List Ground)
    → a ≡ b
    → (a ≡ false → first_of gs ≡ first_of hs)
    → first_of ((n, a) ∷ gs) ≡ first_of ((n, b) ∷ hs)
unfolding first_of
first_alike n {a} {b} gs hs e r = rw (sym e) (go a r)
  where
    go : (x : Bool) → (x ≡ false → first_of gs ≡ first_of hs) → cond x n (first_of gs) ≡ cond x n (first_of hs)
    go true q = refl
    go false q = q refl

-- no number above the highest of the list
pub first-most : (most : ℕ) {gs : List Ground} → All (λ g. g.0 ≤ most) gs → first_of gs ≤ most
unfolding first_of
first-most most all_empty = omega arith
first-most most (all_next {a = g} {l = gs} h hs) = go g.1 (first-most most hs)
  where
    go : (b : Bool) → first_of gs ≤ most → cond b g.0 (first_of gs) ≤ most
    go true rest = h
    go false rest = rest

-- ---- lists of grounds that are joined

-- a ground's number is not 0, which is no ground's
abbrev pub Numbered : Ground → Type 0
Numbered g = eqb g.0 0 ≡ false

-- the first of two lists, one after the other: that of the first list, or, where none of it holds, that of the second
pub joined-first : (gs hs : List Ground) → All Numbered gs → first_of (gs ++ hs) ≡ cond (eqb (first_of gs) 0) (first_of hs) (first_of gs)
unfolding first_of
joined-first [] hs all_empty = refl
joined-first (g ∷ gs) hs (all_next n ns) = go g.1 (joined-first gs hs ns)
  where
    go :
        (b : Bool)
        → first_of (gs ++ hs) ≡ cond (eqb (first_of gs) 0) (first_of hs) (first_of gs)
        → cond b g.0 (first_of (gs ++ hs)) ≡ cond (eqb (cond b g.0 (first_of gs)) 0) (first_of hs) (cond b g.0 (first_of gs))
    go true rest = rw n
    go false rest = rest

pub joined-next : (gs hs : List Ground) → All Numbered gs → first_of gs ≡ 0 → first_of (gs ++ hs) ≡ first_of hs
joined-next gs hs ns z = joined-first gs hs ns ∙ rw (eq-eqb (first_of gs) 0 z)

pub joined-here : (gs hs : List Ground) → All Numbered gs → (first_of gs ≡ 0 → ⊥) → first_of (gs ++ hs) ≡ first_of gs
joined-here gs hs ns h = joined-first gs hs ns ∙ rw (ne_eqb (first_of gs) 0 h)

pub joined-left : (gs hs : List Ground) → All Numbered gs → first_of (gs ++ hs) ≡ 0 → first_of gs ≡ 0
joined-left gs hs ns e = let z = sym (joined-first gs hs ns) ∙ e in by_case (eqb (first_of gs) 0) (λ t. eqb-true (first_of gs) 0 t) (λ t. rw t at z)

pub joined_right : (gs hs : List Ground) → All Numbered gs → first_of (gs ++ hs) ≡ 0 → first_of hs ≡ 0
joined_right gs hs ns e = sym (joined-next gs hs ns (joined-left gs hs ns e)) ∙ e
