-- Laws of a list in falling order: the same elements, the same length, strictly falling where no element repeats; and a list of
-- different numbers below m has at most m of them.
-- Assumes nothing.
use Rattle.std.proofs.Common.{ℕ, suc, ◌≤◌, ◌<◌, ◌≡◌, refl, ap, ◌∙◌, List, [], ◌∷◌, Bool, true, false, arith, lt_trans, length, eqb, ltb, ltb-true, ltb-false}
use borrow.Author.Tests.{eqb-false}
use Rattle.file.specs.Rules.Bytes.{All, All.all_empty, All.all_next as also}
use Rattle.file.specs.Rules.Legal.{Distinct, Distinct.end as alone, Distinct.next as apart}
use Rattle.file.specs.Rules.FileGrounds.{is_among}
use Rattle.file.specs.Rules.Order.{either}
use Rattle.file.proofs.Bytes.{all_map}
use Rattle.file.proofs.Order.{by_case, either_right, either_false_left, either_false_right}
use Rattle.naming.specs.Rules.Account.{falling, insert}
use Rattle.naming.proofs.Facts.{Falling, Falling.end as lowest, Falling.next as below, all_among, among_here}

pub all_of : {A : Type 0} {P : A → Type 0} → ((a : A) → P a) → (l : List A) → All P l
all_of f [] = all_empty
all_of f (a ∷ l) = also (f a) (all_of f l)

pub all_self : (l : List ℕ) → All (λ p. is_among p l ≡ true) l
unfolding is_among
all_self [] = all_empty
all_self (n ∷ l) = also (among_here n l) (all_map (λ p e. either_right (eqb p n) e) (all_self l))

-- a number that differs from all is not among them
pub apart_among : {l : List ℕ} (p : ℕ) → All (λ m. p ≡ m → ⊥) l → is_among p l ≡ false
apart_among {l} p h = by_case (is_among p l) (λ t. absurd (all_among p h t refl)) (λ f. f)

-- ---- the sort

all_insert : {P : ℕ → Type 0} (p : ℕ) {l : List ℕ} → P p → All P l → All P (insert p l)
unfolding insert
all_insert p h all_empty = also h all_empty
all_insert p h (also {a = q} {l = l} k r) =
    by_case (ltb p q) (λ t. rw t (also k (all_insert p h r))) (λ f. rw f (also h (also k r)))

pub all-falling : {P : ℕ → Type 0} {l : List ℕ} → All P l → All P (falling l)
unfolding falling
all-falling all_empty = all_empty
all-falling (also {a = p} h r) = all_insert p h (all-falling r)

length-insert : (p : ℕ) (l : List ℕ) → length (insert p l) ≡ suc (length l)
unfolding insert
length-insert p [] = refl
length-insert p (q ∷ l) = by_case (ltb p q) (λ t. rw t (ap suc (length-insert p l))) (λ f. rw f)

pub length-falling : (l : List ℕ) → length (falling l) ≡ length l
unfolding falling
length-falling [] = refl
length-falling (p ∷ l) = length-insert p (falling l) ∙ ap suc (length-falling l)

swap : (a b c : Bool) → either a (either b c) ≡ either b (either a c)
unfolding either
swap true true c = refl
swap true false c = refl
swap false true c = refl
swap false false c = refl

among_insert : (x p : ℕ) (l : List ℕ) → is_among x (insert p l) ≡ is_among x (p ∷ l)
unfolding insert is_among
among_insert x p [] = refl
among_insert x p (q ∷ l) =
    by_case (ltb p q) (λ t. rw (t, among_insert x p l) (swap (eqb x q) (eqb x p) (is_among x l))) (λ f. rw f)

pub among_falling : (x : ℕ) (l : List ℕ) → is_among x (falling l) ≡ is_among x l
unfolding falling is_among
among_falling x [] = refl
among_falling x (p ∷ l) = among_insert x p (falling l) ∙ rw (among_falling x l)

fall_insert : (p : ℕ) {l : List ℕ} → is_among p l ≡ false → Falling l → Falling (insert p l)
unfolding insert is_among
fall_insert p n lowest = below all_empty lowest
fall_insert p n (below {p = q} {ps = qs} h f) =
    let other : p ≡ q → ⊥ = eqb-false p q (either_false_left (eqb p q) (is_among p qs) n) in
    by_case (ltb p q)
    (λ t. rw t (below (all_insert p (ltb-true p q t) h) (fall_insert p (either_false_right (eqb p q) (is_among p qs) n) f)))
    (λ g.
    let l : q < p = omega (arith, ltb-false p q g) in
    rw g (below (also l (all_map (λ x k. lt_trans k l) h)) (below h f)))

pub falling-falls : {l : List ℕ} → Distinct l → Falling (falling l)
unfolding falling
falling-falls alone = lowest
falling-falls (apart {n = n} {ns = ns} h d) = fall_insert n (among_falling n ns ∙ apart_among n h) (falling-falls d)

falls-length : (m : ℕ) {l : List ℕ} → Falling l → All (λ q. q < m) l → length l ≤ m
falls-length m lowest all_empty = omega arith
falls-length m (below {p = p} h f) (also k r) = omega (arith, falls-length p f h)

pub distinct_length : (m : ℕ) {l : List ℕ} → Distinct l → All (λ q. q < m) l → length l ≤ m
distinct_length m {l} d h = omega (arith, falls-length m (falling-falls d) (all-falling h), length-falling l)
