-- The comparisons after so many rounds of a pass, in closed form.
-- Assumes nothing.
use Rattle.std.proofs.Common.{ℕ, zero, suc, ◌+◌, ◌*◌, ◌-◌, ◌/◌, min, ◌≤◌, ◌≡◌, refl, sym, ap, ◌∙◌, List, [], ◌∷◌, ◌++◌, arith, length, take, replicate}
use lib.ListN.{length-replicate}
use Rattle.naming.specs.Rules.Account.{RoundKind, read_round, write_round, compare_round, name_round, one_half_each, search_rounds, giving_rounds}
use Rattle.naming.specs.Rules.Account.{compares_in, comparisons_after}

-- one list of rounds after another
none_before : (n : ℕ) → n ≡ 0 + n
none_before n = omega arith

one-before : (m n : ℕ) → suc (m + n) ≡ suc m + n
one-before m n = omega arith

shorter : (k : ℕ) (r : RoundKind) (s : List RoundKind) → suc k - length (r ∷ s) ≡ k - length s
shorter k r s = omega arith

compares_append : (k : ℕ) (s t : List RoundKind) → compares_in (take k (s ++ t)) ≡ compares_in (take k s) + compares_in (take (k - length s) t)
unfolding compares_in
compares_append zero [] t = refl
compares_append (suc k) [] t = let all : suc k - 0 ≡ suc k = omega arith in rw all (none_before (compares_in (take (suc k) t)))
compares_append zero (r ∷ s) t = let none : 0 - length (r ∷ s) ≡ 0 = omega arith in rw none
compares_append (suc k) (read_round ∷ s) t = rw (shorter k read_round s) (compares_append k s t)
compares_append (suc k) (write_round ∷ s) t = rw (shorter k write_round s) (compares_append k s t)
compares_append (suc k) (compare_round ∷ s) t = rw (shorter k compare_round s) (ap suc (compares_append k s t) ∙ one-before _ _)
compares_append (suc k) (name_round ∷ s) t = rw (shorter k name_round s) (compares_append k s t)

-- comparisons with one half each are two rounds each
length-one-half : (n : ℕ) → length (one_half_each n) ≡ 2 * n
unfolding one_half_each
length-one-half zero = refl
length-one-half (suc n) = omega (arith, length-one-half n)

compares_one-half : (n k : ℕ) → compares_in (take k (one_half_each n)) ≡ min n (k / 2)
unfolding one_half_each compares_in
compares_one-half zero zero = refl
compares_one-half zero (suc k) = omega arith
compares_one-half (suc n) zero = omega arith
compares_one-half (suc n) (suc zero) = omega arith
compares_one-half (suc n) (suc (suc k)) = ap suc (compares_one-half n k) ∙ omega arith

compares_none : (n k : ℕ) → compares_in (take k (replicate n write_round)) ≡ 0
unfolding compares_in
compares_none zero zero = refl
compares_none zero (suc k) = refl
compares_none (suc n) zero = refl
compares_none (suc n) (suc k) = compares_none n k

-- the rounds of the search after the comparison with 0
later : (again k : ℕ) →
    compares_in (take k (one_half_each 32 ++ (replicate again write_round ++ one_half_each 32))) ≡ min 32 (k / 2) + min 32 ((k - 64 - again) / 2)
later again k =
    let size : length (one_half_each 32) ≡ 64 = length-one-half 32 in
    rw (
      compares_append k (one_half_each 32) (replicate again write_round ++ one_half_each 32),
      compares_one-half 32 k,
      size,
      compares_append (k - 64) (replicate again write_round) (one_half_each 32),
      compares_none again (k - 64),
      length-replicate again write_round,
      compares_one-half 32 (k - 64 - again),
    )
    (ap (λ (n : ℕ). min 32 (k / 2) + n) (sym (none_before _)))

none_yet : (again k : ℕ) → k ≤ 3 → (min k 68 - 2) / 2 + min 32 ((k - 68 - again) / 2) ≡ 0
none_yet again k h = omega arith

pub counted-after : (again k : ℕ) → comparisons_after again k ≡ (min k 68 - 2) / 2 + min 32 ((k - 68 - again) / 2)
unfolding comparisons_after search_rounds compares_in
counted-after again zero = sym (none_yet again 0 (omega arith))
counted-after again (suc zero) = sym (none_yet again 1 (omega arith))
counted-after again (suc (suc zero)) = sym (none_yet again 2 (omega arith))
counted-after again (suc (suc (suc zero))) = sym (none_yet again 3 (omega arith))
counted-after again (suc (suc (suc (suc k)))) =
    let left : suc (suc (suc (suc k))) - 68 ≡ k - 64 = omega arith in
    let first : (min (suc (suc (suc (suc k)))) 68 - 2) / 2 ≡ suc (min 32 (k / 2)) = omega arith in
    rw (left, first) (ap suc (later again k) ∙ one-before _ _)

-- the rounds that give the name are no comparisons
name_compares_none : (k : ℕ) → compares_in (take k (name_round ∷ [])) ≡ 0
unfolding compares_in
name_compares_none zero = refl
name_compares_none (suc zero) = refl
name_compares_none (suc (suc k)) = refl

compares_giving : (again k : ℕ) → compares_in (take k (giving_rounds again)) ≡ 0
unfolding giving_rounds compares_in
compares_giving again zero = refl
compares_giving again (suc k) =
    compares_append k (replicate again write_round) (name_round ∷ [])
    ∙ rw (compares_none again k, name_compares_none (k - length (replicate again write_round))) refl

pub compares_searching : (k high_again low_again_lem : ℕ) →
    compares_in (take k (search_rounds high_again ++ giving_rounds low_again_lem)) ≡ compares_in (take k (search_rounds high_again))
compares_searching k high_again low_again_lem =
    compares_append k (search_rounds high_again) (giving_rounds low_again_lem) ∙ rw (compares_giving low_again_lem (k - length (search_rounds high_again))) (omega arith)
