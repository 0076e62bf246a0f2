-- The plain account's pass is the one written out, and its figures are those of it.
-- Assumes nothing.
use Rattle.std.proofs.Common.{ℕ, zero, suc, ◌+◌, ◌≤◌, ◌≡◌, refl, sym, ap, ◌∙◌, List, [], ◌∷◌, ◌++◌, map, Bool, true, false, cond, arith, length, take, eqb}
use Rattle.naming.specs.Rules.Pass.{PassPlace, poll, ask, give_name, give_high, give_low, baptize, high, low, reply}
use Rattle.naming.specs.Rules.Account.{bit_clear, naming_rounds, naming_comparisons, comparisons_after}
use Rattle.naming.specs.Rules.Account.{RoundKind, one_half_each, search_rounds, giving_rounds, naming_pass, compares_in}
use Rattle.naming.specs.Claims.Passes.{upper_bits, lower_bits, if_made, pass_rounds, pass_for, seen, executes_in, PassesCounted}
use Rattle.naming.proofs.PassCount.{counted-after, compares_searching}
use Rattle.naming.proofs.Walk.{clear_one}

pub all_executed : (h l : Bool) → executes_in (pass_rounds h l) ≡ 65
unfolding pass_rounds upper_bits lower_bits if_made executes_in
all_executed true true = refl
all_executed true false = refl
all_executed false true = refl
all_executed false false = refl

-- the account's pass is the one written out
same-pass : (h l : Bool) → map seen (pass_rounds h l) ≡ search_rounds (cond h 1 0) ++ giving_rounds (cond l 1 0)
unfolding pass_rounds upper_bits lower_bits if_made seen search_rounds one_half_each giving_rounds
same-pass true true = refl
same-pass true false = refl
same-pass false true = refl
same-pass false false = refl

executes-seen : (ls : List PassPlace) → executes_in ls ≡ compares_in (map seen ls)
unfolding executes_in compares_in seen
executes-seen [] = refl
executes-seen (poll ∷ ls) = executes-seen ls
executes-seen (ask q high ∷ ls) = executes-seen ls
executes-seen (ask q low ∷ ls) = executes-seen ls
executes-seen (ask q reply ∷ ls) = ap suc (executes-seen ls)
executes-seen (give_name ∷ ls) = executes-seen ls
executes-seen (give_high ∷ ls) = executes-seen ls
executes-seen (give_low ∷ ls) = executes-seen ls
executes-seen (baptize ∷ ls) = executes-seen ls

take-seen : (k : ℕ) (ls : List PassPlace) → map seen (take k ls) ≡ take k (map seen ls)
take-seen zero [] = refl
take-seen (suc k) [] = refl
take-seen zero (l ∷ ls) = refl
take-seen (suc k) (l ∷ ls) = ap (λ (rs : List RoundKind). seen l ∷ rs) (take-seen k ls)

-- by the bits of a physical name
one_or_none : (e : ℕ) → e ≤ 1 → cond (eqb e 1) 1 0 ≡ e
one_or_none zero h = refl
one_or_none (suc zero) h = refl
one_or_none (suc (suc e)) h = absurd (omega arith)

rounds-made : (h l : Bool) → length (pass_rounds h l) ≡ 134 + cond h 1 0 + cond l 1 0
unfolding pass_rounds upper_bits lower_bits if_made
rounds-made true true = refl
rounds-made true false = refl
rounds-made false true = refl
rounds-made false false = refl

pub passes_counted : PassesCounted
passes_counted = record { same = same-is; rounds = length-is; comparisons = count-is; all = all-is; formula = counted-after }
  where
    same-is : (p : ℕ) → map seen (pass_for p) ≡ naming_pass p
    same-is p =
        unfold pass_for naming_pass in
        same-pass (eqb (bit_clear 32 p) 1) (eqb (bit_clear 0 p) 1) ∙ rw (one_or_none (bit_clear 32 p) (clear_one 32 p), one_or_none (bit_clear 0 p) (clear_one 0 p))

    length-is : (p : ℕ) → length (pass_for p) ≡ naming_rounds p
    length-is p =
        unfold pass_for naming_rounds in
        rounds-made (eqb (bit_clear 32 p) 1) (eqb (bit_clear 0 p) 1) ∙ rw (one_or_none (bit_clear 32 p) (clear_one 32 p), one_or_none (bit_clear 0 p) (clear_one 0 p))

    all-is : (p : ℕ) → compares_in (naming_pass p) ≡ naming_comparisons
    all-is p =
        ap compares_in (sym (same-is p)) ∙ sym (executes-seen (pass_for p)) ∙ unfold pass_for in all_executed (eqb (bit_clear 32 p) 1) (eqb (bit_clear 0 p) 1)

    count-is : (p k : ℕ) → executes_in (take k (pass_for p)) ≡ comparisons_after (bit_clear 32 p) k
    count-is p k =
        unfold comparisons_after in
        rw (executes-seen (take k (pass_for p)), take-seen k (pass_for p), same-is p)
        (unfold naming_pass in compares_searching k (bit_clear 32 p) (bit_clear 0 p))
