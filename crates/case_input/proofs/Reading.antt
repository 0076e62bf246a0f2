-- What is read of an input that is known.
use Rattle.std.proofs.Common.{◌≡◌, ◌++◌, [], List, ℕ, Option, None, Some, IfSome, take, ◌∙◌, ap, subst}
use Rattle.std.specs.Option.{option_map}

known : (o : Option (List ℕ)) (n m : ℕ) (old bytes : List ℕ) → m ≡ n → old ≡ [] → IfSome (option_map (take m) o) (λ xs. bytes ≡ old ++ xs) → IfSome o (λ xs. bytes ≡ take n xs)
known None n m old bytes same none h = tt
known (Some xs) n m old bytes same none h = h ∙ (ap (λ (ys : List ℕ). ys ++ take m xs) none ∙ ap (λ (k : ℕ). take k xs) same)

-- The bytes up to the limit, by the clauses of `take` and `read_to_end`.
pub first_of_known : {R : Type 0} (rem : R → Option (List ℕ)) (i j : R) (n m : ℕ) (old bytes : List ℕ) → j ≡ i → m ≡ n → old ≡ [] → IfSome (option_map (take m) (rem j)) (λ xs. bytes ≡ old ++ xs) → IfSome (rem i) (λ xs. bytes ≡ take n xs)
first_of_known {R} rem i j n m old bytes there same none h =
    known (rem i) n m old bytes same none (subst (λ (r : R). IfSome (option_map (take m) (rem r)) (λ xs. bytes ≡ old ++ xs)) there h)

-- What holds of the bytes that were read holds of the start of an input that is known.
pub of_known : (P : List ℕ → Type 0) (o : Option (List ℕ)) (n : ℕ) (items bytes : List ℕ) → IfSome o (λ xs. items ≡ take n xs) → bytes ≡ items → P bytes → IfSome o (λ xs. P (take n xs))
of_known P None n items bytes read there h = tt
of_known P (Some xs) n items bytes read there h = subst P (there ∙ read) h
