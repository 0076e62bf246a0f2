-- The names that are held after a join: those that the first holds, and those of the second that the first does not hold.
-- Assumes nothing.
use Rattle.std.proofs.Common.{ℕ, ◌≡◌, refl, List, [], ◌∷◌, ◌++◌, map, true, false, eqb}
use Rattle.file.specs.Rules.Bytes.{All, all_empty, all_next}
use Rattle.file.specs.Rules.Cluster.{unnamed}
use Rattle.file.specs.Rules.Legal.{Distinct}
use Rattle.file.specs.Rules.FileGrounds.{is_among, has_repeat, held_names}
use Rattle.file.proofs.Order.{by_case, either_false, either_false_left, either_false_right}
use Rattle.file.proofs.Bytes.{all_first, all_others}
use Rattle.file.proofs.AcceptedFacts.{no_repeat, distinct_no_repeat}
use Rattle.file.proofs.HeldLaws.{held_first, held-rest}
use Rattle.join.specs.Rules.Joined.{any_among}
use Rattle.join.proofs.Joining.{turned_name}
use Rattle.join.proofs.Legal.{distinct_append}

held-append : (ms ns : List ℕ) → held_names (ms ++ ns) ≡ held_names ms ++ held_names ns
unfolding held_names
held-append [] ns = refl
held-append (m ∷ ms) ns =
    by_case (eqb m unnamed)
    (λ e. rw (e, held-append ms ns))
    (λ e. rw (e, held-append ms ns))

-- a name that is not there is not held
held_free : (n : ℕ) (ms : List ℕ) → is_among n ms ≡ false → is_among n (held_names ms) ≡ false
unfolding is_among held_names
held_free n [] e = refl
held_free n (m ∷ ms) e =
    by_case (eqb m unnamed)
    (λ q. rw q (held_free n ms (either_false_right _ _ e)))
    (λ q. rw q (either_false (either_false_left _ _ e) (held_free n ms (either_false_right _ _ e))))

module _ (held : List ℕ) where
  -- the names of the second then held
  abbrev held_then_lem : List ℕ → List ℕ
  held_then_lem ms = held_names (map (turned_name held) ms)

  -- the first of them is turned and no longer held, or it stays
  turned_out : (m : ℕ) (ms : List ℕ) → is_among m held ≡ true → held_then_lem (m ∷ ms) ≡ held_then_lem ms
  unfolding turned_name held_names
  turned_out m ms e = rw e

  turned-in : (m : ℕ) (ms : List ℕ) → is_among m held ≡ false → held_then_lem (m ∷ ms) ≡ held_names (m ∷ map (turned_name held) ms)
  unfolding turned_name
  turned-in m ms e = rw e

  -- what every name held has, also those have that are held then
  all_rest : {P : ℕ → Type 0} (m : ℕ) (ms : List ℕ) → All P (held_names (m ∷ ms)) → All P (held_names ms)
  all_rest m ms ps =
      by_case (eqb m unnamed)
      (λ e. rw (held-rest m ms e) at ps)
      (λ e. all_others (rw (held_first m ms e) at ps))

  all_then : {P : ℕ → Type 0} (ms : List ℕ) → All P (held_names ms) → All P (held_then_lem ms)
  unfolding held_names
  all_then [] ps = all_empty
  all_then (m ∷ ms) ps =
      by_case (is_among m held)
      (λ t. rw (turned_out m ms t) (all_then ms (all_rest m ms ps)))
      (λ t.
      by_case (eqb m unnamed)
      (λ e. rw (turned-in m ms t, held-rest m (map (turned_name held) ms) e) (all_then ms (all_rest m ms ps)))
      (λ e.
      rw (turned-in m ms t, held_first m (map (turned_name held) ms) e)
      (all_next (all_first (rw (held_first m ms e) at ps)) (all_then ms (all_rest m ms ps)))))

  -- none of them twice, and none that the first holds
  distinct_rest : (m : ℕ) (ms : List ℕ) → Distinct (held_names (m ∷ ms)) → Distinct (held_names ms)
  distinct_rest m ms d =
      by_case (eqb m unnamed)
      (λ e. rw (held-rest m ms e) at d)
      (λ e. others (rw (held_first m ms e) at d))
    where
      others : {n : ℕ} {ns : List ℕ} → Distinct (n ∷ ns) → Distinct ns
      others (Distinct.next p q) = q

  distinct_then : (ms : List ℕ) → Distinct (held_names ms) → Distinct (held_then_lem ms)
  unfolding held_names
  distinct_then [] d = Distinct.end
  distinct_then (m ∷ ms) d =
      by_case (is_among m held)
      (λ t. rw (turned_out m ms t) (distinct_then ms (distinct_rest m ms d)))
      (λ t.
      by_case (eqb m unnamed)
      (λ e. rw (turned-in m ms t, held-rest m (map (turned_name held) ms) e) (distinct_then ms (distinct_rest m ms d)))
      (λ e.
      rw (turned-in m ms t, held_first m (map (turned_name held) ms) e)
      (Distinct.next (all_then ms (apart (rw (held_first m ms e) at d))) (distinct_then ms (distinct_rest m ms d)))))
    where
      apart : {n : ℕ} {ns : List ℕ} → Distinct (n ∷ ns) → All (λ k. n ≡ k → ⊥) ns
      apart (Distinct.next p q) = p

  free_then : (ms : List ℕ) → any_among (held_then_lem ms) (held_names held) ≡ false
  unfolding held_names any_among
  free_then [] = refl
  free_then (m ∷ ms) =
      by_case (is_among m held)
      (λ t. rw (turned_out m ms t) (free_then ms))
      (λ t.
      by_case (eqb m unnamed)
      (λ e. rw (turned-in m ms t, held-rest m (map (turned_name held) ms) e) (free_then ms))
      (λ e. rw (turned-in m ms t, held_first m (map (turned_name held) ms) e) (either_false (held_free m held t) (free_then ms))))

-- so no name is held twice where neither of the two holds one twice
pub once_joined : (ms ns : List ℕ) → has_repeat (held_names ms) ≡ false → has_repeat (held_names ns) ≡ false → has_repeat (held_names (ms ++ map (turned_name ms) ns)) ≡ false
once_joined ms ns p q =
    rw (held-append ms (map (turned_name ms) ns))
    (distinct_no_repeat (distinct_append (no_repeat (held_names ms) p) (distinct_then ms ns (no_repeat (held_names ns) q)) (free_then ms ns)))
