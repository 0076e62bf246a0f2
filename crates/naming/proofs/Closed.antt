-- The rounds and comparisons that are due at the start, in closed form, and their bounds.
-- Assumes nothing.
use Rattle.std.proofs.Common.{ℕ, zero, suc, ◌+◌, ◌*◌, min, ◌≤◌, ◌<◌, ◌≡◌, refl, sym, ap, ◌∙◌, List, [], ◌∷◌, true, false, cond, arith, length, ltb, lt-ltb, le-ltb, ltb-false}
use native.Mathlib.Nat.{suc-min-suc}
use lib.Dec.{leb-suc-suc}
use Rattle.file.specs.Rules.FileGrounds.{is_among}
use Rattle.file.proofs.Order.{by_case}
use Rattle.naming.specs.Rules.Account.{bit_clear, naming_rounds, naming_comparisons, ending_rounds, ending_comparisons}
use Rattle.naming.specs.Rules.Figures.{taken_names, free_names, before_free, taken_tried, givings, naming_sum}
use Rattle.naming.proofs.Tally.{due, due_comparisons, no_names}

-- the taken names before free name number u + 1
before : List ℕ → ℕ → List ℕ → ℕ
before held u names = length (taken_names held (before_free held u names))

-- free names that do not outnumber u: all taken names stand before
all-before : (held : List ℕ) (u : ℕ) (names : List ℕ) → length (free_names held names) ≤ u → before held u names ≡ length (taken_names held names)
unfolding before taken_names before_free free_names
all-before held u [] h = refl
all-before held zero (n ∷ ns) h =
    by_case (is_among n held)
    (λ t. let k : length (free_names held ns) ≤ 0 = rw t at h in rw (t, t) (ap suc (all-before held zero ns k)))
    (λ f. let k : suc (length (free_names held ns)) ≤ 0 = rw f at h in absurd (omega arith))
all-before held (suc u) (n ∷ ns) h =
    by_case (is_among n held)
    (λ t. let k : length (free_names held ns) ≤ suc u = rw t at h in rw t (ap suc (all-before held (suc u) ns k)))
    (λ f. let k : suc (length (free_names held ns)) ≤ suc u = rw f at h in rw f (all-before held u ns (omega arith)))

tried-before : (held : List ℕ) (u : ℕ) (names : List ℕ) → taken_tried held u names ≡ before held u names
unfolding taken_tried before
tried-before held u names =
    by_case (ltb u (length (free_names held names)))
    (λ t. rw t)
    (λ f. rw f (sym (all-before held u names (ltb-false _ _ f))))

before_nil : (held : List ℕ) (u : ℕ) → before held u [] ≡ 0
unfolding before before_free taken_names
before_nil held u = refl

-- one pass more
module _ (held : List ℕ) (n : ℕ) (ns : List ℕ) where
  free_of_taken : is_among n held ≡ true → length (free_names held (n ∷ ns)) ≡ length (free_names held ns)
  unfolding free_names
  free_of_taken t = rw t

  free_of_free : is_among n held ≡ false → length (free_names held (n ∷ ns)) ≡ suc (length (free_names held ns))
  unfolding free_names
  free_of_free f = rw f

  before-taken : (u : ℕ) → is_among n held ≡ true → before held u (n ∷ ns) ≡ suc (before held u ns)
  unfolding before taken_names before_free
  before-taken zero t = rw (t, t)
  before-taken (suc u) t = rw t

  before-none : is_among n held ≡ false → before held 0 (n ∷ ns) ≡ 0
  unfolding before taken_names before_free
  before-none f = rw f

  before-free : (u : ℕ) → is_among n held ≡ false → before held (suc u) (n ∷ ns) ≡ before held u ns
  unfolding before taken_names before_free
  before-free u f = rw f

-- a for each of the min(u, f), and e if u < f
figure : ℕ → ℕ → List ℕ → ℕ → List ℕ → ℕ
figure a e held u names = a * min u (length (free_names held names)) + cond (ltb u (length (free_names held names))) e 0

module _ (a e : ℕ) (held : List ℕ) where
  figure_nil : (u : ℕ) → figure a e held u [] ≡ 0
  unfolding figure free_names
  figure_nil u = let z : min u 0 ≡ 0 = omega arith in rw (z, le-ltb u 0 (omega arith)) (omega arith)

  figure_taken : (u n : ℕ) (ns : List ℕ) → is_among n held ≡ true → figure a e held u (n ∷ ns) ≡ figure a e held u ns
  unfolding figure
  figure_taken u n ns t = rw (free_of_taken held n ns t)

  figure_none : (n : ℕ) (ns : List ℕ) → is_among n held ≡ false → figure a e held 0 (n ∷ ns) ≡ e
  unfolding figure
  figure_none n ns f =
      let z : min 0 (suc (length (free_names held ns))) ≡ 0 = omega arith in
      let l : 0 < suc (length (free_names held ns)) = omega arith in
      rw (free_of_free held n ns f, z, lt-ltb 0 (suc (length (free_names held ns))) l) (omega arith)

  figure_free : (u n : ℕ) (ns : List ℕ) → is_among n held ≡ false → figure a e held (suc u) (n ∷ ns) ≡ a + figure a e held u ns
  unfolding figure
  figure_free u n ns f =
      rw (free_of_free held n ns f, suc-min-suc u (length (free_names held ns)), leb-suc-suc (suc u) (length (free_names held ns))) (omega arith)

-- the sum over the names given, and 4 if u < f
sums : List ℕ → List ℕ → List ℕ → ℕ
sums held ws names = naming_sum (givings ws (free_names held names)) + cond (ltb (length ws) (length (free_names held names))) ending_rounds 0

module _ (held : List ℕ) where
  sums_nil : (ws : List ℕ) → sums held ws [] ≡ 0
  unfolding sums free_names naming_sum
  sums_nil ws = rw (no_names ws, le-ltb (length ws) 0 (omega arith))

  sums_taken : (n : ℕ) (ns ws : List ℕ) → is_among n held ≡ true → sums held ws (n ∷ ns) ≡ sums held ws ns
  unfolding sums free_names
  sums_taken n ns ws t = rw t

  sums_none : (n : ℕ) (ns : List ℕ) → is_among n held ≡ false → sums held [] (n ∷ ns) ≡ ending_rounds
  unfolding sums free_names givings naming_sum
  sums_none n ns f =
      let l : 0 < suc (length (free_names held ns)) = omega arith in
      rw (f, lt-ltb 0 (suc (length (free_names held ns))) l)

  sums_free : (n : ℕ) (ns : List ℕ) (p : ℕ) (ps : List ℕ) → is_among n held ≡ false → sums held (p ∷ ps) (n ∷ ns) ≡ naming_rounds p + sums held ps ns
  unfolding sums free_names givings naming_sum
  sums_free n ns p ps f = rw (f, leb-suc-suc (suc (length ps)) (length (free_names held ns))) (omega arith)

due_figure : (held names ws : List ℕ) → due held names ws ≡ sums held ws names + before held (length ws) names
unfolding due
due_figure held [] ws = rw (sums_nil held ws, before_nil held (length ws))
due_figure held (n ∷ ns) [] =
    by_case (is_among n held)
    (λ t. rw (t, sums_taken held n ns [] t, before-taken held n ns 0 t, due_figure held ns []) (omega arith))
    (λ f. rw (f, sums_none held n ns f, before-none held n ns f))
due_figure held (n ∷ ns) (p ∷ ps) =
    by_case (is_among n held)
    (λ t. rw (t, sums_taken held n ns (p ∷ ps) t, before-taken held n ns (suc (length ps)) t, due_figure held ns (p ∷ ps)) (omega arith))
    (λ f. rw (f, sums_free held n ns p ps f, before-free held n ns (length ps) f, due_figure held ns ps) (omega arith))

-- the rounds due are the sum over the names given, plus 4 if u < f, plus one for each taken name tried
abbrev pub rounds_of : List ℕ → List ℕ → List ℕ → ℕ
rounds_of held ws names =
    let f = length (free_names held names) in
    naming_sum (givings ws (free_names held names)) + cond (ltb (length ws) f) ending_rounds 0 + taken_tried held (length ws) names

pub due-rounds : (held names ws : List ℕ) → due held names ws ≡ rounds_of held ws names
unfolding sums
due-rounds held names ws = due_figure held names ws ∙ rw tried-before

-- the comparisons due are 65 min(u, f), plus 1 if u < f
comparisons_figure : (held names ws : List ℕ) → due_comparisons held names ws ≡ figure naming_comparisons ending_comparisons held (length ws) names
unfolding due_comparisons
comparisons_figure held [] ws = rw (figure_nil naming_comparisons ending_comparisons held (length ws))
comparisons_figure held (n ∷ ns) [] =
    by_case (is_among n held)
    (λ t. rw (t, figure_taken naming_comparisons ending_comparisons held 0 n ns t) (comparisons_figure held ns []))
    (λ f. rw (f, figure_none naming_comparisons ending_comparisons held n ns f))
comparisons_figure held (n ∷ ns) (p ∷ ps) =
    by_case (is_among n held)
    (λ t. rw (t, figure_taken naming_comparisons ending_comparisons held (suc (length ps)) n ns t) (comparisons_figure held ns (p ∷ ps)))
    (λ f. rw (f, figure_free naming_comparisons ending_comparisons held (length ps) n ns f, comparisons_figure held ns ps))

abbrev pub comparisons_in : List ℕ → ℕ → List ℕ → ℕ
comparisons_in held u names = let f = length (free_names held names) in naming_comparisons * min u f + cond (ltb u f) ending_comparisons 0

pub due-comparisons : (held names ws : List ℕ) → due_comparisons held names ws ≡ comparisons_in held (length ws) names
unfolding figure
due-comparisons held names ws = comparisons_figure held names ws

-- bounds: a pass has at most 136 rounds
abbrev pub most_rounds : ℕ
most_rounds = 136

rounds-most : (p : ℕ) → naming_rounds p ≤ most_rounds
unfolding naming_rounds bit_clear
rounds-most p = omega arith

pub due_bound : (held names ws : List ℕ) → due held names ws ≤ most_rounds * length ws + ending_rounds + length names
unfolding due
due_bound held [] ws = omega arith
due_bound held (n ∷ ns) [] =
    by_case (is_among n held) (λ t. rw t (omega (arith, due_bound held ns []))) (λ f. rw f (omega arith))
due_bound held (n ∷ ns) (p ∷ ps) =
    by_case (is_among n held) (λ t. rw t (omega (arith, due_bound held ns (p ∷ ps)))) (λ f. rw f (omega (arith, due_bound held ns ps, rounds-most p)))

pub due-comparisons_bound : (held names ws : List ℕ) → due_comparisons held names ws ≤ naming_comparisons * length ws + ending_comparisons
unfolding due_comparisons
due-comparisons_bound held [] ws = omega arith
due-comparisons_bound held (n ∷ ns) [] =
    by_case (is_among n held) (λ t. rw t (omega (arith, due-comparisons_bound held ns []))) (λ f. rw f (omega arith))
due-comparisons_bound held (n ∷ ns) (p ∷ ps) =
    by_case (is_among n held)
    (λ t. rw t (omega (arith, due-comparisons_bound held ns (p ∷ ps))))
    (λ f. rw f (omega (arith, due-comparisons_bound held ns ps)))
