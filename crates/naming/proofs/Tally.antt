-- The tally of the plain account: what it has made and what it still has to make are always the whole; and the whole in closed form.
-- Assumes nothing.
use Rattle.std.proofs.Common.{ℕ, zero, suc, ◌+◌, ◌<◌, ◌≡◌, refl, sym, ap, ◌∙◌, subst, List, [], ◌∷◌, map, Bool, true, false, cond, arith, eqb, eqb-true, eq-eqb, ne_eqb}
use borrow.Author.Tests.{eqb-false}
use Rattle.file.specs.Rules.Order.{both}
use Rattle.file.specs.Rules.FileGrounds.{is_among}
use Rattle.file.proofs.Order.{by_case, clash, both_left, both_right, both_true, either_false_left, either_false_right}
use Rattle.naming.specs.Rules.Account.{Named, Account, end_with, give, pass_on, extra, one_round, comparisons_after, high_again, naming_rounds, naming_comparisons, ending_rounds, ending_comparisons}
use Rattle.naming.specs.Rules.Figures.{free_names, givings, name_given, renamed}
use Rattle.naming.proofs.Facts.{Falling, fall_first, fall_others, not_among}
use Rattle.naming.proofs.PassCount.{counted-after}
use Rattle.naming.proofs.AccountRounds.{account, goes_on, taken-round, giving-round, ending-round}

-- the rounds and comparisons of the passes from here on
unfoldable pub due : List ℕ → List ℕ → List ℕ → ℕ
due held [] ws = 0
due held (n ∷ ns) [] = cond (is_among n held) (suc (due held ns [])) ending_rounds
due held (n ∷ ns) (p ∷ ps) = cond (is_among n held) (suc (due held ns (p ∷ ps))) (naming_rounds p + due held ns ps)

unfoldable pub due_comparisons : List ℕ → List ℕ → List ℕ → ℕ
due_comparisons held [] ws = 0
due_comparisons held (n ∷ ns) [] = cond (is_among n held) (due_comparisons held ns []) ending_comparisons
due_comparisons held (n ∷ ns) (p ∷ ps) =
    cond (is_among n held) (due_comparisons held ns (p ∷ ps)) (naming_comparisons + due_comparisons held ns ps)

-- the extra round, until it is made
unfoldable pub extra_left : ℕ → ℕ
extra_left zero = 1
extra_left (suc n) = 0

unfoldable pub extra_due : List ℕ → ℕ → ℕ
extra_due [] rounds = 0
extra_due (n ∷ ns) rounds = extra_left rounds

-- the rounds of this pass
unfoldable pub length_of_pass : Bool → List ℕ → ℕ
length_of_pass true ws = 1
length_of_pass false [] = ending_rounds
length_of_pass false (p ∷ ps) = naming_rounds p

-- the slaves when the passes from here on are done
unfoldable pub finally : List ℕ → List ℕ → List ℕ → List Named → List Named
finally held left ws slaves = map (renamed (givings ws (free_names held left))) slaves

pub record Due (R C : ℕ) (F : List Named) (n : ℕ) (ns ws : List ℕ) (slaves : List Named) (held : List ℕ) (rounds done k : ℕ) : Type 0 where
  pub all : extra_left rounds + rounds + due held (n ∷ ns) ws ≡ R + k
  pub within : k < length_of_pass (is_among n held) ws
  pub comparisons : done + due_comparisons held (n ∷ ns) ws ≡ C
  pub names : finally held (n ∷ ns) ws slaves ≡ F
  pub falls : Falling ws

pub record Done (R C : ℕ) (F : List Named) (ws : List ℕ) (slaves : List Named) (end rounds done k : ℕ) : Type 0 where
  pub all : rounds ≡ R
  pub some : 0 < end
  pub comparisons : done + comparisons_after (high_again ws) k ≡ C
  pub names : slaves ≡ F

pub data Tally (R C : ℕ) (F : List Named) : Account → Type 0 where
  in-pass :
      {n rounds done k : ℕ} {ns ws held : List ℕ} {slaves : List Named} → Due R C F n ns ws slaves held rounds done k →
      Tally R C F (account (n ∷ ns) ws slaves held 0 rounds done k)
  ended :
      {end rounds done k : ℕ} {left ws held : List ℕ} {slaves : List Named} → Done R C F ws slaves end rounds done k →
      Tally R C F (account left ws slaves held end rounds done k)

-- ---- names

-- nobody gets a name who waits no more
nothing-given : (p old : ℕ) (ps ns : List ℕ) → is_among p ps ≡ false → name_given (givings ps ns) p old ≡ old
unfolding name_given givings is_among
nothing-given p old [] ns a = refl
nothing-given p old (q ∷ qs) [] a = refl
nothing-given p old (q ∷ qs) (n ∷ ns) a =
    rw (either_false_left (eqb p q) (is_among p qs) a) (nothing-given p old qs ns (either_false_right (eqb p q) (is_among p qs) a))

-- no name is left, or nobody waits: all stays
pub no_names : (ws : List ℕ) → givings ws [] ≡ []
unfolding givings
no_names [] = refl
no_names (p ∷ ps) = refl

pub all_stay : (ss : List Named) → map (renamed []) ss ≡ ss
unfolding renamed name_given
all_stay [] = refl
all_stay (s ∷ ss) = ap (λ (r : List Named). s ∷ r) (all_stay ss)

-- a name given now or in the end
given-one : (p n : ℕ) (ps ns : List ℕ) → is_among p ps ≡ false → (s : Named) →
    renamed (givings ps ns) (give p n s) ≡ renamed (givings (p ∷ ps) (n ∷ ns)) s
unfolding renamed name_given give givings
given-one p n ps ns a s =
    by_case (eqb s.physical p)
    (λ t.
    let g : is_among s.physical ps ≡ false = subst (λ (q : ℕ). is_among q ps ≡ false) (sym (eqb-true s.physical p t)) a in
    let e : name_given (givings ps ns) s.physical n ≡ n = nothing-given s.physical n ps ns g in
    rw (t, e))
    (λ f. rw f)

pub given_now : (p n : ℕ) (ps ns : List ℕ) → is_among p ps ≡ false → (ss : List Named) →
    map (renamed (givings ps ns)) (map (give p n) ss) ≡ map (renamed (givings (p ∷ ps) (n ∷ ns))) ss
unfolding renamed name_given give givings
given_now p n ps ns a [] = refl
given_now p n ps ns a (s ∷ ss) = rw (given-one p n ps ns a s, given_now p n ps ns a ss)

-- ---- what is due after a pass

module _ (n : ℕ) (ns held : List ℕ) (t : is_among n held ≡ true) where
  pub due-taken : (ws : List ℕ) → due held (n ∷ ns) ws ≡ suc (due held ns ws)
  unfolding due
  due-taken [] = rw t
  due-taken (p ∷ ps) = rw t

  pub due-comparisons-taken : (ws : List ℕ) → due_comparisons held (n ∷ ns) ws ≡ due_comparisons held ns ws
  unfolding due_comparisons
  due-comparisons-taken [] = rw t
  due-comparisons-taken (p ∷ ps) = rw t

  pub free_taken : free_names held (n ∷ ns) ≡ free_names held ns
  unfolding free_names
  free_taken = rw t

-- a pass that has made no round has made no comparison
pub none-compared : (e : ℕ) → comparisons_after e 0 ≡ 0
none-compared e = counted-after e 0 ∙ omega arith

-- the pass that ends the run has made the comparison with 0
pub one-compared : (e : ℕ) → comparisons_after e ending_rounds ≡ ending_comparisons
one-compared e = counted-after e ending_rounds ∙ omega arith

pass_positive : (b : Bool) (ws : List ℕ) → 0 < length_of_pass b ws
unfolding length_of_pass
pass_positive true ws = omega arith
pass_positive false [] = omega arith
pass_positive false (p ∷ ps) = unfold naming_rounds in omega arith

none_left : (rounds : ℕ) → (rounds ≡ 0 → ⊥) → extra_left rounds ≡ 0
unfolding extra_left
none_left zero some = absurd (some refl)
none_left (suc n) some = refl

none-due : (ns : List ℕ) (rounds : ℕ) → extra_due ns (suc rounds) ≡ 0
unfolding extra_due extra_left
none-due [] rounds = refl
none-due (n ∷ ns) rounds = refl

module _ (R C : ℕ) (F : List Named) where
  pub next-pass :
      (ns ws : List ℕ) (slaves : List Named) (held : List ℕ) (rounds done : ℕ) → extra_due ns rounds + rounds + due held ns ws ≡ R →
      done + due_comparisons held ns ws ≡ C → finally held ns ws slaves ≡ F → Falling ws →
      Tally R C F (account ns ws slaves held (end_with ns) rounds done 0)
  unfolding end_with due due_comparisons finally free_names extra_due
  next-pass [] ws slaves held rounds done r c f w =
      let d : Done R C F ws slaves 2 rounds done 0 =
      record { all = omega arith; some = omega arith; comparisons = omega (arith, none-compared (high_again ws)); names = sym (rw (no_names ws) (all_stay slaves)) ∙ f } in
      ended d
  next-pass (m ∷ ms) ws slaves held rounds done r c f w =
      let d : Due R C F m ms ws slaves held rounds done 0 =
      record { all = omega arith; within = pass_positive (is_among m held) ws; comparisons = c; names = f; falls = w } in
      in-pass d

  goes-on-pass :
      (n : ℕ) (ns ws : List ℕ) (slaves : List Named) (held : List ℕ) (rounds done k : ℕ) → extra_left rounds ≡ 0 → Due R C F n ns ws slaves held rounds done k →
      suc k < length_of_pass (is_among n held) ws → Tally R C F (account (n ∷ ns) ws slaves held 0 (suc rounds) done (suc k))
  goes-on-pass n ns ws slaves held rounds done k made d l =
      let e : Due R C F n ns ws slaves held (suc rounds) done (suc k) =
      record { all = unfold extra_left in omega (arith, d.all, made); within = l; comparisons = d.comparisons; names = d.names; falls = d.falls } in
      in-pass e

  taken_pass :
      (n : ℕ) (ns ws : List ℕ) (slaves : List Named) (held : List ℕ) (rounds done k : ℕ) → extra_left rounds ≡ 0 → Due R C F n ns ws slaves held rounds done k →
      is_among n held ≡ true → Tally R C F (account ns ws slaves held (end_with ns) (suc rounds) (done + 0) 0)
  unfolding length_of_pass finally
  taken_pass n ns ws slaves held rounds done k made d t =
      let w : k < 1 = rw t at d.within in
      let r : extra_left rounds + rounds + suc (due held ns ws) ≡ R + k = rw (due-taken n ns held t ws) at d.all in
      let none : extra_due ns (suc rounds) ≡ 0 = none-due ns rounds in
      let c : done + due_comparisons held ns ws ≡ C = rw (due-comparisons-taken n ns held t ws) at d.comparisons in
      next-pass ns ws slaves held (suc rounds) (done + 0) (omega arith) (omega arith) (rw (free_taken n ns held t) at d.names) d.falls

  naming-pass :
      (n : ℕ) (ns : List ℕ) (p : ℕ) (ps : List ℕ) (slaves : List Named) (held : List ℕ) (rounds done k : ℕ) →
      extra_left rounds ≡ 0 → Due R C F n ns (p ∷ ps) slaves held rounds done k → is_among n held ≡ false → suc k ≡ naming_rounds p →
      Tally R C F (account ns ps (map (give p n) slaves) held (end_with ns) (suc rounds) (done + naming_comparisons) 0)
  unfolding due due_comparisons finally free_names
  naming-pass n ns p ps slaves held rounds done k made d f e =
      let r : extra_left rounds + rounds + (naming_rounds p + due held ns ps) ≡ R + k = rw f at d.all in
      let none : extra_due ns (suc rounds) ≡ 0 = none-due ns rounds in
      let c : done + (naming_comparisons + due_comparisons held ns ps) ≡ C = rw f at d.comparisons in
      let m : map (renamed (givings (p ∷ ps) (n ∷ free_names held ns))) slaves ≡ F = rw f at d.names in
      next-pass ns ps (map (give p n) slaves) held (suc rounds) (done + naming_comparisons) (omega arith) (omega arith)
      (given_now p n ps (free_names held ns) (not_among p (fall_first d.falls)) slaves ∙ m) (fall_others d.falls)

  ending-pass :
      (n : ℕ) (ns : List ℕ) (slaves : List Named) (held : List ℕ) (rounds done k : ℕ) → extra_left rounds ≡ 0 → Due R C F n ns [] slaves held rounds done k →
      is_among n held ≡ false → suc k ≡ ending_rounds → Tally R C F (account (n ∷ ns) [] slaves held 1 (suc rounds) done (suc k))
  unfolding due due_comparisons finally givings
  ending-pass n ns slaves held rounds done k made d f e =
      let r : extra_left rounds + rounds + ending_rounds ≡ R + k = rw f at d.all in
      let c : done + ending_comparisons ≡ C = rw f at d.comparisons in
      let g : Done R C F [] slaves 1 (suc rounds) done (suc k) =
      record { all = omega arith; some = omega arith; comparisons = rw (e, one-compared (high_again [])) c; names = sym (all_stay slaves) ∙ d.names } in
      ended g

  free-pass :
      (n : ℕ) (ns ws : List ℕ) (slaves : List Named) (held : List ℕ) (rounds done k : ℕ) → extra_left rounds ≡ 0 → Due R C F n ns ws slaves held rounds done k →
      is_among n held ≡ false → Tally R C F (pass_on (account (n ∷ ns) ws slaves held 0 rounds done k))
  unfolding length_of_pass
  free-pass n ns [] slaves held rounds done k made d f =
      let w : k < ending_rounds = rw f at d.within in
      by_case (eqb (suc k) ending_rounds)
      (λ t.
      let e : suc k ≡ ending_rounds = eqb-true _ _ t in
      rw (ending-round n ns slaves held rounds done k f e) (ending-pass n ns slaves held rounds done k made d f e))
      (λ g.
      let e : suc k ≡ ending_rounds → ⊥ = eqb-false _ _ g in
      let l : suc k < ending_rounds = omega arith in
      rw (goes_on n ns [] slaves held rounds done k f g) (goes-on-pass n ns [] slaves held rounds done k made d (rw f l)))
  free-pass n ns (p ∷ ps) slaves held rounds done k made d f =
      let w : k < naming_rounds p = rw f at d.within in
      by_case (eqb (suc k) (naming_rounds p))
      (λ t.
      let e : suc k ≡ naming_rounds p = eqb-true _ _ t in
      rw (giving-round n ns p ps slaves held rounds done k f e) (naming-pass n ns p ps slaves held rounds done k made d f e))
      (λ g.
      let e : suc k ≡ naming_rounds p → ⊥ = eqb-false _ _ g in
      let l : suc k < naming_rounds p = omega arith in
      rw (goes_on n ns (p ∷ ps) slaves held rounds done k f l) (goes-on-pass n ns (p ∷ ps) slaves held rounds done k made d (rw f l)))

  pub ended_stays : (left ws : List ℕ) (slaves : List Named) (held : List ℕ) (end rounds done k : ℕ) → 0 < end →
      pass_on (account left ws slaves held end rounds done k) ≡ account left ws slaves held end rounds done k
  unfolding pass_on
  ended_stays left ws slaves held end rounds done k h = let n : end ≡ 0 → ⊥ = omega arith in rw (ne_eqb end 0 n)

  -- a round keeps the tally: the extra one, and one of a pass
  extra-made : {a : Account} → Tally R C F a → a.rounds ≡ 0 → a.end ≡ 0 → Tally R C F (extra a)
  unfolding extra extra_left
  extra-made (in-pass {n = n} {rounds = zero} {done = done} {k = k} {ns = ns} {ws = ws} {held = held} {slaves = slaves} d) z e =
      let g : Due R C F n ns ws slaves held 1 done k =
      record { all = omega (arith, d.all); within = d.within; comparisons = d.comparisons; names = d.names; falls = d.falls } in
      in-pass g
  extra-made (in-pass {rounds = suc r} d) z e = absurd (omega arith)
  extra-made (ended d) z e = absurd (omega (arith, d.some))

  pass-made : {a : Account} → Tally R C F a → (a.end ≡ 0 → a.rounds ≡ 0 → ⊥) → Tally R C F (pass_on a)
  pass-made (in-pass {n = n} {rounds = rounds} {done = done} {k = k} {ns = ns} {ws = ws} {held = held} {slaves = slaves} d) some =
      let made : extra_left rounds ≡ 0 = none_left rounds (some refl) in
      by_case (is_among n held)
      (λ t. rw (taken-round n ns ws slaves held rounds done k t) (taken_pass n ns ws slaves held rounds done k made d t))
      (λ f. free-pass n ns ws slaves held rounds done k made d f)
  pass-made (ended {end = end} {rounds = rounds} {done = done} {k = k} {left = left} {ws = ws} {held = held} {slaves = slaves} d) some =
      rw (ended_stays left ws slaves held end rounds done k d.some) (ended d)

  pub tally_round : {a : Account} → Tally R C F a → Tally R C F (one_round a)
  unfolding one_round
  tally_round {a} t =
      by_case (both (eqb a.end 0) (eqb a.rounds 0))
      (λ e. rw e (extra-made t (eqb-true _ _ (both_right _ _ e)) (eqb-true _ _ (both_left _ _ e))))
      (λ e. rw e (pass-made t (λ z r. clash (both_true (eq-eqb _ _ z) (eq-eqb _ _ r)) e)))
