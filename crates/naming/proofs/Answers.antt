-- What the rounds of a run do to the slaves' views and who answers them, by the plain account's lists; and what a round of
-- others may do.
-- Assumes nothing.
use Rattle.std.proofs.Common.{ℕ, ◌≤◌, ◌<◌, ◌≡◌, refl, sym, ap, ◌∙◌, subst, List, [], ◌∷◌, map, Bool, true, false, cond, not, arith, le_refl, le_of_lt, eqb, leb, eqb-true, eq-eqb, ne_eqb, leb-false}
use borrow.Author.Tests.{eqb-false, lt-leb}
use Rattle.file.specs.Rules.Bytes.{All, All.all_empty, All.all_next as also}
use Rattle.file.specs.Rules.Order.{both}
use Rattle.file.specs.Rules.Cluster.{unnamed}
use Rattle.file.specs.Rules.FileGrounds.{is_among}
use Rattle.file.proofs.Bytes.{all_map}
use Rattle.file.proofs.Order.{by_case, clash, both_true, both_false_left, both_false_right, either_left, either_right, either-next, either_false}
use Rattle.naming.specs.Inner.View.{SlaveView, unnamed_change, change, replies, someone, change_all, answers, comparison_of, view_unnamed}
use Rattle.naming.specs.Rules.RunRounds.{RunRound, poll, write_name, write_high, write_low, compare, baptize}
use Rattle.naming.specs.Rules.Account.{Named, give, names_held}
use Rattle.naming.proofs.Facts.{physicals, all_among, among_here}

-- what the account keeps of a slave
unfoldable pub named_of : SlaveView → Named
named_of v = record { physical = v.physical; logical = v.logical }

-- a property of the unnamed slaves
unfoldable pub OfUnnamed : (SlaveView → Type 0) → List SlaveView → Type 0
OfUnnamed P vs = All (λ (v : SlaveView). view_unnamed v ≡ true → P v) vs

-- the slaves that wait are those of the list
unfoldable pub Wait : List ℕ → List Named → Type 0
Wait ws ss = All (λ (s : Named). eqb s.logical unnamed ≡ is_among s.physical ws) ss

-- ---- who answers

poll-one : (n : ℕ) (v : SlaveView) → (n ≡ unnamed → ⊥) → replies (poll n) v ≡ eqb n v.logical
unfolding replies view_unnamed both
poll-one n v named =
    by_case {P = cond (not (eqb v.logical unnamed)) (eqb v.logical n) false ≡ eqb n v.logical} (eqb n v.logical)
    (λ t.
    let e : n ≡ v.logical = eqb-true _ _ t in
    let f : eqb v.logical unnamed ≡ false = ne_eqb _ _ (λ (q : v.logical ≡ unnamed). named (e ∙ q)) in
    rw (t, f, eq-eqb v.logical n (sym e)))
    (λ f.
    let g : eqb v.logical n ≡ false = ne_eqb _ _ (λ (q : v.logical ≡ n). eqb-false _ _ f (sym q)) in
    rw (f, g) (same (not (eqb v.logical unnamed))))
  where
    same : (b : Bool) → cond b false false ≡ false
    same true = refl
    same false = refl

-- a poll is answered exactly if someone holds the name
pub poll-answers : (n : ℕ) (vs : List SlaveView) → (n ≡ unnamed → ⊥) → answers (poll n) vs ≡ is_among n (names_held (map named_of vs))
unfolding answers someone names_held named_of is_among
poll-answers n [] named = refl
poll-answers n (v ∷ vs) named = rw (poll-one n v named, poll-answers n vs named)

-- with no one unnamed a comparison stays silent
pub compare_silent : (vs : List SlaveView) → Wait [] (map named_of vs) → answers compare vs ≡ false
unfolding answers someone Wait named_of is_among replies view_unnamed
compare_silent [] all_empty = refl
compare_silent (v ∷ vs) (also e h) = either_false (both_false_left _ e) (compare_silent vs h)

someone-does :
    (p : ℕ) (ps : List ℕ) (vs : List SlaveView) → Wait (p ∷ ps) (map named_of vs) → is_among p (physicals (map named_of vs)) ≡ true →
    OfUnnamed (λ v. leb (comparison_of v) p ≡ true) vs → answers compare vs ≡ true
unfolding answers someone Wait OfUnnamed named_of physicals replies view_unnamed is_among
someone-does p ps [] w there all_empty = there
someone-does p ps (v ∷ vs) (also e h) there (also c d) =
    by_case (eqb p v.physical)
    (λ t.
    let q : p ≡ v.physical = eqb-true _ _ t in
    let u : eqb v.logical unnamed ≡ true = e ∙ subst (λ (z : ℕ). is_among z (p ∷ ps) ≡ true) q (among_here p ps) in
    either_left _ (both_true u (subst (λ (z : ℕ). leb (comparison_of v) z ≡ true) q (c u))))
    (λ f. either_right _ (someone-does p ps vs h (sym (either-next _ f) ∙ there) d))

no-one-does :
    (p : ℕ) (ps : List ℕ) (vs : List SlaveView) → Wait (p ∷ ps) (map named_of vs) → All (λ q. q ≤ p) (p ∷ ps) →
    OfUnnamed (λ v. p < comparison_of v) vs → answers compare vs ≡ false
unfolding answers someone Wait OfUnnamed named_of replies view_unnamed
no-one-does p ps [] all_empty below all_empty = refl
no-one-does p ps (v ∷ vs) (also e h) below (also c d) =
    either_false
    (by_case (eqb v.logical unnamed)
    (λ t.
    let l : v.physical ≤ p = all_among v.physical below (sym e ∙ t) in
    let m : v.physical < comparison_of v = omega (arith, c t) in
    both_false_right _ (lt-leb _ _ m))
    (λ f. both_false_left _ f))
    (no-one-does p ps vs h below d)

-- a comparison with t, sent to all that wait, is answered exactly if the greatest is at least t
pub compare-answers :
    (t p : ℕ) (ps : List ℕ) (vs : List SlaveView) → Wait (p ∷ ps) (map named_of vs) → All (λ q. q < p) ps →
    is_among p (physicals (map named_of vs)) ≡ true → OfUnnamed (λ v. comparison_of v ≡ t) vs → answers compare vs ≡ leb t p
unfolding OfUnnamed
compare-answers t p ps vs w below there c =
    by_case {P = answers compare vs ≡ leb t p} (leb t p)
    (λ y. someone-does p ps vs w there (all_map (λ v k u. subst (λ (z : ℕ). leb z p ≡ true) (sym (k u)) y) c) ∙ sym y)
    (λ n.
    let l : p < t = leb-false _ _ n in
    no-one-does p ps vs w (also (le_refl p) (all_map (λ q k. le_of_lt k) below))
    (all_map (λ v k u. subst (λ (z : ℕ). p < z) (sym (k u)) l) c)
    ∙ sym n)

-- ---- what changes

-- every round but an execute of record 1
pub data Quiet : RunRound → Type 0 where
  polling : {n : ℕ} → Quiet (poll n)
  telling_name : {n : ℕ} → Quiet (write_name n)
  telling_high : {h : ℕ} → Quiet (write_high h)
  telling_low : {l : ℕ} → Quiet (write_low l)
  comparing : Quiet compare

told_named : {o : RunRound} → Quiet o → (v : SlaveView) → view_unnamed v ≡ true → named_of (unnamed_change o v) ≡ named_of v
unfolding unnamed_change named_of view_unnamed
told_named polling v u = refl
told_named telling_name v u = refl
told_named telling_high v u = refl
told_named telling_low v u = refl
told_named comparing v u = refl

change-unnamed : (o : RunRound) (v : SlaveView) → view_unnamed v ≡ true → change o v ≡ unnamed_change o v
unfolding change
change-unnamed o v u = rw u

change-named : (o : RunRound) (v : SlaveView) → view_unnamed v ≡ false → change o v ≡ v
unfolding change
change-named o v u = rw u

quiet_one : {o : RunRound} → Quiet o → (v : SlaveView) → named_of (change o v) ≡ named_of v
quiet_one {o} q v =
    by_case (view_unnamed v) (λ t. ap named_of (change-unnamed o v t) ∙ told_named q v t) (λ f. ap named_of (change-named o v f))

-- they change no name
pub quiet_names : {o : RunRound} → Quiet o → (vs : List SlaveView) → map named_of (change_all o vs) ≡ map named_of vs
unfolding change_all
quiet_names q [] = refl
quiet_names q (v ∷ vs) = rw (quiet_one q v, quiet_names q vs)

-- what the unnamed are sent
pub quiet_told :
    (o : RunRound) (P Q : SlaveView → Type 0) (vs : List SlaveView) → ((v : SlaveView) → P v → Q (unnamed_change o v)) →
    OfUnnamed P vs → OfUnnamed Q (change_all o vs)
unfolding OfUnnamed change_all
quiet_told o P Q [] f all_empty = all_empty
quiet_told o P Q (v ∷ vs) f (also p h) =
    also
    (λ u.
    by_case (view_unnamed v) (λ t. subst Q (sym (change-unnamed o v t)) (f v (p t)))
    (λ n. clash u (ap view_unnamed (change-named o v n) ∙ n)))
    (quiet_told o P Q vs f h)

-- baptizing gives the name to the one slave whose physical name is the comparison value
baptize-one :
    (n p : ℕ) (ps : List ℕ) (v : SlaveView) → eqb v.logical unnamed ≡ is_among v.physical (p ∷ ps) →
    (view_unnamed v ≡ true → (v.new_name ≡ n) × (comparison_of v ≡ p)) → named_of (change baptize v) ≡ give p n (named_of v)
unfolding named_of give change unnamed_change view_unnamed
baptize-one n p ps v e k =
    by_case (eqb v.logical unnamed)
    (λ t. rw (t, (k t).1, (k t).0))
    (λ f.
    let g : eqb v.physical p ≡ false =
    by_case (eqb v.physical p)
    (λ y. clash (e ∙ subst (λ (z : ℕ). is_among z (p ∷ ps) ≡ true) (sym (eqb-true _ _ y)) (among_here p ps)) f) (λ z. z) in
    rw (f, g))

pub baptize-names :
    (n p : ℕ) (ps : List ℕ) (vs : List SlaveView) → Wait (p ∷ ps) (map named_of vs) →
    OfUnnamed (λ v. (v.new_name ≡ n) × (comparison_of v ≡ p)) vs → map named_of (change_all baptize vs) ≡ map (give p n) (map named_of vs)
unfolding Wait OfUnnamed change_all named_of
baptize-names n p ps [] all_empty all_empty = refl
baptize-names n p ps (v ∷ vs) (also e h) (also k d) = rw (baptize-one n p ps v e k, baptize-names n p ps vs h d)

-- ---- rounds of others: each slave's names stay, and all that an unnamed slave holds for the run

pub record SameSlave (v w : SlaveView) : Type 0 where
  pub names : named_of w ≡ named_of v
  pub kept : view_unnamed v ≡ true → w ≡ v

pub data Same : List SlaveView → List SlaveView → Type 0 where
  end : Same [] []
  next : {v w : SlaveView} {vs ws : List SlaveView} → SameSlave v w → Same vs ws → Same (v ∷ vs) (w ∷ ws)

named-unnamed : (v w : SlaveView) → named_of w ≡ named_of v → view_unnamed w ≡ view_unnamed v
unfolding view_unnamed named_of
named-unnamed v w e = ap (λ (s : Named). eqb s.logical unnamed) e

-- no slave has changed
pub same_refl : (vs : List SlaveView) → Same vs vs
same_refl [] = end
same_refl (v ∷ vs) = next (record { names = refl; kept = λ u. refl }) (same_refl vs)

pub same_names : {vs ws : List SlaveView} → Same vs ws → map named_of ws ≡ map named_of vs
same_names end = refl
same_names (next s h) = rw (s.names, same_names h)

pub same-told : (P : SlaveView → Type 0) {vs ws : List SlaveView} → Same vs ws → OfUnnamed P vs → OfUnnamed P ws
unfolding OfUnnamed
same-told P end all_empty = all_empty
same-told P (next {v = v} {w = w} s h) (also p k) =
    also
    (λ u.
    let t : view_unnamed v ≡ true = sym (named-unnamed v w s.names) ∙ u in
    subst P (sym (s.kept t)) (p t))
    (same-told P h k)
