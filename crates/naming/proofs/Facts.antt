-- Facts of the plain account alone, which hold between its rounds: the waiting physical names fall and are exactly the unnamed
-- slaves', the names left are fit and different, and each name left is held now if it was held at the start. A taken name that is
-- dropped and a name that is given keep them.
-- Assumes nothing.
use Rattle.std.proofs.Common.{ℕ, ◌^◌, ◌<◌, ◌≡◌, refl, sym, ap, ◌∙◌, subst, List, [], ◌∷◌, map, true, false, cond, arith, eqb, eqb-true, eq-eqb, ne_eqb}
use Rattle.file.specs.Rules.Bytes.{All, All.all_empty, All.all_next as also}
use Rattle.file.specs.Rules.Legal.{Distinct, Distinct.next as apart}
use Rattle.file.specs.Rules.Cluster.{unnamed, broadcast}
use Rattle.file.specs.Rules.FileGrounds.{is_among}
use Rattle.file.proofs.Bytes.{all_first, all_others}
use Rattle.file.proofs.Order.{by_case, clash, either_left, either-next}
use Rattle.naming.specs.Rules.Account.{Named, give, names_held}

-- strictly falling
pub data Falling : List ℕ → Type 0 where
  end : Falling []
  next : {p : ℕ} {ps : List ℕ} → All (λ q. q < p) ps → Falling ps → Falling (p ∷ ps)

-- a name that grounds 15 and the byte leave
pub record Fit (n : ℕ) : Type 0 where
  pub some : n ≡ broadcast → ⊥
  pub named : n ≡ unnamed → ⊥
  pub byte : n < 256

-- the physical names
unfoldable pub physicals : List Named → List ℕ
physicals ss = map (λ (s : Named). s.physical) ss

pub record Facts (left waiting : List ℕ) (slaves : List Named) (held : List ℕ) : Type 0 where
  pub falls : Falling waiting
  pub small : All (λ p. p < 2 ^ 64) waiting
  pub there : All (λ p. is_among p (physicals slaves) ≡ true) waiting
  pub waits : All (λ (s : Named). eqb s.logical unnamed ≡ is_among s.physical waiting) slaves
  pub fit : All Fit left
  pub different : Distinct left
  pub taken : All (λ n. is_among n held ≡ is_among n (names_held slaves)) left

-- ---- lists

pub all_both : {A : Type 0} {P Q R : A → Type 0} {l : List A} → ((a : A) → P a → Q a → R a) → All P l → All Q l → All R l
all_both f all_empty all_empty = all_empty
all_both f (also p h) (also q k) = also (f _ p q) (all_both f h k)

-- what holds of all holds of one that is among them
pub all_among : {P : ℕ → Type 0} {l : List ℕ} (n : ℕ) → All P l → is_among n l ≡ true → P n
unfolding is_among
all_among n all_empty e = clash refl (sym e)
all_among {P} n (also {a = m} {l = l} p h) e =
    by_case (eqb n m)
    (λ t. subst P (sym (eqb-true n m t)) p)
    (λ f. all_among n h (sym (either-next (is_among n l) f) ∙ e))

pub not_among : {l : List ℕ} (p : ℕ) → All (λ q. q < p) l → is_among p l ≡ false
not_among {l} p h = by_case (is_among p l) (λ t. let k : p < p = all_among p h t in absurd (omega arith)) (λ f. f)

pub among_here : (n : ℕ) (l : List ℕ) → is_among n (n ∷ l) ≡ true
unfolding is_among
among_here n l = either_left (is_among n l) (eq-eqb n n refl)

pub among_next : (n m : ℕ) (l : List ℕ) → eqb n m ≡ false → is_among n (m ∷ l) ≡ is_among n l
unfolding is_among
among_next n m l f = either-next (is_among n l) f

-- no name left is the one in front of it
pub differs : {n : ℕ} {ns : List ℕ} → Distinct (n ∷ ns) → All (λ m. n ≡ m → ⊥) ns
differs (apart h d) = h

pub differ_tail : {n : ℕ} {ns : List ℕ} → Distinct (n ∷ ns) → Distinct ns
differ_tail (apart h d) = d

pub fall_others : {p : ℕ} {ps : List ℕ} → Falling (p ∷ ps) → Falling ps
fall_others (next h f) = f

pub fall_first : {p : ℕ} {ps : List ℕ} → Falling (p ∷ ps) → All (λ q. q < p) ps
fall_first (next h f) = h

-- ---- a taken name is dropped

pub drop-taken : {n : ℕ} {ns ws : List ℕ} {ss : List Named} {held : List ℕ} → Facts (n ∷ ns) ws ss held → Facts ns ws ss held
drop-taken f =
    record {
      falls = f.falls;
      small = f.small;
      there = f.there;
      waits = f.waits;
      fit = all_others f.fit;
      different = differ_tail f.different;
      taken = all_others f.taken;
    }

-- ---- a name is given to the greatest

pub give_physicals : (p n : ℕ) (ss : List Named) → physicals (map (give p n) ss) ≡ physicals ss
unfolding physicals give
give_physicals p n [] = refl
give_physicals p n (s ∷ ss) = ap (λ (r : List ℕ). s.physical ∷ r) (give_physicals p n ss)

-- the slave that takes it waits no more, all others as before
give-one :
    (p n : ℕ) (ps : List ℕ) (s : Named) →
    is_among p ps ≡ false → (n ≡ unnamed → ⊥) → eqb s.logical unnamed ≡ is_among s.physical (p ∷ ps) →
    eqb (give p n s).logical unnamed ≡ is_among s.physical ps
unfolding give
give-one p n ps s absent named e =
    by_case {P = eqb (cond (eqb s.physical p) n s.logical) unnamed ≡ is_among s.physical ps} (eqb s.physical p)
    (λ t. rw (t, ne_eqb n unnamed named, eqb-true s.physical p t, absent))
    (λ f. rw (f, e) (among_next s.physical p ps f))

give-waits :
    (p n : ℕ) (ps : List ℕ) {ss : List Named} → is_among p ps ≡ false → (n ≡ unnamed → ⊥) →
    All (λ (s : Named). eqb s.logical unnamed ≡ is_among s.physical (p ∷ ps)) ss →
    All (λ (s : Named). eqb s.logical unnamed ≡ is_among s.physical ps) (map (give p n) ss)
unfolding give
give-waits p n ps absent named all_empty = all_empty
give-waits p n ps absent named (also {a = s} e h) = also (give-one p n ps s absent named e) (give-waits p n ps absent named h)

-- another name is held as before
give-held-one :
    (p n m : ℕ) (ps : List ℕ) (s : Named) → (n ≡ m → ⊥) → (m ≡ unnamed → ⊥) →
    eqb s.logical unnamed ≡ is_among s.physical (p ∷ ps) → eqb m (give p n s).logical ≡ eqb m s.logical
unfolding give
give-held-one p n m ps s other named e =
    by_case {P = eqb m (cond (eqb s.physical p) n s.logical) ≡ eqb m s.logical} (eqb s.physical p)
    (λ t.
    let u : s.logical ≡ unnamed = eqb-true _ _ (e ∙ rw (eqb-true s.physical p t) (among_here p ps)) in
    rw t (ne_eqb m n (λ (q : m ≡ n). other (sym q)) ∙ sym (ne_eqb m s.logical (λ (q : m ≡ s.logical). named (q ∙ u)))))
    (λ f. rw f refl)

give-held :
    (p n m : ℕ) (ps : List ℕ) {ss : List Named} → (n ≡ m → ⊥) → (m ≡ unnamed → ⊥) →
    All (λ (s : Named). eqb s.logical unnamed ≡ is_among s.physical (p ∷ ps)) ss →
    is_among m (names_held (map (give p n) ss)) ≡ is_among m (names_held ss)
unfolding names_held is_among
give-held p n m ps a u all_empty = refl
give-held p n m ps a u (also {a = s} {l = ss} e h) = rw (give-held-one p n m ps s a u e, give-held p n m ps a u h)

pub give-greatest :
    {n p : ℕ} {ns ps : List ℕ} {ss : List Named} {held : List ℕ} → Facts (n ∷ ns) (p ∷ ps) ss held → Facts ns ps (map (give p n) ss) held
give-greatest {n} {p} {ns} {ps} {ss} {held} f =
    record {
      falls = fall_others f.falls;
      small = all_others f.small;
      there = rw give_physicals (all_others f.there);
      waits = give-waits p n ps (not_among p (fall_first f.falls)) (all_first f.fit).named f.waits;
      fit = all_others f.fit;
      different = differ_tail f.different;
      taken = all_both one (all_both (λ m a b. (a, b)) (differs f.different) (all_others f.fit)) (all_others f.taken);
    }
  where
    one : (m : ℕ) → (n ≡ m → ⊥) × Fit m → is_among m held ≡ is_among m (names_held ss) → is_among m held ≡ is_among m (names_held (map (give p n) ss))
    one m a e = e ∙ sym (give-held p n m ps a.0 a.1.named f.waits)
