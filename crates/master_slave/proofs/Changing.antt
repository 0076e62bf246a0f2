-- The slaves changed one after the other: what a loop along the slaves keeps of the file, and one law for each slave.
-- Assumes nothing.
use Prim.Native.Nat.{ℕ, zero, suc, ◌+◌, ◌≤◌, ◌<◌}
use native.Mathlib.Omega.{arith}
use native.Mathlib.Numerals.{add-one}
use mathlib.Core.Path.{◌≡◌, refl, sym, ap, ◌∙◌, subst}
use mathlib.Core.List.{List, [], ◌∷◌, map}
use lib.ListN.{length, get_or, set}
use Rattle.file.specs.Rules.Cluster.{Slave, Cluster}
use Rattle.file.specs.Rules.Decode.{decode}
use Rattle.file.specs.Inner.Places.{no_slave_lem, slave_of, SameShape, no_slaves, same_slave}
use Rattle.file.specs.Rules.Changes.{with_slaves}
use Rattle.file.specs.Inner.Accepted.{Becomes, AcceptedFile, slave_count, Placed}
use Rattle.file.proofs.Shape.{shape_refl}
use Rattle.file.proofs.Surveyed.{kept-count, placed-kept}
use Rattle.file.proofs.ReaderLaws.{becomes-decoded}
use Rattle.master_slave.specs.Inner.Carried.{with_slave}
use Rattle.master_slave.proofs.Kept.{SlaveKept}

-- ---- the first n slaves changed

unfoldable pub first_changed : (Slave → Slave) → ℕ → List Slave → List Slave
first_changed f zero ss = ss
first_changed f (suc n) [] = []
first_changed f (suc n) (s ∷ ss) = f s ∷ first_changed f n ss

module _ (f : Slave → Slave) where
  pub changed_all : (ss : List Slave) → first_changed f (length ss) ss ≡ map f ss
  unfolding first_changed
  changed_all [] = refl
  changed_all (s ∷ ss) = ap (λ (l : List Slave). f s ∷ l) (changed_all ss)

  pub changed_next : (ss : List Slave) (n : ℕ) → n < length ss → set (first_changed f n ss) n (f (get_or ss n no_slave_lem)) ≡ first_changed f (suc n) ss
  unfolding first_changed
  changed_next [] n l = absurd (omega arith)
  changed_next (s ∷ ss) zero l = refl
  changed_next (s ∷ ss) (suc n) l = ap (λ (x : List Slave). f s ∷ x) (changed_next ss n (omega arith))

  pub changed_same : (ss : List Slave) (n : ℕ) → f (get_or ss n no_slave_lem) ≡ get_or ss n no_slave_lem → first_changed f n ss ≡ first_changed f (suc n) ss
  unfolding first_changed
  changed_same [] zero e = refl
  changed_same [] (suc n) e = refl
  changed_same (s ∷ ss) zero e = ap (λ (x : Slave). x ∷ ss) (sym e)
  changed_same (s ∷ ss) (suc n) e = ap (λ (x : List Slave). f s ∷ x) (changed_same ss n e)

  pub changed_at : (ss : List Slave) (n : ℕ) → get_or (first_changed f n ss) n no_slave_lem ≡ get_or ss n no_slave_lem
  unfolding first_changed
  changed_at [] zero = refl
  changed_at [] (suc n) = refl
  changed_at (s ∷ ss) zero = refl
  changed_at (s ∷ ss) (suc n) = changed_at ss n

  pub changed_shape : ((s : Slave) → SlaveKept s (f s)) → (n : ℕ) (ss : List Slave) → SameShape ss (first_changed f n ss)
  unfolding first_changed
  changed_shape keeps zero ss = shape_refl ss
  changed_shape keeps (suc n) [] = no_slaves
  changed_shape keeps (suc n) (s ∷ ss) = same_slave (keeps s).files (changed_shape keeps n ss)

-- ---- the loop

-- the first i slaves of f₀ are changed
pub record Changing (g : Slave → Slave) (f₀ : List ℕ) (i : ℕ) (file : List ℕ) : Type 0 where
  pub keeps : (s : Slave) → SlaveKept s (g s)
  pub most : i ≤ slave_count f₀
  pub becomes : Becomes file (with_slaves (decode f₀) (first_changed g i (decode f₀).slaves))
  pub size : length file ≡ length f₀

pub changing_start : (g : Slave → Slave) → ((s : Slave) → SlaveKept s (g s)) → {f₀ : List ℕ} → AcceptedFile f₀ → Changing g f₀ 0 f₀
unfolding first_changed with_slaves
changing_start g keeps h = record { keeps = keeps; most = omega arith; becomes = h; size = refl }

module _ {g : Slave → Slave} {f₀ : List ℕ} {i : ℕ} {file : List ℕ} (h : Changing g f₀ i file) where
  shape : SameShape (decode f₀).slaves (with_slaves (decode f₀) (first_changed g i (decode f₀).slaves)).slaves
  unfolding with_slaves
  shape = changed_shape g h.keeps i (decode f₀).slaves

  pub changing_placed : {places : List ℕ} → Placed f₀ places → Placed file places
  unfolding with_slaves
  changing_placed p = placed-kept p h.becomes refl shape

  pub changing_accepted : AcceptedFile file
  changing_accepted = becomes-decoded h.becomes

  module _ {count : ℕ} (all : count ≡ slave_count f₀) where
    module _ (more : i < count) where
      pub changing_there : i < slave_count file
      changing_there = omega (arith, kept-count f₀ h.becomes shape)

      pub changing_next : {new : List ℕ} → Becomes new (with_slave (decode file) i (g (slave_of (decode file) i))) → length new ≡ length file → Changing g f₀ (i + 1) new
      unfolding with_slaves with_slave slave_of
      changing_next {new} becomes size =
          let c : Cluster = decode f₀ in
          let d : Cluster = with_slaves c (first_changed g i c.slaves) in
          let there : Becomes new (with_slave d i (g (slave_of d i))) = subst (λ (e : Cluster). Becomes new (with_slave e i (g (slave_of e i)))) h.becomes.decoded becomes in
          let stored : set (first_changed g i c.slaves) i (g (get_or (first_changed g i c.slaves) i no_slave_lem)) ≡ first_changed g (i + 1) c.slaves =
          rw (add-one, changed_at g c.slaves i) (changed_next g c.slaves i (omega (arith, all)))
          in
          record {
            keeps = h.keeps;
            most = omega arith;
            becomes = subst (λ (ss : List Slave). Becomes new (with_slaves c ss)) stored there;
            size = size ∙ h.size;
          }

    pub changing_done : count ≤ i → Becomes file (with_slaves (decode f₀) (map g (decode f₀).slaves))
    changing_done over =
        let same : i ≡ length (decode f₀).slaves = omega (arith, h.most) in
        let whole : first_changed g i (decode f₀).slaves ≡ map g (decode f₀).slaves = rw same (changed_all g (decode f₀).slaves) in
        subst (λ (l : List Slave). Becomes file (with_slaves (decode f₀) l)) whole h.becomes

pub ruleset changes = (changing_start, changing_placed, changing_accepted, changing_there, changing_next, changing_done)
