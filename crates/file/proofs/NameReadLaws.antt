-- The slaves' logical names, read one after the other into the front of a list.
-- Assumes nothing.
use Rattle.std.proofs.Common.{ℕ, suc, ◌+◌, ◌≤◌, ◌<◌, arith, add-one, ◌≡◌, sym, ◌∙◌, List, [], ◌∷◌, ◌++◌, append_assoc, length, get_or, take}
use Rattle.std.proofs.Common.{drop, set, length-set, take-suc, take_all, drop-cons, length-take-le}
use lib.ListN.{length-map, get_or-map}
use lib.Seq.{set_at}
use Rattle.file.specs.Rules.Cluster.{Cluster, logical_name, logical_names}
use Rattle.file.specs.Inner.Places.{no_slave_lem, slave_of}

pub names-count : (c : Cluster) → length (logical_names c) ≡ length c.slaves
unfolding logical_names
names-count c = length-map c.slaves logical_name

pub name_in : (c : Cluster) (s : ℕ) → get_or (logical_names c) s (logical_name no_slave_lem) ≡ logical_name (slave_of c s)
unfolding logical_names slave_of
name_in c s = get_or-map logical_name c.slaves s no_slave_lem

-- ---- the names of the first i slaves stand in front of what the list held

pub record NamesPut (c : Cluster) (old new : List ℕ) (i : ℕ) : Type 0 where
  pub room : length new ≡ length old
  pub within : i ≤ length c.slaves
  pub are : new ≡ take i (logical_names c) ++ drop i old

module _ {c : Cluster} {old new : List ℕ} {i : ℕ} (h : NamesPut c old new i) where
  pub put_next : {n : ℕ} → n ≡ length c.slaves → i < n → length c.slaves ≤ length old → {name : ℕ} → name ≡ logical_name (slave_of c i) → NamesPut c old (set new i name) (i + 1)
  put_next count more fits {name} is =
      let here : i < length (logical_names c) = rw (names-count c) (omega arith) in
      let front : length (take i (logical_names c)) ≡ i = length-take-le i (logical_names c) (omega arith) in
      let one : take (suc i) (logical_names c) ≡ take i (logical_names c) ++ (name ∷ []) =
      take-suc (logical_names c) i (logical_name no_slave_lem) here ∙ rw (name_in c i, is) in
      let split : new ≡ take i (logical_names c) ++ (get_or old i 0 ∷ drop (suc i) old) = h.are ∙ rw (drop-cons old i 0 (omega arith)) in
      record {
        room = length-set new i name ∙ h.room;
        within = omega arith;
        are = rw (add-one, split, set_at (take i (logical_names c)) (get_or old i 0) (drop (suc i) old) name i front, one) (sym (append_assoc (take i (logical_names c)) (name ∷ []) (drop (suc i) old)));
      }

  pub put-end : {n : ℕ} → n ≡ length c.slaves → n ≤ i → new ≡ logical_names c ++ drop (length c.slaves) old
  put-end {n} is past =
      let w = h.within in
      let all : i ≡ length c.slaves = omega arith in
      h.are ∙ rw (all, take_all (length c.slaves) (logical_names c) (omega (arith, names-count c)))
