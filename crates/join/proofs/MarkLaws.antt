-- Marks for the slaves of a cluster, set from the last slave to the first.
-- Assumes nothing.
use Rattle.std.proofs.Common.{ℕ, suc, ◌-◌, ◌%◌, ◌≤◌, ◌<◌, arith, ◌≡◌, sym, ap, ◌∙◌, List, [], ◌∷◌, map, Bool, true, false, length, get_or, drop, set, replicate, length-set, drop-cons}
use lib.ListN.{length-replicate}
use lib.Seq.{drop-length}
use Rattle.file.specs.Rules.Cluster.{Slave, Cluster, physical_name, logical_name, logical_names}
use Rattle.file.specs.Inner.Places.{no_slave_lem, slave_of}
use Rattle.file.proofs.Marks.{marked_none, marked_add}
use Rattle.join.specs.Inner.Names.{remainder_of, MarksOf}

-- none is set at first
pub none-set : (room : ℕ) → MarksOf room (replicate room false) []
none-set room = record { long = length-replicate room false; are = marked_none room }

-- the marks are those of the slaves from i on
pub record Marking (mark : Slave → ℕ) (c : Cluster) (room : ℕ) (seen : List Bool) (i : ℕ) : Type 0 where
  pub within : i ≤ length c.slaves
  pub marks : MarksOf room seen (map mark (drop i c.slaves))

pub marking_start : (mark : Slave → ℕ) (c : Cluster) {room : ℕ} {seen : List Bool} {n : ℕ} → MarksOf room seen [] → n ≡ length c.slaves
    → Marking mark c room seen n
marking_start mark c {n = n} none count =
    let empty : drop n c.slaves ≡ [] = rw (count, drop-length c.slaves) in
    record { within = omega (arith, count); marks = rw empty none }

module _ {mark : Slave → ℕ} {c : Cluster} {room : ℕ} {seen : List Bool} {i : ℕ} (h : Marking mark c room seen i) where
  pub marking_below : 0 < i → i - 1 < length c.slaves
  marking_below more = omega (arith, h.within)

  pub marking_next : 0 < i → {m : ℕ} → m ≡ mark (slave_of c (i - 1)) → m < room → Marking mark c room (set seen m true) (i - 1)
  unfolding slave_of
  marking_next more {m} is fits =
      let w = h.within in
      let back : suc (i - 1) ≡ i = omega arith in
      let first : drop (i - 1) c.slaves ≡ get_or c.slaves (i - 1) no_slave_lem ∷ drop (suc (i - 1)) c.slaves = drop-cons c.slaves (i - 1) no_slave_lem (omega arith) in
      let before : map mark (drop (i - 1) c.slaves) ≡ m ∷ map mark (drop i c.slaves) =
      ap (map mark) (rw back at first) ∙ ap (λ (k : ℕ). k ∷ map mark (drop i c.slaves)) (sym is)
      in
      record {
        within = omega arith;
        marks = rw before record {
          long = length-set seen m true ∙ h.marks.long;
          are = marked_add h.marks.are m (omega (arith, h.marks.long));
        };
      }

  pub marking_done : i ≤ 0 → MarksOf room seen (map mark c.slaves)
  marking_done past = let z : i ≡ 0 = omega arith in rw z at h.marks

-- of the logical names
pub names-done : {c : Cluster} {room : ℕ} {seen : List Bool} {i : ℕ} → Marking logical_name c room seen i → i ≤ 0 → MarksOf room seen (logical_names c)
unfolding logical_names
names-done h past = marking_done h past

-- of the remainders of the physical names
pub remainder-next : {c : Cluster} {seen : List Bool} {i : ℕ} → Marking remainder_of c 256 seen i → 0 < i → {name : ℕ} → name ≡ physical_name (slave_of c (i - 1))
    → Marking remainder_of c 256 (set seen (name % 256) true) (i - 1)
remainder-next h more is = marking_next h more (unfold remainder_of in ap (λ (n : ℕ). n % 256) is) (omega arith)
