-- The joined cluster is legal: where the first is, the second's slaves are and have distinct physical names, none of which the first has,
-- and the first's edition has room for all of them.
-- Assumes nothing.
use Rattle.std.proofs.Common.{ℕ, ◌+◌, arith, ◌≡◌, refl, sym, ◌∙◌, subst, List, [], ◌∷◌, ◌++◌, map, false}
use borrow.Author.Tests.{eqb-false}
use Rattle.file.specs.Rules.Bytes.{All, all_empty, all_next}
use Rattle.file.specs.Rules.Layout.{width_in, record_size}
use Rattle.file.specs.Rules.Cluster.{Slave, Cluster, bytes_in, configuration, unnamed, physical_name, logical_name, logical_names}
use Rattle.file.specs.Rules.Changes.{with_sleep}
use Rattle.file.specs.Rules.Legal.{LegalSlave, LegalPending, LegalAt, Legal, Distinct}
use Rattle.file.specs.Rules.Editions.{exceeds}
use Rattle.file.specs.Rules.FileGrounds.{is_among}
use Rattle.file.proofs.Order.{by_case, either_false, either_false_left, either_false_right}
use Rattle.file.proofs.Bytes.{all_append}
use Rattle.file.proofs.Kept.{slave-legal}
use Rattle.convert.proofs.Calls.{within}
use Rattle.join.specs.Rules.Joined.{turned, awake, joined, any_among, shares_name}
use Rattle.join.proofs.Joining.{turned-put, turned-kept, joined-slaves, joined-edition, joined-physical}

-- ---- the slaves

awake-legal : (s : Slave) → LegalSlave s → LegalSlave (awake s)
unfolding awake with_sleep bytes_in
awake-legal s l =
    record { sleeps = omega arith; rising = l.rising; files = l.files; configured = l.configured; documented = l.documented }

turned-legal : (held : List ℕ) (s : Slave) → LegalSlave s → LegalSlave (turned held s)
turned-legal held s l =
    by_case (is_among (logical_name s) held)
    (λ e. rw (turned-put held s e) (slave-legal configuration (record_size + 3) unnamed (omega arith) s l))
    (λ e. rw (turned-kept held s e) l)

all_mapped : {A B : Type 0} {P : A → Type 0} {Q : B → Type 0} (f : A → B) → ((a : A) → P a → Q (f a)) → {l : List A} → All P l → All Q (map f l)
all_mapped f keeps all_empty = all_empty
all_mapped f keeps (all_next {a = a} p r) = all_next (keeps a p) (all_mapped f keeps r)

joined-slaves-legal : (c d : Cluster) → All LegalSlave c.slaves → All LegalSlave d.slaves → All LegalSlave (joined c d).slaves
joined-slaves-legal c d ls ms =
    rw (joined-slaves c d)
    (all_append
    (all_mapped awake awake-legal ls)
    (all_mapped (λ (s : Slave). awake (turned (logical_names c) s))
    (λ s l. awake-legal (turned (logical_names c) s) (turned-legal (logical_names c) s l)) ms))

-- ---- the physical names

-- none of the numbers is the first of the list, and none is among the rest
not_any : (ns : List ℕ) (m : ℕ) (ms : List ℕ) → any_among ns (m ∷ ms) ≡ false → All (λ n. m ≡ n → ⊥) ns × (any_among ns ms ≡ false)
unfolding any_among is_among
not_any [] m ms e = (all_empty, refl)
not_any (n ∷ ns) m ms e =
    let here = either_false_left _ _ e in
    let rest = not_any ns m ms (either_false_right _ _ e) in (
      all_next (λ z. eqb-false n m (either_false_left _ _ here) (sym z)) rest.0,
      either_false (either_false_right _ _ here) rest.1,
    )

pub distinct_append : {ms ns : List ℕ} → Distinct ms → Distinct ns → any_among ns ms ≡ false → Distinct (ms ++ ns)
distinct_append Distinct.end d e = d
distinct_append {ns = ns} (Distinct.next {n = m} {ns = ms} p c) d e =
    let apart = not_any ns m ms e in Distinct.next (all_append p apart.0) (distinct_append c d apart.1)

joined-names : (c d : Cluster) → Distinct (map physical_name c.slaves) → Distinct (map physical_name d.slaves) → shares_name c d ≡ false
    → Distinct (map physical_name (joined c d).slaves)
unfolding shares_name
joined-names c d p q apart = rw (joined-physical c d) (distinct_append p q apart)

-- ---- the cluster

joined-pending : (c d : Cluster) → LegalPending (joined c d)
unfolding joined
joined-pending c d =
    record {
      epoch = omega arith;
      flag = omega arith;
      name = omega arith;
      pb2 = omega arith;
      pb3 = omega arith;
      operation = λ z. absurd (omega (arith, z));
      broadcast_read = λ z. absurd (omega (arith, z));
    }

-- what is asked of the two
pub record Joinable (c d : Cluster) : Type 0 where
  pub first : Legal c
  pub second : All LegalSlave d.slaves
  pub names : Distinct (map physical_name d.slaves)
  pub apart : shares_name c d ≡ false
  pub room : exceeds (width_in c.edition) (joined c d).slaves ≡ false

pub joined-legal : (c d : Cluster) → Joinable c d → Legal (joined c d)
joined-legal c d j =
    subst (λ (e : ℕ). LegalAt (width_in e) (joined c d)) (sym (joined-edition c d))
    (record {
      width = j.first.width;
      edition = joined-edition c d ∙ j.first.edition;
      count = (within j.room).few;
      pending = joined-pending c d;
      slaves = joined-slaves-legal c d j.first.slaves j.second;
      names = joined-names c d j.first.names j.names j.apart;
      size = (within j.room).short;
    })
