-- What the cluster file gives the naming run: a legal cluster's physical names are different and have 64 bits, and its slaves are
-- few enough for the counts of a run; an accepted list of names is what the theorem takes.
-- Assumes nothing.
use Rattle.std.proofs.Common.{ℕ, ◌+◌, ◌*◌, ◌^◌, ◌≤◌, ◌<◌, ◌≡◌, refl, ap, List, [], ◌∷◌, map, arith, lt_of_lt_of_le, zero-lt-suc, length, drop, length-take, eqb}
use native.Mathlib.Nat.{pow-le-pow_right, min-le_left}
use lib.ListN.{length-map}
use Rattle.file.specs.Rules.Bytes.{Bytes, All, All.all_empty, All.all_next as also, number_of, part}
use Rattle.file.specs.Rules.Legal.{LegalFile, LegalSlave, Legal}
use Rattle.file.specs.Rules.Cluster.{File, Slave, Cluster, bytes_among, bytes_in, physical_name}
use Rattle.file.specs.Inner.Places.{slaves_room}
use Rattle.file.proofs.Width.{few-slaves}
use Rattle.file.proofs.Bytes.{number_of-below, bytes-part}
use Rattle.file.proofs.Order.{by_case, first-none}
use Rattle.naming.specs.Inner.View.{view_of, view}
use Rattle.naming.specs.Rules.RunGrounds.{names_grounds, start_ground, count_limit}
use Rattle.naming.specs.Rules.Account.{Named, names_of, names_in_lem, ending_rounds}
use Rattle.naming.proofs.Closed.{most_rounds}
use Rattle.naming.proofs.Facts.{physicals}
use Rattle.naming.proofs.Answers.{named_of}
use Rattle.naming.proofs.Start.{Slaves, Names}

-- ---- the names of a cluster

view-names : (ss : List Slave) → map named_of (map view_of ss) ≡ map names_of ss
unfolding named_of view_of names_of
view-names [] = refl
view-names (s ∷ ss) = ap (λ (r : List Named). names_of s ∷ r) (view-names ss)

-- what the account keeps of a cluster is what it keeps of the cluster's view
pub names_of_view : (c : Cluster) → map named_of (view c) ≡ names_in_lem c
unfolding view names_in_lem
names_of_view c = view-names c.slaves

physicals_of : (ss : List Slave) → physicals (map names_of ss) ≡ map physical_name ss
unfolding physicals names_of
physicals_of [] = refl
physicals_of (s ∷ ss) = ap (λ (r : List ℕ). physical_name s ∷ r) (physicals_of ss)

-- ---- physical names

part_lt : (l : List ℕ) (at n : ℕ) → Bytes l → number_of (part l at n) < 256 ^ n
part_lt l at n h =
    lt_of_lt_of_le (number_of-below (bytes-part h at n))
    (pow-le-pow_right (zero-lt-suc 255) (unfold part in rw (length-take n (drop at l)) (min-le_left n (length (drop at l)))))

bytes-among : {xs : List File} (n : ℕ) → All LegalFile xs → Bytes (bytes_among xs n)
unfolding bytes_among
bytes-among n all_empty = all_empty
bytes-among n (also {a = x} p h) =
    by_case (eqb x.number n) (λ t. rw t p.bytes) (λ f. rw f (bytes-among n h))

physical_lt : (s : Slave) → LegalSlave s → physical_name s < 2 ^ 64
unfolding physical_name bytes_in
physical_lt s l = part_lt (bytes_in s 0x3D) 4 8 (bytes-among 0x3D l.files)

physicals_lt : {ss : List Slave} → All LegalSlave ss → All (λ p. p < 2 ^ 64) (map physical_name ss)
physicals_lt all_empty = all_empty
physicals_lt (also {a = s} p h) = also (physical_lt s p) (physicals_lt h)

-- ---- what the theorem takes

pub legal-slaves : (c : Cluster) → Legal c → Slaves (names_in_lem c)
unfolding names_in_lem
legal-slaves c l =
    record { different = rw (physicals_of c.slaves) l.names; small = rw (physicals_of c.slaves) (physicals_lt l.slaves) }

pub legal-few : (c : Cluster) → Legal c → most_rounds * length (names_in_lem c) + ending_rounds + 257 < count_limit
unfolding names_in_lem
legal-few c l =
    let m : length c.slaves ≤ slaves_room = few-slaves c l in
    rw (length-map c.slaves names_of) (omega arith)

-- a list of bytes that a fresh run does not refuse
pub accepted-names : (names : List ℕ) → All (λ n. n < 256) names → start_ground names ≡ 0 → Names names
unfolding start_ground names_grounds
accepted-names names bytes e =
    let fifteen = first-none 14 _ _ e in
    let sixteen = first-none 15 _ _ fifteen.1 in
    record { bytes = bytes; fit = fifteen.0; different = sixteen.0 }
