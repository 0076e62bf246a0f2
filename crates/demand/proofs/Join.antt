-- Naming after a join: the unnamed of the joined file, and demand 3 from it.
-- Assumes nothing.
use Prim.Native.Nat.{ℕ}
use mathlib.Core.Path.{◌≡◌, refl, sym, ap, ◌∙◌, subst}
use mathlib.Core.Logic.{◌≢◌}
use mathlib.Core.List.{List, [], ◌∷◌, ◌++◌, map, map-append, map-map}
use mathlib.Core.Bool.{Bool, true, false, cond}
use lib.ListN.{length, take}
use lib.Dec.{eqb}
use borrow.Author.Tests.{eqb-true, eqb-false}
use Rattle.file.specs.Rules.Bytes.{Bytes, All, all_empty, all_next}
use Rattle.file.specs.Rules.Order.{either}
use Rattle.file.specs.Rules.Results.{Result, refused, done, number_in}
use Rattle.file.specs.Rules.Cluster.{Slave, Cluster, unnamed, logical_name, logical_names}
use Rattle.file.specs.Rules.Decode.{decode}
use Rattle.file.specs.Rules.Legal.{LegalSlave, Legal}
use Rattle.file.specs.Rules.FileGrounds.{is_among, load_ground}
use Rattle.file.proofs.Order.{by_case, either_right}
use Rattle.file.proofs.Accepted.{accepted-legal}
use Rattle.join.specs.Rules.Joined.{turned, awake, joined, joined_file}
use Rattle.join.specs.Rules.Join.{join_ground, join_on}
use Rattle.join.proofs.Joining.{turned-physical, turned_name, turned-logical, awake-physical, awake-logical, map_same, joined-slaves}
use Rattle.join.proofs.Order.{join-refused, join_written}
use Rattle.join.proofs.Result.{no_ground, second-accepted, joins-legal, written-file, joined-decoded, joined-accepted, joined_bytes, join-loads}
use Rattle.naming.specs.Rules.Account.{Named, names_of, names_in_lem, falling, unnamed_among, names_held, account_of}
use Rattle.naming.proofs.OverBytes.{demand_3}
use Rattle.ttpa.specs.Rules.Calls.{check_call, join_call, lent_after}
use Rattle.demand.specs.Claims.DemandCalls.{slaves_in}
use Rattle.demand.specs.Claims.Join.{unnamed_or_held, unnamed_joined, UnnamedIn, UnnamedAfterJoin, joined_by, UnnamedAfterJoinCall}
use Rattle.demand.specs.Claims.Join.{NamingFrom, NamingAfterJoin, NamingFromCalls, NamingAfterJoinCall}
use Rattle.demand.proofs.DemandCalls.{check-number, accepted-runs, demand_over_calls}
use Rattle.demand.proofs.DemandEditions.{calls_demand_converted}

-- ---- the unnamed of the joined cluster

unnamed-append : (ss ts : List Named) → unnamed_among (ss ++ ts) ≡ unnamed_among ss ++ unnamed_among ts
unfolding unnamed_among
unnamed-append [] ts = refl
unnamed-append (s ∷ ss) ts =
    by_case (eqb s.logical unnamed)
    (λ e. rw (e, unnamed-append ss ts))
    (λ e. rw (e, unnamed-append ss ts))

either-none : (b : Bool) → b ≡ either b false
unfolding either
either-none true = refl
either-none false = refl

-- a name is 0xFF afterwards exactly if it was, or is among those held
turned-unnamed : (held : List ℕ) (n : ℕ) → eqb (turned_name held n) unnamed ≡ either (eqb n unnamed) (is_among n held)
unfolding turned_name
turned-unnamed held n =
    by_case (is_among n held)
    (λ e. ap (λ (b : Bool). eqb (cond b unnamed n) unnamed) e ∙ sym (either_right (eqb n unnamed) e))
    (λ e. ap (λ (b : Bool). eqb (cond b unnamed n) unnamed) e ∙ either-none (eqb n unnamed) ∙ ap (λ (b : Bool). either (eqb n unnamed) b) (sym e))

unnamed-second :
    (held : List ℕ) {ss : List Slave} → All LegalSlave ss
    → unnamed_among (map names_of (map (λ (s : Slave). awake (turned held s)) ss)) ≡ unnamed_or_held held (map names_of ss)
unfolding unnamed_among unnamed_or_held names_of
unnamed-second held all_empty = refl
unnamed-second held (all_next {a = s} {l = ss} l ls) =
    rw (
      awake-logical (turned held s),
      turned-logical held s l,
      turned-unnamed held (logical_name s),
      awake-physical (turned held s),
      turned-physical held s,
      unnamed-second held ls,
    )

named-awake : (s : Slave) → names_of (awake s) ≡ names_of s
unfolding names_of
named-awake s = rw (awake-physical s, awake-logical s)

held-names : (c : Cluster) → names_held (names_in_lem c) ≡ logical_names c
unfolding names_held names_in_lem names_of logical_names
held-names c = map-map (λ (s : Named). s.logical) names_of c.slaves

named-joined :
    (c d : Cluster)
    → names_in_lem (joined c d) ≡ names_in_lem c ++ map names_of (map (λ (s : Slave). awake (turned (logical_names c) s)) d.slaves)
unfolding names_in_lem
named-joined c d =
    ap (λ (l : List Slave). map names_of l) (joined-slaves c d)
    ∙ map-append names_of (map awake c.slaves) (map (λ (s : Slave). awake (turned (logical_names c) s)) d.slaves)
    ∙ ap (λ (l : List Named). l ++ map names_of (map (λ (s : Slave). awake (turned (logical_names c) s)) d.slaves))
    (map-map names_of awake c.slaves ∙ map_same (λ (s : Slave). names_of (awake s)) names_of named-awake c.slaves)

in_table : (c : Cluster) → names_in_lem c ≡ map names_of c.slaves
unfolding names_in_lem
in_table c = refl

unnamed-joined :
    (c d : Cluster) → All LegalSlave d.slaves
    → unnamed_among (names_in_lem (joined c d)) ≡ unnamed_among (names_in_lem c) ++ unnamed_or_held (names_held (names_in_lem c)) (names_in_lem d)
unnamed-joined c d ls =
    ap unnamed_among (named-joined c d)
    ∙ unnamed-append (names_in_lem c) (map names_of (map (λ (s : Slave). awake (turned (logical_names c) s)) d.slaves))
    ∙ ap (λ (l : List ℕ). unnamed_among (names_in_lem c) ++ l)
    (unnamed-second (logical_names c) ls
    ∙ ap (λ (ss : List Named). unnamed_or_held (logical_names c) ss) (sym (in_table d))
    ∙ ap (λ (held : List ℕ). unnamed_or_held held (names_in_lem d)) (sym (held-names c)))

-- ---- of a join that wrote

module _ (f g out : List ℕ) (n : ℕ) (b : Bytes f) (b' : Bytes g) (is : (join_on f g out).0 ≡ done n) where
  legal : Legal (joined (decode f) (decode g))
  legal = joins-legal f g out (no_ground f g out n is) b b'

  unnamed-are : unnamed_among (slaves_in (joined_file f g)) ≡ unnamed_joined f g
  unfolding unnamed_joined
  unnamed-are =
      ap (λ (c : Cluster). unnamed_among (names_in_lem c)) (joined-decoded f g legal)
      ∙ unnamed-joined (decode f) (decode g) (accepted-legal g b' (second-accepted f g out (no_ground f g out n is))).slaves

  unnamed_in : UnnamedIn f g (joined_file f g)
  unfolding account_of
  unnamed_in = record { are = unnamed-are; waiting = λ names. ap falling unnamed-are }

  naming_from : NamingFrom (joined_file f g)
  naming_from =
      record {
        bytes = joined_bytes f g legal;
        accepted = joined-accepted f g legal;
        demand = demand_3 (joined_file f g) (joined_bytes f g legal) (joined-accepted f g legal);
      }

  both_load : check_call f ≡ 0 → check_call g ≡ 0 → check_call (joined_file f g) ≡ 0
  both_load p q =
      check-number (joined_file f g)
      ∙ ap load_ground (sym (written-file f g out n is))
      ∙ join-loads f g out n b b' (sym (check-number f) ∙ p) (sym (check-number g) ∙ q) is

  naming_from_calls : NamingFromCalls f g (joined_file f g)
  naming_from_calls =
      record {
        bytes = joined_bytes f g legal;
        taken = accepted-runs (joined-accepted f g legal);
        loads = both_load;
        demand = demand_over_calls (joined_file f g) (joined_bytes f g legal) (accepted-runs (joined-accepted f g legal));
        converted = calls_demand_converted (joined_file f g) (joined_bytes f g legal) (accepted-runs (joined-accepted f g legal));
      }

pub unnamed-after-join : UnnamedAfterJoin
unnamed-after-join f g out n b b' is = subst (UnnamedIn f g) (sym (written-file f g out n is)) (unnamed_in f g out n b b' is)

pub naming_after-join : NamingAfterJoin
naming_after-join f g out n b b' is = subst NamingFrom (sym (written-file f g out n is)) (naming_from f g out n b b' is)

-- ---- of a call that returned 0

module _ (f g out : List ℕ) (size : ℕ) (is : (join_call f g out size).0 ≡ 0) where
  none : join_ground f g out ≡ 0
  unfolding join_call
  none =
      by_case (eqb (join_ground f g out) 0)
      (λ q. eqb-true (join_ground f g out) 0 q)
      (λ q.
      let some : join_ground f g out ≢ 0 = eqb-false (join_ground f g out) 0 q in
      absurd (some (sym (ap (λ (r : Result ℕ × List ℕ). number_in r.0) (join-refused f g out refl some) ∙ refused-number (join_ground f g out)) ∙ is)))
    where
      refused-number : (m : ℕ) → number_in {A = ℕ} (refused m) ≡ m
      refused-number m = unfold number_in in refl

  wrote : (join_on f g out).0 ≡ done (length (joined_file f g))
  wrote = ap (λ (r : Result ℕ × List ℕ). r.0) (join_written f g out none)

  by_call : joined_by f g out size ≡ joined_file f g
  unfolding join_call lent_after
  by_call =
      ap (λ (r : Result ℕ). take (lent_after r size (λ (written : ℕ). written)) (join_on f g out).1) wrote
      ∙ written-file f g out (length (joined_file f g)) wrote

pub unnamed-after-join-call : UnnamedAfterJoinCall
unnamed-after-join-call f g out size b b' is =
    subst (UnnamedIn f g) (sym (by_call f g out size is)) (unnamed_in f g out (length (joined_file f g)) b b' (wrote f g out size is))

pub naming_after-join-call : NamingAfterJoinCall
naming_after-join-call f g out size b b' is =
    subst (NamingFromCalls f g) (sym (by_call f g out size is))
    (naming_from_calls f g out (length (joined_file f g)) b b' (wrote f g out size is))
