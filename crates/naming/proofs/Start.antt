-- What an accepted file and an accepted list of names give at the start: the facts of the plain account.
-- Assumes nothing.
use Rattle.std.proofs.Common.{ℕ, ◌^◌, ◌<◌, ◌≡◌, refl, sym, ◌∙◌, List, [], ◌∷◌, false, eqb, ne_eqb}
use borrow.Author.Tests.{eqb-false}
use Rattle.file.specs.Rules.Bytes.{All, All.all_empty, All.all_next as also}
use Rattle.file.specs.Rules.Legal.{Distinct, Distinct.end as alone, Distinct.next as apart}
use Rattle.file.specs.Rules.Cluster.{unnamed, broadcast}
use Rattle.file.specs.Rules.FileGrounds.{is_among, has_repeat}
use Rattle.file.specs.Rules.Order.{either}
use Rattle.file.proofs.Bytes.{all_map}
use Rattle.file.proofs.AcceptedFacts.{no_repeat}
use Rattle.file.proofs.Order.{by_case, either_false_left, either_false_right}
use Rattle.naming.specs.Rules.RunGrounds.{unfit_name}
use Rattle.naming.specs.Rules.Account.{Named, falling, unnamed_among, names_held}
use Rattle.naming.proofs.Facts.{Facts, Fit, physicals, all_both, among_here, among_next}
use Rattle.naming.proofs.Sorted.{all_of, all_self, apart_among, all-falling, among_falling, falling-falls}

-- slaves that have physical names of 64 bits, all different
pub record Slaves (ss : List Named) : Type 0 where
  pub different : Distinct (physicals ss)
  pub small : All (λ p. p < 2 ^ 64) (physicals ss)

-- a list of names, bytes, that grounds 15 and 16 do not refuse
pub record Names (names : List ℕ) : Type 0 where
  pub bytes : All (λ n. n < 256) names
  pub fit : unfit_name names ≡ false
  pub different : has_repeat names ≡ false

pub names-fit : {names : List ℕ} → All (λ n. n < 256) names → unfit_name names ≡ false → All Fit names
unfolding unfit_name
names-fit all_empty f = all_empty
names-fit (also {a = n} {l = ns} b h) f =
    let g : either (eqb n broadcast) (eqb n unnamed) ≡ false = either_false_left _ (unfit_name ns) f in
    also
    (record {
      some = eqb-false n broadcast (either_false_left _ (eqb n unnamed) g);
      named = eqb-false n unnamed (either_false_right (eqb n broadcast) _ g);
      byte = b;
    })
    (names-fit h (either_false_right _ (unfit_name ns) f))

-- what holds of all physical names holds of those of the unnamed
all-unnamed : {P : ℕ → Type 0} (ss : List Named) → All P (physicals ss) → All P (unnamed_among ss)
unfolding physicals unnamed_among
all-unnamed [] all_empty = all_empty
all-unnamed (s ∷ ss) (also p h) =
    by_case (eqb s.logical unnamed) (λ t. rw t (also p (all-unnamed ss h))) (λ f. rw f (all-unnamed ss h))

pub distinct_unnamed : (ss : List Named) → Distinct (physicals ss) → Distinct (unnamed_among ss)
unfolding physicals unnamed_among
distinct_unnamed [] alone = alone
distinct_unnamed (s ∷ ss) (apart p h) =
    by_case (eqb s.logical unnamed)
    (λ t. rw t (apart (all-unnamed ss p) (distinct_unnamed ss h)))
    (λ f. rw f (distinct_unnamed ss h))

of_slaves : {P : ℕ → Type 0} (ss : List Named) → All P (physicals ss) → All (λ (s : Named). P s.physical) ss
unfolding physicals
of_slaves [] all_empty = all_empty
of_slaves (s ∷ ss) (also p h) = also p (of_slaves ss h)

-- a slave is unnamed exactly if its physical name is among the unnamed ones
wait : (ss : List Named) → Distinct (physicals ss) → All (λ (s : Named). eqb s.logical unnamed ≡ is_among s.physical (unnamed_among ss)) ss
unfolding physicals unnamed_among
wait [] alone = all_empty
wait (s ∷ ss) (apart p h) =
    by_case (eqb s.logical unnamed)
    (λ t.
    rw t
    (also (t ∙ sym (among_here s.physical (unnamed_among ss)))
    (all_both
    (λ (r : Named) (k : s.physical ≡ r.physical → ⊥) e.
    e ∙ sym (among_next r.physical s.physical (unnamed_among ss) (ne_eqb _ _ (λ (z : r.physical ≡ s.physical). k (sym z)))))
    (of_slaves ss p) (wait ss h))))
    (λ f. rw f (also (f ∙ sym (apart_among s.physical (all-unnamed ss p))) (wait ss h)))

pub start-facts :
    (ss : List Named) (names : List ℕ) → Slaves ss → Names names → Facts names (falling (unnamed_among ss)) ss (names_held ss)
start-facts ss names s n =
    record {
      falls = falling-falls (distinct_unnamed ss s.different);
      small = all-falling (all-unnamed ss s.small);
      there = all-falling (all-unnamed ss (all_self (physicals ss)));
      waits = all_map (λ (r : Named) e. e ∙ sym (among_falling r.physical (unnamed_among ss))) (wait ss s.different);
      fit = names-fit n.bytes n.fit;
      different = no_repeat names n.different;
      taken = all_of (λ m. refl) names;
    }
