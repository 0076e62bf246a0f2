-- What a round of the plain account leaves of the names that are still to be given; and the names 0x01 to 0xFE are an accepted list.
-- Assumes nothing.
use Rattle.std.proofs.Common.{ℕ, zero, suc, ◌+◌, ◌≤◌, ◌<◌, ◌≡◌, refl, List, [], ◌∷◌, map, true, false, arith, get_or, eqb, eqb-true, ne_eqb}
use borrow.Author.Tests.{eqb-false}
use Rattle.file.specs.Rules.Bytes.{All, All.all_empty, All.all_next as also}
use Rattle.file.specs.Rules.Cluster.{unnamed, broadcast}
use Rattle.file.specs.Rules.Order.{both}
use Rattle.file.specs.Rules.FileGrounds.{is_among, has_repeat}
use Rattle.file.proofs.Order.{by_case, clash, both_right, either_false}
use Rattle.naming.specs.Rules.RunGrounds.{unfit_name}
use Rattle.naming.specs.Rules.Account.{Named, Account, end_with, give, pass_on, extra, one_round, naming_rounds, naming_comparisons, ending_rounds}
use Rattle.naming.specs.Rules.Figures.{free_names, givings}
use Rattle.naming.proofs.AccountRounds.{account, goes_on, taken-round, giving-round, ending-round}
use Rattle.naming.proofs.Start.{Names}
use Rattle.naming.proofs.Tally.{Tally, in-pass, ended, length_of_pass, no_names}
use Rattle.listing_text.specs.Rules.Listing.{all_names, names_from}

-- ---- the names

from_bytes : (n a : ℕ) → a + n ≤ 256 → All (λ m. m < 256) (names_from n a)
unfolding names_from
from_bytes zero a h = all_empty
from_bytes (suc n) a h = let l : a < 256 = omega arith in also l (from_bytes n (suc a) (omega arith))

from-fit : (n a : ℕ) → broadcast < a → a + n ≤ unnamed → unfit_name (names_from n a) ≡ false
unfolding names_from unfit_name
from-fit zero a l h = refl
from-fit (suc n) a l h =
    let z : a ≡ broadcast → ⊥ = omega arith in
    let u : a ≡ unnamed → ⊥ = omega arith in
    either_false (either_false (ne_eqb a broadcast z) (ne_eqb a unnamed u)) (from-fit n (suc a) (omega arith) (omega arith))

from-apart : (x n a : ℕ) → x < a → is_among x (names_from n a) ≡ false
unfolding names_from is_among
from-apart x zero a l = refl
from-apart x (suc n) a l = let z : x ≡ a → ⊥ = omega arith in either_false (ne_eqb x a z) (from-apart x n (suc a) (omega arith))

from_different : (n a : ℕ) → has_repeat (names_from n a) ≡ false
unfolding names_from has_repeat
from_different zero a = refl
from_different (suc n) a = either_false (from-apart a n (suc a) (omega arith)) (from_different n (suc a))

pub names-accepted : Names all_names
unfolding all_names
names-accepted =
    record { bytes = from_bytes 254 1 (omega arith); fit = from-fit 254 1 (omega arith) (omega arith); different = from_different 254 1 }

-- ---- a round of the account

-- the names that it still has to give
unfoldable pub to_give : Account → List Named
to_give a = givings a.waiting (free_names a.held a.left)

-- its next round gives a name: the pass is for a free one, someone waits, and it is the last of the pass
abbrev pub LastFor : List ℕ → ℕ → Type 0
LastFor [] k = ⊥
LastFor (p ∷ ps) k = suc k ≡ naming_rounds p

abbrev pub GivesNext : Account → Type 0
GivesNext a = (is_among (get_or a.left 0 0) a.held ≡ false) × LastFor a.waiting a.k

-- a round from one account to the next that gives no name, and the last round of a pass that gives one: the first of the names left to
-- the first of the physical names that wait, after 65 comparisons
pub record NoneGiven (a b : Account) : Type 0 where
  pub within : GivesNext a → ⊥
  pub same : to_give b ≡ to_give a
  pub compared : b.done ≡ a.done

pub record OneGiven (a b : Account) : Type 0 where
  pub last : GivesNext a
  pub next : to_give a ≡ record { physical = get_or a.waiting 0 0; logical = get_or a.left 0 0 } ∷ to_give b
  pub compared : b.done ≡ a.done + naming_comparisons
  pub over : b.k ≡ 0

pub data Gives (a b : Account) : Type 0 where
  none-given : NoneGiven a b → Gives a b
  one-given : OneGiven a b → Gives a b

-- and what any round does: one more is made, those of the pass stay among them, and where it ends the run no name is left to be given
pub record RoundMade (a b : Account) : Type 0 where
  pub rounds : b.rounds ≡ suc a.rounds
  pub among : a.k ≤ a.rounds → b.k ≤ b.rounds
  pub spent : (b.end ≡ 0 → ⊥) → to_give b ≡ []
  pub gives : Gives a b

-- with no name left none is to be given
pub nothing_left : (ws held ns : List ℕ) → (end_with ns ≡ 0 → ⊥) → givings ws (free_names held ns) ≡ []
unfolding end_with free_names
nothing_left ws held [] f = no_names ws
nothing_left ws held (n ∷ ns) f = absurd (f refl)

module _ (n : ℕ) (ns : List ℕ) (slaves : List Named) (held : List ℕ) (rounds done k : ℕ) where
  goes_gives : (ws : List ℕ) → (LastFor ws k → ⊥) →
      RoundMade (account (n ∷ ns) ws slaves held 0 rounds done k) (account (n ∷ ns) ws slaves held 0 (suc rounds) done (suc k))
  unfolding to_give
  goes_gives ws l = record { rounds = refl; among = λ h. omega arith; spent = λ f. absurd (f refl); gives = none-given (record { within = λ g. l g.1; same = refl; compared = refl }) }

  taken_gives : (ws : List ℕ) → is_among n held ≡ true → k < 1 →
      RoundMade (account (n ∷ ns) ws slaves held 0 rounds done k) (account ns ws slaves held (end_with ns) (suc rounds) (done + 0) 0)
  unfolding to_give free_names
  taken_gives ws t w =
      record { rounds = refl; among = λ h. omega arith; spent = nothing_left ws held ns; gives = none-given (record { within = λ g. clash t g.0; same = rw t; compared = omega arith }) }

  giving_gives : (p : ℕ) (ps : List ℕ) → is_among n held ≡ false → suc k ≡ naming_rounds p →
      RoundMade (account (n ∷ ns) (p ∷ ps) slaves held 0 rounds done k)
      (account ns ps (map (give p n) slaves) held (end_with ns) (suc rounds) (done + naming_comparisons) 0)
  unfolding to_give givings free_names
  giving_gives p ps f e =
      record { rounds = refl; among = λ h. omega arith; spent = nothing_left ps held ns; gives = one-given (record { last = (f, e); next = rw f; compared = refl; over = refl }) }

  ending_gives : suc k ≡ ending_rounds →
      RoundMade (account (n ∷ ns) [] slaves held 0 rounds done k) (account (n ∷ ns) [] slaves held 1 (suc rounds) done (suc k))
  unfolding to_give givings
  ending_gives e =
      record { rounds = refl; among = λ h. omega arith; spent = λ f. refl; gives = none-given (record { within = λ g. g.1; same = refl; compared = refl }) }

  free_gives : (ws : List ℕ) → is_among n held ≡ false → k < length_of_pass false ws →
      RoundMade (account (n ∷ ns) ws slaves held 0 rounds done k) (pass_on (account (n ∷ ns) ws slaves held 0 rounds done k))
  unfolding length_of_pass
  free_gives [] f w =
      by_case (eqb (suc k) ending_rounds)
      (λ t. let e : suc k ≡ ending_rounds = eqb-true _ _ t in rw (ending-round n ns slaves held rounds done k f e) (ending_gives e))
      (λ g.
      rw (goes_on n ns [] slaves held rounds done k f g) (goes_gives [] (λ x. x)))
  free_gives (p ∷ ps) f w =
      by_case (eqb (suc k) (naming_rounds p))
      (λ t. let e : suc k ≡ naming_rounds p = eqb-true _ _ t in rw (giving-round n ns p ps slaves held rounds done k f e) (giving_gives p ps f e))
      (λ g.
      let e : suc k ≡ naming_rounds p → ⊥ = eqb-false _ _ g in
      let m : suc k < naming_rounds p = omega arith in
      rw (goes_on n ns (p ∷ ps) slaves held rounds done k f m) (goes_gives (p ∷ ps) e))

-- every round of an account that has not ended
pass-round : {R C : ℕ} {F : List Named} {a : Account} → Tally R C F a → a.end ≡ 0 → RoundMade a (pass_on a)
pass-round (in-pass {n = n} {rounds = rounds} {done = done} {k = k} {ns = ns} {ws = ws} {held = held} {slaves = slaves} d) e =
    by_case (is_among n held)
    (λ t.
    let w : k < length_of_pass true ws = rw t at d.within in
    rw (taken-round n ns ws slaves held rounds done k t) (taken_gives n ns slaves held rounds done k ws t (unfold length_of_pass in w)))
    (λ f. let w : k < length_of_pass false ws = rw f at d.within in free_gives n ns slaves held rounds done k ws f w)
pass-round (ended d) e = absurd (omega (arith, d.some))

-- the extra read gives no name: no round of the pass is made before it
none_last : (ws : List ℕ) (k : ℕ) → k ≡ 0 → LastFor ws k → ⊥
none_last [] k z f = f
none_last (p ∷ ps) k z f = unfold naming_rounds in omega arith

extra_gives : (a : Account) → a.end ≡ 0 → a.rounds ≡ 0 → a.k ≤ a.rounds → RoundMade a (extra a)
unfolding extra to_give
extra_gives a e none h =
    let z : a.k ≡ 0 = omega arith in
    record {
      rounds = refl;
      among = λ h. omega arith;
      spent = λ f. absurd (f e);
      gives = none-given (record { within = λ g. none_last a.waiting a.k z g.1; same = refl; compared = refl });
    }

pub account_round : {R C : ℕ} {F : List Named} {a : Account} → Tally R C F a → a.end ≡ 0 → a.k ≤ a.rounds → RoundMade a (one_round a)
unfolding one_round
account_round {a = a} t e h =
    by_case (both (eqb a.end 0) (eqb a.rounds 0))
    (λ y. rw y (extra_gives a e (eqb-true _ _ (both_right _ _ y)) h))
    (λ y. rw y (pass-round t e))
