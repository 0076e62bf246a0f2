-- A position that counts no round makes the extra read; every other moves on to a round really made: of three places that follow one
-- another one writes no half.
-- Assumes nothing.
use Rattle.std.proofs.Common.{ℕ, zero, suc, ◌-◌, ◌%◌, ◌≤◌, ◌<◌, ◌≡◌, refl, sym, ap, ◌∙◌, List, Bool, true, false, arith, eqb, ltb, length, get_or, eq-eqb, ne_eqb, ltb-true, ltb-false, eqb-true}
use borrow.Author.Tests.{eqb-false}
use Rattle.file.specs.Rules.Order.{both}
use Rattle.file.proofs.Order.{by_case, clash}
use Rattle.naming.specs.Inner.StepAnswers.{part_at}
use Rattle.naming.specs.Rules.Position.{Position}
use Rattle.naming.specs.Rules.Pass.{PassPlace, poll, ask, give_name, give_high, give_low, baptize, least, bit, high, low, reply, part_of, place_of}
use Rattle.naming.specs.Rules.Pass.{give_step}
use Rattle.naming.specs.Rules.Run.{round_here, is_first, is_needless, at_step, pass_over, onto, pass_round, is_extra, next_round, wrote, onward}
use Rattle.naming.specs.Rules.Run.{next_name, end_all_named, move_on, pass_advance, count_raised, advance}
use Rattle.naming.specs.Rules.RunRounds.{comparison_rounds, sent}
use Rattle.naming.specs.Claims.RoundsMade.{NextMade, MakesExtra, MovesOn, Stands}
use Rattle.naming.proofs.PositionLaws.{part-poll, part-asked, part_none, third_part, writes_nothing, stays}

-- a round that writes no half is made
made_at : (names : List ℕ) (p : Position) → part_at (place_of p.place.step) ≡ reply → is_needless names p ≡ false
unfolding is_needless round_here both
made_at names p e =
    by_case (is_first (place_of p.place.step))
    (λ t. rw t)
    (λ f. rw f (writes_nothing (get_or names p.place.index 0) p.place.value p (place_of p.place.step) e))

executes : (k : ℕ) → (k ≡ 0 → ⊥) → k < give_step → (k - 1) % comparison_rounds ≡ 2 → part_at (place_of k) ≡ reply
executes k n h e = sym (part-asked k n h) ∙ third_part ((k - 1) % comparison_rounds) (λ z. omega arith) (λ z. omega arith)

-- at most two writes of halves follow one another
two-writes : (k : ℕ) → (part_at (place_of k) ≡ reply → ⊥) → (part_at (place_of (suc k)) ≡ reply → ⊥) → part_at (place_of (suc (suc k))) ≡ reply
two-writes zero here next = absurd (here (sym (part-poll refl) ∙ unfold part_of in refl))
two-writes (suc j) here next =
    by_case (ltb (suc (suc (suc j))) give_step)
    (λ t.
    let inside : suc (suc (suc j)) < give_step = ltb-true (suc (suc (suc j))) give_step t in
    by_case (eqb (j % 3) 2)
    (λ a. let e : j % 3 ≡ 2 = eqb-true _ _ a in absurd (here (executes (suc j) (λ z. omega arith) (omega arith) (omega arith))))
    (λ a.
    let m : j % 3 ≡ 2 → ⊥ = eqb-false _ _ a in
    by_case (eqb (j % 3) 1)
    (λ b. let e : j % 3 ≡ 1 = eqb-true _ _ b in absurd (next (executes (suc (suc j)) (λ z. omega arith) (omega arith) (omega arith))))
    (λ b.
    let l : j % 3 ≡ 1 → ⊥ = eqb-false _ _ b in
    let z : j % 3 ≡ 0 = first_part j m l in
    executes (suc (suc (suc j))) (λ z. omega arith) inside (omega arith))))
    (λ f.
    let outside : give_step ≤ suc (suc (suc j)) = ltb-false (suc (suc (suc j))) give_step f in
    sym (part_none (suc (suc (suc j))) outside
    (λ e. here (executes (suc j) (λ z. omega arith) (omega arith) (omega arith)))
    (λ e. here (sym (part_none (suc j) (omega arith) (λ z. omega arith) (λ z. omega arith)) ∙ unfold part_of in refl)))
    ∙ unfold part_of in refl)
  where
    first_part : (j : ℕ) → (j % 3 ≡ 2 → ⊥) → (j % 3 ≡ 1 → ⊥) → j % 3 ≡ 0
    first_part j m l = omega arith

-- moved on, a position stands at a round really made
pub needed-there : (names : List ℕ) (p : Position) → is_needless names (onto names p) ≡ false
unfolding onto pass_over at_step
needed-there names p =
    by_case (is_needless names p)
    (λ t.
    by_case (is_needless names (at_step (suc p.place.step) p))
    (λ u.
    let here : part_at (place_of p.place.step) ≡ reply → ⊥ = λ e. clash t (made_at names p e) in
    let next : part_at (place_of (suc p.place.step)) ≡ reply → ⊥ = λ e. clash u (made_at names (at_step (suc p.place.step) p) e) in
    rw (t, u) (made_at names (at_step (suc (suc p.place.step)) p) (two-writes p.place.step here next)))
    (λ f. rw (t, f) f))
    (λ f. rw (f, f) f)

-- it passes over the needless writes before that round, and over nothing else
module _ (names : List ℕ) (p : Position) where
  at_own : at_step p.place.step p ≡ p
  unfolding at_step
  at_own = refl

  moved_to : onto names p ≡ at_step (onto names p).place.step p
  unfolding onto pass_over at_step
  moved_to =
      by_case (is_needless names p)
      (λ t. by_case (is_needless names (at_step (suc p.place.step) p)) (λ u. rw (t, u)) (λ f. rw (t, f)))
      (λ f. rw (f, f))

  ahead_of : p.place.step ≤ (onto names p).place.step
  unfolding onto pass_over at_step
  ahead_of =
      by_case (is_needless names p)
      (λ t. by_case (is_needless names (at_step (suc p.place.step) p)) (λ u. rw (t, u) (omega arith)) (λ f. rw (t, f) (omega arith)))
      (λ f. rw (f, f) (omega arith))

  passed_over : (k : ℕ) → p.place.step ≤ k → k < (onto names p).place.step → is_needless names (at_step k p) ≡ true
  unfolding onto pass_over
  passed_over k from below =
      by_case (is_needless names p)
      (λ t.
      by_case (is_needless names (at_step (suc p.place.step) p))
      (λ u.
      let short : k < suc (suc p.place.step) = unfold at_step in rw (t, u) at below in
      by_case (eqb k p.place.step)
      (λ e. let is : k ≡ p.place.step = eqb-true k p.place.step e in rw is (ap (is_needless names) at_own ∙ t))
      (λ n. let other : k ≡ p.place.step → ⊥ = eqb-false k p.place.step n in let is : k ≡ suc p.place.step = omega (arith, other, short, from) in rw is u))
      (λ f.
      let short : k < suc p.place.step = unfold at_step in rw (t, f) at below in
      let is : k ≡ p.place.step = omega arith in
      rw is (ap (is_needless names) at_own ∙ t)))
      (λ f. let short : k < p.place.step = rw (f, f) at below in absurd (omega arith))

-- no round counted: the extra read
pub makes_extra : MakesExtra
unfolding next_round advance sent count_raised
makes_extra first others p none =
    let due : is_extra p ≡ true = unfold is_extra in eq-eqb p.counts.rounds 0 none in
    record { reads = rw due; raised = λ answered. rw (due, none) }

pub some-counted : (p : Position) → 0 < p.counts.rounds → is_extra p ≡ false
unfolding is_extra
some-counted p h = ne_eqb p.counts.rounds 0 (λ e. omega arith)

pub moves_on : MovesOn
unfolding next_round pass_round
moves_on names p counted =
    record {
      step = (onto names p).place.step;
      ahead = ahead_of names p;
      needless = passed_over names p;
      needed = rw (sym (moved_to names p)) (needed-there names p);
      made = rw (some-counted p counted) (ap (round_here names) (moved_to names p));
    }

-- there is one next round
next_once : {names : List ℕ} {p : Position} (a b : NextMade names p) → a.step ≡ b.step
next_once a b =
    by_case (ltb a.step b.step)
    (λ t. absurd (clash (b.needless a.step a.ahead (ltb-true _ _ t)) a.needed))
    (λ f.
    by_case (ltb b.step a.step)
    (λ t. absurd (clash (a.needless b.step b.ahead (ltb-true _ _ t)) b.needed))
    (λ g.
    let behind : b.step ≤ a.step = ltb-false a.step b.step f in
    let before : a.step ≤ b.step = ltb-false b.step a.step g in
    omega (arith, behind, before)))

-- moved on, the position stands there
there : (names : List ℕ) (p : Position) → 0 < p.counts.rounds → (here : NextMade names p) → onto names p ≡ at_step here.step p
unfolding moves_on
there names p counted here = moved_to names p ∙ ap (λ (k : ℕ). at_step k p) (next_once (moves_on names p counted) here)

-- a round made is counted
pub moved-counts : (l : PassPlace) (count : ℕ) (p : Position) (answered : Bool) → 0 < (move_on l count p answered).counts.rounds
unfolding move_on next_name onward end_all_named
moved-counts poll count p true = omega arith
moved-counts poll count p false = omega arith
moved-counts (ask q high) count p answered = omega arith
moved-counts (ask q low) count p answered = omega arith
moved-counts (ask least reply) count p true = omega arith
moved-counts (ask least reply) count p false = omega arith
moved-counts (ask (bit b) reply) count p answered = omega arith
moved-counts give_name count p answered = omega arith
moved-counts give_high count p answered = omega arith
moved-counts give_low count p answered = omega arith
moved-counts baptize count p answered = omega arith

pub stands : Stands
unfolding advance pass_advance at_step moves_on
stands names p counted here answered =
    let go : Position → Position = λ q. move_on (place_of q.place.step) (length names) (wrote (round_here names q) q) answered in
    record {
      next = moves_on names (go (at_step here.step p)) (moved-counts _ _ _ answered);
      stands =
          rw (some-counted p counted)
          (ap (λ (q : Position). onto names (go q)) (there names p counted here) ∙ moved_to names (go (at_step here.step p)));
    }

-- moved on twice is moved on once; a needless write passed over is on the way
pub onto_again : (names : List ℕ) (p : Position) → onto names (onto names p) ≡ onto names p
onto_again names p = stays names (onto names p) (needed-there names p)

pub onto-passed : (names : List ℕ) (p : Position) → is_needless names p ≡ true → onto names p ≡ onto names (at_step (suc p.place.step) p)
onto-passed names p t = sym third ∙ unfold onto in rw passed
  where
    passed : pass_over names p ≡ at_step (suc p.place.step) p
    passed = unfold pass_over in rw t

    third : pass_over names (onto names p) ≡ onto names p
    third = unfold pass_over in rw (needed-there names p)
