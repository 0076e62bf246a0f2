-- What the round at a step writes, how many needless writes follow one another there, and how a position moves on from its round: one law
-- for each way through the functions on these.
-- Assumes nothing.
use Rattle.std.proofs.Common.{ℕ, zero, suc, ◌+◌, ◌-◌, ◌/◌, ◌%◌, ◌≤◌, ◌<◌, ◌≡◌, refl, sym, ap, ◌∙◌, List, Bool, true, false, arith, add-one, eq-eqb, ne_eqb, ltb-true, ltb-false, eqb-true, ltb, eqb, get_or}
use borrow.Author.Tests.{eqb-false}
use Rattle.file.proofs.Order.{by_case}
use Rattle.naming.specs.Rules.RunRounds.{half, comparison_rounds}
use Rattle.naming.specs.Rules.Position.{Position}
use Rattle.naming.specs.Rules.Pass.{PassPlace, poll, give_name, give_high, give_low, baptize, high, low, reply, question_of, part_of, ask}
use Rattle.naming.specs.Rules.Run.{tried}
use Rattle.naming.specs.Rules.Pass.{place_of, give_of, give_step, last_step}
use Rattle.naming.specs.Rules.Run.{is_needless, at_step, pass_over, onto, round_at, round_here, wrote, onward, next_name}
use Rattle.naming.specs.Rules.Run.{end_all_named, move_on}
use Rattle.naming.specs.declared.advance.Reply.{Reply}
use Rattle.naming.specs.declared.advance.Reply.TheVariants as replies
use Rattle.naming.specs.Inner.StepAnswers.{heard, FitCounts, part_at, value_at, WritesAt, NeedlessFrom, Settled, Stands, Wrote, Asks, Advances, Writes}
use Rattle.naming.proofs.PositionLaws.{place-ask, place-give, give-last, part-poll, part-asked, part_low, part_none, value-poll, value-asked, value-given}
use Rattle.naming.proofs.PositionLaws.{third_part, NeedlessAt, needless_early, needless-high, needless-low, needless-none, stays, last-place}
use Rattle.naming.proofs.PositionLaws.{first-place, wrote_none, wrote-fits, wrote-step, wrote_value}

-- ---- what the round at a step writes

pub writes-poll : (v : ℕ) {k : ℕ} → k ≡ 0 → WritesAt k v 2 v
writes-poll v e = record { which = part-poll e; few = omega arith; halved = value-poll v e }

pub writes-given : (v k : ℕ) {r : ℕ} → give_step ≤ k → part_of r ≡ part_at (place_of k) → r ≤ 2 → WritesAt k v r v
writes-given v k h is few = record { which = is; few = few; halved = value-given v k h }

pub writes-asked : (v k : ℕ) {t : ℕ} → (k ≡ 0 → ⊥) → k < give_step → t ≡ tried (question_of ((k - 1) / comparison_rounds)) v → WritesAt k v ((k - 1) % comparison_rounds) t
writes-asked v k n h e = record { which = part-asked k n h; few = omega arith; halved = value-asked v k n h e }

-- a part's number is the only one up to 2
part-number : (r m : ℕ) → r ≤ 2 → m ≤ 2 → part_of r ≡ part_of m → r ≡ m
unfolding part_of
part-number zero zero h l e = refl
part-number zero (suc zero) h l e = cc
part-number zero (suc (suc m)) h l e = cc
part-number (suc zero) zero h l e = cc
part-number (suc zero) (suc zero) h l e = refl
part-number (suc zero) (suc (suc m)) h l e = cc
part-number (suc (suc r)) zero h l e = cc
part-number (suc (suc r)) (suc zero) h l e = cc
part-number (suc (suc r)) (suc (suc m)) h l e = omega arith

no_half : (r : ℕ) → r < 2 → part_of r ≡ reply → ⊥
no_half r h e = let z : r ≡ 2 = part-number r 2 (omega arith) (omega arith) (e ∙ unfold part_of in refl) in omega arith

-- the step after that of a half is about the same value: the low half, or none
pub record Follows (k v r x n : ℕ) : Type 0 where
  pub inside : k + n ≤ last_step
  pub writes : WritesAt (k + n) v (r + n) x

module _ (v r x : ℕ) where
  asked-next : (k : ℕ) → (k ≡ 0 → ⊥) → k < give_step → (k - 1) % comparison_rounds ≡ r → r < 2 → x ≡ value_at (place_of k) v → Follows k v r x 1
  unfolding value_at
  asked-next k n h e small is =
      let on : k + 1 < give_step = omega arith in
      let part : (k + 1 - 1) % comparison_rounds ≡ r + 1 = omega arith in
      let question : (k + 1 - 1) / comparison_rounds ≡ (k - 1) / comparison_rounds = omega arith in
      let value : x ≡ tried (question_of ((k - 1) / comparison_rounds)) v = rw (place-ask k n h) at is in
      record {
        inside = omega arith;
        writes = record {
          which = rw part at (part-asked (k + 1) (λ z. omega arith) on);
          few = omega arith;
          halved = rw (place-ask (k + 1) (λ z. omega arith) on, question) value;
        };
      }

  given-next : (k j : ℕ) → k ≡ give_step + j → part_of r ≡ part_at (give_of j) → r < 2 → x ≡ v → Follows k v r x 1
  unfolding give_of part_at
  given-next k zero e is small same = absurd (no_half r small is)
  given-next k (suc zero) e is small same =
      let here : r ≡ 0 = part-number r 0 (omega arith) (omega arith) (unfold part_of in is) in
      let after : k + 1 ≡ give_step + 2 = omega arith in
      record {
        inside = omega arith;
        writes = record {
          which = rw here (part_low after);
          few = omega arith;
          halved = same ∙ value-given v (k + 1) (omega arith);
        };
      }
  given-next k (suc (suc zero)) e is small same =
      let here : r ≡ 1 = part-number r 1 (omega arith) (omega arith) (unfold part_of in is) in
      record {
        inside = omega arith;
        writes = record {
          which = rw here (part_none (k + 1) (omega arith) (λ z. omega arith) (λ z. omega arith));
          few = omega arith;
          halved = same ∙ value-given v (k + 1) (omega arith);
        };
      }
  given-next k (suc (suc (suc j))) e is small same = absurd (no_half r small (is ∙ ap part_at (give-last j)))

  pub next-writes : (k : ℕ) → WritesAt k v r x → r < 2 → Follows k v r x 1
  next-writes k w small =
      by_case (eqb k 0)
      (λ z. absurd (no_half r small (w.which ∙ sym (part-poll (eqb-true k 0 z)) ∙ unfold part_of in refl)))
      (λ z.
      let some = eqb-false k 0 z in
      by_case (ltb k give_step)
      (λ t.
      let before = ltb-true k give_step t in
      let here : r ≡ (k - 1) % comparison_rounds = part-number r ((k - 1) % comparison_rounds) w.few (omega arith) (w.which ∙ sym (part-asked k some before)) in
      asked-next k some before (sym here) small w.halved)
      (λ f.
      let behind = ltb-false k give_step f in
      let here : part_of r ≡ part_at (give_of (k - give_step)) = rw (place-give k behind) at w.which in
      given-next k (k - give_step) (omega arith) here small (w.halved ∙ sym (value-given v k behind))))

-- and so on
pub follows : (k v r x n : ℕ) → k ≤ last_step → WritesAt k v r x → r + n ≤ 2 → Follows k v r x n
follows k v r x zero inside w few =
    let here : k + 0 ≡ k = omega arith in
    let same : r + 0 ≡ r = omega arith in
    record { inside = omega arith; writes = rw (here, same) w }
follows k v r x (suc n) inside w few =
    let before = follows k v r x n inside w (omega arith) in
    let next = next-writes v (r + n) x (k + n) before.writes (omega arith) in
    let there : k + suc n ≡ k + n + 1 = omega arith in
    let part : r + suc n ≡ r + n + 1 = omega arith in
    record { inside = omega (arith, next.inside); writes = rw (there, part) next.writes }

-- ---- how many needless writes follow one another

at_same : (p : Position) {k : ℕ} → k ≡ p.place.step → at_step k p ≡ p
unfolding at_step
at_same p e = rw e

at_one : (names : List ℕ) (p : Position) {k : ℕ} → k ≡ suc p.place.step → is_needless names p ≡ true → is_needless names (at_step k p) ≡ false → at_step k p ≡ onto names p
unfolding onto pass_over
at_one names p e t f = sym (rw (t, ← e, f))

at-two : (names : List ℕ) (p : Position) {k l : ℕ} → k ≡ suc p.place.step → l ≡ suc k → is_needless names p ≡ true → is_needless names (at_step k p) ≡ true → at_step l p ≡ onto names p
unfolding onto pass_over
at-two names p {k} {l} e d t u = sym (rw (t, ← e, u) (unfold at_step in rw (← d)))

module _ (p : Position) (inside : p.place.step ≤ last_step) {r x : ℕ} (w : WritesAt p.place.step p.place.value r x) where
  none : NeedlessAt p false → NeedlessFrom p r 0
  none is =
      record {
        settles = λ names. at_same p (omega arith) ∙ sym (stays names p (sym (is names)));
        halves = omega (arith, w.few);
      }

  pub none_early : p.place.step ≤ comparison_rounds → NeedlessFrom p r 0
  none_early h = none (needless_early p h)

  module _ (late : comparison_rounds < p.place.step) where
    pub none-high : r ≡ 0 → (x / half ≡ p.halves.high → ⊥) → NeedlessFrom p r 0
    none-high e n = none (λ names. sym (ne_eqb (x / half) p.halves.high n) ∙ needless-high p late w.which w.halved e names)

    pub none-low : r ≡ 1 → (x % half ≡ p.halves.low → ⊥) → NeedlessFrom p r 0
    none-low e n = none (λ names. sym (ne_eqb (x % half) p.halves.low n) ∙ needless-low p late w.which w.halved e names)

    pub none_other : (r ≡ 0 → ⊥) → (r ≡ 1 → ⊥) → NeedlessFrom p r 0
    none_other m l = none (needless-none p late w.which w.halved m l)

    -- at the high half, and at the low one after it
    high-needless : r ≡ 0 → x / half ≡ p.halves.high → (names : List ℕ) → is_needless names p ≡ true
    high-needless e same names = sym (needless-high p late w.which w.halved e names) ∙ eq-eqb (x / half) p.halves.high same

    low-after : r ≡ 0 → NeedlessAt (at_step (p.place.step + 1) p) (eqb (x % half) p.halves.low)
    unfolding at_step
    low-after e =
        let next = next-writes p.place.value r x p.place.step w (omega arith) in
        needless-low (at_step (p.place.step + 1) p) (omega arith) next.writes.which next.writes.halved (omega arith)

    pub one-high : r ≡ 0 → x / half ≡ p.halves.high → (x % half ≡ p.halves.low → ⊥) → NeedlessFrom p r 1
    one-high e same n =
        record {
          settles = λ names. at_one names p (add-one _) (high-needless e same names) (sym (low-after e names) ∙ ne_eqb (x % half) p.halves.low n);
          halves = omega arith;
        }

    pub two-high : r ≡ 0 → x / half ≡ p.halves.high → x % half ≡ p.halves.low → NeedlessFrom p r 2
    two-high e same too =
        record {
          settles = λ names. at-two names p {k = p.place.step + 1} (add-one _) (omega arith) (high-needless e same names) (sym (low-after e names) ∙ eq-eqb (x % half) p.halves.low too);
          halves = omega arith;
        }

    none_after : r ≡ 1 → NeedlessAt (at_step (p.place.step + 1) p) false
    unfolding at_step
    none_after e =
        let next = next-writes p.place.value r x p.place.step w (omega arith) in
        needless-none (at_step (p.place.step + 1) p) (omega arith) next.writes.which next.writes.halved (λ z. omega arith) (λ z. omega arith)

    pub one-low : r ≡ 1 → x % half ≡ p.halves.low → NeedlessFrom p r 1
    one-low e same =
        record {
          settles =
              λ names.
              at_one names p (add-one _) (sym (needless-low p late w.which w.halved e names) ∙ eq-eqb (x % half) p.halves.low same)
              (sym (none_after e names));
          halves = omega arith;
        }

-- past them
module _ (p : Position) (inside : p.place.step ≤ last_step) {r x n : ℕ} (w : WritesAt p.place.step p.place.value r x) (needless : NeedlessFrom p r n) where
  pub passes_within : p.place.step + n ≤ last_step
  passes_within = (follows p.place.step p.place.value r x n inside w needless.halves).inside

  pub settles-at : {q : Position} → q ≡ at_step (p.place.step + n) p → Settled p q
  settles-at is names = is ∙ needless.settles names

  pub stands_at : {q : Position} → q ≡ at_step (p.place.step + n) p → Stands p q (r + n) x
  unfolding at_step
  stands_at is =
      let there = follows p.place.step p.place.value r x n inside w needless.halves in
      record { settled = settles-at is; place = rw is there.inside; writes = rw is there.writes }

-- ---- how a position moves on

module _ (count : ℕ) (p : Position) where
  give_quiet : (j : ℕ) (b : Bool) → j < 3 → onward p p.place.value 0 ≡ move_on (give_of j) count p b
  unfolding move_on give_of
  give_quiet zero b h = refl
  give_quiet (suc zero) b h = refl
  give_quiet (suc (suc zero)) b h = refl
  give_quiet (suc (suc (suc j))) b h = absurd (omega arith)

  half_quiet : (l : PassPlace) (b : Bool) {r : ℕ} → part_of r ≡ part_at l → r < 2 → onward p p.place.value 0 ≡ move_on l count p b
  unfolding move_on part_at
  half_quiet poll b {r} e h = absurd (no_half r h e)
  half_quiet (ask q high) b e h = refl
  half_quiet (ask q low) b e h = refl
  half_quiet (ask q reply) b {r} e h = absurd (no_half r h e)
  half_quiet give_name b {r} e h = absurd (no_half r h e)
  half_quiet give_high b e h = refl
  half_quiet give_low b e h = refl
  half_quiet baptize b {r} e h = absurd (no_half r h e)

-- after a round that writes no half
module _ (count : ℕ) (p : Position) {r : Position} where
  pub moved-poll : {k : ℕ} (b : Bool) → k ≡ 0 → r ≡ move_on poll count p b → r ≡ move_on (place_of k) count p b
  unfolding place_of
  moved-poll b e is = rw e is

  pub moved-last : {k : ℕ} (b : Bool) → k ≡ last_step → r ≡ next_name count p → r ≡ move_on (place_of k) count p b
  unfolding move_on
  moved-last b e is = is ∙ rw (last-place e)

  pub moved_giving : {k : ℕ} (b : Bool) → give_step ≤ k → (k ≡ last_step → ⊥) → k ≤ last_step → r ≡ onward p p.place.value 0 → r ≡ move_on (place_of k) count p b
  moved_giving {k} b h n l is = is ∙ rw (place-give k h) (give_quiet count p (k - give_step) b (few k h n l))
    where
      few : (k : ℕ) → give_step ≤ k → (k ≡ last_step → ⊥) → k ≤ last_step → k - give_step < 3
      few k h n l = omega arith

  pub moved_asked : (k : ℕ) (b : Bool) → ((n : ℕ) → r ≡ move_on (place_of k) n p b) → r ≡ move_on (place_of k) count p b
  moved_asked k b is = is count

pub asks_here : {k v r x : ℕ} → WritesAt k v r x → 2 ≤ r → (k ≡ 0 → ⊥) → k < give_step → Asks k v x
asks_here {r = r} w none n h = record { some = n; before = h; executes = sym w.which ∙ third_part r (λ z. omega arith) (λ z. omega arith); asked = w.halved }

module _ (count : ℕ) (p : Position) {r : Position} where
  pub polled-taken : {a : Reply} → a ≡ replies.Heard → r ≡ next_name count p → r ≡ move_on poll count p (heard a)
  unfolding move_on heard
  polled-taken e is = rw e is

  pub polled_free : {a : Reply} → a ≡ replies.Silence → r ≡ onward p p.place.value 0 → r ≡ move_on poll count p (heard a)
  unfolding move_on heard
  polled_free e is = rw e is

-- after the execute of a comparison
module _ {k v x : ℕ} (asks : Asks k v x) where
  executes-part : (k - 1) % comparison_rounds ≡ 2
  executes-part =
      part-number ((k - 1) % comparison_rounds) 2 (omega arith) (omega arith)
      (part-asked k asks.some asks.before ∙ asks.executes ∙ unfold part_of in refl)

  executed : place_of k ≡ ask (question_of ((k - 1) / comparison_rounds)) reply
  executed = place-ask k asks.some asks.before ∙ rw executes-part (unfold part_of in refl)

  compared-value : x ≡ tried (question_of ((k - 1) / comparison_rounds)) v
  unfolding value_at
  compared-value = rw executed at asks.asked

heard-at : (count q : ℕ) (p : Position) → onward p (tried (question_of q) p.place.value) 1 ≡ move_on (ask (question_of q) reply) count p true
unfolding move_on question_of
heard-at count zero p = unfold tried in refl
heard-at count (suc q) p = refl

silent_at : (count q : ℕ) (p : Position) → 1 ≤ q → onward p p.place.value 1 ≡ move_on (ask (question_of q) reply) count p false
unfolding move_on question_of
silent_at count zero p h = absurd (omega arith)
silent_at count (suc q) p h = refl

module _ (count : ℕ) (p : Position) {k x : ℕ} (asks : Asks k p.place.value x) {q : Position} {a : Reply} where
  pub compared-heard : a ≡ replies.Heard → q ≡ onward p x 1 → q ≡ move_on (place_of k) count p (heard a)
  compared-heard e is = is ∙ rw (executed asks, compared-value asks, e) (unfold heard in heard-at count ((k - 1) / comparison_rounds) p)

  pub compared-last : a ≡ replies.Silence → k ≡ comparison_rounds → q ≡ end_all_named p → q ≡ move_on (place_of k) count p (heard a)
  unfolding move_on heard
  compared-last e first is = is ∙ rw (first-place first, e)

  pub compared_silent : a ≡ replies.Silence → (k ≡ comparison_rounds → ⊥) → q ≡ onward p p.place.value 1 → q ≡ move_on (place_of k) count p (heard a)
  compared_silent e later is =
      let part = executes-part asks in
      let some = asks.some in
      is ∙ rw (executed asks, e) (unfold heard in silent_at count ((k - 1) / comparison_rounds) p (omega arith))

-- ---- from a round really made to the next one

wrote-here : (names : List ℕ) (p : Position) {w : Position} → Wrote p w → w ≡ wrote (round_here names p) p
unfolding round_here
wrote-here names p is = is (get_or names p.place.index 0)

pub fits-wrote : (p : Position) {w : Position} → FitCounts p → Wrote p w → FitCounts w
fits-wrote p fits is = rw (is 0) (wrote-fits (round_at (place_of p.place.step) 0 p.place.value) fits)

module _ (p : Position) {r x : ℕ} (w : WritesAt p.place.step p.place.value r x) where
  module _ (halves : r < 2) {v n : Position} (written : Wrote p v) (on : n ≡ onward v v.place.value 0) where
    -- the next step, and what its round writes
    stepped : n.place.step ≡ p.place.step + 1
    unfolding onward
    stepped = rw (on, written 0) (ap suc (wrote-step (round_at (place_of p.place.step) 0 p.place.value) p) ∙ sym (add-one p.place.step))

    same-value : n.place.value ≡ p.place.value
    unfolding onward
    same-value = rw (on, written 0) (wrote_value (round_at (place_of p.place.step) 0 p.place.value) p)

    pub written-within : n.place.step ≤ last_step
    written-within = omega (arith, stepped, (next-writes p.place.value r x p.place.step w halves).inside)

    pub written_next : WritesAt n.place.step n.place.value (r + 1) x
    written_next = rw (stepped, same-value) (next-writes p.place.value r x p.place.step w halves).writes

    pub written-settled : {q : Position} → Settled n q → Writes p q
    written-settled settled count b names long =
        settled names
        ∙ ap (onto names)
        (on ∙ half_quiet count v (place_of p.place.step) b w.which halves
        ∙ ap (λ (z : Position). move_on (place_of p.place.step) count z b) (wrote-here names p written))

  pub advanced-written : (count : ℕ) (b : Bool) {q : Position} → Writes p q → Advances count p b q
  advanced-written count b is = is count b

  pub advanced-moved : 2 ≤ r → (count : ℕ) (b : Bool) {v q : Position} {part whole : ℕ} → v ≡ move_on (place_of p.place.step) count p b → Stands v q part whole → Advances count p b q
  advanced-moved none count b is stands names long =
      let same = wrote-here names p (wrote_none p w.which w.halved (λ z. omega arith) (λ z. omega arith)) in
      stands.settled names ∙ ap (onto names) (is ∙ ap (λ (z : Position). move_on (place_of p.place.step) count z b) same)
