-- One law for each way through the functions on a run's position.
-- Assumes nothing.
use Rattle.std.proofs.Common.{ℕ, zero, suc, ◌+◌, ◌-◌, ◌*◌, ◌/◌, ◌%◌, ◌^◌, ◌≤◌, ◌<◌, ◌≡◌, refl, sym, ◌∙◌, ◌⊎◌, inl, inr, Bool, true, false, cond, not, arith, lt-ltb, le-ltb, ltb-true, ltb-false, eq-eqb, ne_eqb, le-leb, shl_exact, length, get_or, leb, ltb, eqb, List}
use borrow.Author.Tests.{lt-leb}
use Rattle.file.proofs.Order.{by_case, clash}
use lib.Bits.{bit_or}
use Rattle.file.specs.Rules.Order.{both, either}
use Rattle.naming.specs.Inner.StepAnswers.{FitCounts, GoesOn, part_at, value_at, Wrote}
use Rattle.naming.specs.Rules.Position.{Position}
use Rattle.naming.specs.Rules.Pass.{least, PassPlace, poll, give_name, give_high, give_low, baptize, high, low, reply, question_of, part_of}
use Rattle.naming.specs.Rules.Run.{tried}
use Rattle.naming.specs.Rules.Pass.{ask, bits, place_of, ask_or_give, give_of, give_step}
use Rattle.naming.specs.Rules.Run.{round_at, round_here, is_first, is_repeated, is_needless, at_step}
use Rattle.naming.specs.Rules.Position.{running, names_used_up}
use Rattle.naming.specs.Rules.Pass.{last_step}
use Rattle.naming.specs.Rules.Run.{pass_over, onto, wrote}
use Rattle.naming.specs.Rules.RunGrounds.{unfit_position, count_limit}
use Rattle.naming.specs.Rules.RunRounds.{comparison_rounds, half, RunRound, RunRound.poll as poll_of, write_name, write_high, write_low, compare, RunRound.baptize as baptize_all}

-- ---- the value that a comparison sends

pub tried-least : {q : ℕ} (v : ℕ) → q ≡ 0 → 0 ≡ tried (question_of q) v
unfolding tried question_of
tried-least v e = rw e

pub tried-bit-set : (q v : ℕ) → (q ≡ 0 → ⊥) → q ≤ bits → bit_or v ((1 * 2 ^ (bits - q)) % 2 ^ bits) ≡ tried (question_of q) v
unfolding tried question_of
tried-bit-set zero v n h = absurd (n refl)
tried-bit-set (suc q) v n h =
    let exact : (1 * 2 ^ (bits - suc q)) % 2 ^ bits ≡ 1 * 2 ^ (bits - suc q) = shl_exact 1 (bits - suc q) bits (omega arith) (omega arith) in
    let one : 1 * 2 ^ (bits - suc q) ≡ 2 ^ (bits - suc q) = omega arith in
    rw (exact, one)

-- ---- the place of a step

pub place-ask : (k : ℕ) → (k ≡ 0 → ⊥) → k < give_step → place_of k ≡ ask (question_of ((k - 1) / comparison_rounds)) (part_of ((k - 1) % comparison_rounds))
unfolding place_of ask_or_give
place-ask zero n h = absurd (n refl)
place-ask (suc k) n h =
    let e : suc k - 1 ≡ k = omega arith in
    rw (lt-ltb (suc k) give_step h, e)

pub place-give : (k : ℕ) → give_step ≤ k → place_of k ≡ give_of (k - give_step)
unfolding place_of ask_or_give
place-give zero h = absurd (omega arith)
place-give (suc k) h = rw (le-ltb (suc k) give_step h)

-- what holds of the last four rounds of a pass holds of each place behind the comparisons; from the fourth on it is the last
pub each-given : (P : PassPlace → Type 0) → P give_name → P give_high → P give_low → P baptize → (j : ℕ) → P (give_of j)
unfolding give_of
each-given P a b c d zero = a
each-given P a b c d (suc zero) = b
each-given P a b c d (suc (suc zero)) = c
each-given P a b c d (suc (suc (suc zero))) = d
each-given P a b c d (suc (suc (suc (suc j)))) = d

pub give-last : (j : ℕ) → give_of (suc (suc (suc j))) ≡ baptize
unfolding give_of
give-last zero = refl
give-last (suc j) = refl

pub first-place : {k : ℕ} → k ≡ comparison_rounds → place_of k ≡ ask least reply
unfolding place_of ask_or_give question_of part_of
first-place e = rw e

-- ---- the half that a round writes, and the value that it is a half of

pub part-poll : {k : ℕ} → k ≡ 0 → part_of 2 ≡ part_at (place_of k)
unfolding place_of part_at part_of
part-poll e = rw e

pub part-asked : (k : ℕ) → (k ≡ 0 → ⊥) → k < give_step → part_of ((k - 1) % comparison_rounds) ≡ part_at (place_of k)
unfolding part_at
part-asked k n h = rw (place-ask k n h)

pub part-high : {k : ℕ} → k ≡ give_step + 1 → part_of 0 ≡ part_at (place_of k)
unfolding place_of ask_or_give give_of part_at part_of
part-high e = rw e

pub part_low : {k : ℕ} → k ≡ give_step + 2 → part_of 1 ≡ part_at (place_of k)
unfolding place_of ask_or_give give_of part_at part_of
part_low e = rw e

pub part_none : (k : ℕ) → give_step ≤ k → (k ≡ give_step + 1 → ⊥) → (k ≡ give_step + 2 → ⊥) → part_of 2 ≡ part_at (place_of k)
part_none k h m l = rw (place-give k h) (giving (k - give_step) (other 1 m) (other 2 l))
  where
    other : (j : ℕ) → (k ≡ give_step + j → ⊥) → k - give_step ≡ j → ⊥
    other j n e = n (omega arith)

    giving : (j : ℕ) → (j ≡ 1 → ⊥) → (j ≡ 2 → ⊥) → part_of 2 ≡ part_at (give_of j)
    giving zero m l = unfold give_of part_at part_of in refl
    giving (suc zero) m l = absurd (m refl)
    giving (suc (suc zero)) m l = absurd (l refl)
    giving (suc (suc (suc j))) m l = rw (give-last j) (unfold part_at part_of in refl)

pub value-poll : (v : ℕ) {k : ℕ} → k ≡ 0 → v ≡ value_at (place_of k) v
unfolding place_of value_at
value-poll v e = rw e

pub value-asked : (v k : ℕ) {t : ℕ} → (k ≡ 0 → ⊥) → k < give_step → t ≡ tried (question_of ((k - 1) / comparison_rounds)) v → t ≡ value_at (place_of k) v
unfolding value_at
value-asked v k n h e = rw (place-ask k n h) e

pub value-given : (v k : ℕ) → give_step ≤ k → v ≡ value_at (place_of k) v
unfolding value_at
value-given v k h = rw (place-give k h) (each-given (λ (l : PassPlace). v ≡ value_at l v) refl refl refl refl (k - give_step))

-- what it writes
module _ (n v : ℕ) where
  pub writes-high : (l : PassPlace) → part_at l ≡ high → round_at l n v ≡ write_high (value_at l v / half)
  unfolding part_at value_at round_at
  writes-high poll e = cc
  writes-high (ask q high) e = refl
  writes-high (ask q low) e = cc
  writes-high (ask q reply) e = cc
  writes-high give_name e = cc
  writes-high give_high e = refl
  writes-high give_low e = cc
  writes-high baptize e = cc

  pub writes-low : (l : PassPlace) → part_at l ≡ low → round_at l n v ≡ write_low (value_at l v % half)
  unfolding part_at value_at round_at
  writes-low poll e = cc
  writes-low (ask q high) e = cc
  writes-low (ask q low) e = refl
  writes-low (ask q reply) e = cc
  writes-low give_name e = cc
  writes-low give_high e = cc
  writes-low give_low e = refl
  writes-low baptize e = cc

  writes-none : (p : Position) (l : PassPlace) → part_at l ≡ reply → wrote (round_at l n v) p ≡ p
  unfolding part_at round_at wrote
  writes-none p poll e = refl
  writes-none p (ask q high) e = cc
  writes-none p (ask q low) e = cc
  writes-none p (ask q reply) e = refl
  writes-none p give_name e = refl
  writes-none p give_high e = cc
  writes-none p give_low e = cc
  writes-none p baptize e = refl

pub third_part : (j : ℕ) → (j ≡ 0 → ⊥) → (j ≡ 1 → ⊥) → part_of j ≡ reply
unfolding part_of
third_part zero m l = absurd (m refl)
third_part (suc zero) m l = absurd (l refl)
third_part (suc (suc j)) m l = refl

module _ (p : Position) {r x : ℕ} (part : part_of r ≡ part_at (place_of p.place.step)) (value : x ≡ value_at (place_of p.place.step) p.place.value) where
  pub wrote-high : r ≡ 0 → {q : Position} → q ≡ wrote (write_high (x / half)) p → Wrote p q
  unfolding part_of
  wrote-high e is n =
      let here : high ≡ part_at (place_of p.place.step) = rw e at part in
      rw (writes-high n p.place.value (place_of p.place.step) (sym here), ← value) is

  pub wrote-low : r ≡ 1 → {q : Position} → q ≡ wrote (write_low (x % half)) p → Wrote p q
  unfolding part_of
  wrote-low e is n =
      let here : low ≡ part_at (place_of p.place.step) = rw e at part in
      rw (writes-low n p.place.value (place_of p.place.step) (sym here), ← value) is

  pub wrote_none : (r ≡ 0 → ⊥) → (r ≡ 1 → ⊥) → Wrote p p
  wrote_none m l n = sym (writes-none n p.place.value p (place_of p.place.step) (sym part ∙ third_part r m l))

-- all else stays: what holds of a position, and of it with a half written, holds once its round is made
pub each-wrote :
    (P : Position → Type 0) (p : Position) → P p → ((h : ℕ) → P (wrote (write_high h) p)) → ((l : ℕ) → P (wrote (write_low l) p)) → (o : RunRound) →
    P (wrote o p)
unfolding wrote
each-wrote P p as_it_was of_high of_low (poll_of n) = as_it_was
each-wrote P p as_it_was of_high of_low (write_name n) = as_it_was
each-wrote P p as_it_was of_high of_low (write_high h) = of_high h
each-wrote P p as_it_was of_high of_low (write_low l) = of_low l
each-wrote P p as_it_was of_high of_low compare = as_it_was
each-wrote P p as_it_was of_high of_low baptize_all = as_it_was

pub wrote-fits : (o : RunRound) {p : Position} → FitCounts p → FitCounts (wrote o p)
unfolding wrote
wrote-fits o {p} f =
    each-wrote FitCounts p f (λ h. record { place = f.place; few = f.few; fewer = f.fewer })
    (λ l. record { place = f.place; few = f.few; fewer = f.fewer }) o

pub wrote-step : (o : RunRound) (p : Position) → (wrote o p).place.step ≡ p.place.step
unfolding wrote
wrote-step o p = each-wrote (λ (q : Position). q.place.step ≡ p.place.step) p refl (λ h. refl) (λ l. refl) o

pub wrote_value : (o : RunRound) (p : Position) → (wrote o p).place.value ≡ p.place.value
unfolding wrote
wrote_value o p = each-wrote (λ (q : Position). q.place.value ≡ p.place.value) p refl (λ h. refl) (λ l. refl) o

-- ---- needless writes

-- whether the write at a position's step is needless, whatever the names
abbrev pub NeedlessAt : Position → Bool → Type 0
NeedlessAt p t = (names : List ℕ) → t ≡ is_needless names p

-- none before the first comparison is over
early_place : (k : ℕ) → k ≤ comparison_rounds → (place_of k ≡ poll) ⊎ (is_first (place_of k) ≡ true)
unfolding place_of ask_or_give question_of is_first
early_place zero h = inl refl
early_place (suc zero) h = inr refl
early_place (suc (suc zero)) h = inr refl
early_place (suc (suc (suc zero))) h = inr refl
early_place (suc (suc (suc (suc k)))) h = absurd (omega arith)

pub needless_early : (p : Position) → p.place.step ≤ comparison_rounds → NeedlessAt p false
unfolding is_needless round_here both
needless_early p h names = by (early_place p.place.step h)
  where
    by :
        (place_of p.place.step ≡ poll) ⊎ (is_first (place_of p.place.step) ≡ true) →
        false ≡ cond (not (is_first (place_of p.place.step))) (is_repeated (round_at (place_of p.place.step) (get_or names p.place.index 0) p.place.value) p) false
    by (inl e) = rw e (unfold round_at is_repeated is_first in refl)
    by (inr e) = rw e

-- a place of the giving is none of the first comparison
given_late : (j : ℕ) → is_first (give_of j) ≡ false
unfolding is_first
given_late j = each-given (λ (l : PassPlace). is_first l ≡ false) refl refl refl refl j

-- after it no place is one of the first comparison
late_place : (k : ℕ) → comparison_rounds < k → is_first (place_of k) ≡ false
late_place k h =
    by_case (ltb k give_step)
    (λ t. rw (place-ask k (λ z. omega arith) (ltb-true k give_step t)) (asked ((k - 1) / comparison_rounds) (later k h)))
    (λ f. rw (place-give k (ltb-false k give_step f)) (given_late (k - give_step)))
  where
    later : (k : ℕ) → comparison_rounds < k → 1 ≤ (k - 1) / comparison_rounds
    later k h = omega arith

    asked : (q : ℕ) → 1 ≤ q → is_first (ask (question_of q) (part_of ((k - 1) % comparison_rounds))) ≡ false
    asked zero h = absurd (omega arith)
    asked (suc q) h = unfold question_of is_first in refl

needless_late : (p : Position) → comparison_rounds < p.place.step → (names : List ℕ) →
    is_needless names p ≡ is_repeated (round_at (place_of p.place.step) (get_or names p.place.index 0) p.place.value) p
unfolding is_needless round_here both
needless_late p late names = rw (late_place p.place.step late)

pub writes_nothing : (n v : ℕ) (p : Position) (l : PassPlace) → part_at l ≡ reply → is_repeated (round_at l n v) p ≡ false
unfolding part_at round_at is_repeated
writes_nothing n v p poll e = refl
writes_nothing n v p (ask q high) e = cc
writes_nothing n v p (ask q low) e = cc
writes_nothing n v p (ask q reply) e = refl
writes_nothing n v p give_name e = refl
writes_nothing n v p give_high e = cc
writes_nothing n v p give_low e = cc
writes_nothing n v p baptize e = refl

module _
    (p : Position) (late : comparison_rounds < p.place.step) {r x : ℕ} (part : part_of r ≡ part_at (place_of p.place.step))
    (value : x ≡ value_at (place_of p.place.step) p.place.value) where
  pub needless-high : r ≡ 0 → NeedlessAt p (eqb (x / half) p.halves.high)
  unfolding part_of
  needless-high e names =
      let here : high ≡ part_at (place_of p.place.step) = rw e at part in
      sym (needless_late p late names ∙ rw (writes-high (get_or names p.place.index 0) p.place.value (place_of p.place.step) (sym here), ← value) (unfold is_repeated in refl))

  pub needless-low : r ≡ 1 → NeedlessAt p (eqb (x % half) p.halves.low)
  unfolding part_of
  needless-low e names =
      let here : low ≡ part_at (place_of p.place.step) = rw e at part in
      sym (needless_late p late names ∙ rw (writes-low (get_or names p.place.index 0) p.place.value (place_of p.place.step) (sym here), ← value) (unfold is_repeated in refl))

  pub needless-none : (r ≡ 0 → ⊥) → (r ≡ 1 → ⊥) → NeedlessAt p false
  needless-none m l names =
      sym (needless_late p late names ∙ writes_nothing (get_or names p.place.index 0) p.place.value p (place_of p.place.step) (sym part ∙ third_part r m l))

-- the last round of a pass is no write
pub last-place : {k : ℕ} → k ≡ last_step → place_of k ≡ baptize
unfolding place_of ask_or_give give_of
last-place e = rw e

pub needless-inside : (names : List ℕ) (p : Position) → is_needless names p ≡ true → p.place.step ≡ last_step → ⊥
unfolding is_needless round_here round_at is_repeated is_first both
needless-inside names p t e = let none : is_needless names p ≡ false = rw (last-place e) in clash t none

pub last_real : (names : List ℕ) (p : Position) → p.place.step ≡ last_step → is_needless names p ≡ false
last_real names p e = by_case (is_needless names p) (λ t. absurd (needless-inside names p t e)) (λ f. f)

pub pass_over_goes : {count : ℕ} (names : List ℕ) {p : Position} → GoesOn count p → GoesOn count (pass_over names p)
unfolding pass_over at_step
pass_over_goes names {p} g =
    by_case (is_needless names p)
    (λ t.
    let inside : p.place.step ≡ last_step → ⊥ = needless-inside names p t in
    let place = g.counts.place in
    let on : suc p.place.step ≤ last_step = omega arith in
    rw t (record { within = g.within; counts = record { place = on; few = g.counts.few; fewer = g.counts.fewer } }))
    (λ f. rw f g)

pub onto_goes : {count : ℕ} (names : List ℕ) {p : Position} → GoesOn count p → GoesOn count (onto names p)
unfolding onto
onto_goes names g = pass_over_goes names (pass_over_goes names g)

-- index and comparisons stay
pass_over_same : (names : List ℕ) (p : Position) → ((pass_over names p).counts.comparisons ≡ p.counts.comparisons) × ((pass_over names p).place.index ≡ p.place.index)
unfolding pass_over at_step
pass_over_same names p = by_case (is_needless names p) (λ t. rw t (refl, refl)) (λ f. rw f (refl, refl))

pub onto_same : (names : List ℕ) (p : Position) → ((onto names p).counts.comparisons ≡ p.counts.comparisons) × ((onto names p).place.index ≡ p.place.index)
unfolding onto
onto_same names p =
    let first = pass_over_same names p in
    let second = pass_over_same names (pass_over names p) in
    (second.0 ∙ first.0, second.1 ∙ first.1)

-- so does the value
pass_over_value : (names : List ℕ) (p : Position) → (pass_over names p).place.value ≡ p.place.value
unfolding pass_over at_step
pass_over_value names p = by_case (is_needless names p) (λ t. rw t) (λ f. rw f)

pub onto-value : (names : List ℕ) (p : Position) → (onto names p).place.value ≡ p.place.value
unfolding onto
onto-value names p = pass_over_value names (pass_over names p) ∙ pass_over_value names p

-- a position at a round really made is not moved on
pub stays : (names : List ℕ) (p : Position) → is_needless names p ≡ false → onto names p ≡ p
unfolding onto pass_over
stays names p f = rw (f, f)

-- ---- ground 17, part by part

module _ (names : List ℕ) (p : Position) where
  pub unfit_end : names_used_up < p.end → true ≡ unfit_position names p
  unfolding unfit_position either both
  unfit_end more = rw (lt-ltb names_used_up p.end more)

  module _ (m : p.end ≤ names_used_up) where
    pub unfit_index : length names < p.place.index → true ≡ unfit_position names p
    unfolding unfit_position either both
    unfit_index h = rw (le-ltb names_used_up p.end m, lt-ltb (length names) p.place.index h)

    module _ (i : p.place.index ≤ length names) where
      pub fit-ended : (p.end ≡ running → ⊥) → false ≡ unfit_position names p
      unfolding unfit_position either both
      fit-ended h = rw (le-ltb names_used_up p.end m, le-ltb (length names) p.place.index i, ne_eqb p.end running h)

      module _ (runs : p.end ≡ running) where
        pub unfit_past : p.place.index ≡ length names → true ≡ unfit_position names p
        unfolding unfit_position either both
        unfit_past h =
            rw (
              le-ltb names_used_up p.end m,
              le-ltb (length names) p.place.index i,
              eq-eqb p.end running runs,
              eq-eqb p.place.index (length names) h,
            )

        module _ (inside : p.place.index ≡ length names → ⊥) where
          pub unfit_step : last_step < p.place.step → true ≡ unfit_position names p
          unfolding unfit_position either both
          unfit_step h =
              rw (
                le-ltb names_used_up p.end m,
                le-ltb (length names) p.place.index i,
                eq-eqb p.end running runs,
                ne_eqb p.place.index (length names) inside,
                lt-ltb last_step p.place.step h,
              )

          module _ (s : p.place.step ≤ last_step) where
            pub unfit_rounds : count_limit ≤ p.counts.rounds → true ≡ unfit_position names p
            unfolding unfit_position either both
            unfit_rounds h =
                rw (
                  le-ltb names_used_up p.end m,
                  le-ltb (length names) p.place.index i,
                  eq-eqb p.end running runs,
                  ne_eqb p.place.index (length names) inside,
                  le-ltb last_step p.place.step s,
                  le-leb count_limit p.counts.rounds h,
                )

            pub unfit_comparisons : p.counts.rounds < count_limit → leb count_limit p.counts.comparisons ≡ unfit_position names p
            unfolding unfit_position either both
            unfit_comparisons h =
                rw (
                  le-ltb names_used_up p.end m,
                  le-ltb (length names) p.place.index i,
                  eq-eqb p.end running runs,
                  ne_eqb p.place.index (length names) inside,
                  le-ltb last_step p.place.step s,
                  lt-leb count_limit p.counts.rounds h,
                )
