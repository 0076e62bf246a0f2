-- The run makes the rounds of the pass written out, for every physical name: each write of a half is made or passed over as Tries says, and
-- the value so far is the name with its bits not yet asked for cleared.
-- Assumes nothing.
use Rattle.std.proofs.Common.{ℕ, zero, suc, ◌+◌, ◌/◌, ◌%◌, ◌^◌, ◌≤◌, ◌<◌, ◌≡◌, refl, sym, ap, subst, ◌∙◌, List, [], ◌∷◌, ◌++◌, Bool, true, false, cond, not, arith, eqb, leb, length, get_or, eq-eqb, ne_eqb, eqb-true, le-leb}
use borrow.Author.Tests.{eqb-false}
use Rattle.file.specs.Rules.Order.{both}
use Rattle.file.proofs.Order.{by_case}
use Rattle.naming.specs.Rules.RunRounds.{half, RunRound}
use Rattle.naming.specs.Rules.Position.{Position, end_at}
use Rattle.naming.specs.Rules.Pass.{PassPlace, poll, ask, give_name, give_high, give_low, baptize, least, bit, high, low, reply, place_of}
use Rattle.naming.specs.Rules.Run.{tried, round_at, round_here, is_first, is_repeated, is_needless, at_step, pass_over, onto, wrote, onward, next_name}
use Rattle.naming.specs.Rules.Pass.{bits}
use Rattle.naming.specs.Rules.Run.{end_all_named, move_on, pass_advance, advance}
use Rattle.naming.specs.Inner.PassPlaces.{question_number, part_number, step_of}
use Rattle.naming.specs.Rules.Account.{bit_clear, naming_comparisons}
use Rattle.naming.specs.Claims.Passes.{upper_bits, lower_bits, if_made, pass_rounds, pass_for, executes_in, answer_for, place_made, after_step, places_made, after_steps, PassesMade}
use Rattle.naming.proofs.Places.{of_least, of_bit, Inner, LegalPlace, inner, at-poll, at-ask, at_name, at_high, at_low, at-baptize, after_bit, after_place, place_of_step, step_after}
use Rattle.naming.proofs.Search.{cleared, cleared_all, cleared_none, answered}
use Rattle.naming.proofs.Tries.{attempt, last_try, try_here, upper_low, upper_high, lower_high, lower_low, middle_high, middle_low, given-high, given-low}
use Rattle.naming.proofs.PositionLaws.{stays, each-wrote}
use Rattle.naming.proofs.RoundsMade.{onto_again, onto-passed, some-counted, moved-counts}
use Rattle.naming.proofs.Simulation.{needless_at, tries}
use Rattle.naming.proofs.Passes.{all_executed}

-- the position of these parts
abbrev position : ℕ → ℕ → ℕ → ℕ → ℕ → ℕ → ℕ → ℕ → Position
position end index step value rounds comparisons h l =
    record {
      end = end;
      place = record { index = index; step = step; value = value };
      counts = record { rounds = rounds; comparisons = comparisons };
      halves = record { high = h; low = l };
    }

-- ---- a list of rounds made from a position, needless writes passed over, up to a position of which something holds

pub data Makes (names : List ℕ) (p : ℕ) (P : Position → Type 0) : Position → List PassPlace → Type 0 where
  over : {q : Position} → P (onto names q) → Makes names p P q []
  skip : {q : Position} {ls : List PassPlace} → is_needless names q ≡ true → Makes names p P (at_step (suc q.place.step) q) ls → Makes names p P q ls
  make :
      {q : Position} {ls : List PassPlace} → is_needless names q ≡ false →
      Makes names p P (move_on (place_of q.place.step) (length names) (wrote (round_here names q) q) (answer_for p (place_of q.place.step) q.place.value)) ls →
      Makes names p P q (place_of q.place.step ∷ ls)

-- moving on leaves both counts
pass_over_counts : (names : List ℕ) (q : Position) → ((pass_over names q).counts.rounds ≡ q.counts.rounds) × ((pass_over names q).counts.comparisons ≡ q.counts.comparisons)
unfolding pass_over at_step
pass_over_counts names q = by_case (is_needless names q) (λ t. rw t (refl, refl)) (λ f. rw f (refl, refl))

pub onto-counts : (names : List ℕ) (q : Position) → ((onto names q).counts.rounds ≡ q.counts.rounds) × ((onto names q).counts.comparisons ≡ q.counts.comparisons)
unfolding onto
onto-counts names q =
    let first = pass_over_counts names q in
    let second = pass_over_counts names (pass_over names q) in
    (second.0 ∙ first.0, second.1 ∙ first.1)

onto-some : (names : List ℕ) (q : Position) → 0 < q.counts.rounds → 0 < (onto names q).counts.rounds
onto-some names q c = omega (arith, (onto-counts names q).0)

-- a step depends on the position once it is moved on
after-settled : (names : List ℕ) (p : ℕ) (q : Position) → 0 < q.counts.rounds → after_step names p (onto names q) ≡ after_step names p q
unfolding after_step place_made advance pass_advance
after-settled names p q c = rw (some-counted q c, some-counted (onto names q) (onto-some names q c), onto_again names q)

place-settled : (names : List ℕ) (q : Position) → place_made names (onto names q) ≡ place_made names q
unfolding place_made
place-settled names q = rw (onto_again names q)

places-settled : (names : List ℕ) (p n : ℕ) (q : Position) → 0 < q.counts.rounds → places_made names p n (onto names q) ≡ places_made names p n q
unfolding places_made
places-settled names p zero q c = refl
places-settled names p (suc n) q c = rw (place-settled names q, after-settled names p q c)

-- the step that makes a round
place-made : (names : List ℕ) (q : Position) → is_needless names q ≡ false → place_made names q ≡ place_of q.place.step
unfolding place_made
place-made names q f = rw (stays names q f)

-- the position once that round is made
abbrev next : List ℕ → ℕ → Position → Position
next names p q = move_on (place_of q.place.step) (length names) (wrote (round_here names q) q) (answer_for p (place_of q.place.step) q.place.value)

next-some : (names : List ℕ) (p : ℕ) (q : Position) → 0 < (next names p q).counts.rounds
next-some names p q = moved-counts _ _ _ _

step_makes : (names : List ℕ) (p : ℕ) (q : Position) → 0 < q.counts.rounds → is_needless names q ≡ false → after_step names p q ≡ onto names (next names p q)
unfolding after_step place_made advance pass_advance
step_makes names p q c f = rw (some-counted q c, stays names q f)

one_place : (names : List ℕ) (p n : ℕ) (q : Position) → 0 < q.counts.rounds → is_needless names q ≡ false →
    places_made names p (suc n) q ≡ place_of q.place.step ∷ places_made names p n (next names p q)
unfolding places_made
one_place names p n q c f = rw (place-made names q f, step_makes names p q c f, places-settled names p n (next names p q) (next-some names p q))

one-step : (names : List ℕ) (p n : ℕ) (q : Position) → 0 < q.counts.rounds → is_needless names q ≡ false →
    after_steps names p (suc n) (onto names q) ≡ after_steps names p n (onto names (next names p q))
unfolding after_steps
one-step names p n q c f = rw (stays names q f, step_makes names p q c f)

step-some : (k : ℕ) (q : Position) → 0 < q.counts.rounds → 0 < (at_step k q).counts.rounds
unfolding at_step
step-some k q c = c

pub makes-places :
    {names : List ℕ} {p : ℕ} {P : Position → Type 0} {q : Position} {ls : List PassPlace} → 0 < q.counts.rounds → Makes names p P q ls →
    places_made names p (length ls) q ≡ ls
makes-places c (over e) = unfold places_made in refl
makes-places {names} {p} {q = q} {ls = ls} c (skip t m) =
    let d = step-some (suc q.place.step) q c in
    sym (places-settled names p (length ls) q c) ∙ ap (places_made names p (length ls)) (onto-passed names q t)
    ∙ places-settled names p (length ls) (at_step (suc q.place.step) q) d ∙ makes-places d m
makes-places {names} {p} {q = q} c (make {ls = ls} f m) =
    one_place names p (length ls) q c f ∙ ap (λ (ls : List PassPlace). place_of q.place.step ∷ ls) (makes-places (next-some names p q) m)

pub makes-after :
    {names : List ℕ} {p : ℕ} {P : Position → Type 0} {q : Position} {ls : List PassPlace} → 0 < q.counts.rounds → Makes names p P q ls →
    P (after_steps names p (length ls) (onto names q))
makes-after c (over e) = unfold after_steps in e
makes-after {names} {p} {P} {q = q} {ls = ls} c (skip t m) =
    subst (λ (r : Position). P (after_steps names p (length ls) r)) (sym (onto-passed names q t)) (makes-after (step-some (suc q.place.step) q c) m)
makes-after {names} {p} {P} {q = q} c (make {ls = ls} f m) = subst P (sym (one-step names p (length ls) q c f)) (makes-after (next-some names p q) m)

-- ---- places by their steps

needless-is :
    (names : List ℕ) (q : Position) {place : PassPlace} → place_of q.place.step ≡ place →
    is_needless names q ≡ needless_at place (get_or names q.place.index 0) q
unfolding is_needless round_here
needless-is names q is =
    ap (λ (x : PassPlace). both (not (is_first x)) (is_repeated (round_at x (get_or names q.place.index 0) q.place.value) q)) is

place_is : (q : Position) {place : PassPlace} → LegalPlace place → q.place.step ≡ step_of place → place_of q.place.step ≡ place
place_is q legal at = ap place_of at ∙ place_of_step legal

-- a round is made there
makes-here :
    {names : List ℕ} {p : ℕ} {P : Position → Type 0} {q : Position} {place : PassPlace} {ls : List PassPlace} →
    LegalPlace place → q.place.step ≡ step_of place → needless_at place (get_or names q.place.index 0) q ≡ false →
    Makes names p P (move_on place (length names) (wrote (round_at place (get_or names q.place.index 0) q.place.value) q) (answer_for p place q.place.value)) ls →
    Makes names p P q (place ∷ ls)
unfolding round_here
makes-here {names} {p} {P} {q} {place} {ls} legal at f m =
    let is : place_of q.place.step ≡ place = place_is q legal at in
    subst (λ (x : PassPlace). Makes names p P q (x ∷ ls)) is
    (make {q = q} (needless-is names q is ∙ f)
    (subst
    (λ (x : PassPlace). Makes names p P (move_on x (length names) (wrote (round_at x (get_or names q.place.index 0) q.place.value) q) (answer_for p x q.place.value)) ls)
    (sym is) m))

-- a needless write is passed over
passes-here :
    {names : List ℕ} {p : ℕ} {P : Position → Type 0} {q : Position} {place : PassPlace} {ls : List PassPlace} →
    LegalPlace place → q.place.step ≡ step_of place → needless_at place (get_or names q.place.index 0) q ≡ true →
    Makes names p P (at_step (suc q.place.step) q) ls → Makes names p P q ls
passes-here {names} {q = q} legal at t m = skip {q = q} (needless-is names q (place_is q legal at) ∙ t) m

-- the next step is that of the next place
on : {place : PassPlace} {step : ℕ} → Inner place → step ≡ step_of place → suc step ≡ step_of (after_place place)
on i at = ap suc at ∙ sym (step_after i)

-- ---- the comparisons of the bits

-- whether the comparison of bit b writes the high half, and the low one
high_made : ℕ → ℕ → Bool
high_made b p = not (eqb (attempt b p / half) (last_try (suc b) p / half))

low_made : ℕ → ℕ → Bool
low_made b p = not (eqb (attempt b p % half) (last_try (suc b) p % half))

-- while bits 63 to 32 are asked for the high half alone, after that the low half alone, and at bit 31 the high one too if bit 32 is 0
upper_made : (b p : ℕ) → b < bits → 32 ≤ b → (high_made b p ≡ true) × (low_made b p ≡ false)
unfolding high_made low_made
upper_made b p small upper = (rw (ne_eqb _ _ (upper_high b p small upper)), rw (eq-eqb _ _ (upper_low b p small upper)))

lower_made : (b p : ℕ) → b < bits → b < 31 → (high_made b p ≡ false) × (low_made b p ≡ true)
unfolding high_made low_made
lower_made b p small lower = (rw (eq-eqb _ _ (lower_high b p small lower)), rw (ne_eqb _ _ (lower_low b p small lower)))

middle_made : (p : ℕ) → (high_made 31 p ≡ eqb (bit_clear 32 p) 1) × (low_made 31 p ≡ true)
unfolding high_made low_made
middle_made p = (
  by_case (eqb (attempt 31 p / half) (last_try 32 p / half))
      (λ t. rw (t, (middle_high p).0 (eqb-true _ _ t)))
      (λ n. rw (n, (middle_high p).1 (eqb-false _ _ n))),
  rw (ne_eqb _ _ (middle_low p)),
)

module _ (names : List ℕ) (p : ℕ) (P : Position → Type 0) (end index : ℕ) where
  -- from the place after bit b on, with b bits not yet asked for: the value so far and the halves last written
  abbrev From : ℕ → List PassPlace → Type 0
  From b ls =
      (step value rounds comparisons h l : ℕ) → step ≡ step_of (after_bit b) → value ≡ cleared b p → h ≡ last_try b p / half → l ≡ last_try b p % half →
      Makes names p P (position end index step value rounds comparisons h l) ls

  module _ (b : ℕ) (small : b < bits) (ls : List PassPlace) (rest : From b ls) where
    from-reply :
        (step value rounds comparisons h l : ℕ) → step ≡ step_of (ask (bit b) reply) → value ≡ cleared (suc b) p → h ≡ attempt b p / half →
        l ≡ attempt b p % half → Makes names p P (position end index step value rounds comparisons h l) (ask (bit b) reply ∷ ls)
    unfolding move_on onward wrote round_at answer_for is_first is_repeated both after_place
    from-reply step value rounds comparisons h l at so_far e f =
        makes-here (inner (at-ask reply (of_bit small))) at refl
        (rest (suc step) (cond (leb (tried (bit b) value) p) (tried (bit b) value) value) (suc rounds) (comparisons + 1) h l
        (on (at-ask reply (of_bit small)) at) (answered b p value so_far) (e ∙ ap (λ (n : ℕ). n / half) (sym (try_here b p small)))
        (f ∙ ap (λ (n : ℕ). n % half) (sym (try_here b p small))))

    from_low :
        (step value rounds comparisons h l : ℕ) → step ≡ step_of (ask (bit b) low) → value ≡ cleared (suc b) p → h ≡ attempt b p / half →
        l ≡ last_try (suc b) p % half →
        Makes names p P (position end index step value rounds comparisons h l) (if_made (low_made b p) (ask (bit b) low) ++ (ask (bit b) reply ∷ ls))
    unfolding move_on onward wrote round_at answer_for is_first is_repeated both after_place if_made at_step low_made
    from_low step value rounds comparisons h l at so_far e f =
        by_case (eqb (attempt b p % half) (last_try (suc b) p % half))
        (λ t.
        let same : attempt b p % half ≡ l = eqb-true _ _ t ∙ sym f in
        rw t
        (passes-here (inner (at-ask low (of_bit small))) at (eq-eqb _ _ (sent ∙ same))
        (from-reply (suc step) value rounds comparisons h l (on (at-ask low (of_bit small)) at) so_far e (sym same))))
        (λ n.
        rw n
        (makes-here (inner (at-ask low (of_bit small))) at (ne_eqb _ _ (λ z. eqb-false _ _ n (sym sent ∙ z ∙ f)))
        (from-reply (suc step) value (suc rounds) (comparisons + 0) h (tried (bit b) value % half) (on (at-ask low (of_bit small)) at) so_far e sent)))
      where
        sent : tried (bit b) value % half ≡ attempt b p % half
        sent = ap (λ (n : ℕ). n % half) (tries b p so_far)

    from-high : From (suc b) (if_made (high_made b p) (ask (bit b) high) ++ (if_made (low_made b p) (ask (bit b) low) ++ (ask (bit b) reply ∷ ls)))
    unfolding move_on onward wrote round_at answer_for is_first is_repeated both after_place after_bit if_made at_step high_made
    from-high step value rounds comparisons h l at so_far e f =
        by_case (eqb (attempt b p / half) (last_try (suc b) p / half))
        (λ t.
        let same : attempt b p / half ≡ h = eqb-true _ _ t ∙ sym e in
        rw t
        (passes-here (inner (at-ask high (of_bit small))) at (eq-eqb _ _ (sent ∙ same))
        (from_low (suc step) value rounds comparisons h l (on (at-ask high (of_bit small)) at) so_far (sym same) f)))
        (λ n.
        rw n
        (makes-here (inner (at-ask high (of_bit small))) at (ne_eqb _ _ (λ z. eqb-false _ _ n (sym sent ∙ z ∙ e)))
        (from_low (suc step) value (suc rounds) (comparisons + 0) (tried (bit b) value / half) l (on (at-ask high (of_bit small)) at) so_far sent f)))
      where
        sent : tried (bit b) value / half ≡ attempt b p / half
        sent = ap (λ (n : ℕ). n / half) (tries b p so_far)

  module _ (b : ℕ) (small : b < bits) (ls : List PassPlace) (rest : From b ls) where
    by_tests :
        (high? low? : Bool) → high_made b p ≡ high? → low_made b p ≡ low? →
        From (suc b) (if_made high? (ask (bit b) high) ++ (if_made low? (ask (bit b) low) ++ (ask (bit b) reply ∷ ls)))
    by_tests high? low? e f =
        subst (λ (t : Bool). From (suc b) (if_made t (ask (bit b) high) ++ (if_made low? (ask (bit b) low) ++ (ask (bit b) reply ∷ ls)))) e
        (subst (λ (t : Bool). From (suc b) (if_made (high_made b p) (ask (bit b) high) ++ (if_made t (ask (bit b) low) ++ (ask (bit b) reply ∷ ls)))) f
        (from-high b small ls rest))

  upper : (n : ℕ) (ls : List PassPlace) → n ≤ 32 → From 32 ls → From (32 + n) (upper_bits n ++ ls)
  unfolding upper_bits if_made
  upper zero ls h rest = rest
  upper (suc n) ls h rest =
      let tests = upper_made (32 + n) p (omega arith) (omega arith) in
      let same : suc (32 + n) ≡ 32 + suc n = omega arith in
      subst (λ (k : ℕ). From k (ask (bit (32 + n)) high ∷ ask (bit (32 + n)) reply ∷ (upper_bits n ++ ls))) same
      (by_tests (32 + n) (omega arith) (upper_bits n ++ ls) (upper n ls (omega arith) rest) true false tests.0 tests.1)

  lower : (n : ℕ) (ls : List PassPlace) → n ≤ 31 → From 0 ls → From n (lower_bits n ++ ls)
  unfolding lower_bits if_made
  lower zero ls h rest = rest
  lower (suc n) ls h rest =
      let tests = lower_made n p (omega arith) (omega arith) in
      by_tests n (omega arith) (lower_bits n ++ ls) (lower n ls (omega arith) rest) false true tests.0 tests.1

  middle : (ls : List PassPlace) → From 0 ls → From 32 (if_made (eqb (bit_clear 32 p) 1) (ask (bit 31) high) ++ (lower_bits 32 ++ ls))
  unfolding lower_bits if_made
  middle ls rest =
      let tests = middle_made p in
      by_tests 31 (omega arith) (lower_bits 31 ++ ls) (lower 31 ls (omega arith) rest) (eqb (bit_clear 32 p) 1) true tests.0 tests.1

  -- ---- the rounds that give the name

  module _
      (found : (value rounds comparisons h l : ℕ) → value ≡ p → h ≡ p / half → l ≡ p % half →
      P (position (end_at (length names) (suc index)) (suc index) 0 value rounds comparisons h l)) where
    from-baptize :
        (step value rounds comparisons h l : ℕ) → step ≡ step_of baptize → value ≡ p → h ≡ p / half → l ≡ p % half →
        Makes names p P (position end index step value rounds comparisons h l) (baptize ∷ [])
    unfolding move_on next_name wrote round_at answer_for is_first is_repeated both
    from-baptize step value rounds comparisons h l at is e f =
        makes-here at-baptize at refl (over (subst P (sym (stays names there poll-made)) (found value (suc rounds) comparisons h l is e f)))
      where
        there : Position
        there = position (end_at (length names) (suc index)) (suc index) 0 value (suc rounds) comparisons h l

        poll-made : is_needless names there ≡ false
        poll-made = unfold is_needless round_here round_at is_repeated place_of is_first both in refl

    from-give-low :
        (step value rounds comparisons h l : ℕ) → step ≡ step_of give_low → value ≡ p → h ≡ p / half → l ≡ last_try 0 p % half →
        Makes names p P (position end index step value rounds comparisons h l) (if_made (eqb (bit_clear 0 p) 1) give_low ++ (baptize ∷ []))
    unfolding move_on onward wrote round_at answer_for is_first is_repeated both if_made at_step
    from-give-low step value rounds comparisons h l at is e f =
        by_case (eqb (p % half) (last_try 0 p % half))
        (λ t.
        let same : p % half ≡ l = eqb-true _ _ t ∙ sym f in
        rw ((given-low p).0 (eqb-true _ _ t))
        (passes-here (inner at_low) at (eq-eqb _ _ (sent ∙ same))
        (from-baptize (suc step) value rounds comparisons h l (ap suc at ∙ sym (step_after at_low) ∙ unfold after_place in refl) is e (sym same))))
        (λ n.
        rw ((given-low p).1 (eqb-false _ _ n))
        (makes-here (inner at_low) at (ne_eqb _ _ (λ z. eqb-false _ _ n (sym sent ∙ z ∙ f)))
        (from-baptize (suc step) value (suc rounds) (comparisons + 0) h (value % half) (ap suc at ∙ sym (step_after at_low) ∙ unfold after_place in refl) is e
        sent)))
      where
        sent : value % half ≡ p % half
        sent = ap (λ (n : ℕ). n % half) is

    from-name : From 0 ((give_name ∷ if_made (eqb (bit_clear 0 p) 1) give_low) ++ (baptize ∷ []))
    unfolding move_on onward wrote round_at answer_for is_first is_repeated both after_place after_bit at_step
    from-name step value rounds comparisons h l at so_far e f =
        let is : value ≡ p = so_far ∙ cleared_none p in
        let same : value / half ≡ h = ap (λ (n : ℕ). n / half) is ∙ given-high p ∙ sym e in
        makes-here (inner at_name) at refl
        (passes-here (inner at_high) (on at_name at) (eq-eqb _ _ same)
        (from-give-low (suc (suc step)) value (suc rounds) (comparisons + 0) h l (on at_high (on at_name at)) is (e ∙ sym (given-high p)) f))

    -- ---- the poll and the comparison with 0

    module _ (small : p < 2 ^ bits) where
      after-least : From bits (upper_bits 32 ++ (if_made (eqb (bit_clear 32 p) 1) (ask (bit 31) high) ++ (lower_bits 32 ++ ((give_name ∷ if_made (eqb (bit_clear 0 p) 1) give_low) ++ (baptize ∷ [])))))
      after-least = upper 32 _ (omega arith) (middle _ from-name)

      from-least :
          (ls : List PassPlace) → From bits ls → (step value rounds comparisons h l : ℕ) → step ≡ step_of (ask least reply) → h ≡ 0 → l ≡ 0 →
          Makes names p P (position end index step value rounds comparisons h l) (ask least reply ∷ ls)
      unfolding move_on onward wrote round_at answer_for is_first is_repeated both after_place tried
      from-least ls rest step value rounds comparisons h l at e f =
          makes-here (inner (at-ask reply of_least)) at refl
          (rw (le-leb 0 p (omega arith))
          (rest (suc step) 0 (suc rounds) (comparisons + 1) h l (on (at-ask reply of_least) at ∙ unfold after_bit in refl) (sym (cleared_all p small))
          (e ∙ unfold last_try in refl) (f ∙ unfold last_try in refl)))

      pub from-poll : (value rounds comparisons h l : ℕ) → Makes names p P (position end index 0 value rounds comparisons h l) (pass_for p)
      unfolding pass_for pass_rounds move_on onward wrote round_at answer_for is_first is_repeated both step_of question_number part_number tried
      from-poll value rounds comparisons h l =
          makes-here (inner at-poll) refl refl
          (makes-here (inner (at-ask high of_least)) refl refl
          (makes-here (inner (at-ask low of_least)) refl refl
          (from-least _ after-least 3 value (suc (suc (suc rounds))) (comparisons + 0 + 0 + 0) 0 0 refl refl refl)))

-- ---- rounds and comparisons made

executes : (l : PassPlace) (ls : List PassPlace) → executes_in (l ∷ ls) ≡ executes_in (l ∷ []) + executes_in ls
unfolding executes_in
executes poll ls = omega arith
executes (ask q high) ls = omega arith
executes (ask q low) ls = omega arith
executes (ask q reply) ls = omega arith
executes give_name ls = omega arith
executes give_high ls = omega arith
executes give_low ls = omega arith
executes baptize ls = omega arith

-- how a position moves on, both counted
record Counted (q r : Position) (l : PassPlace) : Type 0 where
  rounds : r.counts.rounds ≡ suc q.counts.rounds
  comparisons : r.counts.comparisons ≡ q.counts.comparisons + executes_in (l ∷ [])

moved-counted : (l : PassPlace) (count : ℕ) (q : Position) (answered : Bool) → Counted q (move_on l count q answered) l
unfolding move_on next_name onward end_all_named executes_in
moved-counted poll count q true = record { rounds = refl; comparisons = omega arith }
moved-counted poll count q false = record { rounds = refl; comparisons = omega arith }
moved-counted (ask q' high) count q answered = record { rounds = refl; comparisons = omega arith }
moved-counted (ask q' low) count q answered = record { rounds = refl; comparisons = omega arith }
moved-counted (ask least reply) count q true = record { rounds = refl; comparisons = omega arith }
moved-counted (ask least reply) count q false = record { rounds = refl; comparisons = omega arith }
moved-counted (ask (bit b) reply) count q answered = record { rounds = refl; comparisons = omega arith }
moved-counted give_name count q answered = record { rounds = refl; comparisons = omega arith }
moved-counted give_high count q answered = record { rounds = refl; comparisons = omega arith }
moved-counted give_low count q answered = record { rounds = refl; comparisons = omega arith }
moved-counted baptize count q answered = record { rounds = refl; comparisons = omega arith }

wrote-counts : (o : RunRound) (q : Position) → ((wrote o q).counts.rounds ≡ q.counts.rounds) × ((wrote o q).counts.comparisons ≡ q.counts.comparisons)
unfolding wrote
wrote-counts o q =
    each-wrote (λ (r : Position). (r.counts.rounds ≡ q.counts.rounds) × (r.counts.comparisons ≡ q.counts.comparisons)) q (refl, refl)
    (λ h. (refl, refl)) (λ l. (refl, refl)) o

step-counted : (names : List ℕ) (p : ℕ) (q : Position) → 0 < q.counts.rounds → Counted q (after_step names p q) (place_made names q)
unfolding after_step advance pass_advance place_made
step-counted names p q c =
    let r = onto names q in
    let written = wrote (round_here names r) r in
    let moved = moved-counted (place_of r.place.step) (length names) written (answer_for p (place_of r.place.step) r.place.value) in
    let first = onto-counts names q in
    let second = wrote-counts (round_here names r) r in
    let third = onto-counts names (move_on (place_of r.place.step) (length names) written (answer_for p (place_of r.place.step) r.place.value)) in
    rw (some-counted q c)
    (record {
      rounds = third.0 ∙ moved.rounds ∙ ap suc (second.0 ∙ first.0);
      comparisons = third.1 ∙ moved.comparisons ∙ ap (λ (n : ℕ). n + executes_in (place_of r.place.step ∷ [])) (second.1 ∙ first.1);
    })

-- a step leaves a round counted
step_leaves : (names : List ℕ) (p : ℕ) (q : Position) → 0 < q.counts.rounds → 0 < (after_step names p q).counts.rounds
step_leaves names p q c = omega (arith, (step-counted names p q c).rounds)

steps-rounds : (names : List ℕ) (p n : ℕ) (q : Position) → 0 < q.counts.rounds → (after_steps names p n q).counts.rounds ≡ q.counts.rounds + n
unfolding after_steps
steps-rounds names p zero q c = omega arith
steps-rounds names p (suc n) q c =
    omega (arith, steps-rounds names p n (after_step names p q) (step_leaves names p q c), (step-counted names p q c).rounds)

steps-comparisons : (names : List ℕ) (p n : ℕ) (q : Position) → 0 < q.counts.rounds → (after_steps names p n q).counts.comparisons ≡ q.counts.comparisons + executes_in (places_made names p n q)
unfolding after_steps places_made
steps-comparisons names p zero q c = unfold executes_in in omega arith
steps-comparisons names p (suc n) q c =
    let first = executes (place_made names q) (places_made names p n (after_step names p q)) in
    omega (arith, steps-comparisons names p n (after_step names p q) (step_leaves names p q c), (step-counted names p q c).comparisons)

-- ---- the pass

-- the next name's step 0, with p as the value found
record Reached (names : List ℕ) (p index : ℕ) (q : Position) : Type 0 where
  end : q.end ≡ end_at (length names) (suc index)
  next : q.place.index ≡ suc index
  first : q.place.step ≡ 0
  value : q.place.value ≡ p
  high : q.halves.high ≡ p / half
  low : q.halves.low ≡ p % half

same-position : (q : Position) {end index step value rounds comparisons h l : ℕ} → q.end ≡ end → q.place.index ≡ index → q.place.step ≡ step → q.place.value ≡ value →
    q.counts.rounds ≡ rounds → q.counts.comparisons ≡ comparisons → q.halves.high ≡ h → q.halves.low ≡ l → q ≡ position end index step value rounds comparisons h l
same-position q a b c d e f g h = rw (← a, ← b, ← c, ← d, ← e, ← f, ← g, ← h)

pub passes_made : PassesMade
passes_made names p q small some at = record { places = makes-places some all; after = after }
  where
    start : q ≡ position q.end q.place.index 0 q.place.value q.counts.rounds q.counts.comparisons q.halves.high q.halves.low
    start = same-position q refl refl at refl refl refl refl refl

    all : Makes names p (Reached names p q.place.index) q (pass_for p)
    all =
        subst (λ (r : Position). Makes names p (Reached names p q.place.index) r (pass_for p)) (sym start)
        (from-poll names p (Reached names p q.place.index) q.end q.place.index
        (λ value rounds comparisons h l is e f. record { end = refl; next = refl; first = refl; value = is; high = e; low = f })
        small q.place.value q.counts.rounds q.counts.comparisons q.halves.high q.halves.low)

    settled : onto names q ≡ q
    settled = stays names q (needless-is names q (ap place_of at) ∙ unfold place_of is_first is_repeated round_at both in refl)

    reached : Reached names p q.place.index (after_steps names p (length (pass_for p)) q)
    reached = subst (λ (r : Position). Reached names p q.place.index (after_steps names p (length (pass_for p)) r)) settled (makes-after some all)

    counted : (after_steps names p (length (pass_for p)) q).counts.comparisons ≡ q.counts.comparisons + naming_comparisons
    counted =
        steps-comparisons names p (length (pass_for p)) q some
        ∙ ap (λ (ls : List PassPlace). q.counts.comparisons + executes_in ls) (makes-places some all)
        ∙ ap (λ (n : ℕ). q.counts.comparisons + n) (unfold pass_for in all_executed (eqb (bit_clear 32 p) 1) (eqb (bit_clear 0 p) 1))

    after :
        after_steps names p (length (pass_for p)) q ≡
        position (end_at (length names) (suc q.place.index)) (suc q.place.index) 0 p (q.counts.rounds + length (pass_for p)) (q.counts.comparisons + naming_comparisons) (p / half) (p % half)
    after =
        same-position (after_steps names p (length (pass_for p)) q) reached.end reached.next reached.first reached.value
        (steps-rounds names p (length (pass_for p)) q some) counted reached.high reached.low
