-- Who is due is the next waiting screen after the one last served, nobody exactly where none waits.
-- Assumes nothing.
use Rattle.std.proofs.Common.{ℕ, zero, suc, ◌+◌, ◌*◌, ◌%◌, ◌≤◌, ◌<◌, ◌≡◌, refl, ap, ◌∙◌, subst, List, true, false, arith, get_or, eqb, ltb, eqb-true, ltb-true, ltb-false}
use lib.ListN.{get_or-replicate}
use borrow.Author.Tests.{eqb-false}
use Rattle.file.proofs.Order.{by_case, clash}
use Rattle.screens.specs.Rules.Screens.{last_served, place_of, is_waiting, fresh, Due, nobody, screen, next_screen, due_from, due}
use Rattle.screens.specs.Claims.Turns.{away, NextWaiting, NoneWaiting, DueIsNext, StartsAtZero}
use Rattle.screens.proofs.StateLaws.{next-is, first-away, next-away}

-- ---- the cyclic order

same-away : (last i j : ℕ) → last < 8 → i < 8 → j < 8 → away last i ≡ away last j → i ≡ j
same-away last i j h a b e = omega (arith, e)

few-away : (last i : ℕ) → away last i < 8
few-away last i = omega arith

-- ---- what the search says: the first that waits of the n screens after the one last served, or that none of them does

pub data Found (state : List ℕ) (last n : ℕ) : Due → Type 0 where
  found :
      {j : ℕ} → j < 8 → is_waiting state j ≡ true → ((k : ℕ) → k < 8 → away last k < away last j → is_waiting state k ≡ false) →
      Found state last n (screen j)
  none : ((k : ℕ) → k < 8 → away last k < n → is_waiting state k ≡ false) → Found state last n nobody

-- one screen farther, which does not wait
module _ {state : List ℕ} {last x n : ℕ} (h : last < 8) (e : x ≡ (last + 1) % 8) (t : is_waiting state x ≡ false) where
  farther : {d : Due} → Found state x n d → Found state last (suc n) d
  farther (found {j = j} few w first) =
      let other : j ≡ x → ⊥ = λ q. clash w (rw (← q) at t) in
      found few w
      (λ k b l.
      by_case (eqb k x)
      (λ q. rw (eqb-true k x q) t)
      (λ q. first k b (omega (arith, l, next-away last x k h b e (eqb-false k x q), next-away last x j h few e other))))
  farther (none away') =
      none
      (λ k b l.
      by_case (eqb k x)
      (λ q. rw (eqb-true k x q) t)
      (λ q. away' k b (omega (arith, l, next-away last x k h b e (eqb-false k x q)))))

found_from : (state : List ℕ) (last n : ℕ) → last < 8 → Found state last n (due_from state last n)
unfolding due_from
found_from state last zero h = none (λ k b l. absurd (omega (arith, l)))
found_from state last (suc n) h =
    let is : next_screen last ≡ (last + 1) % 8 = next-is last in
    let few : next_screen last < 8 = omega (arith, is) in
    by_case (is_waiting state (next_screen last))
    (λ t.
    let z : away last (next_screen last) ≡ 0 = rw is (first-away last h) in
    rw t (found few t (λ k b l. absurd (omega (arith, l, z)))))
    (λ t. rw t (farther h is t (found_from state (next_screen last) n few)))

pub due_found : (state : List ℕ) → last_served state < 8 → Found state (last_served state) 8 (due state)
unfolding due
due_found state h = found_from state (last_served state) 8 h

-- ---- both ways

module _ {state : List ℕ} (h : last_served state < 8) where
  found_next : {i : ℕ} → Found state (last_served state) 8 (screen i) → NextWaiting state i
  found_next (found few w first) = record { few = few; waits = w; first = first }

  next_found : {d : Due} {i : ℕ} → Found state (last_served state) 8 d → NextWaiting state i → d ≡ screen i
  next_found {i = i} (found {j = j} few w first) next =
      by_case (ltb (away (last_served state) i) (away (last_served state) j))
      (λ t. clash next.waits (first i next.few (ltb-true _ _ t)))
      (λ t.
      by_case (ltb (away (last_served state) j) (away (last_served state) i))
      (λ u. clash w (next.first j few (ltb-true _ _ u)))
      (λ u.
      let no_less : away (last_served state) j ≤ away (last_served state) i = ltb-false _ _ t in
      let no_more : away (last_served state) i ≤ away (last_served state) j = ltb-false _ _ u in
      let same : away (last_served state) j ≡ away (last_served state) i = omega (arith, no_less, no_more) in
      ap screen (same-away (last_served state) j i h few next.few same)))
  next_found {i = i} (none away') next = clash next.waits (away' i next.few (few-away (last_served state) i))

  found_none : Found state (last_served state) 8 nobody → NoneWaiting state
  found_none (none away') = λ i b. away' i b (few-away (last_served state) i)

  none_found : {d : Due} → Found state (last_served state) 8 d → NoneWaiting state → d ≡ nobody
  none_found (found {j = j} few w first) nobody' = clash w (nobody' j few)
  none_found (none away') nobody' = refl

pub due-is-next : DueIsNext
due-is-next state h =
    let here = due_found state h in
    record {
      next = λ i. (λ e. found_next h (subst (Found state (last_served state) 8) e here), next_found h here);
      none = (λ e. found_none h (subst (Found state (last_served state) 8) e here), none_found h here);
    }

-- a screen that waits has one due that is no farther
pub data Near (last i : ℕ) : Due → Type 0 where
  near : {j : ℕ} → j < 8 → away last j ≤ away last i → Near last i (screen j)

found_near : {state : List ℕ} {last i : ℕ} {d : Due} → i < 8 → is_waiting state i ≡ true → Found state last 8 d → Near last i d
found_near {last = last} {i = i} few w (found {j = j} b waits first) =
    by_case (ltb (away last i) (away last j))
    (λ t. clash w (first i few (ltb-true _ _ t)))
    (λ t. near b (ltb-false _ _ t))
found_near {last = last} {i = i} few w (none away') = clash w (away' i few (few-away last i))

pub due_near : (state : List ℕ) (i : ℕ) → last_served state < 8 → i < 8 → is_waiting state i ≡ true → Near (last_served state) i (due state)
due_near state i h few w = found_near few w (due_found state h)

-- ---- the state at the start

fresh-byte : (i : ℕ) → i < 8 → get_or fresh (place_of i) 0 ≡ 0
unfolding fresh place_of
fresh-byte i few =
    let there : place_of i ≡ suc (4 * i) = omega arith in
    ap (λ (k : ℕ). get_or fresh k 0) there ∙ get_or-replicate {A = ℕ} 32 (4 * i) 0 0 (omega (arith, few))

pub starts-at_zero : StartsAtZero
unfolding fresh is_waiting last_served
starts-at_zero = (λ i few. rw (fresh-byte i few), λ i few. omega (arith, few))
