-- Laws of the code's entries against those of the rules, one for each way through the functions on them.
-- Assumes nothing.
use Prim.Native.Nat.{ℕ, suc, ◌+◌, ◌*◌, ◌-◌, ◌/◌, ◌%◌, ◌≤◌, ◌<◌}
use native.Mathlib.Omega.{arith}
use mathlib.Core.Path.{◌≡◌, refl, sym, ap, ◌∙◌}
use mathlib.Core.Bool.{Bool, true, false, not}
use lib.Dec.{ltb, eqb}
use borrow.Author.Tests.{le-ltb, le-leb, lt-leb, leb-false, ltb-true, ltb-false, eqb-true, eqb-false, eq-eqb, ne_eqb}
use Rattle.file.specs.Rules.Order.{both, either}
use Rattle.file.proofs.Order.{by_case, clash, both_right, both_true, both_false_left, both_false_right, both-next, either_right, either_false}
use Rattle.multipartner.specs.Rules.Entries.{Entry, is_multiplexed, receives, sends, ends, covers, in_turn, eligible}
use Rattle.multipartner.specs.Inner.EntryForm.{code_of, entry_from, Action, ending, sending, receiving, resting, action_by}
use Rattle.multipartner.specs.declared.entry.Entry as Code

-- ---- the operation of a code

-- a number that is not k, and not below it, is above it
pub above : (k : ℕ) {n : ℕ} → k ≤ n → (n ≡ k → ⊥) → suc k ≤ n
above k {n} low other = by_case (ltb k n) (λ e. ltb-true k n e) (λ e. absurd (other (omega (arith, ltb-false k n e))))

-- ---- what an operation makes a slave do

unfoldable pub is_sending : Action → Bool
is_sending ending = false
is_sending sending = true
is_sending receiving = false
is_sending resting = false

unfoldable pub is_receiving : Action → Bool
is_receiving ending = false
is_receiving sending = false
is_receiving receiving = true
is_receiving resting = false

-- ---- whose turn it is

-- an operation that is not multiplexed is always in turn
pub plain_turn : (epoch operation multiplex : ℕ) → is_multiplexed operation ≡ false → in_turn epoch operation multiplex ≡ true
unfolding in_turn is_multiplexed either
plain_turn epoch operation multiplex plain =
    rw (other 8 (omega arith), other 9 (omega arith), other 12 (omega arith), other 13 (omega arith), other 10 (omega arith), other 11 (omega arith), other 14 (omega arith), other 15 (omega arith))
  where
    other : (k : ℕ) → 8 ≤ k → eqb operation k ≡ false
    other k l = ne_eqb operation k (λ e. omega (arith, leb-false 8 operation plain))

-- a law of the multiplexed operations, one by one
by_operation : (P : ℕ → Type 0) (n : ℕ) → 8 ≤ n → n < 16 → P 8 → P 9 → P 10 → P 11 → P 12 → P 13 → P 14 → P 15 → P n
by_operation P n low high p₈ p₉ p₁₀ p₁₁ p₁₂ p₁₃ p₁₄ p₁₅ =
    by_case (eqb n 8) (λ e. rw (eqb-true n 8 e) p₈) (λ e₈.
    by_case (eqb n 9) (λ e. rw (eqb-true n 9 e) p₉) (λ e₉.
    by_case (eqb n 10) (λ e. rw (eqb-true n 10 e) p₁₀) (λ e₁₀.
    by_case (eqb n 11) (λ e. rw (eqb-true n 11 e) p₁₁) (λ e₁₁.
    by_case (eqb n 12) (λ e. rw (eqb-true n 12 e) p₁₂) (λ e₁₂.
    by_case (eqb n 13) (λ e. rw (eqb-true n 13 e) p₁₃) (λ e₁₃.
    by_case (eqb n 14) (λ e. rw (eqb-true n 14 e) p₁₄) (λ e₁₄.
    let beyond = above 10 (above 9 (above 8 low (eqb-false n 8 e₈)) (eqb-false n 9 e₉)) (eqb-false n 10 e₁₀) in
    let last = above 14 (above 13 (above 12 (above 11 beyond (eqb-false n 11 e₁₁)) (eqb-false n 12 e₁₂)) (eqb-false n 13 e₁₃)) (eqb-false n 14 e₁₄) in
    rw (fifteen last) p₁₅)))))))
  where
    fifteen : 15 ≤ n → n ≡ 15
    fifteen l = omega (arith, high)

-- two tests on numbers agree
eqb_same : (a b c d : ℕ) → (a ≡ b → c ≡ d) → (c ≡ d → a ≡ b) → eqb a b ≡ eqb c d
eqb_same a b c d there back =
    by_case (eqb a b)
    (λ e. e ∙ sym (eq-eqb c d (there (eqb-true a b e))))
    (λ e. e ∙ sym (ne_eqb c d (λ q. eqb-false a b e (back q))))

-- the turn of an entry of kind k and multiplex field m, by their bits
pub turn_plain : (epoch k m : ℕ) → k < 128 → true ≡ in_turn epoch (k / 16) m
turn_plain epoch k m low = sym (plain_turn epoch (k / 16) m (unfold is_multiplexed in lt-leb 8 (k / 16) (omega arith)))

module _ (epoch k m : ℕ) (high : 128 ≤ k) (byte : k < 256) (field : m < 4) where
  abbrev Turn : ℕ → Bool → Type 0
  Turn n t = n ≡ k / 16 → t ≡ in_turn epoch n m

  by_kind : (t : Bool) → Turn 8 t → Turn 9 t → Turn 10 t → Turn 11 t → Turn 12 t → Turn 13 t → Turn 14 t → Turn 15 t → t ≡ in_turn epoch (k / 16) m
  by_kind t p₈ p₉ p₁₀ p₁₁ p₁₂ p₁₃ p₁₄ p₁₅ =
      by_operation (λ (n : ℕ). Turn n t) (k / 16) (omega arith) (omega arith) p₈ p₉ p₁₀ p₁₁ p₁₂ p₁₃ p₁₄ p₁₅ refl

  pub turn-other : (m ≡ epoch % 4 → ⊥) → false ≡ in_turn epoch (k / 16) m
  unfolding in_turn either
  turn-other other = by_kind false (λ q. fourth) (λ q. fourth) (λ q. low) (λ q. low) (λ q. fourth) (λ q. fourth) (λ q. upper) (λ q. upper)
    where
      fourth : false ≡ eqb m (epoch % 4)
      fourth = sym (ne_eqb m (epoch % 4) other)

      low : false ≡ eqb m (epoch % 8)
      low = sym (ne_eqb m (epoch % 8) (λ e. other (omega arith)))

      upper : false ≡ eqb (m + 4) (epoch % 8)
      upper = sym (ne_eqb (m + 4) (epoch % 8) (λ e. other (omega arith)))

  module _ (is : m ≡ epoch % 4) where
    pub turn_fourth : k / 32 % 2 ≡ 0 → true ≡ in_turn epoch (k / 16) m
    unfolding in_turn either
    turn_fourth four =
        by_kind true (λ q. here) (λ q. here) (λ q. absurd (omega arith)) (λ q. absurd (omega arith)) (λ q. here) (λ q. here) (λ q. absurd (omega arith)) (λ q. absurd (omega arith))
      where
        here : true ≡ eqb m (epoch % 4)
        here = sym (eq-eqb m (epoch % 4) is)

    pub turn_eighth : (k / 32 % 2 ≡ 0 → ⊥) → eqb (epoch / 4 % 2) (k / 64 % 2) ≡ in_turn epoch (k / 16) m
    unfolding in_turn either
    turn_eighth eight =
        by_kind (eqb (epoch / 4 % 2) (k / 64 % 2)) (λ q. absurd (eight (omega arith))) (λ q. absurd (eight (omega arith))) (low (omega arith) (omega arith))
        (low (omega arith) (omega arith)) (λ q. absurd (eight (omega arith))) (λ q. absurd (eight (omega arith))) (upper (omega arith)) (upper (omega arith))
      where
        halves : epoch % 8 ≡ epoch % 4 + 4 * (epoch / 4 % 2)
        halves = omega arith

        low : {n : ℕ} → 10 ≤ n → n < 12 → n ≡ k / 16 → eqb (epoch / 4 % 2) (k / 64 % 2) ≡ eqb m (epoch % 8)
        low {n} l h q =
            let first : k / 64 % 2 ≡ 0 = omega arith in
            rw first (eqb_same (epoch / 4 % 2) 0 m (epoch % 8) (λ e. omega (arith, halves)) (λ e. omega (arith, halves)))

        upper : {n : ℕ} → 14 ≤ n → n ≡ k / 16 → eqb (epoch / 4 % 2) (k / 64 % 2) ≡ eqb (m + 4) (epoch % 8)
        upper {n} l q =
            let second : k / 64 % 2 ≡ 1 = omega arith in
            rw second (eqb_same (epoch / 4 % 2) 1 (m + 4) (epoch % 8) (λ e. omega (arith, halves)) (λ e. omega (arith, halves)))

-- ---- the entries that may act in a slot

pub eligible-covers : (passed : Entry → Bool) (e : Entry) (slot : ℕ) → covers e slot ≡ false → eligible passed e slot ≡ false
unfolding eligible
eligible-covers passed e slot out = both_false_left _ out

-- ---- the entries that no slot to come needs

module _ (passed : Entry → Bool) (e : Entry) (slot : ℕ) (begun : e.start ≤ slot) where
  -- one that has begun and does not act never will
  pub never_again : eligible passed e slot ≡ false → (later : ℕ) → slot ≤ later → eligible passed e later ≡ false
  unfolding eligible covers
  never_again rests later l =
      by_case (ltb slot (e.start + e.length))
      (λ t. both_false_right _ (both_false_rest (both_true (le-leb e.start slot begun) t) rests))
      (λ t. both_false_left _ (both_false_right _ (le-ltb later (e.start + e.length) (omega (arith, ltb-false slot (e.start + e.length) t)))))
    where
      both_false_rest : {a b : Bool} → a ≡ true → both a b ≡ false → b ≡ false
      both_false_rest {a} {b} holds fails = sym (both-next b holds) ∙ fails

  -- nor does one past its last slot
  pub past_last : slot - e.start + 1 ≡ e.length → (later : ℕ) → slot + 1 ≤ later → eligible passed e later ≡ false
  past_last last later l =
      eligible-covers passed e later (unfold covers in both_false_right _ (le-ltb later (e.start + e.length) (omega arith)))

-- ---- who sends and who receives

-- an end neither sends nor receives; who sends has an odd operation, who receives an even one
pub ends-idle : (n : ℕ) → ends n ≡ true → (sends n ≡ false) × (receives n ≡ false)
unfolding sends receives ends is_multiplexed either both
ends-idle n t =
    by_case (eqb n 6)
    (λ q. rw (eqb-true n 6 q) (refl, refl))
    (λ q. by_case (eqb n 7) (λ p. rw (eqb-true n 7 p) (refl, refl)) (λ p. clash t (either_false q p)))

pub sends_odd : (n : ℕ) → sends n ≡ true → n % 2 ≡ 1
unfolding sends either
sends_odd n t =
    by_case (eqb n 1)
    (λ q. rw (eqb-true n 1 q))
    (λ q.
    by_case (eqb n 5)
    (λ p. rw (eqb-true n 5 p))
    (λ p. eqb-true (n % 2) 1 (both_right (is_multiplexed n) _ (rw (q, p) at t))))

pub receives-even : (n : ℕ) → receives n ≡ true → n % 2 ≡ 0
unfolding receives either
receives-even n t =
    by_case (eqb n 0)
    (λ q. rw (eqb-true n 0 q))
    (λ q.
    by_case (eqb n 2)
    (λ p. rw (eqb-true n 2 p))
    (λ p.
    by_case (eqb n 4)
    (λ r. rw (eqb-true n 4 r))
    (λ r. eqb-true (n % 2) 0 (both_right (is_multiplexed n) _ (rw (q, p, r) at t)))))

sends_goes_on : (n : ℕ) → sends n ≡ true → ends n ≡ false
sends_goes_on n t = by_case (ends n) (λ e. clash t (ends-idle n e).0) (λ e. e)

receives_silent : (n : ℕ) → receives n ≡ true → (ends n ≡ false) × (sends n ≡ false)
receives_silent n t = (
  by_case (ends n) (λ e. clash t (ends-idle n e).1) (λ e. e),
  by_case (sends n) (λ e. absurd (omega (arith, sends_odd n e, receives-even n t))) (λ e. e),
)

pub sends_deaf : (n : ℕ) → sends n ≡ true → receives n ≡ false
sends_deaf n t = by_case (receives n) (λ e. absurd (omega (arith, sends_odd n t, receives-even n e))) (λ e. e)

-- a multiplexed operation sends or receives
pub multiplexed_either : (n : ℕ) → is_multiplexed n ≡ true → receives n ≡ not (sends n)
multiplexed_either n t =
    by_case (eqb (n % 2) 1)
    (λ e. silent (eqb-true (n % 2) 1 e) ∙ ap not (sym (odd e)))
    (λ e. even (eqb-false (n % 2) 1 e) ∙ ap not (sym (quiet (eqb-false (n % 2) 1 e))))
  where
    odd : eqb (n % 2) 1 ≡ true → sends n ≡ true
    odd e = unfold sends in either_right _ (either_right _ (both_true t e))

    silent : n % 2 ≡ 1 → receives n ≡ false
    silent e = by_case (receives n) (λ r. absurd (omega (arith, receives-even n r))) (λ r. r)

    even : (n % 2 ≡ 1 → ⊥) → receives n ≡ true
    even e = unfold receives in either_right _ (either_right _ (either_right _ (both_true t (eq-eqb (n % 2) 0 (omega arith)))))

    quiet : (n % 2 ≡ 1 → ⊥) → sends n ≡ false
    quiet e = by_case (sends n) (λ r. absurd (e (sends_odd n r))) (λ r. r)

pub sends_action : (operation : ℕ) → sends operation ≡ is_sending (action_by operation)
unfolding action_by is_sending
sends_action n =
    by_case (sends n)
    (λ e. rw (e, sends_goes_on n e))
    (λ e. rw e (by_case (ends n) (λ q. rw q) (λ q. rw q (by_case (receives n) (λ r. rw r) (λ r. rw r)))))

pub receives_action : (operation : ℕ) → receives operation ≡ is_receiving (action_by operation)
unfolding action_by is_receiving
receives_action n =
    by_case (receives n)
    (λ e. let no = receives_silent n e in rw (e, no.0, no.1))
    (λ e. rw e (by_case (ends n) (λ q. rw q) (λ q. rw q (by_case (sends n) (λ r. rw r) (λ r. rw r)))))

-- what an operation's action says of it
pub record Does (e : Code.Entry) (is : Action) : Type 0 where
  pub send : sends (entry_from e).operation ≡ is_sending is
  pub receive : receives (entry_from e).operation ≡ is_receiving is

pub does : (e : Code.Entry) {t : Action} (u : Action) → t ≡ action_by (code_of e.operation) → t ≡ u → Does e u
unfolding entry_from
does e u is q =
    record {
      send = sends_action (code_of e.operation) ∙ ap is_sending (sym is ∙ q);
      receive = receives_action (code_of e.operation) ∙ ap is_receiving (sym is ∙ q);
    }
