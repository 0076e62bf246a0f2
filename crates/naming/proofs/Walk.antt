-- A pass on its way: the rounds really made and the comparisons made when it comes to a place, by what is known of the two writes that
-- depend on the physical name; and the writes that are made or passed over on the way.
-- Assumes nothing.
use Rattle.std.proofs.Common.{ℕ, zero, suc, ◌+◌, ◌*◌, ◌-◌, ◌/◌, ◌%◌, min, ◌≤◌, ◌<◌, ◌≡◌, refl, ◌∙◌, List, [], ◌∷◌, arith, eqb, ltb, eqb-true, ltb-true, ltb-false}
use borrow.Author.Tests.{eqb-false}
use Rattle.file.proofs.Order.{by_case}
use Rattle.naming.specs.Rules.Pass.{PassPlace, poll, ask, give_name, give_high, give_low, baptize, least, bit, high, low, reply, bits}
use Rattle.naming.specs.Rules.RunRounds.{half}
use Rattle.naming.specs.Rules.Account.{bit_clear, high_again, naming_rounds, comparisons_after}
use Rattle.naming.proofs.PassCount.{counted-after}
use Rattle.naming.proofs.Places.{of_least, of_bit, Inner, LegalPlace, inner, at-poll, at-ask, at_name, at_high, at_low, at-baptize, after_bit, after_place, comparing}
use Rattle.naming.proofs.Tries.{attempt, last_try, upper_low, upper_high, lower_high, lower_low, middle_high, middle_low, given-low}

-- ---- rounds and comparisons

-- e is 1 if the high half is written again at bit 31, z if the low half is written again before baptizing
unfoldable pub past : PassPlace → ℕ → ℕ → ℕ
past poll e z = 0
past (ask least high) e z = 1
past (ask least low) e z = 2
past (ask least reply) e z = 3
past (ask (bit b) high) e z = 4 + 2 * (63 - b) + min e (1 - b / 31)
past (ask (bit b) low) e z = 4 + 2 * (63 - b) + min 1 (b / 32) + min e (1 - b / 32)
past (ask (bit b) reply) e z = 5 + 2 * (63 - b) + min e (1 - b / 32)
past give_name e z = 132 + e
past give_high e z = 133 + e
past give_low e z = 133 + e
past baptize e z = 133 + e + z

unfoldable pub compared : PassPlace → ℕ
compared poll = 0
compared (ask least r) = 0
compared (ask (bit b) r) = 64 - b
compared give_name = 65
compared give_high = 65
compared give_low = 65
compared baptize = 65

pub compared-most : (l : PassPlace) → compared l ≤ 65
unfolding compared
compared-most poll = omega arith
compared-most (ask least r) = omega arith
compared-most (ask (bit b) r) = omega arith
compared-most give_name = omega arith
compared-most give_high = omega arith
compared-most give_low = omega arith
compared-most baptize = omega arith

compared-bit : (b : ℕ) → b < bits → compared (after_bit b) ≡ suc (64 - b)
unfolding compared after_bit
compared-bit zero h = refl
compared-bit (suc b) h = omega arith

pub compared-after : {l : PassPlace} → Inner l → compared (after_place l) ≡ compared l + comparing l
unfolding compared after_place comparing
compared-after at-poll = refl
compared-after (at-ask high of_least) = refl
compared-after (at-ask high (of_bit h)) = omega arith
compared-after (at-ask low of_least) = refl
compared-after (at-ask low (of_bit h)) = omega arith
compared-after (at-ask reply of_least) = refl
compared-after (at-ask reply (of_bit {b = b} h)) = compared-bit b h ∙ omega arith
compared-after at_name = refl
compared-after at_high = refl
compared-after at_low = refl

module _ (e z : ℕ) (one : e ≤ 1) (single : z ≤ 1) where
  past_bit : (b : ℕ) → b < bits → past (after_bit b) e z ≡ suc (past (ask (bit b) reply) e z)
  unfolding past after_bit
  past_bit zero h = omega arith
  past_bit (suc b) h = omega arith

  -- the comparisons that the account counts are those made
  count_upper : (c k : ℕ) → c ≤ 31 → 4 + 2 * c ≤ k → k ≤ 5 + 2 * c → comparisons_after e k ≡ 1 + c
  count_upper c k h l m =
      let first : min k 68 ≡ k = omega arith in
      let made : (k - 2) / 2 ≡ 1 + c = omega arith in
      let later : (k - 68 - e) / 2 ≡ 0 = omega arith in
      counted-after e k ∙ rw (first, made, later) (omega arith)

  count_middle : comparisons_after e 68 ≡ 33
  count_middle = counted-after e 68 ∙ omega arith

  count_lower : (c k : ℕ) → c ≤ 31 → 68 + e + 2 * c ≤ k → k ≤ 69 + e + 2 * c → comparisons_after e k ≡ 33 + c
  count_lower c k h l m =
      let first : min k 68 ≡ 68 = omega arith in
      let later : (k - 68 - e) / 2 ≡ c = omega arith in
      counted-after e k ∙ rw (first, later) (omega arith)

  lower_bit : (b c k : ℕ) → b + c ≡ 31 → 4 + 2 * (63 - b) + e ≤ k → k ≤ 5 + 2 * (63 - b) + e → comparisons_after e k ≡ 64 - b
  lower_bit b c k is l m =
      let d : 63 - b ≡ 32 + c = omega arith in
      let least : 4 + 2 * (32 + c) + e ≤ k = rw d at l in
      let most : k ≤ 5 + 2 * (32 + c) + e = rw d at m in
      count_lower c k (omega arith) (omega arith) (omega arith) ∙ omega arith

  middle_bit : (k : ℕ) → 68 ≤ k → k ≤ 69 + e → comparisons_after e k ≡ 33
  middle_bit k l m =
      by_case (eqb k 68)
      (λ t. rw (eqb-true k 68 t) count_middle)
      (λ f. let n = eqb-false k 68 f in count_lower 0 k (omega arith) (omega arith) (omega arith))

  upper_bit : (b c k : ℕ) → b + c ≡ 63 → c ≤ 31 → 4 + 2 * (63 - b) ≤ k → k ≤ 5 + 2 * (63 - b) → comparisons_after e k ≡ 64 - b
  upper_bit b c k is small l m =
      let d : 63 - b ≡ c = omega arith in
      let least : 4 + 2 * c ≤ k = rw d at l in
      let most : k ≤ 5 + 2 * c = rw d at m in
      count_upper c k small least most ∙ omega arith

  -- small facts, each by itself: every `-` and `min` in reach is a case split of `omega`, which has six
  again : (b : ℕ) → b < 32 → min e (1 - b / 32) ≡ e
  again b less = omega arith

  again_high : (b : ℕ) → b < 31 → min e (1 - b / 31) ≡ e
  again_high b less = omega arith

  never : (b : ℕ) → 32 ≤ b → min e (1 - b / 32) ≡ 0
  never b more = omega arith

  never_high : (b : ℕ) → 32 ≤ b → min e (1 - b / 31) ≡ 0
  never_high b more = omega arith

  below : (b n : ℕ) → b < n → b ≤ n
  below b n l = omega arith

  below_last : (b : ℕ) → b < bits → b ≤ 63
  below_last b l = omega arith

  whole : (b n : ℕ) → b ≤ n → b + (n - b) ≡ n
  whole b n l = omega arith

  few : (b : ℕ) → 32 ≤ b → 63 - b ≤ 31
  few b l = omega arith

  at_middle : (b : ℕ) → b < 32 → 31 ≤ b → b ≡ 31
  at_middle b l m = omega arith

  plain : (k x : ℕ) → x + 0 ≤ k → x ≤ k
  plain k x l = omega arith

  plain' : (k x : ℕ) → k ≤ x + 0 → k ≤ x
  plain' k x l = omega arith

  middle : (b k : ℕ) → b ≡ 31 → 4 + 2 * (63 - b) + min e (1 - b / 31) ≤ k → k ≤ 5 + 2 * (63 - b) + e → comparisons_after e k ≡ 64 - b
  middle b k is l m =
      let least : 4 + 2 * (63 - 31) + min e (1 - 31 / 31) ≤ k = rw is at l in
      let most : k ≤ 5 + 2 * (63 - 31) + e = rw is at m in
      rw is (middle_bit k (omega arith) (omega arith))

  count-bit : (b k : ℕ) → b < bits → 4 + 2 * (63 - b) + min e (1 - b / 31) ≤ k → k ≤ 5 + 2 * (63 - b) + min e (1 - b / 32) → comparisons_after e k ≡ 64 - b
  count-bit b k h l m =
      by_case (ltb b 32)
      (λ t.
      let less = ltb-true b 32 t in
      let most : k ≤ 5 + 2 * (63 - b) + e = rw (again b less) at m in
      by_case (ltb b 31)
      (λ u.
      let lower = ltb-true b 31 u in
      let least : 4 + 2 * (63 - b) + e ≤ k = rw (again_high b lower) at l in
      lower_bit b (31 - b) k (whole b 31 (below b 31 lower)) least most)
      (λ v.
      let least = ltb-false b 31 v in
      middle b k (at_middle b less least) l most))
      (λ f.
      let upper = ltb-false b 32 f in
      let least : 4 + 2 * (63 - b) + 0 ≤ k = rw (never_high b upper) at l in
      let most : k ≤ 5 + 2 * (63 - b) + 0 = rw (never b upper) at m in
      upper_bit b (63 - b) k (whole b 63 (below_last b h)) (few b upper) (plain k (4 + 2 * (63 - b)) least) (plain' k (5 + 2 * (63 - b)) most))

  count-give : (k : ℕ) → 132 + e ≤ k → comparisons_after e k ≡ 65
  count-give k h = counted-after e k ∙ omega arith

  pub past_count : {l : PassPlace} → LegalPlace l → comparisons_after e (past l e z) ≡ compared l
  unfolding past compared
  past_count (inner at-poll) = counted-after e _ ∙ omega arith
  past_count (inner (at-ask high of_least)) = counted-after e _ ∙ omega arith
  past_count (inner (at-ask low of_least)) = counted-after e _ ∙ omega arith
  past_count (inner (at-ask reply of_least)) = counted-after e _ ∙ omega arith
  past_count (inner (at-ask high (of_bit {b = b} h))) = count-bit b _ h (omega arith) (omega arith)
  past_count (inner (at-ask low (of_bit {b = b} h))) = count-bit b _ h (omega arith) (omega arith)
  past_count (inner (at-ask reply (of_bit {b = b} h))) = count-bit b _ h (omega arith) (omega arith)
  past_count (inner at_name) = count-give _ (omega arith)
  past_count (inner at_high) = count-give _ (omega arith)
  past_count (inner at_low) = count-give _ (omega arith)
  past_count at-baptize = count-give _ (omega arith)

  -- a pass that comes to a place has not made all its rounds
  pub past_most : {l : PassPlace} → LegalPlace l → past l e z ≤ 133 + e + z
  unfolding past
  past_most (inner at-poll) = omega arith
  past_most (inner (at-ask high of_least)) = omega arith
  past_most (inner (at-ask low of_least)) = omega arith
  past_most (inner (at-ask reply of_least)) = omega arith
  past_most (inner (at-ask high (of_bit {b = b} h))) = omega arith
  past_most (inner (at-ask low (of_bit {b = b} h))) = omega arith
  past_most (inner (at-ask reply (of_bit {b = b} h))) = omega arith
  past_most (inner at_name) = omega arith
  past_most (inner at_high) = omega arith
  past_most (inner at_low) = omega arith
  past_most at-baptize = omega arith

-- ---- by the physical names that wait

unfoldable pub low_again_lem : List ℕ → ℕ
low_again_lem [] = 0
low_again_lem (p ∷ ps) = bit_clear 0 p

pub clear_one : (b p : ℕ) → bit_clear b p ≤ 1
unfolding bit_clear
clear_one b p = omega arith

pub high_again_one : (ws : List ℕ) → high_again ws ≤ 1
unfolding high_again
high_again_one [] = omega arith
high_again_one (p ∷ ps) = clear_one 32 p

pub low_again_one : (ws : List ℕ) → low_again_lem ws ≤ 1
unfolding low_again_lem
low_again_one [] = omega arith
low_again_one (p ∷ ps) = clear_one 0 p

abbrev pub past_of : PassPlace → List ℕ → ℕ
past_of l ws = past l (high_again ws) (low_again_lem ws)

pub count_past : {l : PassPlace} (ws : List ℕ) → LegalPlace l → comparisons_after (high_again ws) (past_of l ws) ≡ compared l
count_past ws h = past_count (high_again ws) (low_again_lem ws) (high_again_one ws) (low_again_one ws) h

pub past_within : {l : PassPlace} (p : ℕ) (ps : List ℕ) → LegalPlace l → past_of l (p ∷ ps) < naming_rounds p
unfolding naming_rounds high_again low_again_lem
past_within p ps h = omega (arith, past_most (bit_clear 32 p) (bit_clear 0 p) (clear_one 32 p) (clear_one 0 p) h)

pub past_last : (p : ℕ) (ps : List ℕ) → suc (past_of baptize (p ∷ ps)) ≡ naming_rounds p
unfolding past naming_rounds high_again low_again_lem
past_last p ps = omega arith

-- after the round of a place that is no needless write
module _ (ws : List ℕ) where
  pub past_reply : (b : ℕ) → b < bits → past_of (after_bit b) ws ≡ suc (past_of (ask (bit b) reply) ws)
  past_reply b h = past_bit (high_again ws) (low_again_lem ws) (high_again_one ws) (low_again_one ws) b h

-- ---- the writes

module _ (b p : ℕ) (ps : List ℕ) (h : b < bits) where
  -- a high half: passed over if it is the last one, else made
  pub high-passed : attempt b p / half ≡ last_try (suc b) p / half → past_of (ask (bit b) low) (p ∷ ps) ≡ past_of (ask (bit b) high) (p ∷ ps)
  unfolding past high_again low_again_lem
  high-passed e =
      by_case (ltb b 32)
      (λ t.
      let less = ltb-true b 32 t in
      by_case (ltb b 31)
      (λ u. let lower = ltb-true b 31 u in omega arith)
      (λ v.
      let least = ltb-false b 31 v in
      let is : b ≡ 31 = omega arith in
      let none : bit_clear 32 p ≡ 0 = (middle_high p).0 (rw is at e) in
      omega arith))
      (λ f. absurd (upper_high b p h (ltb-false b 32 f) e))

  pub high-made : (attempt b p / half ≡ last_try (suc b) p / half → ⊥) → past_of (ask (bit b) low) (p ∷ ps) ≡ suc (past_of (ask (bit b) high) (p ∷ ps))
  unfolding past high_again low_again_lem
  high-made n =
      by_case (ltb b 32)
      (λ t.
      let less = ltb-true b 32 t in
      by_case (ltb b 31)
      (λ u. absurd (n (lower_high b p h (ltb-true b 31 u))))
      (λ v.
      let least = ltb-false b 31 v in
      let is : b ≡ 31 = omega arith in
      let again : bit_clear 32 p ≡ 1 = (middle_high p).1 (rw is at n) in
      omega arith))
      (λ f. let upper = ltb-false b 32 f in omega arith)

  -- a low half
  pub low-passed : attempt b p % half ≡ last_try (suc b) p % half → past_of (ask (bit b) reply) (p ∷ ps) ≡ past_of (ask (bit b) low) (p ∷ ps)
  unfolding past high_again low_again_lem
  low-passed e =
      by_case (ltb b 32)
      (λ t.
      let less = ltb-true b 32 t in
      by_case (ltb b 31)
      (λ u. absurd (lower_low b p h (ltb-true b 31 u) e))
      (λ v.
      let least = ltb-false b 31 v in
      let is : b ≡ 31 = omega arith in
      absurd (middle_low p (rw is at e))))
      (λ f. let upper = ltb-false b 32 f in omega arith)

  pub low-made : (attempt b p % half ≡ last_try (suc b) p % half → ⊥) → past_of (ask (bit b) reply) (p ∷ ps) ≡ suc (past_of (ask (bit b) low) (p ∷ ps))
  unfolding past high_again low_again_lem
  low-made n =
      by_case (ltb b 32)
      (λ t. let less = ltb-true b 32 t in omega arith)
      (λ f. absurd (n (upper_low b p h (ltb-false b 32 f))))

-- the value before baptizing: its high half is always the last one
module _ (p : ℕ) (ps : List ℕ) where
  pub give-high-passed : past_of give_low (p ∷ ps) ≡ past_of give_high (p ∷ ps)
  unfolding past
  give-high-passed = refl

  pub give-low-passed : p % half ≡ last_try 0 p % half → past_of baptize (p ∷ ps) ≡ past_of give_low (p ∷ ps)
  unfolding past high_again low_again_lem
  give-low-passed e = let none : bit_clear 0 p ≡ 0 = (given-low p).0 e in omega arith

  pub give-low-made : (p % half ≡ last_try 0 p % half → ⊥) → past_of baptize (p ∷ ps) ≡ suc (past_of give_low (p ∷ ps))
  unfolding past high_again low_again_lem
  give-low-made n = let again : bit_clear 0 p ≡ 1 = (given-low p).1 n in omega arith
