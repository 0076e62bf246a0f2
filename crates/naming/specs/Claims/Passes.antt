-- A pass that names a slave, its rounds written out in order, each at its place (document 02, request 6): the run makes just these rounds, they
-- are those of the plain account, and what it says of them: how many there are, and how many comparisons after each.
use Rattle.std.specs.Prelude.{ℕ, zero, suc, ◌+◌, ◌-◌, ◌/◌, ◌%◌, ◌^◌, ◌<◌, min, ◌≡◌, List, [], ◌∷◌, ◌++◌, map, Bool, false, cond, length, take, eqb, leb}
use Rattle.naming.specs.Rules.RunRounds.{half}
use Rattle.naming.specs.Rules.Position.{Position, end_at}
use Rattle.naming.specs.Rules.Pass.{bits, PassPlace, poll, ask, give_name, give_high, give_low, baptize, least, bit, high, low, reply, place_of}
use Rattle.naming.specs.Rules.Run.{tried, onto, advance}
use Rattle.naming.specs.Rules.Account.{bit_clear, naming_rounds, naming_comparisons, comparisons_after}
use Rattle.naming.specs.Rules.Account.{RoundKind, read_round, write_round, compare_round, name_round, naming_pass, compares_in}

-- bits 31 + n down to 32: the high half changes, the low one does not
unfoldable pub upper_bits : ℕ → List PassPlace
upper_bits zero = []
upper_bits (suc n) = ask (bit (32 + n)) high ∷ ask (bit (32 + n)) reply ∷ upper_bits n

-- bits n - 1 down to 0: the low half changes, the high one does not
unfoldable pub lower_bits : ℕ → List PassPlace
lower_bits zero = []
lower_bits (suc n) = ask (bit n) low ∷ ask (bit n) reply ∷ lower_bits n

-- a round, if it is made
unfoldable pub if_made : Bool → PassPlace → List PassPlace
if_made made place = cond made (place ∷ []) []

-- the pass: the poll, the comparison with 0, those of bits 63 to 32, the high half once more if bit 32 is 0, the comparisons of bits 31
-- to 0, the name, the low half once more if bit 0 is 0, and the execute that gives the name
unfoldable pub pass_rounds : Bool → Bool → List PassPlace
pass_rounds high_again low_again_lem =
    (poll ∷ ask least high ∷ ask least low ∷ ask least reply ∷ upper_bits 32) ++
    (if_made high_again (ask (bit 31) high) ++ (lower_bits 32 ++ ((give_name ∷ if_made low_again_lem give_low) ++ (baptize ∷ []))))

unfoldable pub pass_for : ℕ → List PassPlace
pass_for p = pass_rounds (eqb (bit_clear 32 p) 1) (eqb (bit_clear 0 p) 1)

-- what the plain account sees of a round
unfoldable pub seen : PassPlace → RoundKind
seen poll = read_round
seen (ask q high) = write_round
seen (ask q low) = write_round
seen (ask q reply) = compare_round
seen give_name = write_round
seen give_high = write_round
seen give_low = write_round
seen baptize = name_round

-- its comparisons, each at its execute
unfoldable pub executes_in : List PassPlace → ℕ
executes_in [] = 0
executes_in (poll ∷ ls) = executes_in ls
executes_in (ask q high ∷ ls) = executes_in ls
executes_in (ask q low ∷ ls) = executes_in ls
executes_in (ask q reply ∷ ls) = suc (executes_in ls)
executes_in (give_name ∷ ls) = executes_in ls
executes_in (give_high ∷ ls) = executes_in ls
executes_in (give_low ∷ ls) = executes_in ls
executes_in (baptize ∷ ls) = executes_in ls

-- the account's pass is this one, for every physical name, and its figures are those of it, after any number of rounds too. The comparisons in
-- closed form: the one with 0 at round 4, those of bits 63 to 32 at every second round up to round 68, and those of bits 31 to 0 at
-- every second round after that or, if the high half is written again between the two, after one round more
pub record PassesCounted : Type 0 where
  pub same : (p : ℕ) → map seen (pass_for p) ≡ naming_pass p
  pub rounds : (p : ℕ) → length (pass_for p) ≡ naming_rounds p
  pub comparisons : (p k : ℕ) → executes_in (take k (pass_for p)) ≡ comparisons_after (bit_clear 32 p) k
  pub all : (p : ℕ) → compares_in (naming_pass p) ≡ naming_comparisons
  pub formula : (again k : ℕ) → comparisons_after again k ≡ (min k 68 - 2) / 2 + min 32 ((k - 68 - again) / 2)

-- ---- the run makes them

-- whether someone sends in slot 1, where the name is free and p is the greatest physical name of the unnamed: nobody at the poll, and at the
-- execute of a comparison exactly if p is at least the value tried
unfoldable pub answer_for : ℕ → PassPlace → ℕ → Bool
answer_for p poll value = false
answer_for p (ask q high) value = false
answer_for p (ask q low) value = false
answer_for p (ask q reply) value = leb (tried q value) p
answer_for p give_name value = false
answer_for p give_high value = false
answer_for p give_low value = false
answer_for p baptize value = false

-- the place of the round that a step makes once a round is counted (`next_round` is the round there), and the position after it; the step
-- that makes the extra read makes none of the pass (`Claims/RoundsMade` MakesExtra)
unfoldable pub place_made : List ℕ → Position → PassPlace
place_made names q = place_of (onto names q).place.step

unfoldable pub after_step : List ℕ → ℕ → Position → Position
after_step names p q = advance names q (answer_for p (place_made names q) (onto names q).place.value)

-- n steps, one after the other
unfoldable pub places_made : List ℕ → ℕ → ℕ → Position → List PassPlace
places_made names p zero q = []
places_made names p (suc n) q = place_made names q ∷ places_made names p n (after_step names p q)

unfoldable pub after_steps : List ℕ → ℕ → ℕ → Position → Position
after_steps names p zero q = q
after_steps names p (suc n) q = after_steps names p n (after_step names p q)

-- as many steps as the pass has rounds make just these, in order, and leave the run at step 0 of the next name with p as the value found
pub record PassMade (names : List ℕ) (p : ℕ) (q : Position) : Type 0 where
  pub places : places_made names p (length (pass_for p)) q ≡ pass_for p
  pub after :
      after_steps names p (length (pass_for p)) q ≡
      record {
        end = end_at (length names) (suc q.place.index);
        place = record { index = suc q.place.index; step = 0; value = p };
        counts = record { rounds = q.counts.rounds + length (pass_for p); comparisons = q.counts.comparisons + naming_comparisons };
        halves = record { high = p / half; low = p % half };
      }

-- from step 0 of any name, some round counted and whatever else the position holds, for every physical name
abbrev pub PassesMade : Type 0
PassesMade = (names : List ℕ) (p : ℕ) (q : Position) → p < 2 ^ bits → 0 < q.counts.rounds → q.place.step ≡ 0 → PassMade names p q
