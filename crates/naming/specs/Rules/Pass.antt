-- The places of a pass (document 01, "The naming run", first paragraph): the rounds that it makes for one name, by their number.
use Rattle.std.specs.Prelude.{ℕ, zero, suc, ◌+◌, ◌*◌, ◌-◌, ◌/◌, ◌%◌, List, [], ◌∷◌, cond, length, get_or, ltb}
use Rattle.naming.specs.Rules.RunRounds.{comparison_rounds}

-- a comparison: "with 0", or "with the value so far with that bit set"
pub data Question : Type 0 where
  least : Question
  bit : ℕ → Question

-- "A comparison is three rounds at 0xFF: write record 2, write record 3, execute record 2."
pub data Part : Type 0 where
  high low reply : Part

-- "read 0x3D record 1 there", the comparisons, "Then write 00 00 name FF to record 1, the value to records 2 and 3, execute
-- record 1."
pub data PassPlace : Type 0 where
  poll : PassPlace
  ask : Question → Part → PassPlace
  give_name give_high give_low baptize : PassPlace

-- the bits of a value: "from bit 63 down to bit 0", "64 comparisons"
abbrev pub bits : ℕ
bits = 64

-- the comparisons of a pass by their number: the one with 0, then bit 63 down to bit 0
unfoldable pub question_of : ℕ → Question
question_of zero = least
question_of (suc q) = bit (bits - suc q)

unfoldable pub part_of : ℕ → Part
part_of zero = high
part_of (suc zero) = low
part_of (suc (suc n)) = reply

-- the rounds after the comparisons: "write 00 00 name FF to record 1, the value to records 2 and 3, execute record 1"
abbrev pub last_rounds : List PassPlace
last_rounds = give_name ∷ give_high ∷ give_low ∷ baptize ∷ []

unfoldable pub give_of : ℕ → PassPlace
give_of n = get_or last_rounds n baptize

-- the step after the comparisons of a pass: the poll, the comparison with 0 and those of the bits
abbrev pub give_step : ℕ
give_step = 1 + comparison_rounds * (1 + bits)

-- the place of a step
unfoldable pub ask_or_give : ℕ → PassPlace
ask_or_give n =
    cond (ltb (suc n) give_step) (ask (question_of (n / comparison_rounds)) (part_of (n % comparison_rounds))) (give_of (suc n - give_step))

unfoldable pub place_of : ℕ → PassPlace
place_of zero = poll
place_of (suc n) = ask_or_give n

-- the last step of a pass: "(place of the pass's next round, 0 to 199)"; request 6: "A stored step still names a place among the 200, skipped
-- writes included"
abbrev pub last_step : ℕ
last_step = give_step + length last_rounds - 1
