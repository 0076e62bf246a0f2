-- The places of a pass by their number: the step of a place, the inverse of the place of a step.
use Rattle.std.specs.Prelude.{ℕ, suc, ◌+◌, ◌*◌, ◌-◌}
use Rattle.naming.specs.Rules.Pass.{Question, least, bit, Part, high, low, reply, PassPlace, poll, ask, give_name, give_high, give_low, baptize, bits, give_step, last_step}
use Rattle.naming.specs.Rules.RunRounds.{comparison_rounds}

unfoldable pub question_number : Question → ℕ
question_number least = 0
question_number (bit b) = bits - b

unfoldable pub part_number : Part → ℕ
part_number high = 0
part_number low = 1
part_number reply = 2

unfoldable pub step_of : PassPlace → ℕ
step_of poll = 0
step_of (ask q r) = suc (comparison_rounds * question_number q + part_number r)
step_of give_name = give_step
step_of give_high = give_step + 1
step_of give_low = give_step + 2
step_of baptize = last_step
