-- Each claim of specs/Claims, and the theorem that has it as its type.
use Rattle.line.specs.Claims.Classes.{ClassesByBits, TheEight, OneOfThree, AboveIsRefused}
use Rattle.line.specs.Claims.Parity.{EvenIsData, OddByRound, FireworksOpenRounds}
use Rattle.line.specs.Claims.Flips.{FlippedIsNone, FireworksApart}
use Rattle.line.proofs.Classes.{classes_by_bits, the-eight, one_of_three, above-is-refused}
use Rattle.line.proofs.Parity.{even-is-data, odd_by_round, fireworks_open_rounds}
use Rattle.line.proofs.Flips.{flipped_is-none, fireworks-apart}

pub held_classes_by_bits : ClassesByBits
held_classes_by_bits = classes_by_bits

pub held-one_of_three : OneOfThree
held-one_of_three = one_of_three

pub held-above-is-refused : AboveIsRefused
held-above-is-refused = above-is-refused

pub held-even-is-data : EvenIsData
held-even-is-data = even-is-data

pub held_odd_by_round : OddByRound
held_odd_by_round = odd_by_round

pub held-fireworks_open_rounds : FireworksOpenRounds
held-fireworks_open_rounds = fireworks_open_rounds

pub held_flipped_is-none : FlippedIsNone
held_flipped_is-none = flipped_is-none

pub held-fireworks-apart : FireworksApart
held-fireworks-apart = fireworks-apart

pub held_the_eight : TheEight
held_the_eight = the-eight
