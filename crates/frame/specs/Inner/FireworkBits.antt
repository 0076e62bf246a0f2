-- The firework lookup as the code makes it. Document 02, request 3: "However it is done now, the lookup is to be worked out from the
-- byte's bits, with no table and no list of the eight." Its meaning is the list of document 01, `Rules.Fireworks`; that the two agree is
-- law `by_bits` of `proofs/FireworkBits`.
use Rattle.std.specs.Prelude.{ℕ, ◌*◌, ◌/◌, ◌%◌, cond, eqb}
use Rattle.std.specs.Int.Bits.{bit_xor}
use Rattle.frame.specs.Rules.Fireworks.{Round, multipartner, msd, msa, no_round}

-- bits 7 to 3 of the firework of a round, from the bits of its number
unfoldable pub high_bits : ℕ → ℕ
high_bits round = bit_xor 0b01111 (bit_xor (0b00110 * (round % 2)) (bit_xor (0b11000 * (round / 2 % 2)) (0b00011 * (round / 4 % 2))))

-- round 1 is MSD, round 5 MSA
unfoldable pub round_numbered : ℕ → Round
round_numbered n = cond (eqb n 1) msd (cond (eqb n 5) msa (multipartner n))

unfoldable pub round_by_bits : ℕ → Round
round_by_bits byte = cond (eqb (byte / 8) (high_bits (byte % 8))) (round_numbered (byte % 8)) no_round
