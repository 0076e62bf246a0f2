-- Patterns computed from the rules: the eight firework patterns; what is around one of them; that the premises of the claims on flipped
-- bits can be met, and that four flipped bits are too many.
-- Assumes nothing.
use Rattle.std.proofs.Common.{ℕ, ◌+◌, ◌≡◌, refl, List, [], ◌∷◌}
use lib.Bits.{bit_xor}
use lib.Count.{ones_in}
use Rattle.file.specs.Rules.Order.{either, first_of}
use Rattle.file.specs.Rules.Results.{done, refused, result_of}
use Rattle.file.specs.Rules.FileGrounds.{is_among}
use Rattle.file.specs.Rules.Bytes.{All, all_empty, all_next}
use Rattle.line.specs.Rules.Patterns.{data_byte, firework, broken, ones, is_listed, class_of, pattern_ground, pattern_on}
use Rattle.line.specs.Claims.Classes.{all_ones}
use Rattle.line.specs.Claims.Flips.{differing}

-- ---- the eight fireworks: four bytes have an even count of ones, and go with the parity bit; four have an odd one

abbrev pub eight : List ℕ
eight = 0x178 ∷ 0x049 ∷ 0x0BA ∷ 0x18B ∷ 0x064 ∷ 0x155 ∷ 0x1A6 ∷ 0x097 ∷ []

pub eight-fireworks : All (λ (p : ℕ). pattern_on p ≡ done firework) eight
unfolding pattern_on pattern_ground first_of result_of class_of ones ones_in is_listed is_among either
eight-fireworks = all_next refl (all_next refl (all_next refl (all_next refl (all_next refl (all_next refl (all_next refl (all_next refl all_empty)))))))

-- the same bytes with the other parity bit are data: "data byte (even count of ones)"
pub eight-data : All (λ (p : ℕ). pattern_on (bit_xor p 0x100) ≡ done data_byte) eight
unfolding pattern_on pattern_ground first_of result_of class_of ones ones_in is_listed is_among either
eight-data = all_next refl (all_next refl (all_next refl (all_next refl (all_next refl (all_next refl (all_next refl (all_next refl all_empty)))))))

-- ---- single patterns

-- no bit set: data; the lowest or the parity bit alone: broken; all nine: broken; all but the parity bit: data
pub none-set : pattern_on 0x000 ≡ done data_byte
unfolding pattern_on pattern_ground first_of result_of class_of ones ones_in
none-set = refl

pub one_set : pattern_on 0x001 ≡ done broken
unfolding pattern_on pattern_ground first_of result_of class_of ones ones_in is_listed is_among either
one_set = refl

pub parity_alone : pattern_on 0x100 ≡ done broken
unfolding pattern_on pattern_ground first_of result_of class_of ones ones_in is_listed is_among either
parity_alone = refl

pub all_set : pattern_on 0x1FF ≡ done broken
unfolding pattern_on pattern_ground first_of result_of class_of ones ones_in is_listed is_among either
all_set = refl

pub byte-set : pattern_on 0x0FF ≡ done data_byte
unfolding pattern_on pattern_ground first_of result_of class_of ones ones_in
byte-set = refl

-- two bits of MSD flipped: odd still, and not in the list
pub two_flipped : pattern_on (bit_xor 0x049 0x003) ≡ done broken
unfolding pattern_on pattern_ground first_of result_of class_of ones ones_in is_listed is_among either
two_flipped = refl

-- "31, a pattern above 511", also where bits 8 to 0 are those of a firework
pub too_large : pattern_on 512 ≡ refused 31
unfolding pattern_on pattern_ground first_of result_of
too_large = refl

pub sixteen_bits : pattern_on 65535 ≡ refused 31
unfolding pattern_on pattern_ground first_of result_of
sixteen_bits = refl

pub firework-above : pattern_on (0x155 + 512) ≡ refused 31
unfolding pattern_on pattern_ground first_of result_of
firework-above = refl

-- ---- flipped bits: the premises can be met, by one, two and three bits, and four make a round 0 of an MSA

pub one_flip : all_ones 0b100000000 ≡ 1
one_flip = refl

pub two_flips : all_ones 0b000000011 ≡ 2
two_flips = refl

pub three_flips : all_ones 0b100000011 ≡ 3
three_flips = refl

pub four_flips : all_ones 0b000101101 ≡ 4
four_flips = refl

pub four_reach-one : pattern_on (bit_xor 0x155 0b000101101) ≡ done firework
unfolding pattern_on pattern_ground first_of result_of class_of ones ones_in is_listed is_among either
four_reach-one = refl

pub four_apart : differing 0x155 0x178 ≡ 4
four_apart = refl
