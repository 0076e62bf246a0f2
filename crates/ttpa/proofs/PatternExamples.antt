-- Calls of ttpa_pattern, computed: each class, the number, and that the byte is as it was where the pattern is refused.
-- Assumes nothing.
use mathlib.Core.Path.{◌≡◌, refl}
use lib.Bits.{bit_xor}
use lib.Count.{ones_in}
use Rattle.file.specs.Rules.Order.{either, first_of}
use Rattle.file.specs.Rules.Results.{result_of, number_in}
use Rattle.file.specs.Rules.FileGrounds.{is_among}
use Rattle.line.specs.Rules.Patterns.{ones, is_listed, class_of, pattern_ground, pattern_on}
use Rattle.ttpa.specs.Rules.Calls.{lent_after, class_number, pattern_call}

-- `unfolding data-told` below unfolds what stands here
pub data-told : pattern_call 0x055 0xA7 ≡ (0, 0)
unfolding pattern_call number_in lent_after class_number pattern_on pattern_ground first_of result_of class_of ones ones_in
data-told = refl

-- a firework, whose one flipped bit makes it data, two make it broken, and four another firework
pub firework-told : pattern_call 0x155 0xA7 ≡ (0, 1)
unfolding data-told is_listed is_among either
firework-told = refl

pub one_flip_told : pattern_call (bit_xor 0x155 0x001) 0xA7 ≡ (0, 0)
unfolding firework-told
one_flip_told = refl

pub two_flips_told : pattern_call (bit_xor 0x155 0x003) 0xA7 ≡ (0, 2)
unfolding firework-told
two_flips_told = refl

pub four_flips_told : pattern_call (bit_xor 0x155 0x02D) 0xA7 ≡ (0, 1)
unfolding firework-told
four_flips_told = refl

-- 511 is the last: nine ones, and broken
pub last-told : pattern_call 511 0xA7 ≡ (0, 2)
unfolding firework-told
last-told = refl

pub refused-told : pattern_call 512 0xA7 ≡ (31, 0xA7)
unfolding data-told
refused-told = refl
