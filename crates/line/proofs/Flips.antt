-- No firework with one to three of its bits flipped is a firework: one test of all patterns and all flips, which antt computes.
-- Assumes nothing.
use Rattle.std.proofs.Common.{ℕ, ◌≡◌, refl, Bool, true, false, cond, not, eqb, leb, le-leb, leb-true, ne_eqb}
use lib.Bits.{bit_xor}
use lib.Count.{ones_in}
use Rattle.file.specs.Rules.Order.{both, either}
use Rattle.file.specs.Rules.FileGrounds.{is_among}
use Rattle.file.proofs.Order.{clash, both_true}
use Rattle.line.specs.Rules.Patterns.{PatternClass, data_byte, firework, broken, ones, is_listed, class_of}
use Rattle.line.specs.Claims.Classes.{all_ones}
use Rattle.line.specs.Claims.Flips.{differing, FlippedIsNone, FireworksApart}
use Rattle.line.proofs.Computed.{all_below, at}
use Rattle.line.proofs.Classes.{ones-are-bits, read-few, read_class}

is_firework : PatternClass → Bool
is_firework data_byte = false
is_firework firework = true
is_firework broken = false

-- ---- flipped by a mask

is_few : ℕ → Bool
is_few flips = both (leb 1 (ones flips)) (leb (ones flips) 3)

apart : ℕ → ℕ → Bool
apart pattern flips = cond (is_few flips) (not (is_firework (class_of (bit_xor pattern flips)))) true

all_apart : ℕ → Bool
all_apart pattern = cond (is_firework (class_of pattern)) (all_below 512 (apart pattern)) true

computed : all_below 512 all_apart ≡ true
unfolding all_below all_apart apart is_few is_firework class_of ones ones_in is_listed is_among either both
computed = refl

pub flipped_is-none : FlippedIsNone
unfolding all_apart apart is_few is_firework
flipped_is-none pattern flips h few one three again =
    let t : all_apart pattern ≡ true = at 512 all_apart computed pattern (read-few pattern h) in
    let u : all_below 512 (apart pattern) ≡ true = rw (read_class pattern h) at t in
    let v : apart pattern flips ≡ true = at 512 (apart pattern) u flips few in
    let same : ones flips ≡ all_ones flips = ones-are-bits flips few in
    let w : is_few flips ≡ true = both_true (le-leb 1 (ones flips) (rw same one)) (le-leb (ones flips) 3 (rw same three)) in
    let z : false ≡ true = rw (w, read_class (bit_xor pattern flips) again) at v in
    clash z refl

-- ---- with the bits alone

far_apart : ℕ → ℕ → Bool
far_apart p q = cond (is_firework (class_of q)) (cond (eqb p q) true (leb 4 (differing p q))) true

all_far_apart : ℕ → Bool
all_far_apart p = cond (is_firework (class_of p)) (all_below 512 (far_apart p)) true

computed_apart : all_below 512 all_far_apart ≡ true
unfolding all_below all_far_apart far_apart is_firework class_of ones ones_in is_listed is_among either both
computed_apart = refl

pub fireworks-apart : FireworksApart
unfolding all_far_apart far_apart is_firework
fireworks-apart p q hp hq other =
    let t : all_far_apart p ≡ true = at 512 all_far_apart computed_apart p (read-few p hp) in
    let u : all_below 512 (far_apart p) ≡ true = rw (read_class p hp) at t in
    let v : far_apart p q ≡ true = at 512 (far_apart p) u q (read-few q hq) in
    let w : leb 4 (differing p q) ≡ true = rw (read_class q hq, ne_eqb p q other) at v in
    leb-true 4 (differing p q) w
