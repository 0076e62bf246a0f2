-- Check bytes (document 02, request 1: "From now on the check of MSA, of MSD data and of a slave's read reply is the exclusive or of its
-- round's firework (0x49 for a read reply) and the four bytes.").
use Rattle.std.specs.Prelude.{ℕ, List, [], ◌∷◌}
use Rattle.std.specs.Int.Bits.{bit_xor}
use Rattle.frame.specs.Rules.Fireworks.{address_firework, data_firework}

unfoldable pub exclusive_or : List ℕ → ℕ
exclusive_or [] = 0
exclusive_or (b ∷ bs) = bit_xor b (exclusive_or bs)

-- document 01: "The check is the exclusive or of the four bytes between firework and check."; by request 1 with the firework
-- "From now on the check .. is the exclusive or of its round's firework .. and the four bytes."
unfoldable pub check_of : ℕ → List ℕ → ℕ
check_of firework bytes = exclusive_or (firework ∷ bytes)

-- of an MSA
unfoldable pub address_check : List ℕ → ℕ
address_check bytes = check_of address_firework bytes

-- of an MSD's data, and of a read reply: "0x49 for a read reply"
unfoldable pub data_check : List ℕ → ℕ
data_check bytes = check_of data_firework bytes
