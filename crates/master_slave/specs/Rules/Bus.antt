-- The bus (document 01, "What slaves do", third paragraph), for a sender rule: the bytes sent in each slot, one for each sender.
use Rattle.std.specs.Prelude.{ℕ, zero, suc, ◌+◌, ◌*◌, ◌-◌, ◌^◌, List, [], ◌∷◌, ◌++◌, drop}
use Rattle.std.specs.Int.Bits.{bit_and}

abbrev pub Senders : Type 0
Senders = ℕ → List ℕ

-- "Several senders in a slot yield the bitwise and of their bytes (our bus model)"
unfoldable pub joined : ℕ → List ℕ → ℕ
joined bus [] = bus
joined bus (b ∷ bs) = joined (bit_and bus b) bs

-- "each slot's byte, 0xFF where nobody sent"
unfoldable pub bus_byte : List ℕ → ℕ
bus_byte bytes = joined 0xFF bytes

-- 1 where someone sent, 0 where nobody did
unfoldable pub anyone : List ℕ → ℕ
anyone [] = 0
anyone (b ∷ bs) = 1

-- "The answer holds a 64-bit number whose bit s is set exactly when someone sent in slot s": of the slots below n
unfoldable pub mask_below_lem : Senders → ℕ → ℕ
mask_below_lem r zero = 0
mask_below_lem r (suc n) = anyone (r n) * 2 ^ n + mask_below_lem r n

-- slots 0 to 63; slot 0 is the firework's
abbrev pub slots : ℕ
slots = 64

unfoldable pub sender_mask : Senders → ℕ
sender_mask r = mask_below_lem r slots

-- the bytes of n slots from s on
unfoldable pub slot_bytes : Senders → ℕ → ℕ → List ℕ
slot_bytes r s zero = []
slot_bytes r s (suc n) = bus_byte (r s) ∷ slot_bytes r (suc s) n

-- "the buffer's first 64 bytes become the firework, then each slot's byte, 0xFF where nobody sent"
unfoldable pub answer_bytes : ℕ → Senders → List ℕ
answer_bytes firework r = firework ∷ slot_bytes r 1 (slots - 1)

-- "Past the bytes a call writes, a buffer keeps its content."
unfoldable pub answer_in : List ℕ → List ℕ → List ℕ
answer_in buffer bytes = bytes ++ drop slots buffer

-- "nobody sends"
unfoldable pub nobody : Senders
nobody slot = []
