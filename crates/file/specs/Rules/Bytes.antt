-- Lists of bytes and the numbers in them. Document 01, preamble: "several-byte numbers have the most significant byte first".
use Rattle.std.specs.Prelude.{ℕ, zero, suc, ◌+◌, ◌*◌, ◌/◌, ◌%◌, ◌^◌, ◌<◌, List, [], ◌∷◌, Bool, true, false, cond, length, take, drop, eqb}

-- every element of the list has the property
pub data All {A : Type 0} (P : A → Type 0) : List A → Type 0 where
  all_empty : All P []
  all_next : {a : A} {l : List A} → P a → All P l → All P (a ∷ l)

-- a byte is a number below 256
abbrev pub Byte : ℕ → Type 0
Byte b = b < 256

abbrev pub Bytes : List ℕ → Type 0
Bytes l = All Byte l

-- the number that the bytes spell, most significant byte first
-- "Bytes with 0x, and the bytes of frames and files in the cases, are hexadecimal, other numbers decimal; several-byte numbers .."
unfoldable pub number_of : List ℕ → ℕ
number_of [] = 0
number_of (b ∷ bs) = b * 256 ^ length bs + number_of bs

-- the number in w bytes, most significant byte first
unfoldable pub bytes_of : ℕ → ℕ → List ℕ
bytes_of zero n = []
bytes_of (suc w) n = n / 256 ^ w ∷ bytes_of w (n % 256 ^ w)

-- the n elements from a place on
unfoldable pub part : List ℕ → ℕ → ℕ → List ℕ
part l at n = take n (drop at l)

-- every byte of the list is 0
unfoldable pub all_zero : List ℕ → Bool
all_zero [] = true
all_zero (b ∷ bs) = cond (eqb b 0) (all_zero bs) false
