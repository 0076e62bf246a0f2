-- The listing's lines as bytes (document 01, "The listing program": "Fields: name, physical name, that pass's comparisons, in two and
-- sixteen hex digits (capitals) and decimal, with one space between fields").
use Rattle.std.specs.Prelude.{ℕ, zero, suc, ◌+◌, ◌*◌, ◌-◌, ◌/◌, ◌%◌, ◌^◌, List, [], ◌∷◌, ◌++◌, cond, ltb}
use Prim.Native.Char.{code}
use Prim.Native.String.{String}
use Prim.Native.String as text

-- the bytes of a text
unfoldable pub letters : String → List ℕ
letters text.[] = []
letters (text.◌∷◌ c cs) = code c ∷ letters cs

abbrev pub space : ℕ
space = code " "

abbrev pub newline : ℕ
newline = code "\n"

-- a digit below 16, in capitals
unfoldable pub digit : ℕ → ℕ
digit d = cond (ltb d 10) (code "0" + d) (code "A" + (d - 10))

-- the last k hexadecimal digits of a number, the most significant first
unfoldable pub hex : ℕ → ℕ → List ℕ
hex zero n = []
hex (suc k) n = digit (n / 2 ^ (4 * k) % 16) ∷ hex k n

-- a number in decimal: its digits but the last, and the last; fuel says how many there may be
unfoldable pub decimal_in : ℕ → ℕ → List ℕ
decimal_in zero n = []
decimal_in (suc fuel) n =
    let front = decimal_in fuel (n / 10) in
    cond (ltb n 10) (digit n ∷ []) (front ++ (digit (n % 10) ∷ []))

unfoldable pub decimal : ℕ → List ℕ
decimal n = decimal_in (suc n) n

-- a number in decimal after a word
unfoldable pub field : List ℕ → ℕ → List ℕ
field word n = word ++ decimal n

-- "Fields: name, physical name, that pass's comparisons, ..; one line for each name given", the first two "in two and sixteen hex digits"
unfoldable pub name_line : ℕ → ℕ → ℕ → List ℕ
name_line name physical comparisons =
    hex 2 name ++ (space ∷ (hex 16 physical ++ (field (letters " ") comparisons ++ (newline ∷ []))))

-- "then one line of totals, decimal: names given, comparisons, rounds of the run"
unfoldable pub totals_line : ℕ → ℕ → ℕ → List ℕ
totals_line given comparisons rounds =
    field (letters "named ") given ++ (field (letters " compares ") comparisons ++ (field (letters " rounds ") rounds ++ (newline ∷ [])))

-- "A refused file gives only the line `refused`, a space and its number."
unfoldable pub refused_line : ℕ → List ℕ
refused_line reason = field (letters "refused ") reason ++ (newline ∷ [])

-- ---- how long a line is at most

-- the decimal digits of a number of 64 bits
abbrev pub most_digits : ℕ
most_digits = 20

-- the bytes of a line: its digits, two spaces and a newline; and of the line of totals
abbrev pub line_size : ℕ
line_size = 2 + 16 + most_digits + 3

abbrev pub totals_size : ℕ
totals_size = 6 + 10 + 8 + 3 * most_digits + 1
