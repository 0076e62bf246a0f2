-- Fireworks and their rounds (document 01, "Fireworks and frames", first paragraph).
use Rattle.std.specs.Prelude.{ℕ, List, [], ◌∷◌, cond, eqb}

-- a multipartner round by its number, the two parts of a master-slave round, or no round
pub data Round : Type 0 where
  multipartner : ℕ → Round
  msd msa no_round : Round

abbrev pub address_firework : ℕ
address_firework = 0x55

abbrev pub data_firework : ℕ
data_firework = 0x49

-- "Table of 000: 0x78 round 0, 0x49 MSD, 0xBA round 2, 0x8B round 3, 0x64 round 4, 0x55 MSA, 0xA6 round 6, 0x97 round 7."
abbrev pub fireworks : List (ℕ × Round)
fireworks =
    (0x78, multipartner 0) ∷ (data_firework, msd) ∷ (0xBA, multipartner 2) ∷ (0x8B, multipartner 3) ∷
    (0x64, multipartner 4) ∷ (address_firework, msa) ∷ (0xA6, multipartner 6) ∷ (0x97, multipartner 7) ∷ []

-- "Every one of the 256 byte values has an entry: its round, or none."
unfoldable pub round_in : List (ℕ × Round) → ℕ → Round
round_in [] b = no_round
round_in (e ∷ es) b = cond (eqb b e.0) e.1 (round_in es b)

-- document 02, request 3: "Its meaning for every byte remains that of document 01."
unfoldable pub round_of : ℕ → Round
round_of b = round_in fireworks b
