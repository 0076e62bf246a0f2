-- The question as ttpa_holder answers it, of any slice and any count within it (document 02, job 8): "The question stops at the first
-- holder and gives .. or that nobody holds it."
use Rattle.std.specs.Prelude.{ℕ, ◌-◌, ◌^◌, ◌≤◌, ◌<◌, ◌≡◌, ◌↔◌, ◌≢◌, List, length, take}
use Rattle.file.specs.Rules.Bytes.{All}
use Rattle.cluster.specs.Claims.Summary.{FirstAt}
use Rattle.ttpa.specs.Rules.Calls.{holder_call}

-- 0 and the place of the first of the counted names that is the name; 0 and TTPA_NOBODY exactly where none of them is
pub record TellsFirst (held : List ℕ) (count name place : ℕ) : Type 0 where
  pub first : (p : ℕ) → p < 2 ^ 64 - 1 → (holder_call held count name place ≡ (0, p)) ↔ FirstAt (take count held) name p
  pub none : (holder_call held count name place ≡ (0, 2 ^ 64 - 1)) ↔ All (λ (n : ℕ). n ≢ name) (take count held)

-- a slice has fewer bytes than an address has values, so that no place is TTPA_NOBODY
abbrev pub HolderTellsFirst : Type 0
HolderTellsFirst = (held : List ℕ) → length held < 2 ^ 64 → (count name place : ℕ) → count ≤ length held → TellsFirst held count name place
