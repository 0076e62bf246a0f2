-- A turn on a file and on its converted form (document 02, job 10: "All calls take both editions").
use Rattle.std.specs.Prelude.{ℕ, ◌≡◌, List}
use Rattle.file.specs.Rules.Bytes.{Bytes}
use Rattle.file.specs.Rules.Editions.{in_edition}
use Rattle.cluster.specs.Claims.RoundEditions.{Convertible}
use Rattle.screens.specs.Rules.Turn.{turn_on}

-- answer, state and buffer are the same, and the file that is left is the converted form of the one left by the turn on the file itself,
-- which there is room for again
abbrev pub TurnsConverted : Type 0
TurnsConverted =
    (f : List ℕ) (e : ℕ) (state buffer : List ℕ) → Convertible f e → Bytes state →
    (turn_on state (in_edition f e) buffer ≡ (
      (turn_on state f buffer).0,
      (turn_on state f buffer).1,
      (turn_on state f buffer).2,
      in_edition (turn_on state f buffer).3 e,
    )) ×
    Convertible (turn_on state f buffer).3 e
