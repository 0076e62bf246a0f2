-- The owner file of a file and of its converted form (document 02, job 10: "All calls take both editions").
use Rattle.std.specs.Prelude.{ℕ, ◌≡◌, List}
use Rattle.file.specs.Rules.Editions.{in_edition}
use Rattle.cluster.specs.Claims.RoundEditions.{Convertible}
use Rattle.owner.specs.Rules.OwnerWriting.{owner_on}

-- answer and buffer are the same
abbrev pub OwnerConverted : Type 0
OwnerConverted =
    (f : List ℕ) (e master : ℕ) (buffer : List ℕ) → Convertible f e → owner_on (in_edition f e) master buffer ≡ owner_on f master buffer
