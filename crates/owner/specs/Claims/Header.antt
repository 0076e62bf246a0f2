-- "Record 0x00 is written as zeros." (document 02, job 4)
use Rattle.std.specs.Prelude.{ℕ, ◌≡◌, List, [], ◌∷◌, take}
use Rattle.file.specs.Rules.Cluster.{Slave}
use Rattle.owner.specs.Rules.OwnerFile.{owner_file}

abbrev pub HeaderIsZeros : Type 0
HeaderIsZeros = (master : ℕ) (slaves : List Slave) → take 4 (owner_file master slaves) ≡ 0x00 ∷ 0x00 ∷ 0x00 ∷ 0x00 ∷ []
