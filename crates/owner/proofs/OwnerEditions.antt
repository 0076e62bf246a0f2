-- The owner file is made of the slaves alone, which a file and its converted form have in common.
-- Assumes nothing.
use Rattle.std.proofs.Common.{ℕ, ◌≡◌, List}
use Rattle.file.specs.Rules.Editions.{in_edition}
use Rattle.cluster.specs.Claims.RoundEditions.{Convertible}
use Rattle.cluster.proofs.RoundEditions.{slaves-same, grounds_behind}
use Rattle.owner.specs.Rules.OwnerWriting.{owner_grounds, owner_ground, owner_on}
use Rattle.owner.specs.Claims.OwnerEditions.{OwnerConverted}

ground_same :
    (f : List ℕ) (e master : ℕ) (buffer : List ℕ) → Convertible f e →
    owner_ground (in_edition f e) master buffer ≡ owner_ground f master buffer
unfolding owner_ground owner_grounds
ground_same f e master buffer convertible = grounds_behind convertible (rw (slaves-same convertible))

pub owner-converted : OwnerConverted
unfolding owner_on
owner-converted f e master buffer convertible = rw (ground_same f e master buffer convertible, slaves-same convertible)
