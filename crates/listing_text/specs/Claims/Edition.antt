-- The listing of a file of an unknown edition: as in the file's own claim, no offset of it is followed.
use Rattle.std.specs.Prelude.{ℕ, ◌≡◌, List, length, take}
use Rattle.file.specs.Claims.Edition.{NoEdition}
use Rattle.listing_text.specs.Rules.Listing.{listing}

-- it is the same for two files of one length and the same first three bytes, the last of them no edition
abbrev pub UnknownEditionListed : Type 0
UnknownEditionListed = (f g : List ℕ) → length f ≡ length g → take 3 f ≡ take 3 g → NoEdition f → listing f ≡ listing g
