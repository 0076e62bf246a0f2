-- A round on a file of an unknown edition, also one given a summary, and a summary's filling from it: as in the file's own claim, no offset
-- of it is followed.
use Rattle.std.specs.Prelude.{ℕ, ◌≡◌, List, length, take}
use Rattle.file.specs.Claims.Edition.{NoEdition}
use Rattle.cluster.specs.Rules.Round.{round_on}
use Rattle.cluster.specs.Rules.Summary.{Summary, round_keeping, fill_on}

-- answer and buffer are the same for two files of one length and the same first three bytes, the last of them no edition
abbrev pub UnknownEditionRound : Type 0
UnknownEditionRound =
    (f g frame buffer : List ℕ) → length f ≡ length g → take 3 f ≡ take 3 g → NoEdition f →
    ((round_on f frame buffer).0 ≡ (round_on g frame buffer).0) × ((round_on f frame buffer).1 ≡ (round_on g frame buffer).1)

abbrev pub UnknownEditionKeeping : Type 0
UnknownEditionKeeping =
    (f g : List ℕ) (summary : Summary) (frame buffer : List ℕ) → length f ≡ length g → take 3 f ≡ take 3 g → NoEdition f →
    ((round_keeping f summary frame buffer).0 ≡ (round_keeping g summary frame buffer).0) ×
    ((round_keeping f summary frame buffer).1 ≡ (round_keeping g summary frame buffer).1) ×
    ((round_keeping f summary frame buffer).3 ≡ (round_keeping g summary frame buffer).3)

abbrev pub UnknownEditionFilling : Type 0
UnknownEditionFilling =
    (f g slice : List ℕ) → length f ≡ length g → take 3 f ≡ take 3 g → NoEdition f → fill_on f slice ≡ fill_on g slice
