-- What the listing program's run leaves (document 01, "The listing program").
use Rattle.std.specs.Prelude.{ℕ, ◌≡◌, List}
use Rattle.file.specs.Rules.Bytes.{Bytes}
use Rattle.file.specs.Rules.Decode.{decode}
use Rattle.file.specs.Rules.FileGrounds.{file_ground, load_ground}
use Rattle.naming.specs.Rules.Position.{running}
use Rattle.naming.specs.Rules.Account.{names_in_lem}
use Rattle.naming.specs.Rules.Figures.{names_after}
use Rattle.listing_text.specs.Rules.Text.{refused_line}
use Rattle.listing_text.specs.Rules.Listing.{all_names, end_state, listing, file_listed}

-- "It .. runs names 0x01 to 0xFE.": the steps that it makes at most suffice, the run has ended
abbrev pub ListingEnded : Type 0
ListingEnded = (file : List ℕ) → Bytes file → file_ground file ≡ 0 → (end_state file).run.end ≡ running → ⊥

-- the slaves' names in the file that it leaves
abbrev pub NamesListed : Type 0
NamesListed = (file : List ℕ) → Bytes file → load_ground file ≡ 0 → names_in_lem (decode (file_listed file)) ≡ names_after (names_in_lem (decode file)) all_names

-- "A refused file gives only the line `refused`, a space and its number.", and is left as it was
abbrev pub RefusedListed : Type 0
RefusedListed = (file : List ℕ) → (load_ground file ≡ 0 → ⊥) → (listing file ≡ refused_line (load_ground file)) × (file_listed file ≡ file)
