-- The listing of a file that loading accepts in closed form, from the slaves' names at the start alone: no step of the run is in it
-- (document 01, "The listing program": "one line for each name given, in order, none for a taken name or the pass that ends the run; ..
-- then one line of totals").
use Rattle.std.specs.Prelude.{ℕ, ◌≡◌, List, [], ◌∷◌, ◌++◌, length}
use Rattle.file.specs.Rules.Bytes.{Bytes}
use Rattle.file.specs.Rules.Decode.{decode}
use Rattle.file.specs.Rules.FileGrounds.{load_ground}
use Rattle.naming.specs.Rules.Account.{Named, names_in_lem, falling, unnamed_among, names_held, naming_comparisons}
use Rattle.naming.specs.Rules.Figures.{free_names, givings, rounds_for, comparisons_for}
use Rattle.listing_text.specs.Rules.Text.{name_line, totals_line}
use Rattle.listing_text.specs.Rules.Listing.{all_names, listing}

-- the lines of names that were given: "name, physical name, that pass's comparisons", which are 65
unfoldable pub lines : List Named → List ℕ
lines [] = []
lines (g ∷ gs) = name_line g.logical g.physical naming_comparisons ++ lines gs

-- the names given to slaves that have these names at the start: the unnamed, by their physical names in falling order, take those of
-- 0x01 to 0xFE that nobody holds, in rising order, while both last
unfoldable pub names_given : List Named → List Named
names_given slaves = givings (falling (unnamed_among slaves)) (free_names (names_held slaves) all_names)

-- the whole listing, with "names given, comparisons, rounds of the run"
unfoldable pub closed_listing : List Named → List ℕ
closed_listing slaves =
    lines (names_given slaves) ++
    totals_line (length (names_given slaves)) (comparisons_for slaves all_names) (rounds_for slaves all_names)

-- the listing of every file that loading accepts
abbrev pub ListingClosed : Type 0
ListingClosed = (file : List ℕ) → Bytes file → load_ground file ≡ 0 → listing file ≡ closed_listing (names_in_lem (decode file))
