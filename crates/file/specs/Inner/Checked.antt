-- What the checker's inner functions promise to one another.
use Rattle.std.specs.Prelude.{ℕ, zero, suc, ◌+◌, ◌*◌, ◌≤◌, ◌≡◌, List, [], ◌∷◌, map, Bool, true, false, cond, length, get_or, take, drop, eqb, leb, Option, Some, None, IfSome, MatchOption}
use Rattle.file.specs.Rules.Order.{first_of, both}
use Rattle.file.specs.Rules.Layout.{OffsetWidth, count_place, header_size, entry_size_lem}
use Rattle.file.specs.Rules.Layout.{fill_length, max_slaves, max_length}
use Rattle.file.specs.Inner.Layout.{needed_configuration, needed_documentation, physical_name_place, long_width}
use Rattle.file.specs.Rules.Cluster.{configuration, documentation}
use Rattle.file.specs.Rules.Bytes.{All, number_of, part, all_zero}
use Rattle.file.specs.Rules.Decode.{offset_at, file_size}
use Rattle.file.specs.Inner.Places.{places_each, documentation_index}
use Rattle.file.specs.Inner.Accepted.{FoundFile, file_found}
use Rattle.file.specs.Inner.Marked.{remainder}
use Rattle.file.specs.declared.walk.DirectoryEnd.{DirectoryEnd}
use Rattle.file.specs.declared.walk.SlaveFound.{SlaveFound}
use Rattle.file.specs.Rules.FileGrounds.{wrong_size, wrong_mark, wrong_edition, wrong_length, wrong_header, file_ground_at}
use Rattle.file.specs.Rules.FileGrounds.{Walk, broken, to, walk_directory, walk_slave, walk_slaves, walk_file, broken_layout, lacks_needed, equal_physical_names, is_among}

-- the file has room for its header
pub record HeaderFits (w : ℕ) (f : List ℕ) : Type 0 where
  pub width : OffsetWidth w
  pub room : header_size w ≤ length f

-- k entries from a place on lie within the bytes, at an offset width that there is, and the file is no longer than a file may be
pub record EntriesFit (w : ℕ) (f : List ℕ) (at k : ℕ) : Type 0 where
  pub width : OffsetWidth w
  pub within : at + entry_size_lem w * k ≤ length f
  pub short : length f ≤ max_length w

-- none of grounds 1 to 5 holds
pub record GoodHeader (w : ℕ) (f : List ℕ) : Type 0 where
  pub size : wrong_size w f ≡ false
  pub mark : wrong_mark f ≡ false
  pub edition : wrong_edition w f ≡ false
  pub length_field : wrong_length w f ≡ false
  pub rest : wrong_header w f ≡ false

-- n is the ground that refuses the file, or 0, and then none of grounds 1 to 5 holds
pub record HeaderChecked (w : ℕ) (f : List ℕ) (n : ℕ) : Type 0 where
  pub refused : (n ≡ 0 → ⊥) → n ≡ file_ground_at w f
  pub passed : n ≡ 0 → GoodHeader w f

-- ---- where the directories state 0x08 and 0x3D to lie

-- the directory entry at d states file n with at least so many records
unfoldable pub states : List ℕ → ℕ → ℕ → ℕ → Bool
states f n least d = both (eqb (get_or f d 0) n) (leb least (get_or f (d + 1) 0))

-- the place that the last of k directory entries from d on states for it, else the one kept so far
unfoldable pub stated_place : ℕ → List ℕ → ℕ → ℕ → ℕ → ℕ → ℕ → ℕ
stated_place w f n least kept d zero = kept
stated_place w f n least kept d (suc k) =
    stated_place w f n least (cond (states f n least d) (offset_at w f (d + w)) kept) (d + entry_size_lem w) k

-- a walk as the code returns it: where it came to, or none
unfoldable pub walk_of : Option ℕ → Walk
walk_of (Some place) = to place
walk_of None = broken

-- a good entry in two parts. What an entry says of itself: its file number is low or more, it counts records, its zeros are zero
-- and its offset is the place.
unfoldable pub next_entry : ℕ → List ℕ → ℕ → ℕ → ℕ → Bool
next_entry w f d low place =
    both (leb low (get_or f d 0))
    (both (leb 1 (get_or f (d + 1) 0))
    (both (all_zero (part f (d + 2) (fill_length w))) (eqb (offset_at w f (d + w)) place)))

-- And what the last entry says for those before it: file numbers below low are file numbers, and the place is within the bytes.
unfoldable pub fits_so_far : List ℕ → ℕ → ℕ → Bool
fits_so_far f low place = both (leb low (suc 63)) (leb place (length f))

-- a walk of which that is still to be asked
unfoldable pub ended : List ℕ → Option DirectoryEnd → Walk
ended f (Some end) = cond (fits_so_far f end.low end.place) (to end.place) broken
ended f None = broken

-- the walk of the k entries of the directory at d
pub record DirectoryWalked (w : ℕ) (f : List ℕ) (d k : ℕ) (end : Option DirectoryEnd) : Type 0 where
  pub walk : ended f end ≡ walk_directory w f d 0 (d + entry_size_lem w * k) k

-- it comes to an end
pub record Arrives (w : ℕ) (f : List ℕ) (d k : ℕ) : Type 0 where
  pub end : ℕ
  pub walk : walk_directory w f d 0 (d + entry_size_lem w * k) k ≡ to end

-- the place that the slave of the table entry at t states for file n
unfoldable pub stated_in : ℕ → List ℕ → ℕ → ℕ → ℕ → ℕ
stated_in w f n least t = stated_place w f n least 0 (offset_at w f t) (get_or f (t + w) 0)

-- the places that k table entries from t on state: of each slave that of 0x08, then that of 0x3D
unfoldable pub stated_places : ℕ → List ℕ → ℕ → ℕ → List ℕ
stated_places w f t zero = []
stated_places w f t (suc k) =
    stated_in w f configuration needed_configuration t ∷ stated_in w f documentation needed_documentation t ∷ stated_places w f (t + entry_size_lem w) k

-- those of 0x3D in such a list
unfoldable pub documentation_places : List ℕ → List ℕ
documentation_places [] = []
documentation_places (c ∷ []) = []
documentation_places (c ∷ d ∷ places) = d ∷ documentation_places places

-- the walk of the slave of the table entry at t, its directory at the place
pub record EntryWalked (w : ℕ) (f : List ℕ) (t place : ℕ) (end : Option DirectoryEnd) : Type 0 where
  pub walk : ended f end ≡ walk_slave w f t place

-- it comes to an end
pub record EntryEnds (w : ℕ) (f : List ℕ) (t place end : ℕ) : Type 0 where
  pub walk : to end ≡ walk_slave w f t place
  pub within : end ≤ length f

-- what is found of a good one: where its files end, and where 0x08 and 0x3D lie in the needed size, 0 where they are not there
pub record SlaveStated (w : ℕ) (f : List ℕ) (t place : ℕ) (found : SlaveFound) : Type 0 where
  pub walk : to found.end ≡ walk_slave w f t place
  pub config : found.configuration ≡ stated_in w f configuration needed_configuration t
  pub document : found.documentation ≡ stated_in w f documentation needed_documentation t
  pub within : found.end ≤ length f

-- it is broken, or that is found of it
abbrev pub SlaveWalked : ℕ → List ℕ → ℕ → ℕ → Option SlaveFound → Type 0
SlaveWalked w f t place found = MatchOption found (broken ≡ walk_slave w f t place) (SlaveStated w f t place)

-- the walk of all the slaves, with their places in front of whatever else the list holds
pub record SlavesWalked (w : ℕ) (f : List ℕ) (count : ℕ) (end : Option ℕ) (places : List ℕ) : Type 0 where
  pub walk : walk_of end ≡ walk_slaves w f (header_size w) (header_size w + entry_size_lem w * count) count
  pub stated : IfSome end (λ _. take (places_each * count) places ≡ stated_places w f (header_size w) count)

-- a list with room for the places of the most slaves of that width
pub record PlacesFit (w : ℕ) (places : List ℕ) : Type 0 where
  pub room : places_each * max_slaves w ≤ length places

-- the walk of the whole file ends with its last byte, and the list has in front the places that its directories state
pub record WholeWalk (w : ℕ) (f places : List ℕ) : Type 0 where
  pub header : GoodHeader w f
  pub walk : walk_file w f ≡ to (length f)
  pub stated : take (places_each * get_or f count_place 0) places ≡ stated_places w f (header_size w) (get_or f count_place 0)

-- the layout is broken, or walked whole
pub record BodyWalked (w : ℕ) (f : List ℕ) (good : Bool) (places : List ℕ) : Type 0 where
  pub broke : good ≡ false → broken_layout w f ≡ true
  pub whole : good ≡ true → WholeWalk w f places

-- the first of grounds 7 and 8 that holds
unfoldable pub slaves_ground : ℕ → List ℕ → ℕ
slaves_ground w f = first_of ((7, lacks_needed w f) ∷ (8, equal_physical_names w f) ∷ [])

-- what the k directory entries from d on state for file n
unfoldable pub search_directory : ℕ → List ℕ → ℕ → ℕ → ℕ → FoundFile
search_directory w f n d zero = FoundFile.no_file_lem
search_directory w f n d (suc k) =
    cond (eqb (get_or f d 0) n)
    (file_found (offset_at w f (d + w)) (file_size (get_or f (d + 1) 0)))
    (search_directory w f n (d + entry_size_lem w) k)

-- ---- the physical names at the stated places of 0x3D

-- the number in records 1 and 2 of the file at a place
unfoldable pub name_at : List ℕ → ℕ → ℕ
name_at f p = number_of (part f (p + physical_name_place) long_width)

pub record NameStands (f : List ℕ) (p : ℕ) : Type 0 where
  pub within : p + physical_name_place + long_width ≤ length f

-- the names at those places
abbrev pub names_at : List ℕ → List ℕ → List ℕ
names_at f places = map (name_at f) (documentation_places places)

pub record NamesStand (f places : List ℕ) : Type 0 where
  pub all : All (NameStands f) (documentation_places places)

-- r is the remainder of the name at a place
pub record RemainderAt (f : List ℕ) (p r : ℕ) : Type 0 where
  pub is : r ≡ remainder (name_at f p)

-- whether a slave's name is among those of the slaves after it
unfoldable pub repeats_name : List ℕ → List ℕ → ℕ → Bool
repeats_name f places s = is_among (name_at f (get_or places (documentation_index s) 0)) (drop (s + 1) (names_at f places))
