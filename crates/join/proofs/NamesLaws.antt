-- The physical names of two files, compared.
-- Assumes nothing.
use Rattle.std.proofs.Common.{ℕ, zero, suc, ◌+◌, ◌*◌, ◌/◌, ◌%◌, ◌≤◌, ◌<◌, arith, ◌≡◌, refl, sym, ap, ◌∙◌, List, [], ◌∷◌, map, Bool, true, false, length, get_or, take, drop, ext_get_or, get_or-take, length-take-le, drop-cons}
use lib.ListN.{length-map}
use Rattle.file.specs.Rules.Bytes.{All, number_of}
use Rattle.file.specs.Rules.FileGrounds.{is_among}
use Rattle.file.specs.Rules.Cluster.{Slave, Cluster, documentation, physical_name}
use Rattle.file.specs.Rules.Decode.{decode}
use Rattle.file.specs.Inner.Places.{no_slave_lem, slave_of, places_each, documentation_index}
use Rattle.file.specs.Inner.Accepted.{slave_count, Placed}
use Rattle.file.specs.Inner.Checked.{documentation_places, name_at, names_at, NamesStand}
use Rattle.file.specs.Inner.Marked.{remainder}
use Rattle.file.proofs.Order.{either_left, either-next}
use Rattle.file.proofs.Width.{few-slaves}
use Rattle.file.proofs.Marks.{marked-new}
use Rattle.file.proofs.NamesLaws.{name_of, documents_length, document_of, length-names-at}
use Rattle.file.proofs.ReaderLaws.{documentation-room, documentation-within, part-there}
use Rattle.join.specs.Rules.Joined.{any_among, shares_name}
use Rattle.join.specs.Inner.Names.{remainder_of, MarksOf}

-- ---- lists

get_d_mapped : {A : Type 0} (m : A → ℕ) (l : List A) (d : A) (i : ℕ) → i < length l → get_or (map m l) i 0 ≡ m (get_or l i d)
get_d_mapped m [] d i h = absurd (omega arith)
get_d_mapped m (x ∷ l) d zero h = refl
get_d_mapped m (x ∷ l) d (suc i) h = get_d_mapped m l d i (omega arith)

all_from : {P : ℕ → Type 0} (l : List ℕ) → ((i : ℕ) → i < length l → P (get_or l i 0)) → All P l
all_from [] each = All.all_empty
all_from (x ∷ l) each = All.all_next (each 0 (omega arith)) (all_from l (λ i h. each (suc i) (omega arith)))

remainders : (ss : List Slave) → map remainder_of ss ≡ map remainder (map physical_name ss)
unfolding remainder_of
remainders [] = refl
remainders (s ∷ ss) = ap (λ (l : List ℕ). remainder (physical_name s) ∷ l) (remainders ss)

-- ---- the names at the places of the first file's slaves

module _ {f places : List ℕ} (h : Placed f places) {n : ℕ} (count : n ≡ slave_count f) (room : places_each * slave_count f ≤ length places) where
  abbrev stated : List ℕ
  stated = take (places_each * n) places

  stated-count : length stated / places_each ≡ n
  stated-count = omega (arith, length-take-le (places_each * n) places (omega (arith, count)))

  document-is : (i : ℕ) → i < n → get_or (documentation_places stated) i 0 ≡ get_or places (documentation_index i) 0
  document-is i l = document_of stated i (omega (arith, stated-count)) ∙ get_or-take (places_each * n) places (documentation_index i) 0 (omega arith)

  name-is : (i : ℕ) → i < n → name_at f (get_or places (documentation_index i) 0) ≡ physical_name (slave_of (decode f) i)
  unfolding name_at physical_name
  name-is i l =
      let inside : i < slave_count f = omega (arith, count) in
      let long = documentation-room h.file i inside in
      ap number_of (rw (h.at.document i inside) (part-there h.file i documentation 4 8 (omega arith)))

  pub names-stated : names_at f stated ≡ map physical_name (decode f).slaves
  unfolding slave_of
  names-stated =
      let long : length (names_at f stated) ≡ n = length-names-at f stated ∙ stated-count in
      ext_get_or 0 (names_at f stated) (map physical_name (decode f).slaves) (long ∙ count ∙ sym (length-map (decode f).slaves physical_name))
      (λ i l.
      let below : i < n = omega (arith, long) in
      name_of f (documentation_places stated) i (omega (arith, documents_length stated, stated-count))
      ∙ ap (name_at f) (document-is i below) ∙ name-is i below ∙ sym (get_d_mapped physical_name (decode f).slaves no_slave_lem i (omega (arith, count))))

  pub names_stand : NamesStand f stated
  names_stand =
      record {
        all = all_from (documentation_places stated)
            (λ i l.
            let below : i < n = omega (arith, documents_length stated, stated-count) in
            rw (document-is i below) record { within = omega (arith, documentation-within h i (omega (arith, count))) });
      }

  -- a name whose remainder is new is none of theirs
  pub new-name : {seen : List Bool} → MarksOf 256 seen (map remainder_of (decode f).slaves) → (name : ℕ) → get_or seen (name % 256) false ≡ false
      → is_among name (names_at f stated) ≡ false
  new-name marks name e =
      rw names-stated (marked-new remainder name (map physical_name (decode f).slaves) (rw (remainders (decode f).slaves) at marks.are) (omega (arith, marks.long)) e)

-- the places of an accepted file's slaves have room in an array of them
pub places-room : {f places : List ℕ} → Placed f places → (list : List ℕ) → length list ≡ 130 → places_each * slave_count f ≤ length list
places-room {f} h list long = omega (arith, long, few-slaves (decode f) h.file.legal)

-- ---- the search for one that the first file also has: what is left of it is what the whole search gives

pub record Asking (f : List ℕ) (d : Cluster) (i : ℕ) : Type 0 where
  pub same : any_among (map physical_name (drop i d.slaves)) (map physical_name (decode f).slaves) ≡ shares_name (decode f) d

pub asking_start : (f : List ℕ) (d : Cluster) → Asking f d 0
unfolding shares_name
asking_start f d = record { same = refl }

drop_past : (l : List Slave) (k : ℕ) → length l ≤ k → drop k l ≡ []
drop_past [] zero h = refl
drop_past [] (suc k) h = refl
drop_past (x ∷ xs) zero h = absurd (omega arith)
drop_past (x ∷ xs) (suc k) h = drop_past xs k (omega arith)

module _ {f : List ℕ} {d : Cluster} {i : ℕ} (h : Asking f d i) where
  pub asking_end : {n : ℕ} → n ≡ length d.slaves → n ≤ i → false ≡ shares_name (decode f) d
  unfolding any_among
  asking_end {n} count past =
      let none : drop i d.slaves ≡ [] = drop_past d.slaves i (omega (arith, count)) in
      rw none at h.same

  module _ {places : List ℕ} (p : Placed f places) {n : ℕ} (first : n ≡ slave_count f) (room : places_each * slave_count f ≤ length places)
      {m : ℕ} (second : m ≡ length d.slaves) (more : i < m) {name : ℕ} (is : name ≡ physical_name (slave_of d i))
      {t : Bool} (found : t ≡ is_among name (names_at f (take (places_each * n) places))) where
    next : map physical_name (drop i d.slaves) ≡ name ∷ map physical_name (drop (i + 1) d.slaves)
    unfolding slave_of
    next =
        let one : suc i ≡ i + 1 = omega arith in
        ap (map physical_name) (drop-cons d.slaves i no_slave_lem (omega (arith, second)))
        ∙ ap (λ (k : ℕ). physical_name (get_or d.slaves i no_slave_lem) ∷ map physical_name (drop k d.slaves)) one
        ∙ ap (λ (k : ℕ). k ∷ map physical_name (drop (i + 1) d.slaves)) (sym is)

    among : t ≡ is_among name (map physical_name (decode f).slaves)
    among = found ∙ ap (is_among name) (names-stated p first room)

    pub asking_here : t ≡ true → true ≡ shares_name (decode f) d
    unfolding any_among
    asking_here e =
        let rest : List ℕ = map physical_name (drop (i + 1) d.slaves) in
        sym (either_left (any_among rest (map physical_name (decode f).slaves)) (sym among ∙ e)) ∙ (rw next at h.same)

    pub asking_next : t ≡ false → Asking f d (i + 1)
    unfolding any_among
    asking_next e =
        let rest : List ℕ = map physical_name (drop (i + 1) d.slaves) in
        record { same = sym (either-next (any_among rest (map physical_name (decode f).slaves)) (sym among ∙ e)) ∙ (rw next at h.same) }
