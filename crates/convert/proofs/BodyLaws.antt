-- The slave table and the slaves, slave by slave: the entries of the slaves so far and, from another place on, these slaves, or their
-- directories over slaves that were copied.
-- Assumes nothing.
use Rattle.std.proofs.Common.{ℕ, zero, suc, ◌+◌, ◌*◌, ◌-◌, ◌≤◌, ◌<◌, arith, add-zero, ◌≡◌, refl, sym, ap, ◌∙◌, subst, List, [], ◌∷◌, ◌++◌, append_assoc, Bool, false, w64, Fits, length, get_or, take, length-append, take_all, length-take-le}
use lib.ListN.{length-map}
use lib.Seq.{sets, length-sets}
use Rattle.file.specs.Rules.Bytes.{part}
use Rattle.file.specs.Rules.Layout.{entry_size_lem}
use Rattle.file.specs.Rules.Cluster.{Slave}
use Rattle.file.specs.Rules.Encode.{contents, slave_size, slave_bytes, slaves_bytes, slaves_size, slaves_place, file_length, table_entry, table}
use Rattle.file.specs.Rules.Decode.{decode}
use Rattle.file.specs.Inner.Places.{no_slave_lem, slave_of}
use Rattle.file.specs.Inner.Accepted.{AcceptedFile, WidthOf, slave_count}
use Rattle.file.proofs.Sizes.{directory-length, table_entry-length, table-length, slaves_bytes-length}
use Rattle.file.proofs.AtWidth.{becomes-at}
use Rattle.file.proofs.ReaderLaws.{length_limit}
use Rattle.file.proofs.Appended.{slaves_size-next, slaves_bytes-next}
use Rattle.convert.specs.Inner.Putting.{Put, OffsetFits, table_entry_of}
use Rattle.convert.specs.Inner.Slaves.{slave_start, directory_of, with_directories, listed_as, listed, StartsAt, SlaveRead, SlaveFits, BodyFits, DirectoryDone, SlaveDone, BodyDone, MovedDone}
use Rattle.convert.proofs.Putting.{put-none, put-room, put_same, put_then, sets_swap, put-between, put_over, both-room}
use Rattle.convert.proofs.SlaveLaws.{own_length, slaves-there}
use Rattle.convert.proofs.SizeLaws.{entries_below, first-slaves}
use Rattle.convert.proofs.ReadLaws.{first-start, run_is, run-within, next-starts}
use Rattle.convert.proofs.TableLaws.{table-next}

-- the slaves below i are passed: the next entry stands at `entry`, and its slave starts at `start` in the file, at `out` in the buffer
pub record Reached (v at place : ℕ) (f : List ℕ) (entry i start out : ℕ) : Type 0 where
  pub few : i ≤ slave_count f
  pub there : entry ≡ at + 2 * v * i
  pub begins : out ≡ place + slaves_size v (take i (decode f).slaves)
  pub starts : StartsAt f i start

reached_start : {f : List ℕ} {w n : ℕ} (v at place : ℕ) → AcceptedFile f → WidthOf f w → n ≡ slave_count f → Reached v at place f at 0 (8 + 4 * w + 2 * w * n) place
unfolding slaves_size
reached_start v at place h o count = record { few = omega arith; there = omega arith; begins = omega arith; starts = first-start h o count }

module _ {v at place : ℕ} {f : List ℕ} {entry i start out : ℕ} (t : Reached v at place f entry i start out) where
  abbrev ss : List Slave
  ss = (decode f).slaves

  module _ {old : List ℕ} (fits : BodyFits v old at place (decode f).slaves) (more : i < slave_count f) where
    next_out : out + slave_size v (slave_of (decode f) i) ≡ place + slaves_size v (take (i + 1) ss)
    unfolding slave_of
    next_out = let one : i + 1 ≡ suc i = omega arith in rw one (omega (arith, t.begins, slaves_size-next v ss i more))

    inside : out + slave_size v (slave_of (decode f) i) ≤ place + slaves_size v ss
    inside = omega (arith, next_out, first-slaves v ss (i + 1))

    entry-before : entry + 2 * v ≤ place
    entry-before = omega (arith, t.there, entries_below v i (length ss) more, fits.before)

    reached_offset : OffsetFits v out
    reached_offset = record { width = fits.slaves.width; most = omega (arith, inside, fits.slaves.short) }

    reached_entry-fits : Fits w64 (entry + 2 * v)
    reached_entry-fits = record { fits = omega (arith, entry-before, fits.slaves.short, fits.slaves.width.most) }

    reached_read : {w : ℕ} → AcceptedFile f → WidthOf f w → SlaveRead f w i start
    reached_read h o = record { file = h; width = o; there = more; starts = t.starts }

    reached_fits : {new : List ℕ} → length new ≡ length old → SlaveFits v new out (slave_of (decode f) i)
    reached_fits kept =
        record {
          width = fits.slaves.width;
          room = omega (arith, inside, fits.slaves.room, kept);
          short = omega (arith, inside, fits.slaves.short);
        }

    reached_room : {new mid bs : List ℕ} {next : ℕ} → length new ≡ length old → Put new next bs mid → entry + 2 * v ≤ length mid
    reached_room kept p = omega (arith, entry-before, fits.slaves.room, kept, put-room p)

    reached_next : {behind end : ℕ} → StartsAt f (i + 1) behind → end ≡ out + slave_size v (slave_of (decode f) i) → Reached v at place f (entry + 2 * v) (i + 1) behind end
    reached_next starts ends =
        let one : i + 1 ≡ suc i = omega arith in
        record { few = omega arith; there = rw one (omega (arith, t.there)); begins = ends ∙ next_out; starts = starts }

    listed-length : (kept : Bool) → length (table v place (listed kept (take i (decode f).slaves))) ≡ 2 * v * i
    listed-length kept =
        let first : List Slave = take i ss in
        table-length fits.slaves.width.least place (listed kept first) ∙ ap (λ (n : ℕ). 2 * v * n) (length-map first (listed_as kept) ∙ length-take-le i ss t.few)

    -- the slave's entry behind those that are put, by its file count and its sleep byte
    listed_next : (kept : Bool) {count asleep : ℕ} → count ≡ length (slave_of (decode f) i).files → asleep ≡ (listed_as kept (slave_of (decode f) i)).asleep
        → (l bytes : List ℕ) {mid mids : List ℕ} → Put (sets l at (table v place (listed kept (take i (decode f).slaves)))) place bytes mid
        → Put mid entry (table_entry_of v out count asleep) mids → Put (sets l at (table v place (listed kept (take (i + 1) (decode f).slaves)))) place bytes mids
    unfolding table_entry_of table_entry listed_as slave_of
    listed_next kept {count} {asleep} counts sleeps l bytes {mids = mids} p listing =
        let one : suc i ≡ i + 1 = omega arith in
        let two = fits.slaves.width.least in
        let first : List Slave = take i ss in
        let x : Slave = listed_as kept (slave_of (decode f) i) in
        let same : table_entry_of v out count asleep ≡ table_entry v (place + slaves_size v first) x = rw (counts, sleeps, t.begins) in
        let size : length (table_entry v (place + slaves_size v first) x) ≡ 2 * v = table_entry-length two (place + slaves_size v first) x in
        subst (λ (y : List ℕ). Put (sets l at y) place bytes mids)
        (sym (ap (λ (n : ℕ). table v place (listed kept (take n ss))) (sym one) ∙ table-next kept v place ss i more))
        (put-between l (table v place (listed kept first)) at p (omega (arith, t.there, listed-length kept)) (omega (arith, size, entry-before)) (put_same same listing))

    front_ends : out ≡ place + length (slaves_bytes v place (take i (decode f).slaves))
    front_ends = t.begins ∙ ap (λ (k : ℕ). place + k) (sym (slaves_bytes-length fits.slaves.width.least place (take i ss)))

    front-next : slaves_bytes v place (take i (decode f).slaves) ++ slave_bytes v out (slave_of (decode f) i) ≡ slaves_bytes v place (take (i + 1) (decode f).slaves)
    unfolding slave_of
    front-next =
        let one : suc i ≡ i + 1 = omega arith in
        ap (λ (k : ℕ). slaves_bytes v place (take i ss) ++ slave_bytes v k (slave_of (decode f) i)) t.begins
        ∙ sym (slaves_bytes-next v ss i more place)
        ∙ ap (λ (n : ℕ). slaves_bytes v place (take n ss)) one

-- ---- slaves that are put whole

pub record BodyPut (kept : Bool) (v at place : ℕ) (f old new : List ℕ) (entry i start out : ℕ) : Type 0 where
  pub here : Reached v at place f entry i start out
  pub put : Put (sets old at (table v place (listed kept (take i (decode f).slaves)))) place (slaves_bytes v place (take i (decode f).slaves)) new

pub body_start : {f : List ℕ} {w n : ℕ} (kept : Bool) (v at place : ℕ) (old : List ℕ) → AcceptedFile f → WidthOf f w → n ≡ slave_count f
    → BodyPut kept v at place f old old at 0 (8 + 4 * w + 2 * w * n) place
unfolding table slaves_bytes
body_start kept v at place old h o count = record { here = reached_start v at place h o count; put = record { is = refl } }

module _ {kept : Bool} {v at place : ℕ} {f old new : List ℕ} {entry i start out : ℕ} (t : BodyPut kept v at place f old new entry i start out) where
  pub body_kept : length new ≡ length old
  body_kept = both-room old (table v place (listed kept (take i (decode f).slaves))) at t.put

  pub body_done : {n : ℕ} → n ≡ slave_count f → n ≤ i → BodyDone kept v at place (decode f).slaves old new
  body_done count done =
      let all : take i (decode f).slaves ≡ (decode f).slaves = take_all i (decode f).slaves (omega (arith, count, t.here.few)) in
      subst (λ (xs : List Slave). BodyDone kept v at place xs old new) all (record { put = t.put })

  module _ (fits : BodyFits v old at place (decode f).slaves) (more : i < slave_count f) where
    pub body_offset : OffsetFits v out
    body_offset = reached_offset t.here fits more

    pub body_entry-fits : Fits w64 (entry + 2 * v)
    body_entry-fits = reached_entry-fits t.here fits more

    pub body_read : {w : ℕ} → AcceptedFile f → WidthOf f w → SlaveRead f w i start
    body_read h o = reached_read t.here fits more h o

    pub body_slave-fits : SlaveFits v new out (slave_of (decode f) i)
    body_slave-fits = reached_fits t.here fits more body_kept

    module _ {mid : List ℕ} {behind end : ℕ} (d : SlaveDone v f i out new mid behind end) where
      pub body_room : entry + 2 * v ≤ length mid
      body_room = reached_room t.here fits more body_kept d.put

      pub body_again : {mids : List ℕ} {count asleep : ℕ} → count ≡ length (slave_of (decode f) i).files → asleep ≡ (listed_as kept (slave_of (decode f) i)).asleep
          → Put mid entry (table_entry_of v out count asleep) mids → BodyPut kept v at place f old mids (entry + 2 * v) (i + 1) behind end
      body_again counts sleeps listing =
          let next : List ℕ = slaves_bytes v place (take (i + 1) (decode f).slaves) in
          record {
            here = reached_next t.here fits more d.starts d.ends;
            put =
                listed_next t.here fits more kept counts sleeps old next
                (put_same (front-next t.here fits more) (put_then t.put (front_ends t.here fits more) d.put)) listing;
          }

-- ---- slaves that were copied at the file's own width: the directory of each put over the copied one

over_next : (v place : ℕ) (ss : List Slave) (i : ℕ) (l : List ℕ) → i < length ss
    → with_directories v place (take (suc i) ss) l
    ≡ sets (with_directories v place (take i ss) l) (place + slaves_size v (take i ss)) (directory_of v (place + slaves_size v (take i ss)) (get_or ss i no_slave_lem))
unfolding with_directories slaves_size
over_next v place [] i l more = absurd (omega arith)
over_next v place (s ∷ ss) zero l more = rw (add-zero place)
over_next v place (s ∷ ss) (suc i) l more =
    let behind : place + (slave_size v s + slaves_size v (take i ss)) ≡ place + slave_size v s + slaves_size v (take i ss) = omega arith in
    rw behind (over_next v (place + slave_size v s) ss i (sets l place (directory_of v place s)) (omega arith))

over_room : (v place : ℕ) (ss : List Slave) (l : List ℕ) → length (with_directories v place ss l) ≡ length l
unfolding with_directories
over_room v place [] l = refl
over_room v place (s ∷ ss) l = over_room v (place + slave_size v s) ss (sets l place (directory_of v place s)) ∙ length-sets l place (directory_of v place s)

-- slaves behind other bytes, as they stand at one place, stand there as at another then
over_moves : {v : ℕ} → 2 ≤ v → (ss : List Slave) (from place at : ℕ) (l xs : List ℕ) {m : List ℕ} → place ≡ at + length xs → Put l at (xs ++ slaves_bytes v from ss) m
    → Put l at (xs ++ slaves_bytes v place ss) (with_directories v place ss m)
unfolding with_directories slaves_bytes slave_bytes slave_size
over_moves two [] from place at l xs there p = p
over_moves {v} two (s ∷ ss) from place at l xs {m} there p =
    let files = s.files in
    let was : List ℕ = directory_of v from s in
    let entries : List ℕ = directory_of v place s in
    let rest : List ℕ = slaves_bytes v (from + slave_size v s) ss in
    let long : length entries ≡ entry_size_lem v * length files = directory-length two (place + entry_size_lem v * length files) files in
    let same : length was ≡ length entries = directory-length two (from + entry_size_lem v * length files) files ∙ sym long in
    let over : Put l at (xs ++ (entries ++ (contents files ++ rest))) (sets m place entries) =
    put_over xs was entries (contents files ++ rest) (put_same (ap (λ (x : List ℕ). xs ++ x) (append_assoc was (contents files) rest)) p) there same (record { is = refl })
    in
    let next : place + slave_size v s ≡ at + length (xs ++ (entries ++ contents files)) = simp (length-append) (omega (arith, there, long)) in
    let joined : xs ++ (entries ++ (contents files ++ rest)) ≡ (xs ++ (entries ++ contents files)) ++ rest =
    ap (λ (x : List ℕ). xs ++ x) (sym (append_assoc entries (contents files) rest)) ∙ sym (append_assoc xs (entries ++ contents files) rest)
    in
    put_same (append_assoc xs (entries ++ contents files) (slaves_bytes v (place + slave_size v s) ss))
    (over_moves two ss (from + slave_size v s) (place + slave_size v s) at l (xs ++ (entries ++ contents files)) next (put_same joined over))

-- the slaves so far are listed, and their directories put
pub record MovedPut (v at place : ℕ) (f old new : List ℕ) (entry i start out : ℕ) : Type 0 where
  pub here : Reached v at place f entry i start out
  pub put : Put (with_directories v place (take i (decode f).slaves) old) at (table v place (listed false (take i (decode f).slaves))) new

pub moved-start : {f : List ℕ} {v n : ℕ} (at place : ℕ) (old : List ℕ) → AcceptedFile f → WidthOf f v → n ≡ slave_count f
    → MovedPut v at place f old old at 0 (8 + 4 * v + 2 * v * n) place
unfolding table with_directories
moved-start {v = v} at place old h o count = record { here = reached_start v at place h o count; put = put-none old at }

module _ {v at place : ℕ} {f old new : List ℕ} {entry i start out : ℕ} (t : MovedPut v at place f old new entry i start out) where
  pub moved-kept : length new ≡ length old
  moved-kept = put-room t.put ∙ over_room v place (take i (decode f).slaves) old

  pub moved-done : {n : ℕ} → n ≡ slave_count f → n ≤ i → MovedDone v at place (decode f).slaves old new
  moved-done count done =
      let all : take i (decode f).slaves ≡ (decode f).slaves = take_all i (decode f).slaves (omega (arith, count, t.here.few)) in
      subst (λ (xs : List Slave). MovedDone v at place xs old new) all (record { put = t.put })

  module _ (fits : BodyFits v old at place (decode f).slaves) (more : i < slave_count f) where
    pub moved-offset : OffsetFits v out
    moved-offset = reached_offset t.here fits more

    pub moved-entry-fits : Fits w64 (entry + 2 * v)
    moved-entry-fits = reached_entry-fits t.here fits more

    pub moved-slave-fits : SlaveFits v new out (slave_of (decode f) i)
    moved-slave-fits = reached_fits t.here fits more moved-kept

    pub moved-read : AcceptedFile f → WidthOf f v → SlaveRead f v i start
    moved-read h o = reached_read t.here fits more h o

    module _ {mid : List ℕ} {end : ℕ} (d : DirectoryDone v out (slave_of (decode f) i) new mid end) where
      pub moved-room : entry + 2 * v ≤ length mid
      moved-room = reached_room t.here fits more moved-kept d.put

      -- the directory lies behind the table
      with_directory : mid ≡ sets (with_directories v place (take (i + 1) (decode f).slaves) old) at (table v place (listed false (take i (decode f).slaves)))
      unfolding slave_of
      with_directory =
          let ss : List Slave = (decode f).slaves in
          let one : suc i ≡ i + 1 = omega arith in
          let listing : List ℕ = table v place (listed false (take i ss)) in
          let front : List ℕ = with_directories v place (take i ss) old in
          let apart : at + length listing ≤ out = omega (arith, listed-length t.here fits more false, entry-before t.here fits more, t.here.there, t.here.begins) in
          d.put.is
          ∙ ap (λ (x : List ℕ). sets x out (directory_of v out (slave_of (decode f) i))) t.put.is
          ∙ sets_swap (directory_of v out (slave_of (decode f) i)) front listing at out apart
          ∙ ap (λ (x : List ℕ). sets x at listing)
          (ap (λ (k : ℕ). sets front k (directory_of v k (slave_of (decode f) i))) t.here.begins
          ∙ sym (over_next v place ss i old more)
          ∙ ap (λ (n : ℕ). with_directories v place (take n ss) old) one)

      module _ (h : AcceptedFile f) (o : WidthOf f v) where
        behind-is : start + (end - out) ≡ slave_start v (decode f) (i + 1)
        unfolding slave_size
        behind-is = omega (arith, d.ends, run_is (moved-read h o) refl)

        pub moved-fits : Fits w64 (start + (end - out))
        moved-fits = record { fits = omega (arith, behind-is, run-within (moved-read h o), length_limit h) }

        pub moved_again : {mids : List ℕ} {count asleep : ℕ} → count ≡ length (slave_of (decode f) i).files → asleep ≡ (listed_as false (slave_of (decode f) i)).asleep
            → Put mid entry (table_entry_of v out count asleep) mids → MovedPut v at place f old mids (entry + 2 * v) (i + 1) (start + (end - out)) end
        moved_again counts sleeps listing =
            let first : List ℕ = with_directories v place (take (i + 1) (decode f).slaves) old in
            record {
              here = reached_next t.here fits more (next-starts (moved-read h o) behind-is) d.ends;
              put = record { is = (listed_next t.here fits more false counts sleeps first [] (record { is = with_directory }) listing).is };
            }

-- its files end behind its start
pub moved_order : {v out end : ℕ} {s : Slave} {old new : List ℕ} → DirectoryDone v out s old new end → out ≤ end
moved_order d = omega (arith, d.ends)

-- an entry's size is a number of the machine's
pub size_fits : {v at place : ℕ} {out : List ℕ} {ss : List Slave} → BodyFits v out at place ss → Fits w64 (2 * v)
size_fits fits = record { fits = omega (arith, fits.slaves.width.most) }

-- ---- the slaves of a file at its own width, copied at once

module _ {f : List ℕ} {v n : ℕ} (h : AcceptedFile f) (o : WidthOf f v) (count : n ≡ slave_count f) where
  slaves-place : 8 + 4 * v + 2 * v * n ≡ slaves_place v (decode f).slaves
  unfolding slaves_place
  slaves-place = rw count (omega arith)

  pub slaves-within : 8 + 4 * v + 2 * v * n ≤ length f
  slaves-within = (first-start h o count).within

  slaves-length : length f - (8 + 4 * v + 2 * v * n) ≡ slaves_size v (decode f).slaves
  unfolding file_length
  slaves-length = omega (arith, own_length (becomes-at o h), slaves-place)

  copied : part f (8 + 4 * v + 2 * v * n) (length f - (8 + 4 * v + 2 * v * n)) ≡ slaves_bytes v (slaves_place v (decode f).slaves) (decode f).slaves
  copied = rw (slaves-length, slaves-place) (slaves-there (becomes-at o h))

  module _ {at place : ℕ} {out : List ℕ} (fits : BodyFits v out at place (decode f).slaves) where
    pub copy_room : place + (length f - (8 + 4 * v + 2 * v * n)) ≤ length out
    copy_room = omega (arith, slaves-length, fits.slaves.room)

    -- the copied slaves, with their directories and their table
    pub body_moved : {mid new : List ℕ} → Put out place (part f (8 + 4 * v + 2 * v * n) (length f - (8 + 4 * v + 2 * v * n))) mid
        → MovedDone v at place (decode f).slaves mid new → BodyDone false v at place (decode f).slaves out new
    body_moved p d =
        let ss : List Slave = (decode f).slaves in
        let two = fits.slaves.width.least in
        let listing : List ℕ = table v place (listed false ss) in
        let moved = over_moves two ss (slaves_place v ss) place place out [] (omega arith) (put_same copied p) in
        let long : length listing ≡ 2 * v * length ss =
        table-length two place (listed false ss) ∙ ap (λ (k : ℕ). 2 * v * k) (length-map ss (listed_as false))
        in
        record { put = put-between out [] at moved (omega arith) (omega (arith, long, fits.before)) d.put }

-- ---- a width by its literal

module _ {v u : ℕ} (is : v ≡ u) where
  pub own_at : {f : List ℕ} → WidthOf f v → WidthOf f u
  own_at {f} o = subst (WidthOf f) is o

  -- the room is that before the copy
  pub fits-at : {at place next : ℕ} {ss : List Slave} {old new bs : List ℕ} → BodyFits v old at place ss → Put old next bs new → BodyFits u new at place ss
  fits-at {at} {place} {ss = ss} {new = new} fits p =
      subst (λ (w : ℕ). BodyFits w new at place ss) is
      (record {
        before = fits.before;
        slaves = record { width = fits.slaves.width; room = omega (arith, fits.slaves.room, put-room p); short = fits.slaves.short };
      })

  pub moved_at : {at place : ℕ} {ss : List Slave} {mid new : List ℕ} → MovedDone u at place ss mid new → MovedDone v at place ss mid new
  moved_at {at} {place} {ss} {mid} {new} d = subst (λ (w : ℕ). MovedDone w at place ss mid new) (sym is) d
