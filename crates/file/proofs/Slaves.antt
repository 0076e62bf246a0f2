-- The slave table and the slaves in a list of bytes: the walk over the table arrives exactly where slaves with legal files stand as
-- their encoding, and reading the table gives them back. First one slave, then n of them.
-- Assumes nothing.
use Rattle.std.proofs.Common.{ℕ, zero, suc, ◌+◌, ◌*◌, ◌^◌, ◌≤◌, ◌<◌, add-zero, arith, ◌≡◌, refl, sym, ap, ap₂, ◌∙◌, subst, List, [], ◌∷◌, length}
use Rattle.std.proofs.Common.{get_or, replicate}
use Rattle.file.specs.Rules.Bytes.{All, Bytes, bytes_of}
use Rattle.file.specs.Rules.Layout.{entry_size_lem, fill_length}
use Rattle.file.specs.Rules.Cluster.{File, Slave}
use Rattle.file.specs.Rules.Encode.{directory, contents, slave_size, slave_bytes, slaves_bytes, slaves_size, table_entry, table}
use Rattle.file.specs.Rules.Decode.{offset_at, files_at, slave_at, slaves_at}
use Rattle.file.specs.Rules.Legal.{LegalFile, Rising}
use Rattle.file.specs.Rules.FileGrounds.{Walk, and_then, good_table_entry, walk_slave, walk_slaves}
use Rattle.file.proofs.Facts.{TableEntryFacts, table-entry_facts, table-entry_yes}
use Rattle.file.proofs.Arrivals.{tested_arrives, then-arrives, arrives_same, length-files_at}
use Rattle.file.proofs.Sizes.{bytes_of-length, directory-length, table_entry-length, slave_bytes-length}
use Rattle.file.proofs.Bytes.{all_first, all_others}
use Rattle.file.proofs.Stands.{Stands, stands_at, stands-byte, stands-left, stands_right, stands-append, stands-none, stands-next, stands-zeros, zeros_stand, stands-number, number-stands}
use Rattle.file.proofs.Files.{FilesStand, files-found, files-walk, files-read}

-- ---- the bytes of a table entry

pub record TableBytes (w : ℕ) (f : List ℕ) (t place : ℕ) (s : Slave) : Type 0 where
  pub offset : Stands f t (bytes_of w place)
  pub count : get_or f (t + w) 0 ≡ length s.files
  pub sleep : get_or f (t + w + 1) 0 ≡ s.asleep
  pub fill : Stands f (t + w + 2) (replicate (fill_length w) 0)

module _ {w : ℕ} {f : List ℕ} {t place : ℕ} {s : Slave} where
  pub table-bytes : Stands f t (table_entry w place s) → TableBytes w f t place s
  unfolding table_entry
  table-bytes e =
      let zeros : List ℕ = replicate (fill_length w) 0 in
      let behind : Stands f (t + w) (length s.files ∷ s.asleep ∷ zeros) =
      rw (bytes_of-length w place) at (stands_right (bytes_of w place) (length s.files ∷ s.asleep ∷ zeros) e)
      in
      record {
        offset = stands-left (bytes_of w place) (length s.files ∷ s.asleep ∷ zeros) e;
        count = stands-byte behind 0 (omega arith) (sym (add-zero (t + w)));
        sleep = stands-byte behind 1 (omega arith) refl;
        fill = stands_right (length s.files ∷ s.asleep ∷ []) zeros behind;
      }

  pub bytes-table : TableBytes w f t place s → Stands f t (table_entry w place s)
  unfolding table_entry
  bytes-table b =
      stands-append b.offset (rw (bytes_of-length w place) (stands-next b.count refl (stands-next b.sleep (omega arith) b.fill)))

-- ---- a slave that stands: its table entry at t, its directory at the place and its files behind it

-- what the layout asks of a slave's files
pub record LaidOut (s : Slave) : Type 0 where
  pub sleeps : s.asleep ≤ 1
  pub rising : Rising 0 s.files
  pub legal : All LegalFile s.files

pub record SlaveStands (w : ℕ) (f : List ℕ) (t place : ℕ) (s : Slave) : Type 0 where
  pub sleeps : s.asleep ≤ 1
  pub entry : Stands f t (table_entry w place s)
  pub files : FilesStand w f place 0 (place + entry_size_lem w * length s.files) s.files

-- slaves that stand: their table at t, their directories and files from the place on
pub record SlavesStand (w : ℕ) (f : List ℕ) (t place : ℕ) (ss : List Slave) : Type 0 where
  pub legal : All LaidOut ss
  pub entries : Stands f t (table w place ss)
  pub bytes : Stands f place (slaves_bytes w place ss)

-- a slave's files begin where its directory ends
pub directory-end :
    {w : ℕ} (two : 2 ≤ w) (place : ℕ) (s : Slave)
    → place + length (directory w (place + entry_size_lem w * length s.files) s.files) ≡ place + entry_size_lem w * length s.files
directory-end {w} two place s = ap (λ (n : ℕ). place + n) (directory-length two (place + entry_size_lem w * length s.files) s.files)

-- a slave that stands ends within the bytes
pub slave-end : {w : ℕ} {f : List ℕ} {t place : ℕ} {s : Slave} → SlaveStands w f t place s → place + slave_size w s ≤ length f
unfolding slave_size
slave-end a = omega (arith, a.files.bytes.fits)

module _ {w : ℕ} (two : 2 ≤ w) {f : List ℕ} where
  pub slaves-none : {t place : ℕ} → t ≤ length f → place ≤ length f → SlavesStand w f t place []
  unfolding table slaves_bytes
  slaves-none h k = record { legal = All.all_empty; entries = stands-none h; bytes = stands-none k }

  pub slaves-next :
      {t place : ℕ} {s : Slave} {ss : List Slave}
      → SlaveStands w f t place s
      → SlavesStand w f (t + entry_size_lem w) (place + slave_size w s) ss
      → SlavesStand w f t place (s ∷ ss)
  unfolding table slaves_bytes slave_bytes
  slaves-next {t} {place} {s} {ss} a r =
      let own : Stands f place (slave_bytes w place s) =
      stands-append a.files.entries (stands_at (sym (directory-end two place s)) a.files.bytes)
      in
      record {
        legal = All.all_next (record { sleeps = a.sleeps; rising = a.files.rising; legal = a.files.legal }) r.legal;
        entries = stands-append a.entry (stands_at (ap (λ (n : ℕ). t + n) (sym (table_entry-length two place s))) r.entries);
        bytes = stands-append own (stands_at (ap (λ (n : ℕ). place + n) (sym (slave_bytes-length two place s))) r.bytes);
      }

  pub first-slave : {t place : ℕ} {s : Slave} {ss : List Slave} → SlavesStand w f t place (s ∷ ss) → SlaveStands w f t place s
  unfolding table slaves_bytes slave_bytes
  first-slave {t} {place} {s} {ss} a =
      let legal : LaidOut s = all_first a.legal in
      let entries : List ℕ = directory w (place + entry_size_lem w * length s.files) s.files in
      let own : Stands f place (slave_bytes w place s) =
      stands-left (slave_bytes w place s) (slaves_bytes w (place + slave_size w s) ss) a.bytes
      in
      record {
        sleeps = legal.sleeps;
        entry = stands-left (table_entry w place s) (table w (place + slave_size w s) ss) a.entries;
        files =
            record {
              rising = legal.rising;
              legal = legal.legal;
              entries = stands-left entries (contents s.files) own;
              bytes = stands_at (directory-end two place s) (stands_right entries (contents s.files) own);
            };
      }

  pub other-slaves :
      {t place : ℕ} {s : Slave} {ss : List Slave}
      → SlavesStand w f t place (s ∷ ss)
      → SlavesStand w f (t + entry_size_lem w) (place + slave_size w s) ss
  unfolding table slaves_bytes
  other-slaves {t} {place} {s} {ss} a =
      record {
        legal = all_others a.legal;
        entries =
            stands_at (ap (λ (n : ℕ). t + n) (table_entry-length two place s))
            (stands_right (table_entry w place s) (table w (place + slave_size w s) ss) a.entries);
        bytes =
            stands_at (ap (λ (n : ℕ). place + n) (slave_bytes-length two place s))
            (stands_right (slave_bytes w place s) (slaves_bytes w (place + slave_size w s) ss) a.bytes);
      }

-- ---- found and read

-- the slave that an entry with that offset, file count and sleep byte names
pub slave_from : ℕ → List ℕ → ℕ → ℕ → ℕ → Slave
slave_from w f place k asleep = record { asleep = asleep; files = files_at w f place k }

pub slave_at-entry :
    (w : ℕ) (f : List ℕ) (t : ℕ) {place k asleep : ℕ} → offset_at w f t ≡ place → get_or f (t + w) 0 ≡ k → get_or f (t + w + 1) 0 ≡ asleep
    → slave_at w f t ≡ slave_from w f place k asleep
unfolding slave_at slave_from
slave_at-entry w f t p k z = rw (p, k, z)

module _ {w : ℕ} (two : 2 ≤ w) {f : List ℕ} (short : length f < 256 ^ w) where
  -- a slave that a walk passes stands, and the walk arrives where its bytes end
  pub slave-found :
      {t place e : ℕ}
      → Bytes f
      → t + entry_size_lem w ≤ length f
      → walk_slave w f t place ≡ Walk.to e
      → SlaveStands w f t place (slave_at w f t) × (e ≡ place + slave_size w (slave_at w f t))
  unfolding walk_slave slave_from offset_at slave_size
  slave-found {t} {place} {e} b h p =
      let came = tested_arrives (good_table_entry w f t place) _ p in
      let g : TableEntryFacts w f t place = table-entry_facts w f t place came.0 in
      let k : ℕ = get_or f (t + w) 0 in
      let s : Slave = slave_from w f place k (get_or f (t + w + 1) 0) in
      let count : length s.files ≡ k = length-files_at w f place k in
      let found = files-found two short place 0 (place + entry_size_lem w * k) k b g.within g.within came.1 in
      let stands : SlaveStands w f t place s × (e ≡ place + slave_size w s) = (
        record {
          sleeps = g.sleeps;
          entry =
              bytes-table
              (record {
                offset = stands-number w b (omega arith) g.offset;
                count = sym count;
                sleep = refl;
                fill = stands-zeros (fill_length w) (omega arith) g.zeros;
              });
          files = rw count found.0;
        },
        rw count (omega (arith, found.1)),
      )
      in
      subst (λ (y : Slave). SlaveStands w f t place y × (e ≡ place + slave_size w y)) (sym (slave_at-entry w f t g.offset refl refl)) stands

  pub slaves-found :
      (t place n : ℕ) {e : ℕ}
      → Bytes f
      → t + entry_size_lem w * n ≤ length f
      → place ≤ length f
      → walk_slaves w f t place n ≡ Walk.to e
      → SlavesStand w f t place (slaves_at w f t n) × (e ≡ place + slaves_size w (slaves_at w f t n))
  unfolding walk_slaves slaves_at slaves_size
  slaves-found t place zero b h i p = (slaves-none two (omega arith) i, sym (arrives_same p) ∙ sym (add-zero place))
  slaves-found t place (suc n) b h i p =
      let (next, came, rest) = then-arrives (walk_slave w f t place) (λ (q : ℕ). walk_slaves w f (t + entry_size_lem w) q n) p in
      let here = slave-found b (omega arith) came in
      let others =
      slaves-found (t + entry_size_lem w) next n b (omega arith)
      (omega (arith, here.1, slave-end here.0)) rest
      in
      (slaves-next two here.0 (rw here.1 at others.0), omega (arith, here.1, others.1))

  -- a slave that stands has a good table entry, is walked to its end, and is read
  pub slave_good : {t place : ℕ} {s : Slave} → SlaveStands w f t place s → TableEntryFacts w f t place
  unfolding offset_at
  slave_good {t} {place} {s} a =
      let e : TableBytes w f t place s = table-bytes a.entry in
      record {
        offset = number-stands w (omega (arith, a.files.bytes.fits)) e.offset;
        sleeps = rw e.sleep a.sleeps;
        zeros = zeros_stand (fill_length w) e.fill;
        within = rw e.count (omega (arith, a.files.bytes.fits));
      }

  pub slave-walk : {t place : ℕ} {s : Slave} → SlaveStands w f t place s → walk_slave w f t place ≡ Walk.to (place + slave_size w s)
  unfolding walk_slave slave_size
  slave-walk {t} {place} {s} a =
      rw (table-entry_yes w f t place (slave_good a), (table-bytes a.entry).count)
      (files-walk two short s.files a.files ∙ ap Walk.to (omega arith))

  pub slave-read : {t place : ℕ} {s : Slave} → SlaveStands w f t place s → slave_at w f t ≡ s
  unfolding slave_from
  slave-read {t} {place} {s} a =
      slave_at-entry w f t (slave_good a).offset (table-bytes a.entry).count (table-bytes a.entry).sleep
      ∙ ap (λ (xs : List File). record { asleep = s.asleep; files = xs }) (files-read two short s.files a.files)

  pub slaves-walk :
      {t place : ℕ} (ss : List Slave) → SlavesStand w f t place ss → walk_slaves w f t place (length ss) ≡ Walk.to (place + slaves_size w ss)
  unfolding walk_slaves and_then slaves_size
  slaves-walk {t} {place} [] a = ap Walk.to (sym (add-zero place))
  slaves-walk {t} {place} (s ∷ ss) a =
      rw (slave-walk (first-slave two a)) (slaves-walk {t = t + entry_size_lem w} ss (other-slaves two a) ∙ ap Walk.to (omega arith))

  pub slaves-read : {t place : ℕ} (ss : List Slave) → SlavesStand w f t place ss → slaves_at w f t (length ss) ≡ ss
  unfolding slaves_at
  slaves-read [] a = refl
  slaves-read {t = t} (s ∷ ss) a = ap₂ (λ (y : Slave) (ys : List Slave). y ∷ ys) (slave-read (first-slave two a)) (slaves-read {t = t + entry_size_lem w} ss (other-slaves two a))
