-- What an accepted file says of its slaves, one by one: where their directories and files stand in it, and what their table entries and
-- directory entries hold.
-- Assumes nothing.
use Rattle.std.proofs.Common.{ℕ, zero, suc, ◌+◌, ◌*◌, ◌≤◌, ◌<◌, arith, add-zero, ◌≡◌, sym, ap, ◌∙◌, subst, List, [], ◌∷◌, length, get_or, take}
use Rattle.file.specs.Rules.Bytes.{part}
use Rattle.file.specs.Rules.Layout.{header_size, entry_size_lem}
use Rattle.file.specs.Rules.Cluster.{File, Slave, Cluster, last_record, no_slave_lem}
use Rattle.file.specs.Rules.Encode.{contents, slave_size, slaves_size, slaves_place, slaves_bytes, file_length}
use Rattle.file.specs.Rules.Legal.{LegalFile, LegalSlave}
use Rattle.file.specs.Inner.Places.{slave_of}
use Rattle.file.proofs.Sizes.{slaves_bytes-length}
use Rattle.file.proofs.Bytes.{all-at, all_map}
use Rattle.file.proofs.Width.{wide_enough}
use Rattle.file.proofs.Stands.{stands-part}
use Rattle.file.proofs.Files.{EntryBytes, FilesStand, entry-bytes, first-file, other-files}
use Rattle.file.proofs.Slaves.{table-bytes, SlaveStands, SlavesStand, first-slave, other-slaves}
use Rattle.file.proofs.Encoded.{Encoded, encoded, legal_laid}
use Rattle.file.proofs.EncodedBytes.{files-few}
use Rattle.file.proofs.AtWidth.{BecomesAt}
use Rattle.file.proofs.Appended.{slaves_size-next}
use Rattle.convert.specs.Inner.Slaves.{slave_start}

-- a file for an index beyond a directory
abbrev pub no_file_lem : File
no_file_lem = record { number = 0; bytes = [] }

-- ---- one of the slaves, and one of a slave's files, that stand in a list of bytes

module _ {w : ℕ} (two : 2 ≤ w) {f : List ℕ} where
  slave-at : {t place : ℕ} (ss : List Slave) → SlavesStand w f t place ss → (i : ℕ) → i < length ss
      → SlaveStands w f (t + entry_size_lem w * i) (place + slaves_size w (take i ss)) (get_or ss i no_slave_lem)
  unfolding slaves_size
  slave-at [] a i l = absurd (omega arith)
  slave-at {t} {place} (s ∷ ss) a zero l =
      let here : t + entry_size_lem w * 0 ≡ t = omega arith in
      rw (here, add-zero place) (first-slave two a)
  slave-at {t} {place} (s ∷ ss) a (suc i) l =
      let entry : t + entry_size_lem w * suc i ≡ t + entry_size_lem w + entry_size_lem w * i = omega arith in
      let start : place + (slave_size w s + slaves_size w (take i ss)) ≡ place + slave_size w s + slaves_size w (take i ss) = omega arith in
      rw (entry, start) (slave-at {t = t + entry_size_lem w} ss (other-slaves two a) i (omega arith))

  file-at : {d low place : ℕ} (xs : List File) → FilesStand w f d low place xs → (k : ℕ) → k < length xs
      → (p : ℕ) × EntryBytes w f (d + entry_size_lem w * k) p (get_or xs k no_file_lem)
  file-at [] a k l = absurd (omega arith)
  file-at {d} {place = place} (x ∷ xs) a zero l =
      let here : d + entry_size_lem w * 0 ≡ d = omega arith in
      (place, rw here (entry-bytes two (first-file two a).entry))
  file-at {d} {place = place} (x ∷ xs) a (suc k) l =
      let entry : d + entry_size_lem w * suc k ≡ d + entry_size_lem w + entry_size_lem w * k = omega arith in
      let rest = file-at {d = d + entry_size_lem w} xs (other-files two a) k (omega arith) in
      (rest.0, rw entry rest.1)

-- ---- an accepted file

module _ {w : ℕ} {f : List ℕ} {c : Cluster} (h : BecomesAt w f c) where
  encoding : Encoded w f c
  encoding =
      subst (λ (g : List ℕ). Encoded w g c) (sym h.encoded) (encoded (wide_enough h.legal.width) c (all_map legal_laid h.legal.slaves))

  -- the length of the file is that of its own form
  pub own_length : file_length w c.slaves ≡ length f
  own_length = encoding.whole

  module _ (s : ℕ) (l : s < length c.slaves) where
    pub slave-stands : SlaveStands w f (header_size w + entry_size_lem w * s) (slave_start w c s) (slave_of c s)
    unfolding slave_start slave_of
    slave-stands = slave-at h.legal.width.least c.slaves encoding.slaves s l

    -- its entry holds the file count and the sleep byte
    pub count-stated : get_or f (header_size w + entry_size_lem w * s + w) 0 ≡ length (slave_of c s).files
    count-stated = (table-bytes slave-stands.entry).count

    pub sleep_stated : get_or f (header_size w + entry_size_lem w * s + w + 1) 0 ≡ (slave_of c s).asleep
    sleep_stated = (table-bytes slave-stands.entry).sleep

    legal : LegalSlave (slave_of c s)
    unfolding slave_of
    legal = all-at no_slave_lem h.legal.slaves l

    -- it has at most 64 files
    pub few-files : length (slave_of c s).files ≤ 64
    few-files = omega (arith, files-few legal.rising legal.files (omega arith))

    -- the next slave starts behind it
    pub start-next : slave_start w c (suc s) ≡ slave_start w c s + slave_size w (slave_of c s)
    unfolding slave_start slave_of
    start-next = omega (arith, slaves_size-next w c.slaves s l)

    -- its files are the run between its directory and the next slave
    pub contents-there : part f (slave_start w c s + entry_size_lem w * length (slave_of c s).files) (length (contents (slave_of c s).files)) ≡ contents (slave_of c s).files
    contents-there = stands-part slave-stands.files.bytes

    -- its directory's entries, one by one
    module _ (k : ℕ) (more : k < length (slave_of c s).files) where
      abbrev x : File
      x = get_or (slave_of c s).files k no_file_lem

      pub file-legal : LegalFile x
      file-legal = all-at no_file_lem legal.files more

      entry-there : (p : ℕ) × EntryBytes w f (slave_start w c s + entry_size_lem w * k) p x
      entry-there = file-at h.legal.width.least (slave_of c s).files slave-stands.files k more

      pub number-stated : get_or f (slave_start w c s + entry_size_lem w * k) 0 ≡ x.number
      number-stated = entry-there.1.number

      pub last-stated : get_or f (slave_start w c s + entry_size_lem w * k + 1) 0 ≡ last_record x.bytes
      last-stated = entry-there.1.last

  -- all the slaves are the run behind the table
  pub slaves-there : part f (slaves_place w c.slaves) (slaves_size w c.slaves) ≡ slaves_bytes w (slaves_place w c.slaves) c.slaves
  slaves-there =
      ap (part f (slaves_place w c.slaves)) (sym (slaves_bytes-length h.legal.width.least (slaves_place w c.slaves) c.slaves))
      ∙ stands-part encoding.slaves.bytes
