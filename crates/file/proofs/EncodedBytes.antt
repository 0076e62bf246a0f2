-- The encoding of a legal cluster is bytes: every number in it is below 256. Over the offset width w.
-- Assumes nothing.
use Rattle.std.proofs.Common.{ℕ, suc, ◌+◌, ◌*◌, ◌^◌, ◌≤◌, ◌<◌, arith, ◌≡◌, List, ◌++◌, length, replicate, length-append}
use Rattle.file.specs.Rules.Bytes.{All, Byte, Bytes}
use Rattle.file.specs.Rules.Layout.{fill_length, zeros_length, entry_size_lem}
use Rattle.file.specs.Rules.Cluster.{File, Slave, Cluster, last_record}
use Rattle.file.specs.Rules.Encode.{directory_entry, directory, contents, slave_size, slave_bytes, slaves_bytes, slaves_size, table_entry, table, slaves_place, file_length, header, encode_at}
use Rattle.file.specs.Rules.Legal.{LegalFile, Rising, LegalAt}
use Rattle.file.proofs.Width.{Width, place-fits}
use Rattle.file.proofs.Bytes.{all_append, all_replicate, all_map, bytes-bytes_of}
use Rattle.file.proofs.Slaves.{LaidOut}
use Rattle.file.proofs.Encoded.{legal_laid}

zeros-bytes : (n : ℕ) → Bytes (replicate n 0)
zeros-bytes n = all_replicate n 0 (omega arith)

-- ---- files

pub entry-is-bytes : (w : ℕ) {place : ℕ} {x : File} → LegalFile x → place < 256 ^ w → Bytes (directory_entry w place x)
unfolding directory_entry
entry-is-bytes w {x = x} l h =
    let number : Byte x.number = omega (arith, l.number) in
    let last : Byte (last_record x.bytes) = omega (arith, l.most) in
    All.all_next number (All.all_next last (all_append (zeros-bytes (fill_length w)) (bytes-bytes_of w h)))

pub contents-are-bytes : {xs : List File} → All LegalFile xs → Bytes (contents xs)
unfolding contents
contents-are-bytes All.all_empty = All.all_empty
contents-are-bytes (All.all_next l ls) = all_append l.bytes (contents-are-bytes ls)

pub directory-is-bytes :
    (w place : ℕ) {xs : List File} → All LegalFile xs → place + length (contents xs) < 256 ^ w → Bytes (directory w place xs)
unfolding directory contents
directory-is-bytes w place All.all_empty h = All.all_empty
directory-is-bytes w place (All.all_next {a = x} {l = xs} l ls) h =
    let sum : length (x.bytes ++ contents xs) ≡ length x.bytes + length (contents xs) = length-append x.bytes (contents xs) in
    all_append (entry-is-bytes w l (omega arith)) (directory-is-bytes w (place + length x.bytes) ls (omega arith))

-- files of rising numbers are at most 64
pub files-few : {low : ℕ} {xs : List File} → Rising low xs → All LegalFile xs → low ≤ suc 63 → low + length xs ≤ suc 63
files-few Rising.end All.all_empty h = omega arith
files-few (Rising.next {x = x} {xs = xs} n r) (All.all_next l ls) h = omega (arith, l.number, files-few r ls (omega (arith, l.number)))

-- ---- slaves

pub table_entry-is-bytes : (w : ℕ) {place : ℕ} {s : Slave} → LaidOut s → place < 256 ^ w → Bytes (table_entry w place s)
unfolding table_entry
table_entry-is-bytes w l h =
    all_append (bytes-bytes_of w h)
    (All.all_next (omega (arith, files-few l.rising l.legal (omega arith)))
    (All.all_next (omega (arith, l.sleeps)) (zeros-bytes (fill_length w))))

pub slave-is-bytes : (w place : ℕ) {s : Slave} → LaidOut s → place + slave_size w s < 256 ^ w → Bytes (slave_bytes w place s)
unfolding slave_bytes slave_size
slave-is-bytes w place {s} l h =
    all_append (directory-is-bytes w (place + entry_size_lem w * length s.files) l.legal (omega arith)) (contents-are-bytes l.legal)

pub table-is-bytes : (w place : ℕ) {ss : List Slave} → All LaidOut ss → place + slaves_size w ss < 256 ^ w → Bytes (table w place ss)
unfolding table slaves_size
table-is-bytes w place All.all_empty h = All.all_empty
table-is-bytes w place (All.all_next {a = s} l ls) h =
    all_append (table_entry-is-bytes w l (omega arith)) (table-is-bytes w (place + slave_size w s) ls (omega arith))

pub slaves-are-bytes : (w place : ℕ) {ss : List Slave} → All LaidOut ss → place + slaves_size w ss < 256 ^ w → Bytes (slaves_bytes w place ss)
unfolding slaves_bytes slaves_size
slaves-are-bytes w place All.all_empty h = All.all_empty
slaves-are-bytes w place (All.all_next {a = s} l ls) h =
    all_append (slave-is-bytes w place l (omega arith)) (slaves-are-bytes w (place + slave_size w s) ls (omega arith))

-- ---- the whole

module _ {w : ℕ} (wide : Width w) (c : Cluster) (l : LegalAt w c) where
  pub header-is-bytes : Bytes (header w c)
  unfolding header file_length slaves_place
  header-is-bytes =
      let fits : file_length w c.slaves < 256 ^ w = place-fits wide l.size in
      all_append
      (All.all_next (omega arith)
      (All.all_next (omega arith)
      (All.all_next (omega (arith, wide.counts)) (All.all_next (omega (arith, wide.counts, l.count)) All.all_empty))))
      (all_append (bytes-bytes_of w (omega arith))
      (all_append (bytes-bytes_of w fits)
      (all_append
      (All.all_next l.pending.epoch
      (All.all_next (omega (arith, l.pending.flag))
      (All.all_next l.pending.name (All.all_next l.pending.pb2 (All.all_next l.pending.pb3 All.all_empty)))))
      (zeros-bytes (zeros_length w)))))

  pub encode-is-bytes : Bytes (encode_at w c)
  unfolding encode_at file_length
  encode-is-bytes =
      let fits : file_length w c.slaves < 256 ^ w = place-fits wide l.size in
      let laid : All LaidOut c.slaves = all_map legal_laid l.slaves in
      all_append header-is-bytes
      (all_append (table-is-bytes w (slaves_place w c.slaves) laid fits) (slaves-are-bytes w (slaves_place w c.slaves) laid fits))
