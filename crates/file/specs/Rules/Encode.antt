-- The bytes of a cluster (document 01, "The cluster file"; document 02, job 10), at offsets of w bytes. The offsets follow from the
-- sizes, so a cluster has one encoding.
use Rattle.std.specs.Prelude.{ℕ, ◌+◌, ◌*◌, List, [], ◌∷◌, ◌++◌, length, replicate}
use Rattle.file.specs.Rules.Bytes.{bytes_of}
use Rattle.file.specs.Rules.Layout.{width_in, edition_of, header_size, entry_size_lem, fill_length, zeros_length}
use Rattle.file.specs.Rules.Cluster.{File, Slave, Cluster, last_record}

-- "A directory entry is 4 bytes: file number 0 to 63, strictly rising; record count r, 1 to 255; offset (2)." (the bounds and the
-- order: `Legal`); in edition 2 "a directory entry is file number, record count, two zeros, offset (4)" (document 02, job 10)
unfoldable pub directory_entry : ℕ → ℕ → File → List ℕ
directory_entry w place x = (x.number ∷ last_record x.bytes ∷ []) ++ (replicate (fill_length w) 0 ++ bytes_of w place)

-- the directory of files that lie from a place on, one after the other
unfoldable pub directory : ℕ → ℕ → List File → List ℕ
directory w place [] = []
directory w place (x ∷ xs) = directory_entry w place x ++ directory w (place + length x.bytes) xs

-- the files' bytes in order
unfoldable pub contents : List File → List ℕ
contents [] = []
contents (x ∷ xs) = x.bytes ++ contents xs

-- the bytes that a slave takes behind the table
unfoldable pub slave_size : ℕ → Slave → ℕ
slave_size w s = entry_size_lem w * length s.files + length (contents s.files)

-- a slave's directory and its files, from a place on
unfoldable pub slave_bytes : ℕ → ℕ → Slave → List ℕ
slave_bytes w place s = directory w (place + entry_size_lem w * length s.files) s.files ++ contents s.files

-- "slave by slave, its directory and its files in order, without gap"
unfoldable pub slaves_bytes : ℕ → ℕ → List Slave → List ℕ
slaves_bytes w place [] = []
slaves_bytes w place (s ∷ ss) = slave_bytes w place s ++ slaves_bytes w (place + slave_size w s) ss

unfoldable pub slaves_size : ℕ → List Slave → ℕ
slaves_size w [] = 0
slaves_size w (s ∷ ss) = slave_size w s + slaves_size w ss

-- "A table entry is 4 bytes: directory offset (2), file count (1), zero."; "The zero at the end of a table entry becomes 0 awake or 1
-- asleep." (document 02, job 9); in edition 2 "A table entry is offset (4), file count, sleep byte, two zeros" (job 10)
unfoldable pub table_entry : ℕ → ℕ → Slave → List ℕ
table_entry w place s = bytes_of w place ++ (length s.files ∷ s.asleep ∷ replicate (fill_length w) 0)

unfoldable pub table : ℕ → ℕ → List Slave → List ℕ
table w place [] = []
table w place (s ∷ ss) = table_entry w place s ++ table w (place + slave_size w s) ss

-- where the first slave's directory stands: behind header and table
unfoldable pub slaves_place : ℕ → List Slave → ℕ
slaves_place w ss = header_size w + entry_size_lem w * length ss

-- the length of the file
unfoldable pub file_length : ℕ → List Slave → ℕ
file_length w ss = slaves_place w ss + slaves_size w ss

-- "0 to 1 the mark 0x54 0x41; 2 the edition, 1; 3 the slave count, 0 to 32; 4 to 5 the offset of the slave table, 16; 6 to 7 the
-- file's length; 8 the epoch; 9 the pending flag, 0 or 1; 10 to 12 the pending logical name, PB2 and PB3; 13 to 15 zero"
-- "0 to 3 as before, 4 to 7 table offset 24, 8 to 11 length, 12 to 16 epoch and pending bytes, 17 to 23 zero" (document 02, job 10)
unfoldable pub header : ℕ → Cluster → List ℕ
header w c =
    (0x54 ∷ 0x41 ∷ edition_of w ∷ length c.slaves ∷ []) ++
    (bytes_of w (header_size w) ++
    (bytes_of w (file_length w c.slaves) ++
    ((c.epoch ∷ c.flag ∷ c.pending_name ∷ c.pending_pb2 ∷ c.pending_pb3 ∷ []) ++ replicate (zeros_length w) 0)))

-- "After the table come, slave by slave, its directory and its files in order, without gap, up to the last byte."
unfoldable pub encode_at : ℕ → Cluster → List ℕ
encode_at w c =
    header w c ++ (table w (slaves_place w c.slaves) c.slaves ++ slaves_bytes w (slaves_place w c.slaves) c.slaves)

-- at the width of its edition
unfoldable pub encode : Cluster → List ℕ
encode c = encode_at (width_in c.edition) c
