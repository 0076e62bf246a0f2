-- The numbers of the layout, each by w, the bytes of an offset: 2 in edition 1 (document 01, "The cluster file": "Our own layout,
-- edition 1."), 4 in edition 2 (document 02, job 10: "In edition 2 offsets and length have 4 bytes"). The number that it is in edition
-- 1, then that in edition 2, stands in its comment; `Claims/EditionOne` and `Claims/EditionTwo` compute them all.
use Rattle.std.specs.Prelude.{ℕ, ◌+◌, ◌*◌, ◌-◌, ◌/◌, ◌%◌, ◌≤◌, ◌≡◌, List, cond, get_or, eqb}

-- ---- the width of an offset

-- the bytes of an offset in an edition: 2, 4
abbrev pub width_in : ℕ → ℕ
width_in edition = 2 * edition

-- the edition of a width: 1, 2. An offset has twice as many bytes as its edition's number, so the edition is half the width. The layout
-- goes by the width and not by the edition since it is offsets that the editions differ in: each number below counts bytes and offsets.
-- A file of no known edition has a width too, that of edition 1 (`width_of`), and then its byte 2 is not the edition of its width.
abbrev pub edition_of : ℕ → ℕ
edition_of w = w / 2

-- a width that there is: 2 bytes or 4
pub record OffsetWidth (w : ℕ) : Type 0 where
  pub least : 2 ≤ w
  pub most : w ≤ 4
  pub even : w % 2 ≡ 0

-- ---- the header: "Header, 16 bytes: 0 to 1 the mark 0x54 0x41; 2 the edition, 1; 3 the slave count, 0 to 32; 4 to 5 the offset of
-- the slave table, 16; 6 to 7 the file's length; 8 the epoch; 9 the pending flag, 0 or 1; 10 to 12 the pending logical name, PB2 and
-- PB3; 13 to 15 zero."
-- "Header, 24 bytes: 0 to 3 as before, 4 to 7 table offset 24, 8 to 11 length, 12 to 16 epoch and pending bytes, 17 to 23 zero."
-- (document 02, job 10)

-- "0 to 1 the mark": its first byte
abbrev pub mark_place : ℕ
mark_place = 0

-- "2 the edition"
abbrev pub edition_place : ℕ
edition_place = 2

-- "3 the slave count"
abbrev pub count_place : ℕ
count_place = 3

-- "4 to 5 the offset of the slave table", "4 to 7 table offset": its first byte
abbrev pub table_place : ℕ
table_place = 4

-- "6 to 7 the file's length", "8 to 11 length": its first byte, 6, 8
abbrev pub length_place : ℕ → ℕ
length_place w = 4 + w

-- "8 the epoch", the first of "12 to 16 epoch and pending bytes": 8, 12
abbrev pub epoch_place : ℕ → ℕ
epoch_place w = 4 + 2 * w

-- "9 the pending flag": 9, 13
abbrev pub flag_place : ℕ → ℕ
flag_place w = 5 + 2 * w

-- "10 to 12 the pending logical name, PB2 and PB3": 10, 14
abbrev pub pending_name_place : ℕ → ℕ
pending_name_place w = 6 + 2 * w

-- 11, 15
abbrev pub pending_pb2_place : ℕ → ℕ
pending_pb2_place w = 7 + 2 * w

-- 12, 16
abbrev pub pending_pb3_place : ℕ → ℕ
pending_pb3_place w = 8 + 2 * w

-- "13 to 15 zero", "17 to 23 zero": the first of them, 13, 17
abbrev pub zeros_place : ℕ → ℕ
zeros_place w = 9 + 2 * w

-- the width of a file: edition 2's "if byte 2 is present and is 2, otherwise those of edition 1" (a byte that is not there is read as 0)
unfoldable pub width_of : List ℕ → ℕ
width_of f = cond (eqb (get_or f edition_place 0) 2) (width_in 2) (width_in 1)

-- the flag of a pending operation
abbrev pub pending_flag : ℕ
pending_flag = 1

-- the zeros at its end: 3, 7
abbrev pub zeros_length : ℕ → ℕ
zeros_length w = 2 * w - 1

-- the header's length, which is the slave table's offset: 16, 24
abbrev pub header_size : ℕ → ℕ
header_size w = 8 + 4 * w

-- ---- entries

-- a table entry and a directory entry: 4 bytes each, 8 bytes each
abbrev pub entry_size_lem : ℕ → ℕ
entry_size_lem w = 2 * w

-- zeros that fill an entry up beyond edition 1's: none, 2
abbrev pub fill_length : ℕ → ℕ
fill_length w = w - 2

-- ---- limits

-- "the slave count, 0 to 32", "longer than 32,768 bytes"; "the limits are 64 slaves and 65,536 bytes" (document 02, job 10)
abbrev pub max_slaves : ℕ → ℕ
max_slaves w = 16 * w

abbrev pub max_length : ℕ → ℕ
max_length w = 16384 * w

-- ---- records

-- "A file is 4(r + 1) bytes": a record is 4
abbrev pub record_size : ℕ
record_size = 4
