-- A cluster, its slaves and their files (document 01, "The cluster file", second paragraph).
use Rattle.std.specs.Prelude.{ℕ, ◌+◌, ◌*◌, ◌-◌, ◌/◌, ◌%◌, List, [], ◌∷◌, map, Bool, cond, length, get_or, eqb, leb, ltb}
use Rattle.file.specs.Rules.Order.{both}
use Rattle.file.specs.Rules.Bytes.{number_of, part}
use Rattle.file.specs.Rules.Layout.{record_size}

-- a file: its number, and its bytes, the four of record 0x00 first
-- "record 0x00 is its header, of free content"
pub record File : Type 0 where
  pub number : ℕ
  pub bytes : List ℕ

-- "The zero at the end of a table entry becomes 0 awake or 1 asleep." (document 02, job 9)
pub record Slave : Type 0 where
  pub asleep : ℕ
  pub files : List File

-- a slave with no files, for an index beyond the slave table
abbrev pub no_slave_lem : Slave
no_slave_lem = record { asleep = 0; files = [] }

unfoldable pub is_awake : Slave → Bool
is_awake s = eqb s.asleep 0

-- the edition of the file that holds it, the epoch, the pending flag, the pending logical name, PB2 and PB3, and the slaves in table
-- order
pub record Cluster : Type 0 where
  pub edition : ℕ
  pub epoch : ℕ
  pub flag : ℕ
  pub pending_name : ℕ
  pub pending_pb2 : ℕ
  pub pending_pb3 : ℕ
  pub slaves : List Slave

-- "A file is 4(r + 1) bytes, records 0x00 to r": the r of that many bytes
unfoldable pub last_record : List ℕ → ℕ
last_record bs = length bs / record_size - 1

-- the bytes of the file of that number, none where there is no such file
unfoldable pub bytes_among : List File → ℕ → List ℕ
bytes_among [] n = []
bytes_among (x ∷ xs) n = cond (eqb x.number n) x.bytes (bytes_among xs n)

unfoldable pub bytes_in : Slave → ℕ → List ℕ
bytes_in s n = bytes_among s.files n

-- "file 0x08 (configuration)" and "file 0x3D (documentation, 000)"
abbrev pub configuration : ℕ
configuration = 0x08

abbrev pub documentation : ℕ
documentation = 0x3D

-- the slave has record r of file n, and its four bytes
unfoldable pub has_record : Slave → ℕ → ℕ → Bool
has_record s n r = leb (record_size * r + record_size) (length (bytes_in s n))

unfoldable pub record_of : Slave → ℕ → ℕ → List ℕ
record_of s n r = part (bytes_in s n) (record_size * r) record_size

-- "Records 1 and 2 of 0x3D are the physical name: series number, then serial number, 32 bits each"
unfoldable pub physical_name : Slave → ℕ
physical_name s = number_of (part (bytes_in s documentation) record_size (2 * record_size))

-- "In 0x08 (layout of 004): record 1 holds the new logical name in byte 2 and the logical name in byte 3"
unfoldable pub new_logical_name : Slave → ℕ
new_logical_name s = get_or (bytes_in s configuration) (record_size + 2) 0

unfoldable pub logical_name : Slave → ℕ
logical_name s = get_or (bytes_in s configuration) (record_size + 3) 0

-- those of the slaves, in table order
unfoldable pub logical_names : Cluster → List ℕ
logical_names c = map logical_name c.slaves

-- "records 2 and 3 hold the comparison value IDCV"
unfoldable pub comparison_value : Slave → ℕ
comparison_value s = number_of (part (bytes_in s configuration) (record_size * 2) (2 * record_size))

-- "Logical name 0xFF is "unnamed", 0x00 is broadcast."
abbrev pub unnamed : ℕ
unnamed = 0xFF

abbrev pub broadcast : ℕ
broadcast = 0x00

-- "The text and figure of 002 differ on PB2; the figure holds: file number in the six high bits, operation in the two low."
-- "Our values: 0 read, 1 write, 2 execute."
abbrev pub file_number_of : ℕ → ℕ
file_number_of pb2 = pb2 / 4

abbrev pub operation_of : ℕ → ℕ
operation_of pb2 = pb2 % 4

unfoldable pub pb2_of : ℕ → ℕ → ℕ
pb2_of file operation = 4 * file + operation

abbrev pub read_operation : ℕ
read_operation = 0

abbrev pub write_operation : ℕ
write_operation = 1

abbrev pub execute_operation : ℕ
execute_operation = 2

-- an operation above these is none: operation 3, or any above it
-- 13. "An address frame, read or to be written, has operation 3, or above 3 when handed to the writer."
unfoldable pub no_operation : ℕ → Bool
no_operation operation = ltb execute_operation operation

-- a read that is addressed to 0x00
-- 14. "A read, received or to be written, is addressed to 0x00."
unfoldable pub broadcast_read : ℕ → ℕ → Bool
broadcast_read operation name = both (eqb operation read_operation) (eqb name broadcast)
