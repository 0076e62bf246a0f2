-- The number in a value of each of the three types that document 01 keeps apart: "A file number, a record number and a logical name
-- are never taken for one another"; and in an operation. A contract that reads a value through these takes none of another type.
use Rattle.std.specs.Prelude.{ℕ}
use Rattle.file.specs.declared.types.FileNumber.{FileNumber}
use Rattle.file.specs.declared.types.RecordNumber.{RecordNumber}
use Rattle.file.specs.declared.types.LogicalName.{LogicalName}
use Rattle.file.specs.declared.types.Operation.{Operation}

abbrev pub file_in : FileNumber → ℕ
file_in n = n.0

abbrev pub record_in : RecordNumber → ℕ
record_in n = n.0

abbrev pub name_in_lem : LogicalName → ℕ
name_in_lem n = n.0

abbrev pub operation_in : Operation → ℕ
operation_in n = n.0
