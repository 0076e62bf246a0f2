-- Names for numbers of the layout that contracts and proofs repeat. `Rules` has each number where its sentence stands.
use Rattle.std.specs.Prelude.{ℕ, ◌+◌, ◌*◌}
use Rattle.file.specs.Rules.Layout.{record_size}

-- a number of two bytes, and one of two records
abbrev pub short_width : ℕ
short_width = 2

abbrev pub long_width : ℕ
long_width = 2 * record_size

-- in 0x3D, and in 0x08
abbrev pub physical_name_place : ℕ
physical_name_place = record_size * 1

abbrev pub new_logical_name_place : ℕ
new_logical_name_place = record_size * 1 + 2

abbrev pub logical_name_place : ℕ
logical_name_place = record_size * 1 + 3

-- the last records that 0x08 and 0x3D have at least
abbrev pub needed_configuration : ℕ
needed_configuration = 3

abbrev pub needed_documentation : ℕ
needed_documentation = 2
