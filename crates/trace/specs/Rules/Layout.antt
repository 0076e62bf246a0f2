-- The numbers of a trace's layout (document 02, job 2): "A trace is: frame count (2 bytes), data length (2), then for each frame its
-- offset in the data (2) and length (1), then the data, .., the whole at most 16,384 bytes."
use Rattle.std.specs.Prelude.{ℕ, ◌+◌}

-- "(2 bytes)": a count, a data length and an offset alike
abbrev pub number_width : ℕ
number_width = 2

-- ---- the header: "frame count (2 bytes), data length (2)"

abbrev pub count_width : ℕ
count_width = number_width

abbrev pub data_length_width : ℕ
data_length_width = number_width

abbrev pub count_place : ℕ
count_place = 0

abbrev pub data_length_place : ℕ
data_length_place = count_place + count_width

-- 4
abbrev pub header_size : ℕ
header_size = data_length_place + data_length_width

-- ---- a row: "for each frame its offset in the data (2) and length (1)"

abbrev pub offset_width : ℕ
offset_width = number_width

abbrev pub length_width : ℕ
length_width = 1

-- 3
abbrev pub row_size : ℕ
row_size = offset_width + length_width

-- ---- limits

-- what a length of 1 byte can say
abbrev pub max_frame : ℕ
max_frame = 255

-- "the whole at most 16,384 bytes"
abbrev pub max_trace : ℕ
max_trace = 16384
