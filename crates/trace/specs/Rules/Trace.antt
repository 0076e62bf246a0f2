-- What stands in a trace, and ground 19 (document 02, job 2).
use Rattle.std.specs.Prelude.{ℕ, zero, suc, ◌+◌, ◌*◌, List, [], ◌∷◌, Bool, not, length, eqb, ltb}
use Rattle.file.specs.Rules.Bytes.{number_of, part}
use Rattle.file.specs.Rules.Order.{both, either}
use Rattle.trace.specs.Rules.Layout.{count_place, count_width, data_length_place, data_length_width, header_size, offset_width, length_width, row_size, max_trace}

-- "frame count (2 bytes), data length (2)"
unfoldable pub frame_count : List ℕ → ℕ
frame_count t = number_of (part t count_place count_width)

unfoldable pub data_length : List ℕ → ℕ
data_length t = number_of (part t data_length_place data_length_width)

-- "for each frame its offset in the data (2) and length (1)": those in the row at a place
unfoldable pub offset_in : List ℕ → ℕ → ℕ
offset_in t row = number_of (part t row offset_width)

unfoldable pub length_in : List ℕ → ℕ → ℕ
length_in t row = number_of (part t (row + offset_width) length_width)

-- "then the data"
unfoldable pub data_place_lem : List ℕ → ℕ
data_place_lem t = header_size + row_size * frame_count t

-- "filled by the frames in order without gap": n rows from one on, the next frame beginning at a place of the data
unfoldable pub whole_rows : List ℕ → ℕ → ℕ → ℕ → Bool
whole_rows t row place zero = eqb place (data_length t)
whole_rows t row place (suc n) = let rest = whole_rows t (row + row_size) (place + length_in t row) n in both (eqb (offset_in t row) place) rest

-- 19. "a trace whose header, offsets or length break this layout"
unfoldable pub broken_trace : List ℕ → Bool
broken_trace t =
    either (ltb (length t) header_size)
    (either (ltb max_trace (length t))
    (either (not (eqb (length t) (data_place_lem t + data_length t))) (not (whole_rows t header_size 0 (frame_count t)))))

-- the frames of the n rows from one on
unfoldable pub frames_from : List ℕ → ℕ → ℕ → List (List ℕ)
frames_from t row zero = []
frames_from t row (suc n) = part t (data_place_lem t + offset_in t row) (length_in t row) ∷ frames_from t (row + row_size) n

unfoldable pub frames_of : List ℕ → List (List ℕ)
frames_of t = frames_from t header_size (frame_count t)
