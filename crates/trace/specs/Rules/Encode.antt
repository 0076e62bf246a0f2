-- The trace of given frames, which is the layout (document 02, job 2: "A trace is: .."). That the rules of `Trace` accept exactly these
-- is claimed in `Claims/Encoding`.
use Rattle.std.specs.Prelude.{ℕ, ◌+◌, ◌≤◌, List, [], ◌∷◌, ◌++◌, length}
use Rattle.file.specs.Rules.Bytes.{All, Bytes, bytes_of}
use Rattle.trace.specs.Rules.Layout.{count_width, data_length_width, offset_width, length_width, max_frame, max_trace}

-- "for each frame its offset in the data (2) and length (1)"
unfoldable pub row_of : ℕ → List ℕ → List ℕ
row_of place x = bytes_of offset_width place ++ bytes_of length_width (length x)

-- the rows of frames that lie in the data from a place on, one after the other
unfoldable pub rows : ℕ → List (List ℕ) → List ℕ
rows place [] = []
rows place (x ∷ xs) = row_of place x ++ rows (place + length x) xs

-- "the data, filled by the frames in order without gap"
unfoldable pub data_of : List (List ℕ) → List ℕ
data_of [] = []
data_of (x ∷ xs) = x ++ data_of xs

-- "A trace is: frame count (2 bytes), data length (2), then for each frame its offset in the data (2) and length (1), then the data"
unfoldable pub encode_trace : List (List ℕ) → List ℕ
encode_trace frames =
    bytes_of count_width (length frames) ++ (bytes_of data_length_width (length (data_of frames)) ++ (rows 0 frames ++ data_of frames))

-- a frame that a row can state
pub record Frame (x : List ℕ) : Type 0 where
  pub bytes : Bytes x
  pub short : length x ≤ max_frame

-- frames that a trace can hold: "the whole at most 16,384 bytes"
pub record Frames (frames : List (List ℕ)) : Type 0 where
  pub each : All Frame frames
  pub whole : length (encode_trace frames) ≤ max_trace
