-- Traces written out: no frames; an MSD, an empty frame and a multipartner frame; and what breaks the layout.
-- Assumes nothing.
use Rattle.std.proofs.Common.{ℕ, ◌≡◌, refl, List, [], ◌∷◌, true, false}
use Rattle.file.specs.Rules.Bytes.{number_of, bytes_of, part}
use Rattle.file.specs.Rules.Order.{both, either}
use Rattle.trace.specs.Rules.Encode.{row_of, rows, data_of, encode_trace}
use Rattle.trace.specs.Rules.Trace.{frame_count, data_length, offset_in, length_in, data_place_lem, whole_rows, broken_trace, frames_from, frames_of}

abbrev pub three : List (List ℕ)
three = (0x49 ∷ []) ∷ [] ∷ (0x78 ∷ []) ∷ []

-- frame count and data length; a row for each frame; the data
abbrev pub three_trace : List ℕ
three_trace =
    0 ∷ 3 ∷ 0 ∷ 2 ∷
    0 ∷ 0 ∷ 1 ∷
    0 ∷ 1 ∷ 0 ∷
    0 ∷ 1 ∷ 1 ∷
    0x49 ∷ 0x78 ∷ []

pub record Examples : Type 0 where
  pub none : encode_trace [] ≡ 0 ∷ 0 ∷ 0 ∷ 0 ∷ []
  pub encoded : encode_trace three ≡ three_trace
  pub accepted : broken_trace three_trace ≡ false
  pub read : frames_of three_trace ≡ three
  -- no whole header; the data one byte short; an offset off by one; two frames exchanged
  pub header_short : broken_trace (0 ∷ 0 ∷ 0 ∷ []) ≡ true
  pub data_short : broken_trace (0 ∷ 1 ∷ 0 ∷ 2 ∷ 0 ∷ 0 ∷ 2 ∷ 0x49 ∷ []) ≡ true
  pub offset_off : broken_trace (0 ∷ 1 ∷ 0 ∷ 1 ∷ 0 ∷ 1 ∷ 1 ∷ 0x49 ∷ []) ≡ true
  pub exchanged : broken_trace (0 ∷ 2 ∷ 0 ∷ 2 ∷ 0 ∷ 1 ∷ 1 ∷ 0 ∷ 0 ∷ 1 ∷ 0x49 ∷ 0x78 ∷ []) ≡ true

pub examples : Examples
unfolding number_of bytes_of part both either row_of rows data_of encode_trace frame_count data_length offset_in length_in data_place_lem whole_rows broken_trace frames_from frames_of
examples =
    record {
      none = refl;
      encoded = refl;
      accepted = refl;
      read = refl;
      header_short = refl;
      data_short = refl;
      offset_off = refl;
      exchanged = refl;
    }
