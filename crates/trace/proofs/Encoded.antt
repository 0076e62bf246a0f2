-- A trace is accepted exactly where it is the encoding of its frames: inductions along the rows, whose frames lie in the data one after
-- the other.
-- Assumes nothing.
use Rattle.std.proofs.Common.{ℕ, zero, suc, ◌+◌, ◌*◌, ◌^◌, ◌≤◌, ◌<◌, arith, ◌≡◌, refl, sym, ap, ap₂, ◌∙◌, subst, List, [], ◌∷◌, ◌++◌, true, false, eqb-true, eq-eqb, length, length-append}
use Rattle.file.specs.Rules.Bytes.{All, Bytes, number_of, bytes_of, part}
use Rattle.file.proofs.NumberLaws.{part_length}
use Rattle.file.proofs.Sizes.{bytes_of-length}
use Rattle.file.proofs.Bytes.{all_first, all_others, bytes-part, number_of-below}
use Rattle.file.proofs.Stands.{Stands, stands-part, part-stands, stands_at, stands-left, stands_right, stands-append, stands-none, stands-number, number-stands, stands-whole, whole-stands}
use Rattle.trace.specs.Rules.Layout.{header_size, row_size}
use Rattle.trace.specs.Rules.Encode.{row_of, rows, data_of, encode_trace, Frame, Frames}
use Rattle.trace.specs.Rules.Trace.{frame_count, data_length, offset_in, length_in, data_place_lem, whole_rows, broken_trace, frames_from, frames_of}
use Rattle.trace.specs.Claims.Encoding.{AcceptedIsEncoded, EncodedIsAccepted}
use Rattle.trace.proofs.Facts.{row_next, row_here, row_rest, rows_end, trace_facts, trace_yes}

-- ---- lengths

row_length : (place : ℕ) (x : List ℕ) → length (row_of place x) ≡ row_size
unfolding row_of
row_length place x = simp (length-append, bytes_of-length)

pub rows-length : (place : ℕ) (xs : List (List ℕ)) → length (rows place xs) ≡ row_size * length xs
unfolding rows
rows-length place [] = refl
rows-length place (x ∷ xs) = simp (length-append, row_length, rows-length (place + length x) xs) (omega arith)

pub encoded-length : (xs : List (List ℕ)) → length (encode_trace xs) ≡ header_size + row_size * length xs + length (data_of xs)
unfolding encode_trace
encoded-length xs = simp (length-append, bytes_of-length, rows-length) (omega arith)

pub frames-count : (t : List ℕ) (row n : ℕ) → length (frames_from t row n) ≡ n
unfolding frames_from
frames-count t row zero = refl
frames-count t row (suc n) = ap suc (frames-count t (row + row_size) n)

-- a number in w bytes
number-below : {t : List ℕ} (at w : ℕ) → Bytes t → at + w ≤ length t → number_of (part t at w) < 256 ^ w
number-below {t} at w b h = rw (part_length t at w h) at (number_of-below (bytes-part b at w))

length-byte : {t : List ℕ} → Bytes t → (row : ℕ) → row + row_size ≤ length t → length_in t row < 256
unfolding length_in
length-byte b row h = number-below (row + 2) 1 b (omega arith)

-- ---- frames that stand in a trace: their rows from one on, their bytes from a place of the data on, which they fill to its end

pub record FramesStand (t : List ℕ) (row place : ℕ) (xs : List (List ℕ)) : Type 0 where
  pub fit : All Frame xs
  pub stated : Stands t row (rows place xs)
  pub bytes : Stands t (data_place_lem t + place) (data_of xs)
  pub filled : place + length (data_of xs) ≡ data_length t

module _ {t : List ℕ} where
  frames-none : {row place : ℕ} → row ≤ length t → length t ≡ data_place_lem t + data_length t → place ≡ data_length t → FramesStand t row place []
  unfolding rows data_of
  frames-none h long e =
      record { fit = All.all_empty; stated = stands-none h; bytes = stands-none (omega arith); filled = omega arith }

  frames-next :
      {row place : ℕ} {x : List ℕ} {xs : List (List ℕ)}
      → Frame x
      → Stands t row (row_of place x)
      → Stands t (data_place_lem t + place) x
      → FramesStand t (row + row_size) (place + length x) xs
      → FramesStand t row place (x ∷ xs)
  unfolding rows data_of
  frames-next {row} {place} {x} {xs} f s b r =
      let next : row + row_size ≡ row + length (row_of place x) = ap (λ (n : ℕ). row + n) (sym (row_length place x)) in
      let on : data_place_lem t + (place + length x) ≡ data_place_lem t + place + length x = omega arith in
      record {
        fit = All.all_next f r.fit;
        stated = stands-append s (stands_at next r.stated);
        bytes = stands-append b (stands_at on r.bytes);
        filled = omega (arith, r.filled, length-append x (data_of xs));
      }

  first-stated : {row place : ℕ} {x : List ℕ} {xs : List (List ℕ)} → FramesStand t row place (x ∷ xs) → Stands t row (row_of place x)
  unfolding rows
  first-stated {place = place} {x = x} {xs = xs} s = stands-left (row_of place x) (rows (place + length x) xs) s.stated

  first-bytes : {row place : ℕ} {x : List ℕ} {xs : List (List ℕ)} → FramesStand t row place (x ∷ xs) → Stands t (data_place_lem t + place) x
  unfolding data_of
  first-bytes {x = x} {xs = xs} s = stands-left x (data_of xs) s.bytes

  others-stand :
      {row place : ℕ} {x : List ℕ} {xs : List (List ℕ)} → FramesStand t row place (x ∷ xs) → FramesStand t (row + row_size) (place + length x) xs
  unfolding rows data_of
  others-stand {row} {place} {x} {xs} s =
      let next : row + length (row_of place x) ≡ row + row_size = ap (λ (n : ℕ). row + n) (row_length place x) in
      let on : data_place_lem t + place + length x ≡ data_place_lem t + (place + length x) = omega arith in
      record {
        fit = all_others s.fit;
        stated = stands_at next (stands_right (row_of place x) (rows (place + length x) xs) s.stated);
        bytes = stands_at on (stands_right x (data_of xs) s.bytes);
        filled = omega (arith, s.filled, length-append x (data_of xs));
      }

  -- a row that states a place and a length, both ways
  module _ (row place : ℕ) (x : List ℕ) where
    row_stands : Bytes t → row + row_size ≤ length t → offset_in t row ≡ place → length_in t row ≡ length x → Stands t row (row_of place x)
    unfolding row_of offset_in length_in
    row_stands b h o l =
        let after : row + 2 ≡ row + length (bytes_of 2 place) = ap (λ (n : ℕ). row + n) (sym (bytes_of-length 2 place)) in
        stands-append (stands-number 2 b (omega arith) o) (stands_at after (stands-number 1 b (omega arith) l))

    stands-offset : place < 256 ^ 2 → Stands t row (row_of place x) → offset_in t row ≡ place
    unfolding row_of offset_in
    stands-offset h s = number-stands 2 h (stands-left (bytes_of 2 place) (bytes_of 1 (length x)) s)

    stands-length : Frame x → Stands t row (row_of place x) → length_in t row ≡ length x
    unfolding row_of length_in
    stands-length f s =
        let after : row + length (bytes_of 2 place) ≡ row + 2 = ap (λ (n : ℕ). row + n) (bytes_of-length 2 place) in
        number-stands 1 (omega (arith, f.short)) (stands_at after (stands_right (bytes_of 2 place) (bytes_of 1 (length x)) s))

  -- the frames of rows that fill the data stand
  frames-found :
      (row place n : ℕ)
      → Bytes t
      → length t ≡ data_place_lem t + data_length t
      → row + row_size * n ≤ length t
      → whole_rows t row place n ≡ true
      → FramesStand t row place (frames_from t row n)
  unfolding frames_from
  frames-found row place zero b long h e = frames-none (omega arith) long (eqb-true _ _ (sym (rows_end t row place) ∙ e))
  frames-found row place (suc n) b long h e =
      let size : ℕ = length_in t row in
      let x : List ℕ = part t (data_place_lem t + place) size in
      let rest = frames-found (row + row_size) (place + size) n b long (omega arith) (row_rest t row place n e) in
      let within : data_place_lem t + place + size ≤ length t = omega (arith, rest.bytes.fits) in
      let whole : length x ≡ size = part_length t (data_place_lem t + place) size within in
      let stands : FramesStand t row place (x ∷ frames_from t (row + row_size) n) =
      frames-next
      (record { bytes = bytes-part b (data_place_lem t + place) size; short = omega (arith, length-byte b row (omega arith)) })
      (row_stands row place x b (omega arith) (row_here t row place n e) (sym whole))
      (part-stands size within)
      (rw (sym whole) at rest)
      in
      subst (λ (p : ℕ). FramesStand t row place (part t (data_place_lem t + p) size ∷ frames_from t (row + row_size) n)) (sym (row_here t row place n e)) stands

  -- frames that stand fill the data, and are read from it
  module _ (short : length t < 256 ^ 2) where
    frame-offset : {row place : ℕ} {x : List ℕ} {xs : List (List ℕ)} → FramesStand t row place (x ∷ xs) → offset_in t row ≡ place
    frame-offset {row} {place} {x} s = stands-offset row place x (omega (arith, s.bytes.fits)) (first-stated s)

    frame-length : {row place : ℕ} {x : List ℕ} {xs : List (List ℕ)} → FramesStand t row place (x ∷ xs) → length_in t row ≡ length x
    frame-length {row} {place} {x} s = stands-length row place x (all_first s.fit) (first-stated s)

    frames-fill : {row place : ℕ} (xs : List (List ℕ)) → FramesStand t row place xs → whole_rows t row place (length xs) ≡ true
    unfolding data_of
    frames-fill {row} {place} [] s = rows_end t row place ∙ eq-eqb place (data_length t) (omega (arith, s.filled))
    frames-fill {row} {place} (x ∷ xs) s =
        row_next t row place (length xs) (frame-offset s) ∙ rw (frame-length s) (frames-fill {row = row + row_size} xs (others-stand s))

    frames-read : {row place : ℕ} (xs : List (List ℕ)) → FramesStand t row place xs → frames_from t row (length xs) ≡ xs
    unfolding frames_from
    frames-read [] s = refl
    frames-read {row} {place} (x ∷ xs) s =
        let first : part t (data_place_lem t + offset_in t row) (length_in t row) ≡ x = rw (frame-offset s, frame-length s) (stands-part (first-bytes s)) in
        ap₂ (λ (y : List ℕ) (ys : List (List ℕ)). y ∷ ys) first (frames-read {row = row + row_size} xs (others-stand s))

-- ---- the whole trace

-- a trace whose header counts the frames that stand after it
record Laid (t : List ℕ) (xs : List (List ℕ)) : Type 0 where
  count : frame_count t ≡ length xs
  frames : FramesStand t header_size 0 xs

-- where the rows end the data begins
rows-before-data : (t : List ℕ) (xs : List (List ℕ)) → frame_count t ≡ length xs → header_size + length (rows 0 xs) ≡ data_place_lem t + 0
unfolding data_place_lem
rows-before-data t xs e = omega (arith, rows-length 0 xs)

module _ {t : List ℕ} {xs : List (List ℕ)} where
  laid_stands : Bytes t → header_size ≤ length t → Laid t xs → Stands t 0 (encode_trace xs)
  unfolding encode_trace frame_count data_length
  laid_stands b h l =
      let body : Stands t 4 (rows 0 xs ++ data_of xs) =
      stands-append l.frames.stated (stands_at (sym (rows-before-data t xs l.count)) l.frames.bytes)
      in
      let size : number_of (part t 2 2) ≡ length (data_of xs) = omega (arith, l.frames.filled) in
      let n₁ : 2 + 2 ≡ 2 + length (bytes_of 2 (length (data_of xs))) = rw (bytes_of-length 2 (length (data_of xs))) in
      let n₀ : 2 ≡ 0 + length (bytes_of 2 (length xs)) = rw (bytes_of-length 2 (length xs)) in
      stands-append (stands-number 2 b (omega arith) l.count)
      (stands_at n₀ (stands-append (stands-number 2 b (omega arith) size) (stands_at n₁ body)))

  stands_laid : Frames xs → Stands t 0 (encode_trace xs) → Laid t xs
  unfolding encode_trace frame_count data_length
  stands_laid f s =
      let most : length (encode_trace xs) ≤ 16384 = f.whole in
      let long = encoded-length xs in
      let body = rows 0 xs ++ data_of xs in
      let second = bytes_of 2 (length (data_of xs)) ++ body in
      let n₀ : 0 + length (bytes_of 2 (length xs)) ≡ 2 = rw (bytes_of-length 2 (length xs)) in
      let n₁ : 2 + length (bytes_of 2 (length (data_of xs))) ≡ 2 + 2 = rw (bytes_of-length 2 (length (data_of xs))) in
      let from₂ = stands_at n₀ (stands_right (bytes_of 2 (length xs)) second s) in
      let from₄ = stands_at n₁ (stands_right (bytes_of 2 (length (data_of xs))) body from₂) in
      let count : number_of (part t 0 2) ≡ length xs =
      number-stands 2 (omega arith) (stands-left (bytes_of 2 (length xs)) second s)
      in
      let size : number_of (part t 2 2) ≡ length (data_of xs) =
      number-stands 2 (omega arith) (stands-left (bytes_of 2 (length (data_of xs))) body from₂)
      in
      record {
        count = count;
        frames =
            record {
              fit = f.each;
              stated = stands-left (rows 0 xs) (data_of xs) from₄;
              bytes = stands_at (rows-before-data t xs count) (stands_right (rows 0 xs) (data_of xs) from₄);
              filled = omega (arith, size);
            };
      }

-- ---- the claims

-- a trace that breaks nothing is the encoding of its frames
module _ (t : List ℕ) (b : Bytes t) (e : broken_trace t ≡ false) where
  accepted_laid : Laid t (frames_of t)
  unfolding frames_of data_place_lem
  accepted_laid =
      let f = trace_facts t e in
      record {
        count = sym (frames-count t header_size (frame_count t));
        frames = frames-found header_size 0 (frame_count t) b f.long (omega (arith, f.long)) f.rows;
      }

  accepted-length : length (encode_trace (frames_of t)) ≡ length t
  unfolding data_place_lem
  accepted-length =
      let l = accepted_laid in
      omega (arith, encoded-length (frames_of t), l.count, l.frames.filled, (trace_facts t e).long)

  pub accepted-encoded : t ≡ encode_trace (frames_of t)
  accepted-encoded = sym (whole-stands accepted-length (laid_stands b (trace_facts t e).low accepted_laid))

  pub accepted-frames : Frames (frames_of t)
  accepted-frames = record { each = accepted_laid.frames.fit; whole = omega (arith, accepted-length, (trace_facts t e).high) }

-- the encoding of frames that a trace can hold breaks nothing, and its frames are those
pub encoded-accepted : EncodedIsAccepted
unfolding frames_of data_place_lem
encoded-accepted xs f =
    let t : List ℕ = encode_trace xs in
    let l : Laid t xs = stands_laid f (stands-whole t) in
    let long = encoded-length xs in
    record {
      accepted =
          trace_yes t
          (record {
            low = omega arith;
            high = f.whole;
            long = omega (arith, l.count, l.frames.filled);
            rows = rw l.count (frames-fill (omega (arith, f.whole)) xs l.frames);
          });
      read = rw l.count (frames-read (omega (arith, f.whole)) xs l.frames);
    }

pub accepted_exactly : AcceptedIsEncoded
accepted_exactly t b = (
  λ e. (accepted-frames t b e, accepted-encoded t b e),
  λ (f, e). subst (λ (u : List ℕ). broken_trace u ≡ false) (sym e) (encoded-accepted (frames_of t) f).accepted,
)
