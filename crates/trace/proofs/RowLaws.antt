-- The loop along the rows of a trace: what it keeps, and one law for each way through a turn and out of it.
-- Assumes nothing.
use Rattle.std.proofs.Common.{ℕ, zero, suc, ◌+◌, ◌*◌, ◌-◌, ◌≤◌, ◌<◌, ◌≡◌, refl, sym, ◌∙◌, ap, List, Bool, true, false, not, arith, length, eqb, lt-ltb, le-ltb, eq-eqb, ne_eqb}
use Rattle.file.specs.Inner.Numbers.{ByteAt, NumberAt}
use Rattle.file.proofs.Order.{either_left, either_right, either-next}
use Rattle.file.proofs.Facts.{not_yes}
use Rattle.file.proofs.NumberLaws.{byte-number}
use Rattle.trace.specs.Rules.Layout.{header_size, row_size, max_frame, max_trace}
use Rattle.trace.specs.Rules.Trace.{frame_count, data_length, offset_in, length_in, data_place_lem, whole_rows, broken_trace}
use Rattle.trace.proofs.Facts.{row_next, row_stop, rows_end}

-- a row of those that are left
rows_stop : (t : List ℕ) (row place k : ℕ) → 0 < k → (offset_in t row ≡ place → ⊥) → whole_rows t row place k ≡ false
rows_stop t row place zero h e = absurd (omega arith)
rows_stop t row place (suc n) h e = row_stop t row place n e

rows_step :
    (t : List ℕ) (row place k : ℕ)
    → 0 < k
    → offset_in t row ≡ place
    → whole_rows t row place k ≡ whole_rows t (row + row_size) (place + length_in t row) (k - 1)
rows_step t row place zero h e = absurd (omega arith)
rows_step t row place (suc n) h e =
    let same : suc n - 1 ≡ n = omega arith in
    rw same (row_next t row place n e)

-- the walk from this row is the walk from the first
pub record Checking (t : List ℕ) (count row place : ℕ) : Type 0 where
  pub within : header_size + row_size * count ≤ length t
  pub left : ℕ
  pub at : row + row_size * left ≡ header_size + row_size * count
  pub small : place + max_frame * left ≤ max_frame * count
  pub rows : whole_rows t row place left ≡ whole_rows t header_size 0 count

pub checking_start : {t : List ℕ} {count : ℕ} → header_size + row_size * count ≤ length t → Checking t count header_size 0
checking_start {count = count} h = record { within = h; left = count; at = refl; small = omega arith; rows = refl }

module _ {t : List ℕ} {count row place : ℕ} (h : Checking t count row place) where
  some_left : row < header_size + row_size * count → 0 < h.left
  some_left more = omega (arith, h.at)

  pub checking_stop : {offset : ℕ} → row < header_size + row_size * count → NumberAt t row 2 offset → (offset ≡ place → ⊥) → false ≡ whole_rows t header_size 0 count
  unfolding offset_in
  checking_stop more o other = sym (rows_stop t row place h.left (some_left more) (λ e. other (o.is ∙ e))) ∙ h.rows

  pub checking-next :
      {offset size : ℕ}
      → row < header_size + row_size * count
      → NumberAt t row 2 offset
      → offset ≡ place
      → ByteAt t (row + 2) size
      → Checking t count (row + row_size) (place + size)
  unfolding offset_in length_in
  checking-next {size = size} more o same s =
      let stated : size ≡ length_in t row = (byte-number (omega (arith, h.within, h.at)) s).is in
      record {
        within = h.within;
        left = h.left - 1;
        at = omega (arith, h.at);
        small = omega (arith, h.small, h.at, s.byte);
        rows = rw (stated, ← (rows_step t row place h.left (some_left more) (sym o.is ∙ same))) h.rows;
      }

  pub checking_done : {size : ℕ} → header_size + row_size * count ≤ row → NumberAt t 2 2 size → eqb place size ≡ whole_rows t header_size 0 count
  unfolding data_length
  checking_done none s =
      let z : h.left ≡ 0 = omega (arith, h.at) in
      ap (eqb place) s.is ∙ sym (rows_end t row place) ∙ (rw z at h.rows)

-- ---- the ways through the whole test

pub broken-short : (t : List ℕ) → length t < header_size → true ≡ broken_trace t
unfolding broken_trace
broken-short t h = sym (either_left _ (lt-ltb _ _ h))

pub broken-long : (t : List ℕ) → max_trace < length t → true ≡ broken_trace t
unfolding broken_trace
broken-long t h = sym (either_right _ (either_left _ (lt-ltb _ _ h)))

module _ {t : List ℕ} {count size : ℕ} (n : NumberAt t 0 2 count) (s : NumberAt t 2 2 size) where
  stated-length : header_size + row_size * count + size ≡ data_place_lem t + data_length t
  unfolding data_place_lem data_length frame_count
  stated-length = omega (arith, n.is, s.is)

  pub broken-length : (length t ≡ header_size + row_size * count + size → ⊥) → true ≡ broken_trace t
  unfolding broken_trace
  broken-length other =
      sym (either_right _ (either_right _ (either_left _ (ap not (ne_eqb (length t) (data_place_lem t + data_length t) (λ e. other (e ∙ sym stated-length)))))))

  pub broken-rows :
      {r : Bool}
      → header_size ≤ length t
      → length t ≤ max_trace
      → length t ≡ header_size + row_size * count + size
      → r ≡ whole_rows t header_size 0 count
      → not r ≡ broken_trace t
  unfolding broken_trace frame_count
  broken-rows low high long is =
      let whole : not (eqb (length t) (data_place_lem t + data_length t)) ≡ false = not_yes (eq-eqb _ _ (long ∙ stated-length)) in
      rw (either-next _ (le-ltb (length t) header_size low), either-next _ (le-ltb max_trace (length t) high), either-next _ whole, is, n.is)
