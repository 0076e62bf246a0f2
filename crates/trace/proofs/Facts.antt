-- What ground 19 says of a trace's bytes, both ways, and the walk along the rows a row at a time.
-- Assumes nothing.
use Rattle.std.proofs.Common.{ℕ, suc, ◌+◌, ◌≤◌, ◌≡◌, refl, List, true, false, ltb-false, le-ltb, eqb-true, eq-eqb, ne_eqb, length, eqb}
use borrow.Author.Tests.{not-false}
use Rattle.file.proofs.Order.{both_left, both_right, both-next, both_false_left, either_false, either_false_left, either_false_right}
use Rattle.file.proofs.Facts.{not_yes}
use Rattle.trace.specs.Rules.Layout.{header_size, row_size, max_trace}
use Rattle.trace.specs.Rules.Trace.{frame_count, data_length, offset_in, length_in, data_place_lem, whole_rows, broken_trace}

-- ---- the walk along the rows

module _ (t : List ℕ) (row place n : ℕ) where
  pub row_next : offset_in t row ≡ place → whole_rows t row place (suc n) ≡ whole_rows t (row + row_size) (place + length_in t row) n
  unfolding whole_rows
  row_next e = both-next _ (eq-eqb _ _ e)

  pub row_stop : (offset_in t row ≡ place → ⊥) → whole_rows t row place (suc n) ≡ false
  unfolding whole_rows
  row_stop e = both_false_left _ (ne_eqb _ _ e)

  pub row_here : whole_rows t row place (suc n) ≡ true → offset_in t row ≡ place
  unfolding whole_rows
  row_here e = eqb-true _ _ (both_left _ _ e)

  pub row_rest : whole_rows t row place (suc n) ≡ true → whole_rows t (row + row_size) (place + length_in t row) n ≡ true
  unfolding whole_rows
  row_rest e = both_right _ _ e

pub rows_end : (t : List ℕ) (row place : ℕ) → whole_rows t row place 0 ≡ eqb place (data_length t)
unfolding whole_rows
rows_end t row place = refl

-- ---- ground 19

pub record TraceFacts (t : List ℕ) : Type 0 where
  pub low : header_size ≤ length t
  pub high : length t ≤ max_trace
  pub long : length t ≡ data_place_lem t + data_length t
  pub rows : whole_rows t header_size 0 (frame_count t) ≡ true

pub trace_facts : (t : List ℕ) → broken_trace t ≡ false → TraceFacts t
unfolding broken_trace
trace_facts t e =
    let e₁ = either_false_right _ _ e in
    let e₂ = either_false_right _ _ e₁ in
    record {
      low = ltb-false _ _ (either_false_left _ _ e);
      high = ltb-false _ _ (either_false_left _ _ e₁);
      long = eqb-true _ _ (not-false _ (either_false_left _ _ e₂));
      rows = not-false _ (either_false_right _ _ e₂);
    }

pub trace_yes : (t : List ℕ) → TraceFacts t → broken_trace t ≡ false
unfolding broken_trace
trace_yes t h =
    either_false (le-ltb _ _ h.low)
    (either_false (le-ltb _ _ h.high) (either_false (not_yes (eq-eqb _ _ h.long)) (not_yes h.rows)))
