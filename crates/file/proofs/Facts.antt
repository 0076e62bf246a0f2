-- What each test of the grounds says of the bytes, both ways: a test that passes gives its facts, and its facts make it pass.
-- Assumes nothing.
use Rattle.std.proofs.Common.{ℕ, suc, ◌+◌, ◌*◌, ◌≤◌, ◌<◌, ◌≡◌, refl, sym, ◌∙◌, List, ◌∷◌, Bool, true, false, not, ltb-false, le-ltb, eqb-true, eq-eqb}
use Rattle.std.proofs.Common.{leb-true, le-leb, arith, length, get_or, drop-cons, eqb}
use borrow.Author.Tests.{not-false, lt-leb}
use Rattle.file.specs.Rules.Order.{both}
use Rattle.file.specs.Rules.Bytes.{part, all_zero}
use Rattle.file.specs.Rules.Layout.{edition_of, length_place, flag_place, pending_name_place, pending_pb2_place, zeros_place}
use Rattle.file.specs.Rules.Layout.{zeros_length, header_size, entry_size_lem, fill_length, max_slaves, max_length}
use Rattle.file.specs.Rules.Cluster.{no_operation}
use Rattle.file.specs.Rules.Decode.{offset_at, file_size}
use Rattle.file.specs.Rules.FileGrounds.{wrong_size, wrong_mark, wrong_edition, wrong_length, wrong_header, wrong_pending, good_entry, good_table_entry}
use Rattle.file.proofs.Bytes.{get_d_part, zero_at}
use Rattle.file.proofs.Order.{by_case, clash, both_left, both_right, both_true, either_false, either_false_left, either_false_right}

-- a test that cannot be false is true, and the other way round
pub true_unless : {b : Bool} → (b ≡ false → ⊥) → b ≡ true
true_unless {b} h = by_case b (λ e. e) (λ e. absurd (h e))

pub false_unless : {b : Bool} → (b ≡ true → ⊥) → b ≡ false
false_unless {b} h = by_case b (λ e. absurd (h e)) (λ e. e)

pub not_yes : {b : Bool} → b ≡ true → not b ≡ false
not_yes e = rw e

pub record SizeFacts (w : ℕ) (f : List ℕ) : Type 0 where
  pub low : header_size w ≤ length f
  pub high : length f ≤ max_length w

pub size_facts : (w : ℕ) (f : List ℕ) → wrong_size w f ≡ false → SizeFacts w f
unfolding wrong_size
size_facts w f e = record { low = ltb-false _ _ (either_false_left _ _ e); high = ltb-false _ _ (either_false_right _ _ e) }

pub size_yes : (w : ℕ) (f : List ℕ) → SizeFacts w f → wrong_size w f ≡ false
unfolding wrong_size
size_yes w f h = either_false (le-ltb _ _ h.low) (le-ltb _ _ h.high)

pub record MarkFacts (f : List ℕ) : Type 0 where
  pub first : get_or f 0 0 ≡ 0x54
  pub second : get_or f 1 0 ≡ 0x41

pub mark_facts : (f : List ℕ) → wrong_mark f ≡ false → MarkFacts f
unfolding wrong_mark
mark_facts f e =
    let b : both (eqb (get_or f 0 0) 0x54) (eqb (get_or f 1 0) 0x41) ≡ true = not-false _ e in
    record { first = eqb-true _ _ (both_left _ _ b); second = eqb-true _ _ (both_right _ _ b) }

pub mark_yes : (f : List ℕ) → MarkFacts f → wrong_mark f ≡ false
unfolding wrong_mark
mark_yes f h = not_yes (both_true (eq-eqb _ _ h.first) (eq-eqb _ _ h.second))

pub edition_facts : (w : ℕ) (f : List ℕ) → wrong_edition w f ≡ false → get_or f 2 0 ≡ edition_of w
unfolding wrong_edition
edition_facts w f e = eqb-true _ _ (not-false _ e)

pub edition_yes : (w : ℕ) (f : List ℕ) → get_or f 2 0 ≡ edition_of w → wrong_edition w f ≡ false
unfolding wrong_edition
edition_yes w f h = not_yes (eq-eqb _ _ h)

-- of the four operations that two bits spell only 3 is none
pub no-operation : {operation : ℕ} → operation ≡ 3 → no_operation operation ≡ true
unfolding no_operation
no-operation {operation} e = le-leb 3 operation (omega (arith, e))

pub some-operation : {operation : ℕ} → (operation ≡ 3 → ⊥) → operation < 4 → no_operation operation ≡ false
unfolding no_operation
some-operation {operation} other h = lt-leb 3 operation (omega (arith, other))

pub length_facts : (w : ℕ) (f : List ℕ) → wrong_length w f ≡ false → offset_at w f (length_place w) ≡ length f
unfolding wrong_length
length_facts w f e = eqb-true _ _ (not-false _ e)

pub length_yes : (w : ℕ) (f : List ℕ) → offset_at w f (length_place w) ≡ length f → wrong_length w f ≡ false
unfolding wrong_length
length_yes w f h = not_yes (eq-eqb _ _ h)

pub record HeaderFacts (w : ℕ) (f : List ℕ) : Type 0 where
  pub count : get_or f 3 0 ≤ max_slaves w
  pub table : offset_at w f 4 ≡ header_size w
  pub zeros : all_zero (part f (zeros_place w) (zeros_length w)) ≡ true
  pub pending : wrong_pending (get_or f (flag_place w) 0) (get_or f (pending_name_place w) 0) (get_or f (pending_pb2_place w) 0) ≡ false

pub header_facts : (w : ℕ) (f : List ℕ) → wrong_header w f ≡ false → HeaderFacts w f
unfolding wrong_header
header_facts w f e =
    record {
      count = ltb-false _ _ (either_false_left _ _ e);
      table = eqb-true _ _ (not-false _ (either_false_left _ _ (either_false_right _ _ e)));
      zeros = not-false _ (either_false_left _ _ (either_false_right _ _ (either_false_right _ _ e)));
      pending = either_false_right _ _ (either_false_right _ _ (either_false_right _ _ e));
    }

pub header_yes : (w : ℕ) (f : List ℕ) → HeaderFacts w f → wrong_header w f ≡ false
unfolding wrong_header
header_yes w f h =
    either_false (le-ltb _ _ h.count)
    (either_false (not_yes (eq-eqb _ _ h.table)) (either_false (not_yes h.zeros) h.pending))

-- zeros, byte by byte
pub zeros-rest : (f : List ℕ) (at n : ℕ) → at < length f → all_zero (part f at (suc n)) ≡ true → all_zero (part f (suc at) n) ≡ true
unfolding part all_zero
zeros-rest f at n h e =
    let g : all_zero (get_or f at 0 ∷ part f (suc at) n) ≡ true = rw (drop-cons f at 0 h) at e in
    by_case (eqb (get_or f at 0) 0) (λ t. rw t at g) (λ t. clash (rw t at g) refl)

pub zeros_more : (f : List ℕ) (at n : ℕ) → at < length f → get_or f at 0 ≡ 0 → all_zero (part f (suc at) n) ≡ true → all_zero (part f at (suc n)) ≡ true
unfolding part all_zero
zeros_more f at n h z e = rw (drop-cons f at 0 h, z) e

pub zeros-none : (f : List ℕ) (at : ℕ) → all_zero (part f at 0) ≡ true
unfolding part all_zero
zeros-none f at = refl

-- the facts of a good directory entry
pub record EntryFacts (w : ℕ) (f : List ℕ) (d low place : ℕ) : Type 0 where
  pub rising : low ≤ get_or f d 0
  pub number : get_or f d 0 ≤ 63
  pub records : 1 ≤ get_or f (d + 1) 0
  pub zeros : all_zero (part f (d + 2) (fill_length w)) ≡ true
  pub offset : offset_at w f (d + w) ≡ place
  pub within : place + file_size (get_or f (d + 1) 0) ≤ length f

pub entry_facts : (w : ℕ) (f : List ℕ) (d low place : ℕ) → good_entry w f d low place ≡ true → EntryFacts w f d low place
unfolding good_entry
entry_facts w f d low place e =
    let e₁ = both_right _ _ e in
    let e₂ = both_right _ _ e₁ in
    let e₃ = both_right _ _ e₂ in
    let e₄ = both_right _ _ e₃ in
    record {
      rising = leb-true _ _ (both_left _ _ e);
      number = leb-true _ _ (both_left _ _ e₁);
      records = leb-true _ _ (both_left _ _ e₂);
      zeros = both_left _ _ e₃;
      offset = eqb-true _ _ (both_left _ _ e₄);
      within = leb-true _ _ (both_right _ _ e₄);
    }

pub entry_yes : (w : ℕ) (f : List ℕ) (d low place : ℕ) → EntryFacts w f d low place → good_entry w f d low place ≡ true
unfolding good_entry
entry_yes w f d low place h =
    both_true (le-leb _ _ h.rising)
    (both_true (le-leb _ _ h.number)
    (both_true (le-leb _ _ h.records)
    (both_true h.zeros (both_true (eq-eqb _ _ h.offset) (le-leb _ _ h.within)))))

-- the facts of a good table entry
pub record TableEntryFacts (w : ℕ) (f : List ℕ) (t place : ℕ) : Type 0 where
  pub offset : offset_at w f t ≡ place
  pub sleeps : get_or f (t + w + 1) 0 ≤ 1
  pub zeros : all_zero (part f (t + w + 2) (fill_length w)) ≡ true
  pub within : place + entry_size_lem w * get_or f (t + w) 0 ≤ length f

pub table-entry_facts : (w : ℕ) (f : List ℕ) (t place : ℕ) → good_table_entry w f t place ≡ true → TableEntryFacts w f t place
unfolding good_table_entry
table-entry_facts w f t place e =
    let e₁ = both_right _ _ e in
    let e₂ = both_right _ _ e₁ in
    record {
      offset = eqb-true _ _ (both_left _ _ e);
      sleeps = leb-true _ _ (both_left _ _ e₁);
      zeros = both_left _ _ e₂;
      within = leb-true _ _ (both_right _ _ e₂);
    }

pub table-entry_yes : (w : ℕ) (f : List ℕ) (t place : ℕ) → TableEntryFacts w f t place → good_table_entry w f t place ≡ true
unfolding good_table_entry
table-entry_yes w f t place h =
    both_true (eq-eqb _ _ h.offset) (both_true (le-leb _ _ h.sleeps) (both_true h.zeros (le-leb _ _ h.within)))

-- zeros at every index
pub zeros-at : (f : List ℕ) (at n k : ℕ) → k < n → all_zero (part f at n) ≡ true → get_or f (at + k) 0 ≡ 0
zeros-at f at n k few z = sym (get_d_part f at n k few) ∙ zero_at (part f at n) k z
