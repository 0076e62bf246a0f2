-- What a write leaves in a slave: its bytes in the record, every other record and file and the logical name as they were; a slave that
-- does not take the write is as it was.
-- Assumes nothing.
use Prim.Native.Nat.{ℕ, ◌+◌, ◌*◌, ◌≤◌, ◌<◌}
use native.Mathlib.Omega.{arith}
use mathlib.Core.Path.{◌≡◌, sym, ◌∙◌}
use mathlib.Core.Logic.{◌≢◌}
use mathlib.Core.List.{List, [], ◌∷◌}
use mathlib.Core.Bool.{true, false}
use lib.ListN.{length, get_or, drop, length-take, drop_of_length-le}
use lib.Seq.{sets, drop-cons}
use lib.Dec.{eqb}
use borrow.Author.Tests.{eqb-true, eqb-false}
use Rattle.file.specs.Rules.Layout.{record_size}
use Rattle.file.specs.Rules.Bytes.{part}
use Rattle.file.specs.Rules.Cluster.{Slave, bytes_in, record_of, configuration, logical_name}
use Rattle.file.proofs.Order.{by_case, both_left, both_right}
use Rattle.file.proofs.Bytes.{get_d_part}
use Rattle.file.proofs.NumberLaws.{part_length}
use Rattle.file.proofs.Puts.{part_sets, get_d_sets, sets_part, sets_again, has_record-fits}
use Rattle.master_slave.specs.Rules.Slaves.{writing, is_name_record, written, takes_write, slave_after}
use Rattle.master_slave.proofs.Kept.{takes_write-record}
use Rattle.master_slave.proofs.Untouched.{replaced-other}
use Rattle.master_slave.proofs.WrittenBytes.{written-name, written-most, replaced_sets}
use Rattle.cluster.specs.Claims.Writes.{record_after}

-- ---- the bytes that a record takes

-- three bytes and the fourth as it was
three_again : (l : List ℕ) (k a b c : ℕ) → k + 4 ≤ length l → part (sets l k (a ∷ b ∷ c ∷ [])) k 4 ≡ a ∷ b ∷ c ∷ drop 3 (part l k 4)
three_again l k a b c fits =
    let last : ℕ = get_or l (k + 3) 0 in
    let four : length (part l k 4) ≡ 4 = part_length l k 4 fits in
    let rest : drop 3 (part l k 4) ≡ last ∷ [] =
    drop-cons (part l k 4) 3 0 (omega arith) ∙ rw (get_d_part l k 4 3 (omega arith), drop_of_length-le (part l k 4) {i = 4} (omega arith)) in
    rw (← sets_again l k (a ∷ b ∷ c ∷ []), rest) (sets_part l k (a ∷ b ∷ c ∷ last ∷ []) fits)

record-written : (n r : ℕ) (l : List ℕ) (k : ℕ) (bytes : List ℕ) → length bytes ≡ 4 → k + 4 ≤ length l → part (sets l k (written n r bytes)) k 4 ≡ record_after n r (part l k 4) bytes
unfolding written record_after
record-written n r l k (a ∷ b ∷ c ∷ d ∷ []) four fits =
    by_case (is_name_record n r) (λ e. rw e (three_again l k a b c fits)) (λ e. rw e (sets_part l k (a ∷ b ∷ c ∷ d ∷ []) fits))
record-written n r l k [] four fits = absurd (omega arith)
record-written n r l k (a ∷ []) four fits = absurd (omega arith)
record-written n r l k (a ∷ b ∷ []) four fits = absurd (omega arith)
record-written n r l k (a ∷ b ∷ c ∷ []) four fits = absurd (omega arith)
record-written n r l k (a ∷ b ∷ c ∷ d ∷ e ∷ bytes) four fits = absurd (omega arith)

-- ---- a slave that takes the write, and one that does not

pub record WriteTaken (s t : Slave) (n r : ℕ) (bytes : List ℕ) : Type 0 where
  pub here : record_of t n r ≡ record_after n r (record_of s n r) bytes
  pub others : (r' : ℕ) → r' ≢ r → record_of t n r' ≡ record_of s n r'
  pub files : (n' : ℕ) → n' ≢ n → bytes_in t n' ≡ bytes_in s n'

pub write-taken : (name n r : ℕ) (bytes : List ℕ) (s : Slave) → length bytes ≡ record_size → takes_write name n r s ≡ true → WriteTaken s (slave_after (writing name n r) bytes s) n r bytes
unfolding slave_after record_of takes_write
write-taken name n r bytes s four e =
    let has = both_left _ _ (both_right _ _ e) in
    let all = replaced_sets s n (record_size * r) (written n r bytes) in
    rw e (record {
      here = rw all (record-written n r (bytes_in s n) (record_size * r) bytes four (has_record-fits s n r has));
      others = λ r' differ. rw all (part_sets (bytes_in s n) (record_size * r) (written n r bytes) (record_size * r') record_size (λ h. omega (arith, written-most n r bytes)));
      files = λ n' differ. replaced-other s n (record_size * r) (written n r bytes) n' differ;
    })

pub write-left : (name n r : ℕ) (bytes : List ℕ) (s : Slave) → takes_write name n r s ≡ false → slave_after (writing name n r) bytes s ≡ s
unfolding slave_after
write-left name n r bytes s e = rw e

-- ---- the logical name stays

-- the bytes that a record of 0x08 takes end in front of the logical name or begin after it
name_outside : (r : ℕ) (bytes : List ℕ) → r ≢ 0x00 → 7 < 4 * r + length (written configuration r bytes) → 7 < 4 * r
name_outside r bytes some h =
    by_case (eqb r 1)
    (λ e.
    let one : r ≡ 1 = eqb-true r 1 e in
    let most : length (written configuration r bytes) ≤ 3 = rw (one, written-name bytes, length-take) (omega arith) in
    absurd (omega arith))
    (λ e. let other : r ≢ 1 = eqb-false r 1 e in omega (arith, some, other))

pub write_keeps_name : (name n r : ℕ) (bytes : List ℕ) (s : Slave) → logical_name (slave_after (writing name n r) bytes s) ≡ logical_name s
unfolding slave_after logical_name
write_keeps_name name n r bytes s =
    by_case (takes_write name n r s)
    (λ e.
    rw e
    (by_case (eqb n configuration)
    (λ t.
    let same : n ≡ configuration = eqb-true n configuration t in
    rw (same, replaced_sets s configuration (record_size * r) (written configuration r bytes))
    (get_d_sets (bytes_in s configuration) (record_size * r) (written configuration r bytes) 7
    (λ h. name_outside r bytes (takes_write-record name n r s e) (omega arith))))
    (λ t. rw (replaced-other s n (record_size * r) (written n r bytes) configuration (λ z. eqb-false n configuration t (sym z))))))
    (λ e. rw e)
