-- Which bytes a write puts, by the numbers of file and record.
-- Assumes nothing.
use Prim.Native.Nat.{ℕ, ◌*◌}
use native.Mathlib.Omega.{arith}
use mathlib.Core.Path.{◌≡◌, refl, ap, ◌∙◌}
use mathlib.Core.Logic.{◌≢◌}
use mathlib.Core.List.{List, [], ◌∷◌}
use mathlib.Core.Bool.{true, false, not}
use lib.ListN.{length, get_or, drop, drop_of_length-le}
use lib.Seq.{drop-cons}
use lib.Dec.{eqb}
use borrow.Author.Tests.{eqb-true, eqb-false, eq-eqb, ne_eqb}
use Rattle.file.specs.Rules.Bytes.{Bytes, part}
use Rattle.file.specs.Rules.Layout.{record_size}
use Rattle.file.specs.Rules.Order.{both}
use Rattle.file.specs.Rules.Cluster.{Slave, has_record, bytes_in, record_of, configuration, documentation}
use Rattle.file.specs.Rules.Changes.{with_sleep}
use Rattle.file.proofs.Order.{by_case, both_true, both_false_left, both_false_right}
use Rattle.file.proofs.NumberLaws.{part_length}
use Rattle.file.proofs.Puts.{has_record-fits}
use Rattle.frame.specs.Rules.Frames.{between}
use Rattle.master_slave.specs.Rules.Slaves.{writing, is_name_record, may_write, takes_write, slave_after}
use Rattle.cluster.specs.Rules.Round.{round_on}
use Rattle.cluster.specs.Claims.Writes.{slave_in, record_after, WriteReaches, Holds, NameRecordWritten, RecordWritten, NotReached, NothingWritten}
use Rattle.cluster.proofs.Replaced.{WriteTaken, write-taken, write-left}
use Rattle.cluster.proofs.UnnamedWrites.{slave-written, slept_record}

-- a record has four bytes, of which the last is byte 3
record-length : (s : Slave) (n r : ℕ) → has_record s n r ≡ true → length (record_of s n r) ≡ 4
unfolding record_of
record-length s n r has = part_length (bytes_in s n) (record_size * r) 4 (has_record-fits s n r has)

last_byte : (l : List ℕ) → length l ≡ 4 → drop 3 l ≡ get_or l 3 0 ∷ []
last_byte l four =
    drop-cons l 3 0 (omega arith) ∙ ap (λ (m : List ℕ). get_or l 3 0 ∷ m) (drop_of_length-le l {i = 4} (omega arith))

-- what the record holds after a write
name-after : (n r : ℕ) (old : List ℕ) (a b c d : ℕ) → n ≡ 0x08 → r ≡ 1 → length old ≡ 4 →
    record_after n r old (a ∷ b ∷ c ∷ d ∷ []) ≡ a ∷ b ∷ c ∷ get_or old 3 0 ∷ []
unfolding record_after is_name_record
name-after n r old a b c d file one four =
    let here : both (eqb n configuration) (eqb r 1) ≡ true = both_true (eq-eqb n configuration file) (eq-eqb r 1 one) in
    rw (here, last_byte old four)

other_after : (n r : ℕ) (old bytes : List ℕ) → (n ≡ 0x08 → r ≡ 1 → ⊥) → record_after n r old bytes ≡ bytes
unfolding record_after is_name_record
other_after n r old bytes differ =
    by_case (eqb n configuration)
    (λ t.
    let not-one : eqb r 1 ≡ false = ne_eqb r 1 (differ (eqb-true n configuration t)) in
    let none : both (eqb n configuration) (eqb r 1) ≡ false = both_false_right _ not-one in
    rw none)
    (λ f. let none : both (eqb n configuration) (eqb r 1) ≡ false = both_false_left _ f in rw none)

-- who takes the write
reached : {file frame buffer : List ℕ} {name n r i : ℕ} → WriteReaches file frame buffer name n r i → n ≢ 0x3D → r ≢ 0x00 →
    takes_write name n r (slave_in file i) ≡ true
unfolding takes_write may_write
reached {n = n} {r = r} w file «record» =
    both_true w.is_addressed (both_true w.has (both_true (ap not (ne_eqb n documentation file)) (ap not (ne_eqb r 0x00 «record»))))

module _ {file frame buffer : List ℕ} {name n r i : ℕ} (fb : Bytes file) (rb : Bytes frame) (w : WriteReaches file frame buffer name n r i) (writable : n ≢ 0x3D) (some : r ≢ 0x00) where
  holds : {bytes : List ℕ} → record_after n r (record_of (slave_in file i) n r) (between frame) ≡ bytes → Holds file (round_on file frame buffer).2 i n r bytes
  unfolding record_of
  holds {bytes} e =
      let after : Slave = slave_after (writing name n r) (between frame) (slave_in file i) in
      let is : slave_in (round_on file frame buffer).2 i ≡ with_sleep after 0 =
      slave-written file frame buffer name n r i fb rb w.is_msd w.accepted w.pending w.in_table in
      let taken : WriteTaken (slave_in file i) (slave_after (writing name n r) (between frame) (slave_in file i)) n r (between frame) =
      write-taken name n r (between frame) (slave_in file i) refl (reached w writable some) in
      record {
        here = ap (λ (t : Slave). record_of t n r) is ∙ slept_record after 0 n r ∙ taken.here ∙ e;
        elsewhere = λ n' r' differ.
            ap (λ (t : Slave). record_of t n' r') is
            ∙ slept_record after 0 n' r'
            ∙ by_case (eqb n' n)
            (λ t.
            let same : n' ≡ n = eqb-true n' n t in
            rw same (taken.others r' (differ same)))
            (λ f. ap (λ (l : List ℕ). part l (record_size * r') record_size) (taken.files n' (eqb-false n' n f)));
      }

pub name-record-written : NameRecordWritten
name-record-written file frame buffer name n r i fb rb w is one =
    holds fb rb w (λ e. omega arith) (λ e. omega arith)
    (name-after n r (record_of (slave_in file i) n r) (get_or frame 1 0) (get_or frame 2 0) (get_or frame 3 0) (get_or frame 4 0) is one
    (record-length (slave_in file i) n r w.has))

pub record-written : RecordWritten
record-written file frame buffer name n r i fb rb w differ writable some =
    holds fb rb w writable some (other_after n r (record_of (slave_in file i) n r) (between frame) differ)

-- ---- nothing

not_taken : {file : List ℕ} {name n r i : ℕ} → NotReached file name n r i → takes_write name n r (slave_in file i) ≡ false
unfolding takes_write may_write
not_taken {n = n} (NotReached.in_documentation e) = both_false_right _ (both_false_right _ (both_false_left _ (ap not (eq-eqb n documentation e))))
not_taken {r = r} (NotReached.in_header e) = both_false_right _ (both_false_right _ (both_false_right _ (ap not (eq-eqb r 0x00 e))))
not_taken (NotReached.not_addressed e) = both_false_left _ e
not_taken (NotReached.lacking e) = both_false_right _ (both_false_left _ e)

pub nothing_written : NothingWritten
nothing_written file frame buffer name n r i fb rb is_msd accepted pending in_table not-reached =
    slave-written file frame buffer name n r i fb rb is_msd accepted pending in_table
    ∙ ap (λ (t : Slave). with_sleep t 0) (write-left name n r (between frame) (slave_in file i) (not_taken not-reached))
