-- The rounds that a slave has a file for.
-- Assumes nothing.
use Rattle.std.proofs.Common.{ℕ, ◌+◌, ◌*◌, ◌%◌, ◌^◌, ◌≤◌, ◌<◌, arith, ◌≡◌, sym, ap, ◌∙◌, List, true, false, length, get_or, set, get_or-set_same, get_or-set_other, eqb, eqb-true, lt-ltb, le-leb}
use lib.Bits.{bit_or}
use borrow.Author.Tests.{eqb-false}
use Rattle.file.specs.Rules.Order.{either}
use Rattle.file.specs.Rules.Layout.{header_size}
use Rattle.file.specs.Rules.Cluster.{Cluster}
use Rattle.file.specs.Rules.Decode.{decode}
use Rattle.file.specs.Inner.Numbers.{ByteAt, NumberAt}
use Rattle.file.specs.Inner.Places.{slave_of}
use Rattle.file.specs.Inner.Accepted.{AcceptedFile, WidthOf, slave_count}
use Rattle.file.specs.Inner.Checked.{EntriesFit}
use Rattle.file.proofs.Order.{by_case, clash, both_true, either_false_left, either_false_right}
use Rattle.file.proofs.ReaderLaws.{Searching, searching_start, searching_next, searching_done, file-found}
use Rattle.multipartner.proofs.SlotActLaws.{missing_empty}
use Rattle.owner.specs.Rules.Plan.{rounds}
use Rattle.owner.specs.Inner.Masks.{is_set, between}
use Rattle.owner.specs.Inner.Held.{DirectoryMarked, Holds, AllHold}
use Rattle.owner.proofs.MaskLaws.{set_or, low_bit, one_shifted, one_bit}

-- ---- a directory's marks

-- the search of a number that is not marked goes on at the entry, and so does that of one that no byte is
pub record Marking (w : ℕ) (f : List ℕ) (d k marks entry : ℕ) : Type 0 where
  pub along : Searching w f 256 d k entry
  pub sought : (n : ℕ) → n < rounds → is_set marks n ≡ false → Searching w f n d k entry

pub marking_start : {w : ℕ} {f : List ℕ} (d k : ℕ) → Marking w f d k 0 d
marking_start d k = record { along = searching_start d k 256; sought = λ n l none. searching_start d k n }

module _ {w : ℕ} {f : List ℕ} {d k marks entry : ℕ} (fit : EntriesFit w f d k) (h : Marking w f d k marks entry) where
  pub marking_next : {b : ℕ} → entry < d + 2 * w * k → ByteAt f entry b → Marking w f d k (bit_or marks ((1 * 2 ^ (b % 64)) % 2 ^ 64)) (entry + 2 * w)
  marking_next {b} more is =
      record {
        along = searching_next fit h.along more is (λ e. omega (arith, is.byte, e));
        sought = λ n l none. searching_next fit (h.sought n l (either_false_left _ _ (apart n none))) more is (λ e. other n l e (either_false_right _ _ (apart n none)));
      }
    where
      apart : (n : ℕ) → is_set (bit_or marks ((1 * 2 ^ (b % 64)) % 2 ^ 64)) n ≡ false → either (is_set marks n) (is_set ((1 * 2 ^ (b % 64)) % 2 ^ 64) n) ≡ false
      apart n none = sym (set_or marks ((1 * 2 ^ (b % 64)) % 2 ^ 64) n) ∙ none

      other : (n : ℕ) → n < rounds → b ≡ n → is_set ((1 * 2 ^ (b % 64)) % 2 ^ 64) n ≡ false → ⊥
      other n l e none =
          let here : b % 64 ≡ n = omega arith in
          clash (ap (λ (m : ℕ). is_set m n) (one_shifted (b % 64) (omega arith)) ∙ (one_bit (b % 64) n ∙ (rw here (there n)))) none
        where
          there : (n : ℕ) → between n (n + 1) n ≡ true
          there n = unfold between in both_true (le-leb n n (omega arith)) (lt-ltb n (n + 1) (omega arith))

  pub marking_done : d + 2 * w * k ≤ entry → DirectoryMarked w f d k (marks % 256)
  marking_done over =
      record { none = λ n l none. searching_done fit (h.sought n l (sym (low_bit 8 marks n l) ∙ none)) over }

-- ---- a slave's rounds

pub slave-holds : {f : List ℕ} {w : ℕ} (h : AcceptedFile f) (v : WidthOf f w) (s : ℕ) (l : s < slave_count f) {d k marks : ℕ}
    → NumberAt f (header_size w + 2 * w * s) w d → ByteAt f (header_size w + 2 * w * s + w) k → DirectoryMarked w f d k marks → Holds (slave_of (decode f) s) marks
slave-holds {f} h v s l offset count marked =
    record { none = λ n few none. missing_empty (decode f) s n (file-found h v s l offset count n (marked.none n few none)) }

-- ---- those of every slave

pub record Holding (c : Cluster) (held : List ℕ) (n : ℕ) : Type 0 where
  pub each : (s : ℕ) → s < n → Holds (slave_of c s) (get_or held s 0)

pub holding_start : (c : Cluster) (held : List ℕ) → Holding c held 0
holding_start c held = record { each = λ s l. absurd (omega arith) }

pub holding_next : {c : Cluster} {held : List ℕ} {n b : ℕ} → Holding c held n → n < length held → Holds (slave_of c n) b → Holding c (set held n b) (n + 1)
holding_next {c} {held} {n} {b} h room now =
    record {
      each = λ s l.
          by_case (eqb s n)
          (λ e. let same : s ≡ n = eqb-true s n e in rw (same, get_or-set_same held n b 0 room) now)
          (λ e. rw (get_or-set_other held n s b 0 (eqb-false s n e)) (h.each s (below s l (eqb-false s n e))));
    }
  where
    below : (s : ℕ) → s < n + 1 → (s ≡ n → ⊥) → s < n
    below s l other = omega arith

pub holding_done : {c : Cluster} {held : List ℕ} {n : ℕ} → Holding c held n → length c.slaves ≤ n → length c.slaves ≤ length held → AllHold c held
holding_done h over room = record { room = room; each = λ s l. h.each s (omega arith) }
