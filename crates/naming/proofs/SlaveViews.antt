-- The view of a slave by the bytes of its files 0x08 and 0x3D: a slave with the same bytes there has the same view, and what a write
-- of record 1, 2 or 3 of 0x08 and a new logical name make of it.
-- Assumes nothing.
use Rattle.std.proofs.Common.{ℕ, ◌+◌, ◌≤◌, ◌<◌, ◌≡◌, refl, List, [], ◌∷◌, arith, length, get_or, set, take, drop, length-set, length-drop, length-take-le, take-add, drop-drop, get_or-set_same, get_or-set_other}
use Rattle.std.proofs.Math.Seq.{sets}
use Rattle.file.specs.Rules.Bytes.{number_of, bytes_of, part}
use Rattle.file.specs.Rules.Cluster.{Slave, bytes_in, configuration, documentation, physical_name, logical_name, new_logical_name, record_of}
use Rattle.file.proofs.Bytes.{number_of-bytes_of}
use Rattle.file.proofs.NumberLaws.{number_append}
use Rattle.file.proofs.Puts.{part_sets, get_d_sets, part-set, sets_part}
use Rattle.file.proofs.Sizes.{bytes_of-length}
use Rattle.naming.specs.Inner.View.{SlaveView, view_of, comparison_of, unnamed_change}
use Rattle.naming.specs.Rules.RunRounds.{half, write_name, write_high, write_low}

-- ---- the view

-- of a slave, by the bytes of its two files
unfoldable pub view_by_lem : List ℕ → List ℕ → SlaveView
view_by_lem configured documented =
    record {
      physical = number_of (part documented 4 8);
      logical = get_or configured 7 0;
      new_name = get_or configured 6 0;
      high = number_of (part configured 8 4);
      low = number_of (part configured 12 4);
    }

pub view_by : (s : Slave) → view_of s ≡ view_by_lem (bytes_in s configuration) (bytes_in s documentation)
unfolding view_of view_by_lem physical_name logical_name new_logical_name record_of
view_by s = refl

-- and so with the physical name alone
pub view-alike :
    (s t : Slave) → bytes_in t configuration ≡ bytes_in s configuration → physical_name t ≡ physical_name s → view_of t ≡ view_of s
unfolding view_of logical_name new_logical_name record_of
view-alike s t c d = rw (c, d)

module _ (l d : List ℕ) (long : 16 ≤ length l) where
  -- the two halves are the comparison value
  pub halves_by : number_of (part l 8 8) ≡ comparison_of (view_by_lem l d)
  unfolding comparison_of view_by_lem part
  halves_by =
      let e : length (take 4 (drop 12 l)) ≡ 4 = length-take-le 4 (drop 12 l) (rw length-drop (omega arith)) in
      rw (take-add 4 4 (drop 8 l), drop-drop 4 8 l, number_append, e)

  -- record 1 written with 00 00 name, its byte 3 left
  pub wrote-name : (n : ℕ) → view_by_lem (sets l 4 (0 ∷ 0 ∷ n ∷ [])) d ≡ unnamed_change (write_name n) (view_by_lem l d)
  unfolding view_by_lem unnamed_change
  wrote-name n =
      let x : List ℕ = set (set l 4 0) 5 0 in
      let six : 6 < length x = simp length-set (omega arith) in
      rw (
        get_d_sets l 4 (0 ∷ 0 ∷ n ∷ []) 7 (omega arith),
        get_or-set_same x 6 n 0 six,
        part_sets l 4 (0 ∷ 0 ∷ n ∷ []) 8 4 (omega arith),
        part_sets l 4 (0 ∷ 0 ∷ n ∷ []) 12 4 (omega arith),
      )

  -- record 2 or 3 written with a half
  half-stored : (k h : ℕ) → k + 4 ≤ length l → h < half → number_of (part (sets l k (bytes_of 4 h)) k 4) ≡ h
  half-stored k h fits small =
      let four : length (bytes_of 4 h) ≡ 4 = bytes_of-length 4 h in
      let e : part (sets l k (bytes_of 4 h)) k 4 ≡ bytes_of 4 h = rw four at (sets_part l k (bytes_of 4 h) (omega arith)) in
      rw e (number_of-bytes_of 4 small)

  pub wrote-high : (h : ℕ) → h < half → view_by_lem (sets l 8 (bytes_of 4 h)) d ≡ unnamed_change (write_high h) (view_by_lem l d)
  unfolding view_by_lem unnamed_change
  wrote-high h small =
      let four : length (bytes_of 4 h) ≡ 4 = bytes_of-length 4 h in
      rw (
        get_d_sets l 8 (bytes_of 4 h) 7 (omega arith),
        get_d_sets l 8 (bytes_of 4 h) 6 (omega arith),
        half-stored 8 h (omega arith) small,
        part_sets l 8 (bytes_of 4 h) 12 4 (omega arith),
      )

  pub wrote-low : (h : ℕ) → h < half → view_by_lem (sets l 12 (bytes_of 4 h)) d ≡ unnamed_change (write_low h) (view_by_lem l d)
  unfolding view_by_lem unnamed_change
  wrote-low h small =
      rw (
        get_d_sets l 12 (bytes_of 4 h) 7 (omega arith),
        get_d_sets l 12 (bytes_of 4 h) 6 (omega arith),
        part_sets l 12 (bytes_of 4 h) 8 4 (omega arith),
        half-stored 12 h (omega arith) small,
      )

  -- the new logical name taken
  pub took-name :
      view_by_lem (set l 7 (get_or l 6 0)) d ≡
      record {
        physical = (view_by_lem l d).physical;
        logical = (view_by_lem l d).new_name;
        new_name = (view_by_lem l d).new_name;
        high = (view_by_lem l d).high;
        low = (view_by_lem l d).low;
      }
  unfolding view_by_lem
  took-name =
      let seven : 7 < length l = omega arith in
      let differ : ◌≡◌ {A = ℕ} 6 7 → ⊥ = omega arith in
      rw (
        get_or-set_same l 7 (get_or l 6 0) 0 seven,
        get_or-set_other l 7 6 (get_or l 6 0) 0 differ,
        part-set l 7 (get_or l 6 0) 8 4 (omega arith),
        part-set l 7 (get_or l 6 0) 12 4 (omega arith),
      )
