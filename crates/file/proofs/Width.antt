-- What the laws of the cluster file ask of the offset width w, and that those of both editions have it; the width of a file.
-- Assumes nothing.
use Rattle.std.proofs.Common.{ℕ, ◌^◌, ◌≤◌, ◌<◌, arith, ◌≡◌, refl, sym, subst, ◌≢◌, List, length, get_or, eqb, eqb-true, eq-eqb, ne_eqb}
use borrow.Author.Tests.{eqb-false}
use Rattle.file.specs.Rules.Layout.{OffsetWidth, width_in, width_of, edition_of, max_slaves, max_length}
use Rattle.file.specs.Rules.Cluster.{Cluster}
use Rattle.file.specs.Rules.Legal.{Legal}
use Rattle.file.specs.Inner.Places.{slaves_room}
use Rattle.file.proofs.Order.{by_case}

-- an entry has room for its two bytes and an offset; a slave count fits a byte; a place in the longest file fits an offset
pub record Width (w : ℕ) : Type 0 where
  pub two : 2 ≤ w
  pub counts : max_slaves w < 256
  pub places : max_length w < 256 ^ w

edition1 : Width 2
edition1 = record { two = omega arith; counts = omega arith; places = omega arith }

edition2 : Width 4
edition2 = record { two = omega arith; counts = omega arith; places = omega arith }

-- a place in a file of legal length fits an offset
pub place-fits : {w n : ℕ} → Width w → n ≤ max_length w → n < 256 ^ w
place-fits wide h = omega (arith, wide.places)

-- the two widths, and no other
pub two_widths : OffsetWidth 2 × OffsetWidth 4
two_widths = (record { least = omega arith; most = omega arith; even = refl }, record { least = omega arith; most = omega arith; even = refl })

pub data Which : ℕ → Type 0 where
  narrow : Which 2
  wide : Which 4

pub which : {w : ℕ} → OffsetWidth w → Which w
which {w} h =
    by_case (eqb w 2)
    (λ t. let e : 2 ≡ w = sym (eqb-true w 2 t) in subst Which e narrow)
    (λ f. let n : w ≡ 2 → ⊥ = eqb-false w 2 f in let e : 4 ≡ w = omega (arith, h.least, h.most, h.even) in subst Which e wide)

-- each has what the laws ask
enough : {w : ℕ} → Which w → Width w
enough narrow = edition1
enough wide = edition2

pub wide_enough : {w : ℕ} → OffsetWidth w → Width w
wide_enough h = enough (which h)

-- ---- the width of a file, and of an edition

module _ (f : List ℕ) where
  pub width_two : get_or f 2 0 ≢ 2 → width_of f ≡ 2
  unfolding width_of
  width_two other = rw (ne_eqb (get_or f 2 0) 2 other)

  pub width_four : get_or f 2 0 ≡ 2 → width_of f ≡ 4
  unfolding width_of
  width_four is = rw (eq-eqb (get_or f 2 0) 2 is)

  pub file-width : OffsetWidth (width_of f)
  file-width =
      by_case (eqb (get_or f 2 0) 2)
      (λ t. rw (width_four (eqb-true (get_or f 2 0) 2 t)) two_widths.1)
      (λ t. rw (width_two (eqb-false (get_or f 2 0) 2 t)) two_widths.0)

-- the width of the edition of a width
pub width_back : {w : ℕ} → OffsetWidth w → width_in (edition_of w) ≡ w
width_back h = omega (arith, h.even)

-- an array has room for the slaves of either edition
pub few-slaves : (c : Cluster) → Legal c → length c.slaves ≤ slaves_room
few-slaves c l = omega (arith, l.count, l.width.most)
