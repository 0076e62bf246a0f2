-- A list of bytes that stands in another at a place, with laws for joined lists, single bytes, zeros and numbers. The laws of encoding
-- and decoding are inductions along the running place through these.
-- Assumes nothing.
use Rattle.std.proofs.Common.{ℕ, zero, suc, ◌+◌, ◌-◌, ◌^◌, ◌≤◌, ◌<◌, add-zero, zero-add, arith, ◌≡◌, sym, ap, ◌∙◌, subst, List, [], ◌∷◌, ◌++◌, true}
use Rattle.std.proofs.Common.{length, get_or, replicate, length-append, ext_get_or, get_or-append-add, ltb, ltb-true, ltb-false}
use lib.ListN.{length-replicate, get_or-append}
use Rattle.file.specs.Rules.Bytes.{Bytes, number_of, bytes_of, part, all_zero}
use Rattle.file.proofs.Order.{by_case}
use Rattle.file.proofs.NumberLaws.{part_length}
use Rattle.file.proofs.Sizes.{bytes_of-length}
use Rattle.file.proofs.Bytes.{get_d_part, bytes-part, number_of-bytes_of, bytes_of-number_of, all_zero-replicate, replicate-all_zero}

-- x stands in f at p
pub record Stands (f : List ℕ) (p : ℕ) (x : List ℕ) : Type 0 where
  pub fits : p + length x ≤ length f
  pub same : (i : ℕ) → i < length x → get_or f (p + i) 0 ≡ get_or x i 0

module _ {f : List ℕ} where
  -- what stands at a place is the part there, and the part stands there
  pub stands-part : {p : ℕ} {x : List ℕ} → Stands f p x → part f p (length x) ≡ x
  stands-part {p} {x} s =
      let long : length (part f p (length x)) ≡ length x = part_length f p (length x) s.fits in
      ext_get_or 0 (part f p (length x)) x long
      (λ i h. let k : i < length x = omega arith in get_d_part f p (length x) i k ∙ s.same i k)

  pub part-stands : {p : ℕ} (n : ℕ) → p + n ≤ length f → Stands f p (part f p n)
  part-stands {p} n h =
      let long : length (part f p n) ≡ n = part_length f p n h in
      record { fits = omega arith; same = λ i k. sym (get_d_part f p n i (omega arith)) }

  -- the place by an equation
  pub stands_at : {p q : ℕ} {x : List ℕ} → p ≡ q → Stands f p x → Stands f q x
  stands_at {x = x} e s = subst (λ (k : ℕ). Stands f k x) e s

  -- a byte of what stands
  pub stands-byte : {p : ℕ} {x : List ℕ} → Stands f p x → (i : ℕ) {q : ℕ} → i < length x → q ≡ p + i → get_or f q 0 ≡ get_or x i 0
  stands-byte s i h e = ap (λ (k : ℕ). get_or f k 0) e ∙ s.same i h

  -- joined lists
  pub stands-left : {p : ℕ} (x y : List ℕ) → Stands f p (x ++ y) → Stands f p x
  stands-left {p} x y s =
      record {
        fits = omega (arith, length-append x y, s.fits);
        same = λ i h. s.same i (omega (arith, length-append x y)) ∙ get_or-append x y 0 i h;
      }

  pub stands_right : {p : ℕ} (x y : List ℕ) → Stands f p (x ++ y) → Stands f (p + length x) y
  stands_right {p} x y s =
      record {
        fits = omega (arith, length-append x y, s.fits);
        same =
            λ i h.
            let there : p + length x + i ≡ p + (length x + i) = omega arith in
            ap (λ (k : ℕ). get_or f k 0) there ∙ s.same (length x + i) (omega (arith, length-append x y)) ∙ get_or-append-add x y i 0;
      }

  pub stands-append : {p : ℕ} {x y : List ℕ} → Stands f p x → Stands f (p + length x) y → Stands f p (x ++ y)
  stands-append {p} {x} {y} s t =
      record {
        fits = omega (arith, length-append x y, t.fits);
        same =
            λ i h.
            by_case (ltb i (length x))
            (λ e. s.same i (ltb-true i (length x) e) ∙ sym (get_or-append x y 0 i (ltb-true i (length x) e)))
            (λ e. behind i (i - length x) h (omega (arith, ltb-false i (length x) e)));
      }
    where
      behind : (i j : ℕ) → i < length (x ++ y) → i ≡ length x + j → get_or f (p + i) 0 ≡ get_or (x ++ y) i 0
      behind i j h e =
          let there : p + i ≡ p + length x + j = omega arith in
          ap (λ (k : ℕ). get_or f k 0) there ∙ t.same j (omega (arith, length-append x y)) ∙ sym (get_or-append-add x y j 0)
          ∙ ap (λ (k : ℕ). get_or (x ++ y) k 0) (sym e)

  -- byte by byte
  pub stands-none : {p : ℕ} → p ≤ length f → Stands f p []
  stands-none h = record { fits = omega arith; same = λ i k. absurd (omega arith) }

  pub stands_one : {p : ℕ} {b : ℕ} → p < length f → get_or f p 0 ≡ b → Stands f p (b ∷ [])
  stands_one {p} {b} h e = record { fits = omega arith; same = only }
    where
      only : (i : ℕ) → i < 1 → get_or f (p + i) 0 ≡ get_or (b ∷ []) i 0
      only zero k = rw add-zero e
      only (suc i) k = absurd (omega arith)

  pub stands-next : {p q b : ℕ} {x : List ℕ} → get_or f p 0 ≡ b → q ≡ p + 1 → Stands f q x → Stands f p (b ∷ x)
  stands-next {p} {q} {b} {x} e n s =
      stands-append {x = b ∷ []} {y = x} (stands_one (omega (arith, s.fits)) e) (stands_at n s)

  -- zeros
  pub stands-zeros : {p : ℕ} (n : ℕ) → p + n ≤ length f → all_zero (part f p n) ≡ true → Stands f p (replicate n 0)
  stands-zeros {p} n h z =
      let zeros : part f p n ≡ replicate n 0 = replicate-all_zero (part f p n) z ∙ ap (λ (k : ℕ). replicate k 0) (part_length f p n h) in
      subst (λ (l : List ℕ). Stands f p l) zeros (part-stands n h)

  pub zeros_stand : {p : ℕ} (n : ℕ) → Stands f p (replicate n 0) → all_zero (part f p n) ≡ true
  zeros_stand {p} n s =
      let zeros : part f p n ≡ replicate n 0 =
      ap (λ (k : ℕ). part f p k) (sym (length-replicate n 0)) ∙ stands-part s
      in
      ap all_zero zeros ∙ all_zero-replicate n

  -- a number
  pub stands-number : {p n : ℕ} (w : ℕ) → Bytes f → p + w ≤ length f → number_of (part f p w) ≡ n → Stands f p (bytes_of w n)
  stands-number {p} {n} w b h e =
      let spelled : part f p w ≡ bytes_of w n =
      sym (bytes_of-number_of (bytes-part b p w)) ∙ cc (part_length f p w h)
      in
      subst (λ (l : List ℕ). Stands f p l) spelled (part-stands w h)

  pub number-stands : {p n : ℕ} (w : ℕ) → n < 256 ^ w → Stands f p (bytes_of w n) → number_of (part f p w) ≡ n
  number-stands {p} {n} w h s =
      let spelled : part f p w ≡ bytes_of w n =
      ap (λ (k : ℕ). part f p k) (sym (bytes_of-length w n)) ∙ stands-part s
      in
      ap number_of spelled ∙ number_of-bytes_of w h

-- a list stands in itself, and what fills the whole list from its start is the list
pub stands-whole : (f : List ℕ) → Stands f 0 f
stands-whole f = record { fits = omega arith; same = λ i h. ap (λ (k : ℕ). get_or f k 0) (zero-add i) }

pub whole-stands : {f x : List ℕ} → length x ≡ length f → Stands f 0 x → x ≡ f
whole-stands {f} {x} e s = ext_get_or 0 x f e (λ i h. sym (stands-byte s i h (sym (zero-add i))))
