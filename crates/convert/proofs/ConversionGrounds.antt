-- The grounds of a conversion, each both ways and in their order; 25 only where a file is narrowed.
-- Assumes nothing.
use Rattle.std.proofs.Common.{ℕ, ◌≤◌, ◌<◌, arith, ◌≡◌, refl, sym, ap, ◌∙◌, subst, ◌≢◌, List, Bool, true, false, length, get_or, eqb, ltb, eqb-true, le-ltb, ltb-true, ltb-false}
use borrow.Author.Tests.{eqb-false}
use Rattle.file.specs.Rules.Order.{either}
use Rattle.file.specs.Rules.Layout.{OffsetWidth, width_in}
use Rattle.file.specs.Rules.Cluster.{Slave, Cluster}
use Rattle.file.specs.Rules.Encode.{file_length}
use Rattle.file.specs.Rules.Decode.{decode}
use Rattle.file.specs.Rules.Legal.{Legal}
use Rattle.file.specs.Rules.Editions.{in_edition, exceeds}
use Rattle.file.specs.Rules.FileGrounds.{file_ground}
use Rattle.file.proofs.Order.{by_case, clash, either_false}
use Rattle.file.proofs.Results.{file-most}
use Rattle.file.proofs.Sizes.{encode_at-length}
use Rattle.file.proofs.Accepted.{accepted-legal}
use Rattle.file.proofs.Edition.{unknown_edition, refused-edition}
use Rattle.file.proofs.EditionOne.{edition-at}
use Rattle.file.proofs.Editions.{widened}
use Rattle.convert.specs.Rules.Convert.{convert_ground}
use Rattle.convert.specs.Claims.ConversionGrounds.{GroundsInOrder, OnlyNarrowingExceeds, UnknownEdition}
use Rattle.convert.proofs.Calls.{file_decides, limits_decide, buffer_decides, none-holds, convert-refused, in-edition}

-- the length of a form
pub form-length : (f : List ℕ) (e : ℕ) → OffsetWidth (width_in e) → length (in_edition f e) ≡ file_length (width_in e) (decode f).slaves
form-length f e width = ap length (in-edition f e) ∙ encode_at-length width.least (decode f)

pub grounds_in_order : GroundsInOrder
grounds_in_order =
    record {
      file = file_decides;
      limits = limits_decide;
      buffer = λ f e out width accepted under short. buffer_decides f e out accepted under (omega (arith, form-length f e width));
      none = λ f e out width accepted under fits. none-holds f e out accepted under (omega (arith, form-length f e width));
    }

-- ---- what the number says

module _ (f : List ℕ) (e : ℕ) (out : List ℕ) where
  pub ground_accepted : (n : ℕ) → convert_ground f e out ≡ n → (n ≡ 0 → ⊥) → 8 < n → file_ground f ≡ 0
  ground_accepted n is some above =
      by_case (eqb (file_ground f) 0)
      (λ q. eqb-true (file_ground f) 0 q)
      (λ q. absurd (omega (arith, file-most f, file_decides f e out (eqb-false (file_ground f) 0 q), is)))

  pub no_ground_accepted : convert_ground f e out ≡ 0 → file_ground f ≡ 0
  no_ground_accepted none =
      by_case (eqb (file_ground f) 0)
      (λ q. eqb-true (file_ground f) 0 q)
      (λ q. absurd (eqb-false (file_ground f) 0 q (sym (file_decides f e out (eqb-false (file_ground f) 0 q)) ∙ none)))

  pub no_ground_under : convert_ground f e out ≡ 0 → exceeds (width_in e) (decode f).slaves ≡ false
  no_ground_under none =
      by_case (exceeds (width_in e) (decode f).slaves)
      (λ q. absurd (omega (arith, limits_decide f e out (no_ground_accepted none) q, none)))
      (λ q. q)

  pub no_ground_fits : convert_ground f e out ≡ 0 → file_length (width_in e) (decode f).slaves ≤ length out
  no_ground_fits none =
      by_case (ltb (length out) (file_length (width_in e) (decode f).slaves))
      (λ q. absurd (omega (arith, buffer_decides f e out (no_ground_accepted none) (no_ground_under none) (ltb-true _ _ q), none)))
      (λ q. ltb-false _ _ q)

  over_limits : file_ground f ≡ 0 → convert_ground f e out ≡ 25 → exceeds (width_in e) (decode f).slaves ≡ true
  over_limits accepted is =
      by_case (exceeds (width_in e) (decode f).slaves)
      (λ q. q)
      (λ q.
      by_case (ltb (length out) (file_length (width_in e) (decode f).slaves))
      (λ short. absurd (omega (arith, buffer_decides f e out accepted q (ltb-true _ _ short), is)))
      (λ fits. absurd (omega (arith, none-holds f e out accepted q (ltb-false _ _ fits), is))))

-- a legal cluster does not exceed the limits of its own edition
pub own_limits : (c : Cluster) → Legal c → exceeds (width_in c.edition) c.slaves ≡ false
unfolding exceeds
own_limits c l = either_false (le-ltb _ _ l.count) (le-ltb _ _ l.size)

true_false : ◌≡◌ {A = Bool} true false → ⊥
true_false z = clash refl z

-- the limits of edition 1
over_numbers : (ss : List Slave) → exceeds 2 ss ≡ true → either (ltb 32 (length ss)) (ltb 32768 (file_length 2 ss)) ≡ true
unfolding exceeds
over_numbers ss over = over

pub only_narrowing : OnlyNarrowingExceeds
only_narrowing f e out b width is = record { from = from; to = to; large = large }
  where
    accepted : file_ground f ≡ 0
    accepted = ground_accepted f e out 25 is (λ z. omega arith) (omega arith)

    over : exceeds (width_in e) (decode f).slaves ≡ true
    over = over_limits f e out accepted is

    legal : Legal (decode f)
    legal = accepted-legal f b accepted

    edition : (decode f).edition ≡ get_or f 2 0
    edition = edition-at f accepted

    other : ((decode f).edition ≡ e) → ⊥
    other same = true_false (sym over ∙ subst (λ (n : ℕ). exceeds (width_in n) (decode f).slaves ≡ false) same (own_limits (decode f) legal))

    not_widened : get_or f 2 0 ≡ 1 → e ≡ 2 → ⊥
    not_widened one two =
        true_false (sym over ∙ subst (λ (n : ℕ). exceeds (width_in n) (decode f).slaves ≡ false) (sym two) (widened f b accepted one).fits)

    from : get_or f 2 0 ≡ 2
    from =
        by_case (eqb (get_or f 2 0) 1)
        (λ q.
        let one : get_or f 2 0 ≡ 1 = eqb-true (get_or f 2 0) 1 q in
        by_case (eqb e 2)
        (λ r. absurd (not_widened one (eqb-true e 2 r)))
        (λ r. absurd (other (omega (arith, edition, one, eqb-false e 2 r, width.least, width.most)))))
        (λ q. omega (arith, edition, eqb-false (get_or f 2 0) 1 q, legal.width.least, legal.width.most))

    to : e ≡ 1
    to =
        by_case (eqb e 1)
        (λ q. eqb-true e 1 q)
        (λ q. absurd (other (omega (arith, edition, from, eqb-false e 1 q, width.least, width.most))))

    large : either (ltb 32 (length (decode f).slaves)) (ltb 32768 (length (in_edition f 1))) ≡ true
    large =
        let narrow : exceeds 2 (decode f).slaves ≡ true = subst (λ (n : ℕ). exceeds (width_in n) (decode f).slaves ≡ true) to over in
        let room : OffsetWidth 2 = subst (λ (n : ℕ). OffsetWidth (width_in n)) to width in
        rw (form-length f 1 room) (over_numbers (decode f).slaves narrow)

-- ---- a file of unknown edition

pub convert-edition : UnknownEdition
convert-edition f g d e a b long front other =
    let refused-f : file_ground f ≢ 0 = refused-edition f other in
    let same : file_ground f ≡ file_ground g = unknown_edition f g long front other in
    let refused-g : file_ground g ≢ 0 = λ z. refused-f (same ∙ z) in
    let left = convert-refused f d a (file_decides f d a refused-f) refused-f in
    let right = convert-refused g e b (file_decides g e b refused-g) refused-g in
    rw (left, right, same)
