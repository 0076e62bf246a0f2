-- The widths of the two editions.
-- Assumes nothing.
use Rattle.std.proofs.Common.{ℕ, arith, ◌≡◌, refl}
use Rattle.file.specs.Rules.Layout.{OffsetWidth, width_in}
use Rattle.convert.specs.declared.editions.Edition.{Edition}
use Rattle.convert.specs.declared.editions.Edition.TheVariants as editions
use Rattle.convert.specs.Inner.ConversionAnswers.{edition_in}

pub width_one : {e : Edition} → e ≡ editions.One → 2 ≡ width_in (edition_in e)
unfolding edition_in
width_one is = rw is

pub width_two : {e : Edition} → e ≡ editions.Two → 4 ≡ width_in (edition_in e)
unfolding edition_in
width_two is = rw is

pub edition-width : (e : Edition) → OffsetWidth (width_in (edition_in e))
unfolding edition_in
edition-width editions.One = record { least = omega arith; most = omega arith; even = refl }
edition-width editions.Two = record { least = omega arith; most = omega arith; even = refl }

pub width-there : (e : Edition) {v : ℕ} → v ≡ width_in (edition_in e) → OffsetWidth v
width-there e is = rw is (edition-width e)
