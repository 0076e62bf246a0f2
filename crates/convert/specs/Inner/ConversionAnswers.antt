-- The code's editions in the terms of the rules. No two are taken to the same.
use Rattle.std.specs.Prelude.{ℕ}
use Rattle.convert.specs.declared.editions.Edition.{Edition}
use Rattle.convert.specs.declared.editions.Edition.TheVariants as editions

unfoldable pub edition_in : Edition → ℕ
edition_in editions.One = 1
edition_in editions.Two = 2
