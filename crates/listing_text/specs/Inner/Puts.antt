-- Bytes put into a text.
use Rattle.std.specs.Prelude.{ℕ, ◌+◌, ◌≤◌, List, ◌≡◌, length}
use Rattle.std.proofs.lemmas.List.Edits.{sets}
use Rattle.listing_text.specs.Rules.Text.{most_digits}

-- the bytes of a refused file's line
abbrev pub refused_size : ℕ
refused_size = 8 + most_digits + 1

-- bytes put into a text from a place on: the text, and the place after them
pub record Puts (bytes old : List ℕ) (at : ℕ) (new : List ℕ) (next : ℕ) : Type 0 where
  pub text : new ≡ sets old at bytes
  pub place : next ≡ at + length bytes
  pub room : length new ≡ length old
  pub fits : at + length bytes ≤ length old

-- and there are at most so many
pub record PutsAtMost (limit : ℕ) (bytes old : List ℕ) (at : ℕ) (new : List ℕ) (next : ℕ) : Type 0 where
  pub puts : Puts bytes old at new next
  pub most : next ≤ at + limit
