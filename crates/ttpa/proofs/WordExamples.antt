-- The eight words of a run, each in its place, as `include/ttpa.h` has them.
-- Assumes nothing.
use mathlib.Core.Path.{◌≡◌, refl}
use mathlib.Core.List.{[], ◌∷◌}
use Rattle.naming.specs.Rules.Position.{Position}
use Rattle.ttpa.specs.Rules.Calls.{words_of, position_in}

there : Position
there =
    record {
      end = 10;
      place = record { index = 11; step = 12; value = 13 };
      counts = record { rounds = 14; comparisons = 15 };
      halves = record { high = 16; low = 17 };
    }

words_in_order : words_of there ≡ 10 ∷ 11 ∷ 12 ∷ 13 ∷ 14 ∷ 15 ∷ 16 ∷ 17 ∷ []
unfolding words_of there
words_in_order = refl

words_read_in_order : position_in (10 ∷ 11 ∷ 12 ∷ 13 ∷ 14 ∷ 15 ∷ 16 ∷ 17 ∷ []) ≡ there
unfolding position_in there
words_read_in_order = refl
