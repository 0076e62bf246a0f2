-- The position of a naming run (document 01, "The naming run", first paragraph; document 02, request 6): where it stands, what it has
-- counted, and the halves last written. A position handed in may have any content.
use Rattle.std.specs.Prelude.{ℕ, List, cond, length, ltb}

-- "Its parts: end mark, index, step (place of the pass's next round, 0 to 199), value, rounds and comparisons made"; request 6: "the
-- position also holds the two halves last written"
pub record Place : Type 0 where
  pub index : ℕ
  pub step : ℕ
  pub value : ℕ

pub record Counts : Type 0 where
  pub rounds : ℕ
  pub comparisons : ℕ

pub record Halves : Type 0 where
  pub high : ℕ
  pub low : ℕ

pub record Position : Type 0 where
  pub end : ℕ
  pub place : Place
  pub counts : Counts
  pub halves : Halves

-- "(0 running, 1 all named, 2 names used up)"
abbrev pub running : ℕ
running = 0

abbrev pub all_named_lem : ℕ
all_named_lem = 1

abbrev pub names_used_up : ℕ
names_used_up = 2

-- the end at an index of a list of that length: "The list finished: "names used up""
unfoldable pub end_at : ℕ → ℕ → ℕ
end_at count index = cond (ltb index count) running names_used_up

-- "all 0 in a fresh run over a non-empty list"; "An empty list is ended (mark 2, the rest 0) at the start"; the halves: request 6, "0 in a
-- fresh run"
unfoldable pub fresh : List ℕ → Position
fresh names =
    record {
      end = end_at (length names) 0;
      place = record { index = 0; step = 0; value = 0 };
      counts = record { rounds = 0; comparisons = 0 };
      halves = record { high = 0; low = 0 };
    }
