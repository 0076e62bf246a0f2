-- The lines of an input, each without its line end; the last may lack one.
use Rattle.std.specs.Prelude.{List, ℕ, [], ◌==◌, ◌-◌, length, take, slice_index, if◌then◌else◌}
use Rattle.std.specs.List.{slice_split}

-- without the line end that it ends with
abbrev pub without_end : List ℕ → List ℕ
without_end bs = if slice_index bs (length bs - 1) == 10 then take (length bs - 1) bs else bs

abbrev pub lines : List ℕ → List (List ℕ)
lines bs = if length bs == 0 then [] else slice_split (λ b. b == 10) (without_end bs)
