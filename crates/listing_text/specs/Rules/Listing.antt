-- The listing of a cluster file (document 01, "The listing program": "It reads one file from standard input and runs names 0x01 to
-- 0xFE").
use Rattle.std.specs.Prelude.{ℕ, zero, suc, ◌+◌, ◌-◌, ◌*◌, List, [], ◌∷◌, ◌++◌, Bool, true, false, cond, length, get_or, drop, replicate, eqb}
use Rattle.file.specs.Rules.Order.{both}
use Rattle.file.specs.Rules.Results.{Result, refused, done}
use Rattle.file.specs.Rules.FileGrounds.{load_ground}
use Rattle.master_slave.specs.Rules.Bus.{slots}
use Rattle.naming.specs.Rules.Position.{Position, running, fresh}
use Rattle.naming.specs.Rules.Pass.{last_step}
use Rattle.naming.specs.Rules.Step.{StepDone, ended, made, step_on}
use Rattle.listing_text.specs.Rules.Text.{name_line, totals_line, refused_line, line_size, totals_size}

-- n names from a on
unfoldable pub names_from : ℕ → ℕ → List ℕ
names_from zero a = []
names_from (suc n) a = a ∷ names_from n (suc a)

-- "names 0x01 to 0xFE"
abbrev pub name_count : ℕ
name_count = 0xFE - 0x01 + 1

unfoldable pub all_names : List ℕ
all_names = names_from name_count 0x01

-- a run under way: file, run and answer buffer as the last step left them, the comparisons made when this pass began, how many
-- names were given, and their lines
pub record ListState : Type 0 where
  pub file : List ℕ
  pub run : Position
  pub buffer : List ℕ
  pub begun : ℕ
  pub given : ℕ
  pub lines : List ℕ

unfoldable pub is_made_lem : Result StepDone → Bool
is_made_lem (refused n) = false
is_made_lem (done ended) = false
is_made_lem (done (made mask)) = true

-- "one line for each name given, in order, none for a taken name or the pass that ends the run": the last round of a pass gives its
-- name
unfoldable pub gives_name : Result StepDone → Position → Bool
gives_name s p = both (is_made_lem s) (eqb p.place.step last_step)

-- a step with no name given, and one that gives it: "name, physical name, that pass's comparisons"
unfoldable pub without_name : ListState → Result StepDone × Position × List ℕ × List ℕ → ListState
without_name t s = record { file = s.3; run = s.1; buffer = s.2; begun = t.begun; given = t.given; lines = t.lines }

unfoldable pub with_name : ListState → Result StepDone × Position × List ℕ × List ℕ → ListState
with_name t s =
    let line = name_line (get_or all_names t.run.place.index 0) t.run.place.value (s.1.counts.comparisons - t.begun) in
    record { file = s.3; run = s.1; buffer = s.2; begun = s.1.counts.comparisons; given = suc t.given; lines = t.lines ++ line }

unfoldable pub list_step : ListState → ListState
list_step t =
    let s = step_on t.file t.run all_names t.buffer in cond (gives_name s.0 t.run) (with_name t s) (without_name t s)

-- steps until the run has ended, at most so many
unfoldable pub list_steps : ℕ → ListState → ListState
list_steps zero t = t
list_steps (suc n) t = let rest = list_steps n (list_step t) in cond (eqb t.run.end running) rest t

-- every pass makes at most as many rounds as it has places
abbrev pub most_steps : ℕ
most_steps = name_count * (last_step + 1)

-- "It reads one file from standard input and runs names 0x01 to 0xFE."
unfoldable pub start_state : List ℕ → ListState
start_state file = record { file = file; run = fresh all_names; buffer = replicate slots 0; begun = 0; given = 0; lines = [] }

unfoldable pub end_state : List ℕ → ListState
end_state file = list_steps most_steps (start_state file)

-- "then one line of totals, decimal: names given, comparisons, rounds of the run"
unfoldable pub with_totals : ListState → List ℕ
with_totals t = t.lines ++ totals_line t.given t.run.counts.comparisons t.run.counts.rounds

-- "A refused file gives only the line `refused`, a space and its number.": on loading, so 22 among them (document 02, job 5)
unfoldable pub listing : List ℕ → List ℕ
listing file = cond (eqb (load_ground file) 0) (with_totals (end_state file)) (refused_line (load_ground file))

unfoldable pub file_listed : List ℕ → List ℕ
file_listed file = cond (eqb (load_ground file) 0) (end_state file).file file

-- the listing's length, the text with the listing in front and its rest as it was, and the file as the run left it
unfoldable pub listed : List ℕ → List ℕ → ℕ × List ℕ × List ℕ
listed file text = (length (listing file), listing file ++ drop (length (listing file)) text, file_listed file)

-- the longest text: a line for each name, and the totals
abbrev pub text_size : ℕ
text_size = name_count * line_size + totals_size
