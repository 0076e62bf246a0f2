-- `line::pattern::read_pattern` meets its contract: a law for each entry that stands in the pattern's row.
-- Assumes nothing.
use Rattle.std.proofs.Common.{rules}
use Rattle.file.specs.Inner.Refusals.{refusal_number}
use Rattle.line.specs.Inner.LineAnswers.{class_in, read_of}
use Rattle.line.proofs.Table.{above, data-entry, firework-entry, broken-entry, other-entry}
use Rattle.line.proofs.pattern.read_pattern.Goals as goal

pub returns-then-pattern-gt-LAST_PATTERN : goal.returns-then-pattern-gt-LAST_PATTERN
unfolding read_of refusal_number
returns-then-pattern-gt-LAST_PATTERN c = search (rules, above)

pub returns-in-0 : goal.returns-in-0
unfolding read_of class_in
returns-in-0 c = data-entry _ (search rules) c.row_at-row.ensures c.in-0.is

pub returns-in-1 : goal.returns-in-1
unfolding read_of class_in
returns-in-1 c = firework-entry _ (search rules) c.row_at-row.ensures c.in-1.is

pub returns-in-2 : goal.returns-in-2
unfolding read_of class_in
returns-in-2 c = broken-entry _ (search rules) c.row_at-row.ensures c.in-2.is

pub returns-in_default : goal.returns-in_default
unfolding read_of class_in
returns-in_default c = other-entry _ (search rules) c.row_at-row.ensures (search rules)
