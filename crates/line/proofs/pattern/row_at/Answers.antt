-- `line::pattern::row_at` meets its contract: a row by its number is that of the rule.
-- Assumes nothing.
use Rattle.std.proofs.Common.{rules}
use Rattle.line.proofs.Table.{rows, row_by_rule, last_by_rule}
use Rattle.line.proofs.pattern.row_at.Goals as goal

pub bounds-0 : goal.bounds-0
unfolding rows
bounds-0 c = search rules

pub bounds-1 : goal.bounds-1
unfolding rows
bounds-1 c = search rules

pub bounds-2 : goal.bounds-2
unfolding rows
bounds-2 c = search rules

pub bounds-3 : goal.bounds-3
unfolding rows
bounds-3 c = search rules

pub bounds-4 : goal.bounds-4
unfolding rows
bounds-4 c = search rules

pub bounds-5 : goal.bounds-5
unfolding rows
bounds-5 c = search rules

pub bounds-6 : goal.bounds-6
unfolding rows
bounds-6 c = search rules

pub bounds-7 : goal.bounds-7
unfolding rows
bounds-7 c = search rules

pub bounds-8 : goal.bounds-8
unfolding rows
bounds-8 c = search rules

pub bounds-9 : goal.bounds-9
unfolding rows
bounds-9 c = search rules

pub bounds-10 : goal.bounds-10
unfolding rows
bounds-10 c = search rules

pub bounds-11 : goal.bounds-11
unfolding rows
bounds-11 c = search rules

pub bounds-12 : goal.bounds-12
unfolding rows
bounds-12 c = search rules

pub bounds-13 : goal.bounds-13
unfolding rows
bounds-13 c = search rules

pub bounds-14 : goal.bounds-14
unfolding rows
bounds-14 c = search rules

pub bounds-15 : goal.bounds-15
unfolding rows
bounds-15 c = search rules

pub returns-in-0 : goal.returns-in-0
unfolding rows
returns-in-0 c = row_by_rule (search rules) c.in-0.is

pub returns-in-1 : goal.returns-in-1
unfolding rows
returns-in-1 c = row_by_rule (search rules) c.in-1.is

pub returns-in-2 : goal.returns-in-2
unfolding rows
returns-in-2 c = row_by_rule (search rules) c.in-2.is

pub returns-in-3 : goal.returns-in-3
unfolding rows
returns-in-3 c = row_by_rule (search rules) c.in-3.is

pub returns-in-4 : goal.returns-in-4
unfolding rows
returns-in-4 c = row_by_rule (search rules) c.in-4.is

pub returns-in-5 : goal.returns-in-5
unfolding rows
returns-in-5 c = row_by_rule (search rules) c.in-5.is

pub returns-in-6 : goal.returns-in-6
unfolding rows
returns-in-6 c = row_by_rule (search rules) c.in-6.is

pub returns-in-7 : goal.returns-in-7
unfolding rows
returns-in-7 c = row_by_rule (search rules) c.in-7.is

pub returns-in-8 : goal.returns-in-8
unfolding rows
returns-in-8 c = row_by_rule (search rules) c.in-8.is

pub returns-in-9 : goal.returns-in-9
unfolding rows
returns-in-9 c = row_by_rule (search rules) c.in-9.is

pub returns-in-10 : goal.returns-in-10
unfolding rows
returns-in-10 c = row_by_rule (search rules) c.in-10.is

pub returns-in-11 : goal.returns-in-11
unfolding rows
returns-in-11 c = row_by_rule (search rules) c.in-11.is

pub returns-in-12 : goal.returns-in-12
unfolding rows
returns-in-12 c = row_by_rule (search rules) c.in-12.is

pub returns-in-13 : goal.returns-in-13
unfolding rows
returns-in-13 c = row_by_rule (search rules) c.in-13.is

pub returns-in-14 : goal.returns-in-14
unfolding rows
returns-in-14 c = row_by_rule (search rules) c.in-14.is

pub returns-in_default : goal.returns-in_default
unfolding rows
returns-in_default c = last_by_rule (search rules) (search rules)
