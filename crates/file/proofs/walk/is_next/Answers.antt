-- `file::walk::is_next` meets its contract: a law for each way.
-- Assumes nothing.
use Rattle.file.proofs.WalkLaws.{next_low, next_empty, next_unfilled, next_last}
use Rattle.std.proofs.Common.{rules}
use borrow.Author.Tests.{not-true}
use Rattle.file.proofs.walk.is_next.Goals as goal

pub returns-then-number-low : goal.returns-then-number-low
returns-then-number-low c = search (rules, next_low)

pub returns-then-last-lt-LEAST_RECORD : goal.returns-then-last-lt-LEAST_RECORD
returns-then-last-lt-LEAST_RECORD c = search (rules, next_empty)

pub returns-then-not-is_filled : goal.returns-then-not-is_filled
returns-then-not-is_filled c = search (rules, next_unfilled, not-true)

pub returns : goal.returns
returns c = search (rules, next_last)
