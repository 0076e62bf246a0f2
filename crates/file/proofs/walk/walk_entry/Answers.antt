-- `file::walk::walk_entry` meets its contract: a law for each way.
-- Assumes nothing.
use borrow.Author.Tests.{not-true}
use Rattle.file.proofs.SlaveWalkLaws.{slave-elsewhere, slave_sleep, slave_unfilled, slave_past, slave_walked}
use Rattle.std.proofs.Common.{rules}
use Rattle.file.proofs.walk.walk_entry.Goals as goal

pub returns-then-offset_at-place : goal.returns-then-offset_at-place
returns-then-offset_at-place c = search (rules, slave-elsewhere)

pub returns-then-byte_at-gt-MOST_SLEEP : goal.returns-then-byte_at-gt-MOST_SLEEP
returns-then-byte_at-gt-MOST_SLEEP c = search (rules, slave_sleep)

pub returns-then-not-is_filled : goal.returns-then-not-is_filled
returns-then-not-is_filled c = search (rules, slave_unfilled, not-true)

pub returns-then-file-place : goal.returns-then-file-place
returns-then-file-place c = search (rules, slave_past)

pub returns : goal.returns
returns c = search (rules, slave_walked)
