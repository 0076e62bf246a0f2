-- `file::walk::walk_directory` meets its contract. The invariant is `Walking`: the walk from here, where all fits so far, is the walk from the start.
-- Assumes nothing.
use Rattle.std.proofs.Common.{rules}
use Rattle.file.proofs.WalkLaws.{walking_none, first_stop, first_next}
use Rattle.file.proofs.WalkLaws.{walking_stop, walking_next, walking_done}
use Rattle.file.proofs.walk.walk_directory.Goals as goal

pub returns-then-count-eq0 : goal.returns-then-count-eq0
returns-then-count-eq0 c = search (rules, walking_none)

pub returns-then-not-is_next : goal.returns-then-not-is_next
returns-then-not-is_next c = search (rules, first_stop)

pub loop-entry-init : goal.loop-entry-init
loop-entry-init c =
    first_next c.requires c.if-count-eq0.false c.is_next.ensures c.if-not-is_next.false c.byte_at-first.ensures c.byte_at-records.ensures

pub returns-then-not-is_next-2 : goal.returns-then-not-is_next-2
returns-then-not-is_next-2 c = search (rules, walking_stop)

pub loop-entry-preserved : goal.loop-entry-preserved
loop-entry-preserved c =
    walking_next c.requires c.loop-entry.invariant c.loop-entry-test.true c.is_next-in-loop-entry.ensures c.if-not-is_next-2.false c.byte_at-number.ensures c.byte_at-last.ensures

pub returns : goal.returns
returns c = search (rules, walking_done)
