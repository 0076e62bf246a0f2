-- `summary::matching::is_wrong` meets its contract: along the slaves to the first whose name is another.
-- Assumes nothing.
use Rattle.std.proofs.Common.{sym, ◌∙◌, arith, rules, eqb-true}
use borrow.Author.Tests.{eqb-false, not-true, not-false}
use Rattle.summary.proofs.MatchLaws.{short_wrong, count_wrong, agreeing_start, agreeing_stop, agreeing_next, agreeing_done}
use Rattle.summary.proofs.matching.is_wrong.Goals as goal

pub returns-then-held-count : goal.returns-then-held-count
returns-then-held-count c = search (rules, short_wrong)

pub returns-then-count-slave_count : goal.returns-then-count-slave_count
returns-then-count-slave_count c = search (rules, count_wrong)

pub loop-slave-init : goal.loop-slave-init
loop-slave-init c =
    agreeing_start _ _ _ c.if-held-count.false c.slave_count.ensures c.if-count-slave_count.false

pub logical_name-name-requires : goal.logical_name-name-requires
logical_name-name-requires c =
    (c.requires, omega (arith, c.loop-slave.invariant.all, c.loop-slave-test.true))

pub returns-then-ne : goal.returns-then-ne
returns-then-ne c =
    agreeing_stop c.loop-slave.invariant c.loop-slave-test.true c.logical_name-name.ensures
    (eqb-false _ _ (not-true _ (sym c.ne.ensures ∙ c.if-ne.true)))

pub loop-slave-preserved : goal.loop-slave-preserved
loop-slave-preserved c =
    agreeing_next c.loop-slave.invariant c.loop-slave-test.true c.logical_name-name.ensures
    (eqb-true _ _ (not-false _ (sym c.ne.ensures ∙ c.if-ne.false)))

pub returns : goal.returns
returns c = search (rules, agreeing_done)
