-- `naming::names::marked_ground` meets its contract: the marks are those of the names from the place on.
-- Assumes nothing.
use Rattle.std.proofs.Common.{◌-◌, arith, rules}
use Rattle.file.specs.Rules.Results.{number_in}
use Rattle.file.specs.Inner.Refusals.{outcome_of, refusal_number}
use Rattle.naming.proofs.NameLaws.{listed_start, listed_again, listed-new, listed-broadcast, listed-unnamed, listed-twice, listed-fit}
use Rattle.naming.proofs.names.marked_ground.Goals as goal
use Rattle.naming.proofs.names.marked_ground.Goals.{then-seen-mark, else-seen-mark}

pub loop-i-init : goal.loop-i-init
loop-i-init c = listed_start _

pub bounds-names-i : goal.bounds-names-i
bounds-names-i c = let h = c.loop-i.invariant.within in omega arith

pub overflow_cast-mark : goal.overflow_cast-mark
overflow_cast-mark c = omega (arith, c.type_inv.names (c.loop-i.i - 1))

pub bounds-seen-mark : goal.bounds-seen-mark
bounds-seen-mark c = omega (arith, c.type_inv.names (c.loop-i.i - 1), c.loop-i.invariant.room)

pub bounds-seen-mark-in-loop-i : goal.bounds-seen-mark-in-loop-i
bounds-seen-mark-in-loop-i c = omega (arith, c.type_inv.names (c.loop-i.i - 1), c.loop-i.invariant.room)

pub loop-i-preserved : goal.loop-i-preserved
loop-i-preserved c =
    let loop = c.loop-i in
    let more = c.loop-i-test.true in
    elim c.if-seen-mark.branch [
      | then-seen-mark w ↦ listed_again loop.invariant more (omega (arith, c.type_inv.names (loop.i - 1))) w.if-seen-mark.true w.twice-is
      | else-seen-mark w ↦ listed-new loop.invariant more (omega (arith, c.type_inv.names (loop.i - 1))) w.if-seen-mark.false w.twice-is
    ]

pub returns-then-seen : goal.returns-then-seen
unfolding number_in outcome_of refusal_number
returns-then-seen c = search (rules, listed-broadcast)

pub returns-then-seen-2 : goal.returns-then-seen-2
unfolding number_in outcome_of refusal_number
returns-then-seen-2 c = search (rules, listed-unnamed)

pub returns-then-twice : goal.returns-then-twice
unfolding number_in outcome_of refusal_number
returns-then-twice c = search (rules, listed-twice)

pub returns : goal.returns
unfolding number_in outcome_of refusal_number
returns c = search (rules, listed-fit)
