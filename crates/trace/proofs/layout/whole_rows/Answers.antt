-- `trace::layout::whole_rows` meets its contract. The invariant is `Checking`: the walk from this row is the walk from the first.
-- Assumes nothing.
use Rattle.std.proofs.Common.{◌+◌, ◌*◌, ◌≡◌, arith, rules}
use Rattle.trace.specs.Rules.Layout.{header_size, row_size}
use Rattle.trace.proofs.RowLaws.{checking_start, checking_stop, checking-next, checking_done}
use Rattle.trace.proofs.layout.whole_rows.Goals as goal

pub loop-index-init : goal.loop-index-init
loop-index-init c = search (rules, checking_start)

pub returns-then-u16_at-place : goal.returns-then-u16_at-place
returns-then-u16_at-place c = checking_stop c.loop-index.invariant (omega (arith, c.loop-index-test.true)) c.u16_at.ensures c.if-u16_at-place.true

pub loop-index-preserved : goal.loop-index-preserved
loop-index-preserved c =
    let next : header_size + row_size * (c.loop-index.index + 1) ≡ header_size + row_size * c.loop-index.index + row_size = omega arith in
    rw next (checking-next c.loop-index.invariant (omega (arith, c.loop-index-test.true)) c.u16_at.ensures c.if-u16_at-place.false c.byte_at-place.ensures)

pub returns : goal.returns
returns c = checking_done c.loop-index.invariant (omega (arith, c.loop-index-test.false)) c.u16_at-2.ensures
