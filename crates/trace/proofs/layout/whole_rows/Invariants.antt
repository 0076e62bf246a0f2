-- `trace::layout::whole_rows` meets its contract. The invariant is `Checking`: the walk from this row is the walk from the first.
use Rattle.std.proofs.Common.{◌+◌, ◌*◌}
use Rattle.trace.specs.Rules.Layout.{header_size, row_size}
use Rattle.trace.proofs.RowLaws.{Checking}
use Rattle.trace.proofs.layout.whole_rows.Given as goal

abbrev pub invariant-loop-index : goal.invariant-loop-index
invariant-loop-index l = Checking l.trace l.count (header_size + row_size * l.index) l.place
