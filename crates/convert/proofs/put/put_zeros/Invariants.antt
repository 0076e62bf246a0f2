-- `convert::put::put_zeros` meets its contract: the zeros so far stand in the buffer.
use Rattle.std.proofs.Common.{◌≤◌, replicate}
use Rattle.convert.specs.Inner.Putting.{Put}
use Rattle.convert.proofs.put.put_zeros.Given as goal

abbrev pub invariant-loop-done : goal.invariant-loop-done
invariant-loop-done l = (l.done ≤ l.count) × Put l.initial.out l.at (replicate l.done 0) l.out
