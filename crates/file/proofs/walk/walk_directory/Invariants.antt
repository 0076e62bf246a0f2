-- `file::walk::walk_directory` meets its contract. The invariant is `Walking`: the walk from here, where all fits so far, is the walk from the start.
use Rattle.std.proofs.Common.{◌-◌}
use Rattle.file.proofs.WalkLaws.{Walking}
use Rattle.file.proofs.walk.walk_directory.Given as goal

abbrev pub invariant-loop-entry : goal.invariant-loop-entry
invariant-loop-entry l = Walking l.width l.file l.directory l.count l.entry l.low l.place

abbrev pub decreases-loop-entry : goal.decreases-loop-entry
decreases-loop-entry l = l.end - l.entry
