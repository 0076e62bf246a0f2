-- `file::walk::stated_from_front` meets its contract: what the walk from here on states is what the whole directory states.
use Rattle.std.proofs.Common.{◌-◌}
use Rattle.file.specs.Inner.Typed.{file_in}
use Rattle.file.proofs.SeekLaws.{Seeking}
use Rattle.file.proofs.walk.stated_from_front.Given as goal

abbrev pub invariant-loop-entry : goal.invariant-loop-entry
invariant-loop-entry l = Seeking l.width l.file l.directory l.count (file_in l.wanted) l.least l.entry

abbrev pub decreases-loop-entry : goal.decreases-loop-entry
decreases-loop-entry l = l.end - l.entry
