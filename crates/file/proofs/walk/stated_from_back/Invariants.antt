-- `file::walk::stated_from_back` meets its contract: the entries before state what the whole directory states.
use Rattle.file.specs.Inner.Typed.{file_in}
use Rattle.file.proofs.SeekLaws.{SeekingBack}
use Rattle.file.proofs.walk.stated_from_back.Given as goal

abbrev pub invariant-loop-entry : goal.invariant-loop-entry
invariant-loop-entry l = SeekingBack l.width l.file l.directory l.count (file_in l.wanted) l.least l.entry

abbrev pub decreases-loop-entry : goal.decreases-loop-entry
decreases-loop-entry l = l.entry
