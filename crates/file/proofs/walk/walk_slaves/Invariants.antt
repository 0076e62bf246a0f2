-- `file::walk::walk_slaves` meets its contract. The invariant is `Surveying`: the walk from here is the walk from the start, and the places written so far stand in front of those to come.
use Rattle.std.proofs.Common.{length}
use Rattle.file.proofs.SlaveWalkLaws.{Surveying}
use Rattle.file.proofs.walk.walk_slaves.Given as goal

abbrev pub invariant-loop-slave : goal.invariant-loop-slave
invariant-loop-slave l = Surveying l.width l.file l.count (length l.initial.places) l.slave l.entry l.place l.places
