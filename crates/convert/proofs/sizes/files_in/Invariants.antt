-- `convert::sizes::files_in` meets its contract: the sum over the slaves, by the places of their file counts.
use Rattle.std.proofs.Common.{◌-◌}
use Rattle.convert.proofs.ReadLaws.{Counting}
use Rattle.convert.proofs.sizes.files_in.Given as goal

abbrev pub invariant-loop-place : goal.invariant-loop-place
invariant-loop-place l = Counting l.file l.own l.place l.files

abbrev pub decreases-loop-place : goal.decreases-loop-place
decreases-loop-place l = l.end - l.place
