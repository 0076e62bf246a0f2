-- `summary::holder::find_holder` meets its contract: along the names to the first that is the one asked for.
use Rattle.file.specs.Inner.Typed.{name_in_lem}
use Rattle.summary.proofs.HolderLaws.{Asking}
use Rattle.summary.proofs.holder.find_holder.Given as goal

abbrev pub invariant-loop-place : goal.invariant-loop-place
invariant-loop-place l = Asking (name_in_lem l.name) l.count l.held l.place
