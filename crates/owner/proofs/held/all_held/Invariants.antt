-- `owner::held::all_held` meets its contract. The invariant is `Holding`: the slaves passed are marked.
use Rattle.std.proofs.Common.{◌≡◌, length}
use Rattle.file.specs.Rules.Decode.{decode}
use Rattle.owner.proofs.HeldLaws.{Holding}
use Rattle.owner.proofs.held.all_held.Given as goal

abbrev pub invariant-loop-slave : goal.invariant-loop-slave
invariant-loop-slave l = Holding (decode l.file) l.held l.slave × (length l.held ≡ length l.initial.held)
