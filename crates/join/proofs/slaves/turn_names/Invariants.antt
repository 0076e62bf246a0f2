-- `join::slaves::turn_names` meets its contract: the slaves so far are turned.
use Rattle.join.proofs.TurnLaws.{Turning}
use Rattle.join.proofs.slaves.turn_names.Given as goal

abbrev pub invariant-loop-slave : goal.invariant-loop-slave
invariant-loop-slave l = Turning l.width l.at l.file l.held l.initial.out l.out l.lost l.gained l.slave
