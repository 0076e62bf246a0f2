-- `master_slave::sleep::wake_slaves` meets its contract: the slaves passed are awake.
use Rattle.master_slave.specs.Rules.Slaves.{nothing, rests_after}
use Rattle.master_slave.proofs.Changing.{Changing}
use Rattle.master_slave.proofs.sleep.wake_slaves.Given as goal

abbrev pub invariant-loop-slave : goal.invariant-loop-slave
invariant-loop-slave l = Changing (rests_after nothing) l.initial.file l.slave l.file
