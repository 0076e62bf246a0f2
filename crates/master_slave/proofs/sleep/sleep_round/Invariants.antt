-- `master_slave::sleep::sleep_round` meets its contract: the slaves passed are asleep or awake, by the rule.
use Rattle.file.specs.Inner.Typed.{name_in_lem}
use Rattle.master_slave.specs.Rules.Slaves.{sleeping, rests_after}
use Rattle.master_slave.proofs.Changing.{Changing}
use Rattle.master_slave.proofs.sleep.sleep_round.Given as goal

abbrev pub invariant-loop-slave : goal.invariant-loop-slave
invariant-loop-slave l = Changing (rests_after (sleeping (name_in_lem l.name))) l.initial.file l.slave l.file
