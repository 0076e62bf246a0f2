-- `master_slave::duty::baptize_round` meets its contract. The invariant is `Changing`: the slaves passed are changed, the others are not.
use mathlib.Core.List.{[]}
use Rattle.file.specs.Inner.Typed.{name_in_lem}
use Rattle.master_slave.specs.Rules.Slaves.{baptizing, slave_after}
use Rattle.master_slave.proofs.Changing.{Changing}
use Rattle.master_slave.proofs.duty.baptize_round.Given as goal

abbrev pub invariant-loop-slave : goal.invariant-loop-slave
invariant-loop-slave l =
    Changing (slave_after (baptizing (name_in_lem l.name)) []) l.initial.file l.slave l.file
