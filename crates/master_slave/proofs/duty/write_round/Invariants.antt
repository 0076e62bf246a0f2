-- `master_slave::duty::write_round` meets its contract. The invariant is `Changing`: the slaves passed are changed, the others are not.
use Rattle.master_slave.specs.Rules.Slaves.{slave_after}
use Rattle.master_slave.specs.Inner.Duties.{writing_at, data_in}
use Rattle.master_slave.proofs.Changing.{Changing}
use Rattle.master_slave.proofs.duty.write_round.Given as goal

abbrev pub invariant-loop-slave : goal.invariant-loop-slave
invariant-loop-slave l =
    Changing (slave_after (writing_at l.address) (data_in l.bytes)) l.initial.file l.slave l.file
