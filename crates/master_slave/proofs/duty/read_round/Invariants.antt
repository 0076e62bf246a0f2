-- `master_slave::duty::read_round` meets its contract. The invariant is `Hearing`: buffer and last slot are those of the slaves passed.
use Rattle.file.specs.Rules.Decode.{decode}
use Rattle.frame.specs.Rules.Fireworks.{data_firework}
use Rattle.master_slave.specs.Inner.Duties.{reading_at}
use Rattle.master_slave.proofs.Hearing.{Hearing}
use Rattle.master_slave.proofs.duty.read_round.Given as goal

abbrev pub invariant-loop-slave : goal.invariant-loop-slave
invariant-loop-slave l =
    Hearing (reading_at l.address) (decode l.file) data_firework l.initial.buffer l.buffer l.slave l.last
