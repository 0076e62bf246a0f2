-- `master_slave::duty::compare_round` meets its contract. The invariant is `Unanswered`: no slave that was passed has replied.
use Rattle.file.specs.Rules.Decode.{decode}
use Rattle.file.specs.Inner.Typed.{name_in_lem}
use Rattle.frame.specs.Rules.Fireworks.{data_firework}
use Rattle.master_slave.proofs.Settled.{Unanswered}
use Rattle.master_slave.proofs.duty.compare_round.Given as goal

abbrev pub invariant-loop-slave : goal.invariant-loop-slave
invariant-loop-slave l =
    Unanswered (name_in_lem l.name) (decode l.file) data_firework l.initial.buffer l.buffer l.slave l.last
