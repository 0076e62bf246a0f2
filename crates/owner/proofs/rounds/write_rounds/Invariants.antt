-- `owner::rounds::write_rounds` meets its contract. The invariant is `RoundsWritten`: the rounds passed are written.
use Rattle.file.specs.Rules.Decode.{decode}
use Rattle.owner.specs.Inner.Planned.{RoundsWritten}
use Rattle.owner.proofs.rounds.write_rounds.Given as goal

abbrev pub invariant-loop-round : goal.invariant-loop-round
invariant-loop-round l =
    RoundsWritten (decode l.file).slaves l.fn.master.0 l.round l.head l.rows l.written.length l.written.clash l.written.multiplexed
