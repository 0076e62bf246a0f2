-- `summary::matching::is_wrong` meets its contract: along the slaves to the first whose name is another.
use Rattle.file.specs.Rules.Decode.{decode}
use Rattle.summary.proofs.MatchLaws.{Agreeing}
use Rattle.summary.proofs.matching.is_wrong.Given as goal

abbrev pub invariant-loop-slave : goal.invariant-loop-slave
invariant-loop-slave l = Agreeing (decode l.file) l.count l.held l.slave
