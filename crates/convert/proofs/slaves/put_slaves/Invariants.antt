-- `convert::slaves::put_slaves` meets its contract: the slaves so far are listed and put.
use Rattle.convert.specs.Inner.ListedSleep.{is_kept}
use Rattle.convert.proofs.BodyLaws.{BodyPut}
use Rattle.convert.proofs.slaves.put_slaves.Given as goal

abbrev pub invariant-loop-slave : goal.invariant-loop-slave
invariant-loop-slave l =
    BodyPut (is_kept l.sleep) l.width l.at l.place l.file l.initial.out l.out l.entry l.slave l.start l.to
