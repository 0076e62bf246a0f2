-- `convert::slaves::put_moved_at` meets its contract: the slaves so far are listed, and their directories put.
use Rattle.convert.proofs.BodyLaws.{MovedPut}
use Rattle.convert.proofs.slaves.put_moved_at.Given as goal

abbrev pub invariant-loop-slave : goal.invariant-loop-slave
invariant-loop-slave g l =
    MovedPut g.row.WIDTH l.at l.place l.file l.initial.out l.out l.entry l.slave l.start l.to
