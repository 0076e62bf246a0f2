-- `convert::directory::put_directory` meets its contract: the entries of the files so far are put.
use Rattle.convert.proofs.DirectoryLaws.{DirectoryPut}
use Rattle.convert.proofs.directory.put_directory.Given as goal

abbrev pub invariant-loop-done : goal.invariant-loop-done
invariant-loop-done l =
    DirectoryPut l.width l.at l.file l.slave l.initial.out l.out l.entry l.to l.place l._done
