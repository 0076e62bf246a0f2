-- `multipartner::round_files::round_files` meets its contract. The invariant is `Finding`: the files of the slaves passed are found.
use Rattle.file.specs.Inner.Typed.{file_in}
use Rattle.multipartner.proofs.RoundFileLaws.{Finding}
use Rattle.multipartner.proofs.round_files.round_files.Given as goal

abbrev pub invariant-loop-slave : goal.invariant-loop-slave
invariant-loop-slave l =
    Finding l.file (file_in l.round) l.lists l.slave
