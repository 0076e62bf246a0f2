-- `convert::slaves::put_slave` meets its contract: its directory, then the run of its files.
-- Assumes nothing.
use Rattle.convert.proofs.ReadLaws.{files-fit, files-start-fits}
use Rattle.convert.proofs.DirectoryLaws.{files-place-fits}
use Rattle.convert.proofs.SlavePutLaws.{files_order, behind-fits, run_inside, run_room, slave-done}
use Rattle.std.proofs.Common.{arith, rules}
use Rattle.convert.proofs.slaves.put_slave.Goals as goal

pub overflow_mul-from-2 : goal.overflow_mul-from-2
overflow_mul-from-2 c = search (rules, files-fit)

pub overflow_add-from : goal.overflow_add-from
overflow_add-from c = search (rules, files-start-fits)

pub overflow_mul-files-2 : goal.overflow_mul-files-2
overflow_mul-files-2 c = search (rules, files-fit)

pub overflow_add-files : goal.overflow_add-files
overflow_add-files c = search (rules, files-place-fits)

pub overflow_sub-behind : goal.overflow_sub-behind
overflow_sub-behind c = search (rules, files_order)

pub overflow_add-behind : goal.overflow_add-behind
overflow_add-behind c = search (rules, behind-fits)

pub put_run-requires : goal.put_run-requires
put_run-requires c = (omega arith, search (rules, run_inside), search (rules, run_room))

pub returns : goal.returns
returns c = search (rules, slave-done)
