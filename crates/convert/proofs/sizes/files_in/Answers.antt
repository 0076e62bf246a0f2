-- `convert::sizes::files_in` meets its contract: the sum over the slaves, by the places of their file counts.
-- Assumes nothing.
use Rattle.convert.proofs.ReadLaws.{table_fits, counts-end-fits, counting_start, counting_inside, counting_fits, place-fits, counting_next, counting_done}
use Rattle.std.proofs.Common.{rules}
use Rattle.convert.proofs.sizes.files_in.Goals as goal

pub overflow_mul-end : goal.overflow_mul-end
overflow_mul-end c = search (rules, table_fits)

pub overflow_add-end : goal.overflow_add-end
overflow_add-end c = search (rules, counts-end-fits)

pub loop-place-init : goal.loop-place-init
loop-place-init c = search (rules, counting_start)

pub byte_at-files-requires : goal.byte_at-files-requires
byte_at-files-requires c = search (rules, counting_inside)

pub overflow_add-files : goal.overflow_add-files
overflow_add-files c = search (rules, counting_fits)

pub overflow_add-place-in-loop-place : goal.overflow_add-place-in-loop-place
overflow_add-place-in-loop-place c = search (rules, place-fits)

pub loop-place-preserved : goal.loop-place-preserved
loop-place-preserved c = search (rules, counting_next)

pub returns : goal.returns
returns c = search (rules, counting_done)
