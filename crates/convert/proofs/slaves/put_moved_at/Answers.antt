-- `convert::slaves::put_moved_at` meets its contract: the slaves so far are listed, and their directories put.
-- Assumes nothing.
use Rattle.convert.proofs.ReadLaws.{table_fits, front_fits, below-count, files-byte}
use Rattle.convert.proofs.TableLaws.{all-awake}
use Rattle.convert.proofs.BodyLaws.{size_fits, moved-start, moved-kept, moved-offset, moved-read, moved-slave-fits, moved-room}
use Rattle.convert.proofs.BodyLaws.{moved_order, moved-fits, moved-entry-fits, moved_again, moved-done}
use Rattle.std.proofs.Common.{rules}
use Rattle.convert.proofs.slaves.put_moved_at.Goals as goal

pub overflow_mul-start-3 : goal.overflow_mul-start-3
overflow_mul-start-3 g c = search (rules, table_fits)

pub overflow_add-start-2 : goal.overflow_add-start-2
overflow_add-start-2 g c = search (rules, front_fits)

pub loop-slave-init : goal.loop-slave-init
loop-slave-init g c = search (rules, moved-start)

pub file_count-files-requires : goal.file_count-files-requires
file_count-files-requires g c = search (rules, below-count)

pub overflow_cast-files : goal.overflow_cast-files
overflow_cast-files g c = search (rules, files-byte, below-count)

pub put_directory-end-requires : goal.put_directory-end-requires
put_directory-end-requires g c = (search (rules, moved-read, below-count), search (rules, moved-slave-fits, below-count))

pub put_table_entry-requires : goal.put_table_entry-requires
put_table_entry-requires g c =
    let more = below-count _ c.slave_count-count.ensures c.loop-slave-test.true in
    (moved-offset c.loop-slave.invariant c.requires.2 more, moved-room c.loop-slave.invariant c.requires.2 more c.put_directory-end.ensures)

pub overflow_mul-entry : goal.overflow_mul-entry
overflow_mul-entry g c = search (rules, size_fits)

pub overflow_add-entry : goal.overflow_add-entry
overflow_add-entry g c = search (rules, moved-entry-fits, below-count)

pub overflow_sub-start : goal.overflow_sub-start
overflow_sub-start g c = search (rules, moved_order)

pub overflow_add-start-in-loop-slave : goal.overflow_add-start-in-loop-slave
overflow_add-start-in-loop-slave g c = search (rules, moved-fits, below-count)

pub loop-slave-preserved : goal.loop-slave-preserved
loop-slave-preserved g c =
    let more = below-count _ c.slave_count-count.ensures c.loop-slave-test.true in
    moved_again c.loop-slave.invariant c.requires.2 more c.put_directory-end.ensures c.requires.0 c.requires.1
    c.file_count-files.ensures (all-awake _ _) c.put_table_entry.ensures

pub shape_of-out : goal.shape_of-out
shape_of-out g c = search (rules, moved-kept)

pub returns : goal.returns
returns g c = search (rules, moved-done)
