-- `convert::slaves::put_slaves` meets its contract: the slaves so far are listed and put.
-- Assumes nothing.
use Rattle.convert.proofs.ReadLaws.{table_fits, front_fits, below-count, files-byte}
use Rattle.convert.proofs.BodyLaws.{body_start, body_kept, body_offset, body_read, body_slave-fits, body_room, body_entry-fits, body_again, body_done, size_fits}
use Rattle.std.proofs.Common.{rules}
use Rattle.convert.proofs.slaves.put_slaves.Goals as goal

pub overflow_mul-start-3 : goal.overflow_mul-start-3
overflow_mul-start-3 c = search (rules, table_fits)

pub overflow_add-start-2 : goal.overflow_add-start-2
overflow_add-start-2 c = search (rules, front_fits)

pub loop-slave-init : goal.loop-slave-init
loop-slave-init c = search (rules, body_start)

pub file_count-files-requires : goal.file_count-files-requires
file_count-files-requires c = search (rules, below-count)

pub overflow_cast-files : goal.overflow_cast-files
overflow_cast-files c = search (rules, files-byte, below-count)

pub listed_sleep-asleep-requires : goal.listed_sleep-asleep-requires
listed_sleep-asleep-requires c = search (rules, below-count)

pub put_slave-ends-requires : goal.put_slave-ends-requires
put_slave-ends-requires c = (search (rules, body_read, below-count), search (rules, body_slave-fits, below-count))

pub put_table_entry-requires : goal.put_table_entry-requires
put_table_entry-requires c =
    let more = below-count _ c.slave_count-count.ensures c.loop-slave-test.true in
    (body_offset c.loop-slave.invariant c.requires.1 more, body_room c.loop-slave.invariant c.requires.1 more c.put_slave-ends.ensures)

pub overflow_mul-entry : goal.overflow_mul-entry
overflow_mul-entry c = search (rules, size_fits)

pub overflow_add-entry : goal.overflow_add-entry
overflow_add-entry c = search (rules, body_entry-fits, below-count)

pub loop-slave-preserved : goal.loop-slave-preserved
loop-slave-preserved c =
    let more = below-count _ c.slave_count-count.ensures c.loop-slave-test.true in
    body_again c.loop-slave.invariant c.requires.1 more c.put_slave-ends.ensures c.file_count-files.ensures c.listed_sleep-asleep.ensures c.put_table_entry.ensures

pub shape_of-out : goal.shape_of-out
shape_of-out c = search (rules, body_kept)

pub returns : goal.returns
returns c = search (rules, body_done)
