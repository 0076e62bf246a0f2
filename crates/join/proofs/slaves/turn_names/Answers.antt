-- `join::slaves::turn_names` meets its contract: the slaves so far are turned.
-- Assumes nothing.
use Rattle.std.proofs.Common.{refl, arith, rules}
use Rattle.file.proofs.PlaceLaws.{configuration-fits, configuration-byte-fits}
use Rattle.convert.proofs.ReadLaws.{table_fits, front_fits, below-count, files-fit}
use Rattle.join.proofs.TurnLaws.{turning_start, lost_fits, gained_fits, lost_order, name-fits, name-room, turning_next, turning_kept, turning_done}
use Rattle.join.proofs.slaves.turn_names.Goals as goal

pub overflow_mul-lost-3 : goal.overflow_mul-lost-3
overflow_mul-lost-3 c = search (rules, table_fits)

pub overflow_add-lost-2 : goal.overflow_add-lost-2
overflow_add-lost-2 c = search (rules, front_fits)

pub loop-slave-init : goal.loop-slave-init
loop-slave-init c = search (rules, turning_start)

pub file_count-files-requires : goal.file_count-files-requires
file_count-files-requires c = search (rules, below-count)

pub overflow_mul-lost-in-loop-slave-2 : goal.overflow_mul-lost-in-loop-slave-2
overflow_mul-lost-in-loop-slave-2 c = search (rules, files-fit, below-count)

pub overflow_add-lost-in-loop-slave : goal.overflow_add-lost-in-loop-slave
overflow_add-lost-in-loop-slave c = search (rules, lost_fits, below-count)

pub overflow_mul-gained-in-loop-slave : goal.overflow_mul-gained-in-loop-slave
overflow_mul-gained-in-loop-slave c = search (rules, files-fit, below-count)

pub overflow_add-gained : goal.overflow_add-gained
overflow_add-gained c = search (rules, gained_fits, below-count)

pub logical_name-name-requires : goal.logical_name-name-requires
logical_name-name-requires c = search (rules, below-count)

pub overflow_cast-place : goal.overflow_cast-place
overflow_cast-place c =
    configuration-fits c.requires.0 _ (below-count _ c.slave_count-count.ensures c.loop-slave-test.true)

pub overflow_add-to : goal.overflow_add-to
overflow_add-to c =
    let more = below-count _ c.slave_count-count.ensures c.loop-slave-test.true in
    configuration-byte-fits c.requires.0 _ more 7 (omega arith)

pub overflow_sub-to : goal.overflow_sub-to
overflow_sub-to c =
    let more = below-count _ c.slave_count-count.ensures c.loop-slave-test.true in
    lost_order c.loop-slave.invariant c.requires.0 c.requires.1 more c.width_of-own.ensures c.file_count-files.ensures

pub overflow_add-to-in-loop-slave : goal.overflow_add-to-in-loop-slave
overflow_add-to-in-loop-slave c =
    let more = below-count _ c.slave_count-count.ensures c.loop-slave-test.true in
    name-fits c.loop-slave.invariant c.requires.0 c.requires.1 more c.width_of-own.ensures c.file_count-files.ensures

pub turn_name-requires : goal.turn_name-requires
turn_name-requires c =
    let more = below-count _ c.slave_count-count.ensures c.loop-slave-test.true in
    name-room c.loop-slave.invariant c.requires.0 c.requires.1 more c.width_of-own.ensures c.file_count-files.ensures

pub loop-slave-preserved : goal.loop-slave-preserved
loop-slave-preserved c =
    let more = below-count _ c.slave_count-count.ensures c.loop-slave-test.true in
    turning_next c.loop-slave.invariant c.requires.0 c.requires.1 more c.width_of-own.ensures c.file_count-files.ensures
    c.logical_name-name.ensures refl c.turn_name.ensures

pub shape_of-out : goal.shape_of-out
shape_of-out c = search (rules, turning_kept)

pub returns : goal.returns
returns c = search (rules, turning_done)
