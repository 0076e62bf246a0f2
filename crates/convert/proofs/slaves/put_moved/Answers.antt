-- `convert::slaves::put_moved` meets its contract: the slaves are copied, then listed by a literal for each width.
-- Assumes nothing.
use Rattle.convert.proofs.Putting.{wide_is}
use Rattle.convert.proofs.ReadLaws.{table_fits, front_fits}
use Rattle.convert.proofs.BodyLaws.{slaves-within, copy_room, body_moved, own_at, fits-at, moved_at}
use Rattle.std.proofs.Common.{rules}
use Rattle.convert.proofs.slaves.put_moved.Goals as goal

pub overflow_mul-body-3 : goal.overflow_mul-body-3
overflow_mul-body-3 c = search (rules, table_fits)

pub overflow_add-body-2 : goal.overflow_add-body-2
overflow_add-body-2 c = search (rules, front_fits)

pub put_run-requires : goal.put_run-requires
put_run-requires c = (search (rules, slaves-within), search rules, search (rules, copy_room))

pub put_moved_at-requires : goal.put_moved_at-requires
put_moved_at-requires c = search (rules, own_at, fits-at)

pub returns-then-width-eq-OFFSET_WIDTH : goal.returns-then-width-eq-OFFSET_WIDTH
returns-then-width-eq-OFFSET_WIDTH c = search (rules, body_moved, moved_at)

pub put_moved_at-requires-2 : goal.put_moved_at-requires-2
put_moved_at-requires-2 c = search (rules, own_at, fits-at, wide_is)

pub returns : goal.returns
returns c = search (rules, body_moved, moved_at, wide_is)
