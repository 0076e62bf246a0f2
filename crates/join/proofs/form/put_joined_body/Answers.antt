-- `join::form::put_joined_body` meets its contract: both files, then the names of the second.
-- Assumes nothing.
use Rattle.convert.proofs.ReadLaws.{table_fits}
use Rattle.join.proofs.TurnLaws.{shape_turned}
use Rattle.join.proofs.BodyLaws.{second_fits, second-slaves, body_turned}
use Rattle.std.proofs.Common.{rules}
use Rattle.join.proofs.form.put_joined_body.Goals as goal

pub overflow_mul-place-2 : goal.overflow_mul-place-2
overflow_mul-place-2 c = search (rules, table_fits)

pub overflow_add-place : goal.overflow_add-place
overflow_add-place c = search (rules, second_fits)

pub turn_names-requires : goal.turn_names-requires
turn_names-requires c = search (rules, second-slaves)

pub returns : goal.returns
returns c = search (rules, body_turned, shape_turned)
