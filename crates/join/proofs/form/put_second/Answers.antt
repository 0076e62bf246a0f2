-- `join::form::put_second` meets its contract: moved, or written at the other width.
-- Assumes nothing.
use Rattle.std.proofs.Common.{rules}
use Rattle.join.proofs.BodyLaws.{own_width}
use Rattle.join.proofs.form.put_second.Goals as goal

pub put_moved-requires : goal.put_moved-requires
put_moved-requires c = search (rules, own_width)
