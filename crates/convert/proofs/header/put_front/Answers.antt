-- `convert::header::put_front` meets its contract: four stores, then two offsets.
-- Assumes nothing.
use Rattle.std.proofs.Common.{length-set, arith, rules}
use Rattle.convert.proofs.HeaderLaws.{table-offset, front-second, front_kept, front-put}
use Rattle.convert.proofs.header.put_front.Goals as goal

pub bounds-out-1 : goal.bounds-out-1
bounds-out-1 c = simp length-set (omega arith)

pub bounds-out-2 : goal.bounds-out-2
bounds-out-2 c = simp length-set (omega arith)

pub bounds-out-3 : goal.bounds-out-3
bounds-out-3 c = simp length-set (omega arith)

pub put_offset-requires : goal.put_offset-requires
put_offset-requires c = (search (rules, table-offset), simp length-set (omega arith))

pub put_offset-requires-2 : goal.put_offset-requires-2
put_offset-requires-2 c = search (rules, front-second)

pub shape_of-out : goal.shape_of-out
shape_of-out c = search (rules, front_kept)

pub returns : goal.returns
returns c = search (rules, front-put)
