-- `convert::table::put_table_entry` meets its contract: an offset, two stores and zeros.
-- Assumes nothing.
use Rattle.std.proofs.Common.{length-set, arith, rules}
use Rattle.convert.proofs.EntryLaws.{table-entry-kept, table-entry-put}
use Rattle.convert.proofs.table.put_table_entry.Goals as goal

pub bounds-out-behind-2 : goal.bounds-out-behind-2
bounds-out-behind-2 c = simp length-set (omega arith)

pub put_fill-requires : goal.put_fill-requires
put_fill-requires c = (search rules, simp length-set (omega arith))

pub shape_of-out : goal.shape_of-out
shape_of-out c = search (rules, table-entry-kept)

pub returns : goal.returns
returns c = search (rules, table-entry-put)
