-- `convert::directory::put_directory_entry` meets its contract: an offset, then before it two stores and zeros.
-- Assumes nothing.
use Rattle.std.proofs.Common.{length-set, arith, rules}
use Rattle.convert.proofs.EntryLaws.{directory-entry-kept, directory-entry-put}
use Rattle.convert.proofs.directory.put_directory_entry.Goals as goal

pub bounds-out-at-2 : goal.bounds-out-at-2
bounds-out-at-2 c = simp length-set (omega arith)

pub put_fill-requires : goal.put_fill-requires
put_fill-requires c = (search rules, simp length-set (omega arith))

pub shape_of-out : goal.shape_of-out
shape_of-out c = search (rules, directory-entry-kept)

pub returns : goal.returns
returns c = search (rules, directory-entry-put)
