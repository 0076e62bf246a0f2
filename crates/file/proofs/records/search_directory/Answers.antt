-- `file::records::search_directory` meets its contract: what is left of the search is what the whole search gives.
-- Assumes nothing.
use Rattle.std.proofs.Common.{rules}
use Rattle.file.specs.Inner.FileAnswers.{found_file}
use Rattle.file.proofs.ReaderLaws.{searching_start, searching_first, searching_second, searching_offset, searching_offset-fits, searching_here, searching_next, searching_done}
use Rattle.file.proofs.records.search_directory.Goals as goal

pub loop-entry-init : goal.loop-entry-init
loop-entry-init c = searching_start _ _ _

pub byte_at-requires : goal.byte_at-requires
byte_at-requires c = search (rules, searching_first)

pub byte_at-last-requires : goal.byte_at-last-requires
byte_at-last-requires c = search (rules, searching_second)

pub overflow_add-entry-then-byte_at-number : goal.overflow_add-entry-then-byte_at-number
overflow_add-entry-then-byte_at-number c = search (rules, searching_offset-fits)

pub offset_at-place-requires : goal.offset_at-place-requires
offset_at-place-requires c = search (rules, searching_offset)

pub returns-then-byte_at-number : goal.returns-then-byte_at-number
unfolding found_file
returns-then-byte_at-number c = search (rules, searching_here)

pub loop-entry-preserved : goal.loop-entry-preserved
loop-entry-preserved c = search (rules, searching_next)

pub returns : goal.returns
unfolding found_file
returns c = search (rules, searching_done)
