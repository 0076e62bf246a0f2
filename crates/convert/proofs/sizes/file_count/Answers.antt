-- `convert::sizes::file_count` meets its contract: the table states it.
-- Assumes nothing.
use Rattle.file.proofs.ReaderLaws.{entry-size-fits, entry-place-fits, entry-count-fits, entry-count}
use Rattle.convert.proofs.ReadLaws.{count-read}
use Rattle.std.proofs.Common.{rules}
use Rattle.convert.proofs.sizes.file_count.Goals as goal

pub overflow_mul-own-2 : goal.overflow_mul-own-2
overflow_mul-own-2 c = search (rules, entry-size-fits)

pub overflow_add-table-2 : goal.overflow_add-table-2
overflow_add-table-2 c = search (rules, entry-place-fits)

pub overflow_add-table-3 : goal.overflow_add-table-3
overflow_add-table-3 c = search (rules, entry-count-fits)

pub byte_at-requires : goal.byte_at-requires
byte_at-requires c = search (rules, entry-count)

pub returns : goal.returns
returns c = search (rules, count-read)
