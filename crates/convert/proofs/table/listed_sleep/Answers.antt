-- `convert::table::listed_sleep` meets its contract: 0, or the table's byte.
-- Assumes nothing.
use Rattle.file.proofs.ReaderLaws.{entry-size-fits, entry-place-fits, entry-count-fits}
use Rattle.convert.proofs.ReadLaws.{sleep_fits, sleep_inside}
use Rattle.convert.proofs.TableLaws.{sleep_awake, sleep_kept}
use Rattle.std.proofs.Common.{rules}
use Rattle.convert.proofs.table.listed_sleep.Goals as goal

pub overflow_mul-result-in-Kept : goal.overflow_mul-result-in-Kept
overflow_mul-result-in-Kept c = search (rules, entry-size-fits)

pub overflow_add-result : goal.overflow_add-result
overflow_add-result c = search (rules, entry-place-fits)

pub overflow_add-result-in-Kept : goal.overflow_add-result-in-Kept
overflow_add-result-in-Kept c = search (rules, entry-count-fits)

pub overflow_add-result-in-Kept-2 : goal.overflow_add-result-in-Kept-2
overflow_add-result-in-Kept-2 c = search (rules, sleep_fits)

pub bounds-file-table : goal.bounds-file-table
bounds-file-table c = search (rules, sleep_inside)

pub returns-in-AllAwake : goal.returns-in-AllAwake
returns-in-AllAwake c = search (rules, sleep_awake)

pub returns-in-Kept : goal.returns-in-Kept
returns-in-Kept c = search (rules, sleep_kept)
