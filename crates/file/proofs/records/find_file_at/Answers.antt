-- `file::records::find_file_at` meets its contract: the slave's directory states where the file lies.
-- Assumes nothing.
use Rattle.file.proofs.ReaderLaws.{entry-size-fits, entry-place-fits, entry-count-fits, entry-offset, entry-count, directory-fits, file-found}
use Rattle.std.proofs.Common.{rules}
use Rattle.file.proofs.records.find_file_at.Goals as goal

pub overflow_mul-entry : goal.overflow_mul-entry
overflow_mul-entry g c = search (rules, entry-size-fits)

pub overflow_add-entry : goal.overflow_add-entry
overflow_add-entry g c = search (rules, entry-place-fits)

pub offset_at-directory-requires : goal.offset_at-directory-requires
offset_at-directory-requires g c = search (rules, entry-offset)

pub overflow_add-entry-2 : goal.overflow_add-entry-2
overflow_add-entry-2 g c = search (rules, entry-count-fits)

pub byte_at-count-requires : goal.byte_at-count-requires
byte_at-count-requires g c = search (rules, entry-count)

pub search_directory-requires : goal.search_directory-requires
search_directory-requires g c = search (rules, directory-fits)

pub returns : goal.returns
returns g c = search (rules, file-found)
