-- `file::records::find_file` meets its contract: by the width that the file's third byte says.
-- Assumes nothing.
use Rattle.file.proofs.AtWidth.{other_width, wide_width}
use Rattle.file.proofs.SleepLaws.{edition-there}
use Rattle.std.proofs.Common.{rules}
use Rattle.file.proofs.records.find_file.Goals as goal

pub bounds-file-2 : goal.bounds-file-2
bounds-file-2 c = search (rules, edition-there)

pub find_file_at-requires : goal.find_file_at-requires
find_file_at-requires c = search (rules, wide_width)

pub find_file_at-requires-2 : goal.find_file_at-requires-2
find_file_at-requires-2 c = search (rules, other_width)
