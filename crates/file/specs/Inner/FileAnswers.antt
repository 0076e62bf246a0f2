-- The answers of the file's functions: the checker's in document 01's numbers, the readers' as the places they found.
use Rattle.std.specs.Prelude.{ℕ, Ok, Err, Option, Some, None}
use Rattle.file.specs.Rules.Results.{Result, refused, done}
use Rattle.file.specs.Inner.Accepted.{FoundFile, FoundRecord, file_found, record_at}
use Rattle.file.specs.Inner.Refusals.{Answered, refusal_number}
use Rattle.file.specs.declared.records.FileBytes.{FileBytes}

-- what a search for a file or for a record found
unfoldable pub found_file : Option FileBytes → FoundFile
found_file (Some found) = file_found found.place found.size
found_file None = FoundFile.no_file_lem

unfoldable pub found_record : Option ℕ → FoundRecord
found_record (Some place) = record_at place
found_record None = FoundRecord.no_record_lem
