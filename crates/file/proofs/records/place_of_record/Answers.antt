-- `file::records::place_of_record` meets its contract: a record of 0x08 that every slave has, or one that is searched for.
-- Assumes nothing.
use Rattle.file.proofs.PlaceLaws.{configuration-fits, configuration-record-fits}
use Rattle.file.proofs.RecordLaws.{configuration_found}
use Rattle.std.proofs.Common.{rules}
use Rattle.file.proofs.records.place_of_record.Goals as goal

pub overflow_cast-place : goal.overflow_cast-place
overflow_cast-place c = search (rules, configuration-fits)

pub overflow_add-result : goal.overflow_add-result
overflow_add-result c = search (rules, configuration-record-fits)

pub returns-then-record-le-NEEDED_CONFIGURATION : goal.returns-then-record-le-NEEDED_CONFIGURATION
returns-then-record-le-NEEDED_CONFIGURATION c = search (rules, configuration_found)
