-- `file::records::read_place` meets its contract: a record of 0x3D that every slave has, or one as `place_of_record` has it.
-- Assumes nothing.
use Rattle.file.proofs.PlaceLaws.{documentation-fits}
use Rattle.file.proofs.RecordLaws.{documented_found, documented-fits}
use Rattle.std.proofs.Common.{rules}
use Rattle.file.proofs.records.read_place.Goals as goal

pub overflow_cast-place : goal.overflow_cast-place
overflow_cast-place c = search (rules, documentation-fits)

pub overflow_add-result : goal.overflow_add-result
overflow_add-result c = search (rules, documented-fits)

pub returns-then-is_documented : goal.returns-then-is_documented
returns-then-is_documented c = search (rules, documented_found)
