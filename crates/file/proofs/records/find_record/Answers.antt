-- `file::records::find_record` meets its contract: a law for each way.
-- Assumes nothing.
use Rattle.file.proofs.RecordLaws.{no_file, no_record, record-there, record-fits}
use Rattle.std.proofs.Common.{rules}
use Rattle.file.proofs.records.find_record.Goals as goal

pub returns-in_err-bytes : goal.returns-in_err-bytes
returns-in_err-bytes c = search (rules, no_file)

pub returns-then-bytes-start : goal.returns-then-bytes-start
returns-then-bytes-start c = no_record _ _ _ c.find_file.ensures c.in_ok-bytes.was _ c.if-bytes-start.true

pub overflow_add-result : goal.overflow_add-result
overflow_add-result c = record-fits _ _ c.requires.0 c.find_file.ensures c.in_ok-bytes.was _ c.if-bytes-start.false

pub returns : goal.returns
returns c = record-there _ _ _ c.find_file.ensures c.in_ok-bytes.was _ c.if-bytes-start.false
