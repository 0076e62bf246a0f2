-- `file::header::wrong_length` meets its contract: one test.
-- Assumes nothing.
use Rattle.file.proofs.HeaderLaws.{length_test}
use Rattle.std.proofs.Common.{rules}
use Rattle.file.proofs.header.wrong_length.Goals as goal

pub returns : goal.returns
returns c = search (rules, length_test)
