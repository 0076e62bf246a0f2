-- `file::header::wrong_edition` meets its contract: one test.
-- Assumes nothing.
use Rattle.file.proofs.HeaderLaws.{edition_test}
use Rattle.std.proofs.Common.{rules}
use Rattle.file.proofs.header.wrong_edition.Goals as goal

pub returns : goal.returns
returns c = search (rules, edition_test)
