-- `file::header::wrong_size` meets its contract: its two tests.
-- Assumes nothing.
use borrow.Author.Tests.{lt-ltb, le-ltb}
use Rattle.file.specs.Rules.Order.{either}
use Rattle.file.specs.Rules.FileGrounds.{wrong_size}
use Rattle.file.proofs.header.wrong_size.Goals as goal

pub returns-then-file-header : goal.returns-then-file-header
unfolding wrong_size either
returns-then-file-header c = simp (lt-ltb _ _ c.if-file-header.true)

pub returns-else-file-header : goal.returns-else-file-header
unfolding wrong_size either
returns-else-file-header c = simp (le-ltb _ _ c.if-file-header.false)
