-- `file::header::wrong_header` meets its contract: a law for each way.
-- Assumes nothing.
use borrow.Author.Tests.{not-true}
use Rattle.file.proofs.HeaderLaws.{header-count, header-table, header_zero, header_more, header-last}
use Rattle.std.proofs.Common.{rules}
use Rattle.file.proofs.header.wrong_header.Goals as goal

pub returns-then-width-byte_at : goal.returns-then-width-byte_at
returns-then-width-byte_at c = search (rules, header-count)

pub returns-then-offset_at-header : goal.returns-then-offset_at-header
returns-then-offset_at-header c = search (rules, header-table)

pub returns-then-byte_at-ne0 : goal.returns-then-byte_at-ne0
returns-then-byte_at-ne0 c = search (rules, header_zero 0)

pub returns-then-byte_at-ne0-2 : goal.returns-then-byte_at-ne0-2
returns-then-byte_at-ne0-2 c = search (rules, header_zero 1)

pub returns-then-byte_at-ne0-3 : goal.returns-then-byte_at-ne0-3
returns-then-byte_at-ne0-3 c = search (rules, header_zero 2)

pub returns-then-not-more_zeros : goal.returns-then-not-more_zeros
returns-then-not-more_zeros c = search (rules, header_more, not-true)

pub returns : goal.returns
returns c = search (rules, header-last)
