-- `trace::layout::is_broken` meets its contract: a law for each way.
-- Assumes nothing.
use Rattle.std.proofs.Common.{rules}
use Rattle.trace.proofs.RowLaws.{broken-short, broken-long, broken-length, broken-rows}
use Rattle.trace.proofs.layout.is_broken.Goals as goal

pub returns-then-trace-lt-HEADER_SIZE : goal.returns-then-trace-lt-HEADER_SIZE
returns-then-trace-lt-HEADER_SIZE c = search (rules, broken-short)

pub returns-then-trace-gt-MAX_TRACE : goal.returns-then-trace-gt-MAX_TRACE
returns-then-trace-gt-MAX_TRACE c = search (rules, broken-long)

pub returns-then-trace-count : goal.returns-then-trace-count
returns-then-trace-count c = search (rules, broken-length)

pub returns : goal.returns
returns c = search (rules, broken-rows)
