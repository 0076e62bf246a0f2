-- `naming::standing::needless_writes` meets its contract: one law for each way.
-- Assumes nothing.
use Rattle.naming.proofs.WritingLaws.{none_early, none-high, one-high, two-high, none_other, none-low, one-low}
use Rattle.naming.proofs.standing.needless_writes.Goals as goal

pub returns-then-run-le-FIRST_REPLY : goal.returns-then-run-le-FIRST_REPLY
returns-then-run-le-FIRST_REPLY c = search none_early

pub returns-then-writing-run : goal.returns-then-writing-run
returns-then-writing-run c = search none-high

pub returns-then-writing-run-2 : goal.returns-then-writing-run-2
returns-then-writing-run-2 c = search one-high

pub returns-then-writing-eq-HIGH : goal.returns-then-writing-eq-HIGH
returns-then-writing-eq-HIGH c = search two-high

pub returns-then-writing-ne-LOW : goal.returns-then-writing-ne-LOW
returns-then-writing-ne-LOW c = search none_other

pub returns-then-writing-run-3 : goal.returns-then-writing-run-3
returns-then-writing-run-3 c = search none-low

pub returns : goal.returns
returns c = search one-low
