-- `naming::advance::advanced` meets its contract: one law for each way.
-- Assumes nothing.
use Rattle.naming.proofs.RunLaws.{moved-within}
use Rattle.naming.proofs.WritingLaws.{advanced-written, advanced-moved}
use Rattle.naming.proofs.advance.advanced.Goals as goal

pub returns-then-at-lt-REPLY : goal.returns-then-at-lt-REPLY
returns-then-at-lt-REPLY c = search advanced-written

pub standing_at-next-requires : goal.standing_at-next-requires
standing_at-next-requires c = moved-within _ _ _ c.requires.counts.place c.moved.ensures

pub returns : goal.returns
returns c = search advanced-moved
