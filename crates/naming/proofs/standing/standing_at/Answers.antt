-- `naming::standing::standing_at` meets its contract: the needless writes are passed over.
-- Assumes nothing.
use Rattle.naming.proofs.WritingLaws.{passes_within, stands_at}
use Rattle.naming.proofs.standing.standing_at.Goals as goal

pub passed_over-requires : goal.passed_over-requires
passed_over-requires c =
    passes_within _ c.requires c.writing_at-writing.ensures c.needless_writes-needless.ensures

pub invariant_of-result : goal.invariant_of-result
invariant_of-result c =
    let there = stands_at _ c.requires c.writing_at-writing.ensures c.needless_writes-needless.ensures c.passed_over.ensures in
    record { place = there.place; writes = there.writes }

pub returns : goal.returns
returns c = search stands_at
