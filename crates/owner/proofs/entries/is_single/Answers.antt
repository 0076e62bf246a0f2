-- `owner::entries::is_single` meets its contract.
-- Assumes nothing.
use Rattle.std.proofs.Common.{rules}
use Rattle.owner.proofs.EntryMasks.{single_test}
use Rattle.owner.proofs.entries.is_single.Goals as goal

pub returns : goal.returns
returns c = search (rules, single_test)
