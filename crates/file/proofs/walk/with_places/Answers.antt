-- `file::walk::with_places` meets its contract: what its directory states.
-- Assumes nothing.
use Rattle.std.proofs.Common.{rules}
use Rattle.file.proofs.SlaveWalkLaws.{slave-entries, slave_arrives, slave-stated}
use Rattle.file.proofs.walk.with_places.Goals as goal

pub configuration_place-requires : goal.configuration_place-requires
configuration_place-requires c = (search (rules, slave-entries), search (rules, slave_arrives))

pub stated_from_back-requires : goal.stated_from_back-requires
stated_from_back-requires c = (search (rules, slave-entries), search (rules, slave_arrives))

pub returns : goal.returns
returns c = search (rules, slave-stated)
