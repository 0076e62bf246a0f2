-- `file::readers::physical_name` meets its contract: the number at the place is the cluster's.
-- Assumes nothing.
use Rattle.file.proofs.ReaderLaws.{physical-there}
use Rattle.file.proofs.PlaceLaws.{documentation-long}
use Rattle.std.proofs.Common.{rules}
use Rattle.file.proofs.readers.physical_name.Goals as goal

pub u64_at-requires : goal.u64_at-requires
u64_at-requires c = search (rules, documentation-long)

pub returns : goal.returns
returns c = search (rules, physical-there)
