-- `file::readers::comparison_value` meets its contract: the number at the place is the cluster's.
-- Assumes nothing.
use Rattle.file.proofs.ReaderLaws.{comparison_there}
use Rattle.file.proofs.PlaceLaws.{configuration-long}
use Rattle.std.proofs.Common.{rules}
use Rattle.file.proofs.readers.comparison_value.Goals as goal

pub u64_at-requires : goal.u64_at-requires
u64_at-requires c = search (rules, configuration-long)

pub returns : goal.returns
returns c = search (rules, comparison_there)
