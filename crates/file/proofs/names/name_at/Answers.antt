-- `file::names::name_at` meets its contract: the number at the place is the name.
-- Assumes nothing.
use Rattle.file.specs.Inner.Checked.{name_at}
use Rattle.file.proofs.NamesLaws.{name-within}
use Rattle.std.proofs.Common.{rules}
use Rattle.file.proofs.names.name_at.Goals as goal

pub u64_at-requires : goal.u64_at-requires
u64_at-requires c = search (rules, name-within)

pub returns : goal.returns
unfolding name_at
returns c = c.u64_at.ensures.is
