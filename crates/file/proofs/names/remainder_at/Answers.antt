-- `file::names::remainder_at` meets its contract: the last byte of the name.
-- Assumes nothing.
use Rattle.file.proofs.NamesLaws.{last_within, remainder-there}
use Rattle.std.proofs.Common.{rules}
use Rattle.file.proofs.names.remainder_at.Goals as goal

pub byte_at-requires : goal.byte_at-requires
byte_at-requires c = search (rules, last_within)

pub returns : goal.returns
returns c = search (rules, remainder-there)
