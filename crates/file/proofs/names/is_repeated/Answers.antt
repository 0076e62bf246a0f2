-- `file::names::is_repeated` meets its contract.
-- Assumes nothing.
use Rattle.std.proofs.Common.{rules}
use Rattle.file.proofs.NamesLaws.{repeats-search}
use Rattle.file.proofs.names.is_repeated.Goals as goal

pub returns : goal.returns
returns c = search (rules, repeats-search)
