-- `file::walk::walk_edition` meets its contract: a broken slave, or one whose directory states both places.
-- Assumes nothing.
use Rattle.std.proofs.Common.{rules}
use Rattle.file.proofs.SlaveWalkLaws.{slave-broken, slave-past-end, slave-ends}
use Rattle.file.proofs.walk.walk_edition.Goals as goal

pub returns-in_err-end : goal.returns-in_err-end
returns-in_err-end g c = search (rules, slave-broken)

pub returns-then-not-fits_so_far : goal.returns-then-not-fits_so_far
returns-then-not-fits_so_far g c = search (rules, slave-past-end)

pub with_places-requires : goal.with_places-requires
with_places-requires g c = search (rules, slave-ends)
