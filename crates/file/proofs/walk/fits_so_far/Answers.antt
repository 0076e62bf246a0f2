-- `file::walk::fits_so_far` meets its contract: a law for each way.
-- Assumes nothing.
use Rattle.std.proofs.Common.{rules}
use Rattle.file.proofs.WalkLaws.{fits_not, fits_last}
use Rattle.file.proofs.walk.fits_so_far.Goals as goal

pub returns-then-low-gt-FILE_NUMBERS : goal.returns-then-low-gt-FILE_NUMBERS
returns-then-low-gt-FILE_NUMBERS c = search (rules, fits_not)

pub returns : goal.returns
returns c = search (rules, fits_last)
