-- `multipartner::kept_files::keep_file` meets its contract: a law for each way.
-- Assumes nothing.
use Rattle.multipartner.proofs.SlotActLaws.{place-low, size_low, keep_same, keep_new}
use Rattle.std.proofs.Common.{rules}
use Rattle.multipartner.proofs.kept_files.keep_file.Goals as goal

pub returns-then-eq : goal.returns-then-eq
returns-then-eq c = search (rules, keep_same)

pub overflow_cast-kept : goal.overflow_cast-kept
overflow_cast-kept c = place-low c.requires.0 c.bytes_of-bytes.ensures

pub overflow_cast-kept-2 : goal.overflow_cast-kept-2
overflow_cast-kept-2 c = size_low c.requires.0 c.bytes_of-bytes.ensures c.requires.1

pub returns : goal.returns
returns c = search (rules, keep_new)
