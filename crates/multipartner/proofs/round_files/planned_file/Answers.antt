-- `multipartner::round_files::planned_file` meets its contract: a law for each way.
-- Assumes nothing.
use Rattle.multipartner.proofs.RoundFileLaws.{round-unnamed, round_missing, start_fits, end_fits, round_found}
use Rattle.std.proofs.Common.{rules}
use Rattle.multipartner.proofs.round_files.planned_file.Goals as goal

pub returns-then-eq : goal.returns-then-eq
returns-then-eq c = search (rules, round-unnamed)

pub returns-in_default : goal.returns-in_default
returns-in_default c = search (rules, round_missing)

pub overflow_add-result : goal.overflow_add-result
overflow_add-result c = search (rules, start_fits)

pub overflow_add-result-2 : goal.overflow_add-result-2
overflow_add-result-2 c = search (rules, end_fits)

pub returns : goal.returns
returns c = search (rules, round_found)
