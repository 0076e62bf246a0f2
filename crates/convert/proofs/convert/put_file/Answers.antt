-- `convert::convert::put_file` meets its contract: the file copied, or its form at the other width.
-- Assumes nothing.
use Rattle.convert.proofs.FormLaws.{copy_inside, copy_fits, copy_put}
use Rattle.std.proofs.Common.{arith, rules}
use Rattle.convert.proofs.convert.put_file.Goals as goal

pub put_run-requires : goal.put_run-requires
put_run-requires c = (omega arith, search (rules, copy_inside), search (rules, copy_fits))

pub returns-then-width-width_of : goal.returns-then-width-width_of
returns-then-width-width_of c = search (rules, copy_put)
