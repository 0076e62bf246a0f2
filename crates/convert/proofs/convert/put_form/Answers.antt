-- `convert::convert::put_form` meets its contract: the header, then the slave table and the slaves.
-- Assumes nothing.
use Rattle.convert.proofs.ReadLaws.{table_fits, front_fits}
use Rattle.convert.proofs.FormLaws.{form_body, form-put}
use Rattle.std.proofs.Common.{rules}
use Rattle.convert.proofs.convert.put_form.Goals as goal

pub overflow_mul-place-2 : goal.overflow_mul-place-2
overflow_mul-place-2 c = search (rules, table_fits)

pub overflow_add-place : goal.overflow_add-place
overflow_add-place c = search (rules, front_fits)

pub put_slaves-requires : goal.put_slaves-requires
put_slaves-requires c = search (rules, form_body)

pub returns : goal.returns
returns c = search (rules, form-put)
