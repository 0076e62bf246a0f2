-- `convert::sizes::length_in` meets its contract: the file's own length, or one with header and entries of the other size.
-- Assumes nothing.
use Rattle.convert.proofs.ReadLaws.{own_form, entries_fit, own_table-fits, own_front-fits, front-inside, other-table-fits, other-front-fits, other-form-fits, other-form}
use Rattle.std.proofs.Common.{rules}
use Rattle.convert.proofs.sizes.length_in.Goals as goal

pub returns-then-width-own : goal.returns-then-width-own
returns-then-width-own c = search (rules, own_form)

pub overflow_add-entries : goal.overflow_add-entries
overflow_add-entries c = search (rules, entries_fit)

pub overflow_mul-front-3 : goal.overflow_mul-front-3
overflow_mul-front-3 c = search (rules, own_table-fits)

pub overflow_add-front-2 : goal.overflow_add-front-2
overflow_add-front-2 c = search (rules, own_front-fits)

pub overflow_sub-contents : goal.overflow_sub-contents
overflow_sub-contents c = search (rules, front-inside)

pub overflow_mul-result-3 : goal.overflow_mul-result-3
overflow_mul-result-3 c = search (rules, other-table-fits)

pub overflow_add-result-2 : goal.overflow_add-result-2
overflow_add-result-2 c = search (rules, other-front-fits)

pub overflow_add-result-3 : goal.overflow_add-result-3
overflow_add-result-3 c = search (rules, other-form-fits)

pub returns : goal.returns
returns c = search (rules, other-form)
