-- `join::form::put_both` meets its contract: the first file's entries and slaves, then the second's.
-- Assumes nothing.
use Rattle.convert.proofs.ReadLaws.{table_fits, front_fits}
use Rattle.join.proofs.BodyLaws.{place-fits, second_fits, first_body, second_body, both-put}
use Rattle.std.proofs.Common.{rules}
use Rattle.join.proofs.form.put_both.Goals as goal

pub overflow_mul-behind-2 : goal.overflow_mul-behind-2
overflow_mul-behind-2 c = search (rules, table_fits)

pub overflow_add-behind : goal.overflow_add-behind
overflow_add-behind c = search (rules, front_fits)

pub overflow_mul-more-2 : goal.overflow_mul-more-2
overflow_mul-more-2 c = search (rules, table_fits)

pub overflow_add-behind-2 : goal.overflow_add-behind-2
overflow_add-behind-2 c = search (rules, place-fits)

pub put_moved-requires : goal.put_moved-requires
put_moved-requires c = search (rules, first_body)

pub overflow_add-alone : goal.overflow_add-alone
overflow_add-alone c = search (rules, second_fits)

pub put_second-requires : goal.put_second-requires
put_second-requires c = search (rules, second_body)

pub returns : goal.returns
returns c = search (rules, both-put)
