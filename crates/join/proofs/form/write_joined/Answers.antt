-- `join::form::write_joined` meets its contract: the marks, the header, the rest.
-- Assumes nothing.
use Rattle.join.proofs.MarkLaws.{none-set}
use Rattle.join.proofs.JoinLaws.{form-header, form_body, form-written}
use Rattle.std.proofs.Common.{rules}
use Rattle.join.proofs.form.write_joined.Goals as goal

pub mark_names-requires : goal.mark_names-requires
mark_names-requires c = search (rules, none-set)

pub put_joined_header-requires : goal.put_joined_header-requires
put_joined_header-requires c = search (rules, form-header)

pub put_joined_body-requires : goal.put_joined_body-requires
put_joined_body-requires c = (
  c.requires.0.file,
  c.width_of-width.ensures,
  c.requires.1,
  form_body c.requires.0 c.requires.1 c.requires.2 c.width_of-width.ensures c.slave_count.ensures
      c.slave_count-2.ensures c.put_joined_header.ensures,
)

pub returns : goal.returns
returns c = search (rules, form-written)
