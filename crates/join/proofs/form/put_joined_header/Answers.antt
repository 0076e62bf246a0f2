-- `join::form::put_joined_header` meets its contract: its front, then zeros.
-- Assumes nothing.
use Rattle.join.proofs.BodyLaws.{header-zeros}
use Rattle.std.proofs.Common.{rules}
use Rattle.join.proofs.form.put_joined_header.Goals as goal

pub returns : goal.returns
returns c = search (rules, header-zeros)
