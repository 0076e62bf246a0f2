-- `ttpa::ttpa_to_edition_1` meets its contract: the edition's number.
-- Assumes nothing.
use Rattle.std.proofs.Common.{rules}
use Rattle.ttpa.proofs.CallLaws.{edition-one}
use Rattle.ttpa.proofs.ttpa_to_edition_1.Goals as goal

pub returns : goal.returns
returns c = search (rules, edition-one)
