-- `ttpa::ttpa_screens` meets its contract: a law for each way.
-- Assumes nothing.
use Rattle.std.proofs.Common.{rules}
use Rattle.ttpa.proofs.CallLaws.{screens-start}
use Rattle.ttpa.proofs.ttpa_screens.Goals as goal

pub returns : goal.returns
returns c = search (rules, screens-start)
