-- `ttpa::ttpa_write_data` meets its contract: a law for each way.
-- Assumes nothing.
use Rattle.ttpa.proofs.CallLaws.{data-written}
use Rattle.std.proofs.Common.{rules}
use Rattle.ttpa.proofs.ttpa_write_data.Goals as goal

pub returns : goal.returns
returns c = search (rules, data-written)
