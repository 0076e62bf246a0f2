-- `ttpa::ttpa_write_address` meets its contract: a law for each way.
-- Assumes nothing.
use Rattle.ttpa.proofs.CallLaws.{address-written}
use Rattle.std.proofs.Common.{rules}
use Rattle.ttpa.proofs.ttpa_write_address.Goals as goal

pub returns : goal.returns
returns c = search (rules, address-written)
