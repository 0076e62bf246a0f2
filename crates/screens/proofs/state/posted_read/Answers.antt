-- `screens::state::posted_read` meets its contract: a law for each way.
-- Assumes nothing.
use Rattle.screens.proofs.StateLaws.{posted-there}
use Rattle.std.proofs.Common.{rules}
use Rattle.screens.proofs.state.posted_read.Goals as goal

pub returns : goal.returns
returns c = search (rules, posted-there)
