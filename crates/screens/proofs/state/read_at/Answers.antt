-- `screens::state::read_at` meets its contract: a law for each way.
-- Assumes nothing.
use Rattle.std.proofs.Common.{arith}
use Rattle.screens.proofs.StateLaws.{read-there}
use Rattle.screens.proofs.state.read_at.Goals as goal

pub returns : goal.returns
returns c =
    read-there _ _ c.new-name.ensures (λ k. omega (arith, c.type_inv.state k))
