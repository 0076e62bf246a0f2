-- `ttpa::position_in` meets its contract.
-- Assumes nothing.
use mathlib.Core.Path.{refl}
use Rattle.ttpa.specs.Rules.Calls.{position_in}
use Rattle.ttpa.proofs.position_in.Goals as goal

pub returns : goal.returns
unfolding position_in
returns c = refl
