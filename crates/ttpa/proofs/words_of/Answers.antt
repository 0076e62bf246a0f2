-- `ttpa::words_of` meets its contract.
-- Assumes nothing.
use mathlib.Core.Path.{refl}
use Rattle.ttpa.specs.Rules.Calls.{words_of}
use Rattle.ttpa.proofs.words_of.Goals as goal

pub returns : goal.returns
unfolding words_of
returns c = refl
