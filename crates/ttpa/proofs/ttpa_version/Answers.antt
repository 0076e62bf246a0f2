-- `ttpa::ttpa_version` meets its contract: the number is computed.
-- Assumes nothing.
use mathlib.Core.Path.{refl}
use Rattle.ttpa.specs.Rules.Calls.{version_major, version_minor, version_patch, version_call}
use Rattle.ttpa.proofs.ttpa_version.Goals as goal

pub returns : goal.returns
unfolding version_call version_major version_minor version_patch
returns c = refl
