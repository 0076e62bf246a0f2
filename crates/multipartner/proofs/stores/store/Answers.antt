-- `multipartner::stores::store` meets its contract. The invariant is `Storing`: the file with the places passed stored.
-- Assumes nothing.
use Rattle.multipartner.proofs.StoreLaws.{storing_start, storing_next}
use Rattle.std.proofs.Common.{rules}
use Rattle.multipartner.proofs.stores.store.Goals as goal

pub loop-place-init : goal.loop-place-init
loop-place-init c = storing_start _ _ _

pub loop-place-preserved : goal.loop-place-preserved
loop-place-preserved c = search (rules, storing_next)
