-- `multipartner::stores::store` meets its contract. The invariant is `Storing`: the file with the places passed stored.
use Rattle.multipartner.proofs.StoreLaws.{Storing}
use Rattle.multipartner.proofs.stores.store.Given as goal

abbrev pub invariant-loop-place : goal.invariant-loop-place
invariant-loop-place l = Storing l.initial.file l.places l.byte l.place-index l.file
