-- The epoch: one more, 255 going to 0, and the file with it raised.
-- Assumes nothing.
use Prim.Native.Nat.{ℕ}
use mathlib.Core.Path.{◌≡◌, ap, ◌∙◌, subst}
use mathlib.Core.List.{List}
use Rattle.file.specs.Rules.Cluster.{Cluster}
use Rattle.file.specs.Rules.Decode.{decode}
use Rattle.file.specs.Rules.Changes.{with_epoch}
use Rattle.file.specs.Inner.Accepted.{Becomes, Placed}
use Rattle.file.proofs.Surveyed.{placed-kept}
use Rattle.master_slave.specs.Rules.Slaves.{next_epoch, epoch_raised}
use Rattle.master_slave.proofs.Kept.{kept_raised}

-- ---- the epoch

pub raised : {f : List ℕ} (c : Cluster) {e n : ℕ} → e ≡ c.epoch → n ≡ next_epoch e → Becomes f (with_epoch c n) → Becomes f (epoch_raised c)
unfolding epoch_raised
raised {f} c is next h = subst (λ (n : ℕ). Becomes f (with_epoch c n)) (next ∙ ap next_epoch is) h

-- ---- the file with the epoch raised

pub raised_placed : {f g places : List ℕ} → Placed f places → Becomes g (epoch_raised (decode f)) → Placed g places
raised_placed {f} p h = let kept = kept_raised (decode f) in placed-kept p h kept.edition kept.shape
