-- Files that a frame leaves as they were.
-- Assumes nothing.
use Prim.Native.Nat.{ℕ}
use mathlib.Core.Path.{◌≡◌, refl, ◌∙◌}
use mathlib.Core.List.{List}
use Rattle.file.specs.Rules.Cluster.{Cluster}
use Rattle.file.specs.Rules.Changes.{with_epoch, with_pending}
use Rattle.frame.specs.Rules.Fireworks.{Round, multipartner, msd, msa, no_round}
use Rattle.frame.specs.Rules.Frames.{between}
use Rattle.master_slave.specs.Rules.Bus.{slots}
use Rattle.master_slave.specs.Rules.Slaves.{with_address, epoch_raised, nothing, pending_duty, slaves_after}
use Rattle.master_slave.proofs.Untouched.{files_of, Leaves, after-other, rested-other}
use Rattle.multipartner.specs.Rules.Multipartner.{cluster_below, passed_over_lem}
use Rattle.multipartner.proofs.Unstored.{Unstored, below_other}
use Rattle.cluster.specs.Rules.RoundGrounds.{round_by_lem}
use Rattle.cluster.specs.Rules.Round.{effect_of, frame_on}

effect-other :
    (n : ℕ) → Unstored n → (c : Cluster) (round : Round) → (round ≡ msd → Leaves n (pending_duty c)) → (frame : List ℕ) →
    files_of n (effect_of c round frame).after.slaves ≡ files_of n c.slaves
unfolding effect_of with_address with_pending epoch_raised with_epoch
effect-other n out c (multipartner r) leaves frame =
    rested-other nothing n (cluster_below (passed_over_lem c) r (epoch_raised c) slots) ∙ below_other (passed_over_lem c) r (epoch_raised c) slots n out
effect-other n out c msd leaves frame =
    rested-other (pending_duty c) n (slaves_after (pending_duty c) (between frame) (epoch_raised c)) ∙ after-other (leaves refl) (between frame) (epoch_raised c)
effect-other n out c msa leaves frame = refl
effect-other n out c no_round leaves frame = refl

-- a frame leaves file n, one outside 0x10 to 0x3C, in every slave, unless it is an MSD whose pending operation does not: so every
-- frame leaves the configuration but the data part of a write to it or of an execute of it
pub frame-other : (n : ℕ) → Unstored n → (c : Cluster) (frame : List ℕ) → (round_by_lem frame ≡ msd → Leaves n (pending_duty c)) → files_of n (frame_on c frame).after.slaves ≡ files_of n c.slaves
unfolding frame_on
frame-other n out c frame leaves = effect-other n out c (round_by_lem frame) leaves frame
