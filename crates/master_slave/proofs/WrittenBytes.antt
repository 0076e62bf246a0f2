-- The bytes that a record takes of a write.
-- Assumes nothing.
use Prim.Native.Nat.{ℕ, suc, ◌≤◌}
use native.Mathlib.Omega.{arith}
use mathlib.Core.Path.{◌≡◌, refl}
use mathlib.Core.List.{List, [], ◌∷◌}
use lib.ListN.{length, take, length-take}
use lib.Seq.{sets}
use Rattle.file.specs.Rules.Cluster.{Slave, bytes_in, configuration}
use Rattle.file.specs.Rules.Changes.{put_in_slave}
use Rattle.file.specs.Rules.Order.{both}
use Rattle.file.proofs.Order.{by_case}
use Rattle.file.proofs.Puts.{in_slave_same}
use Rattle.master_slave.specs.Rules.Slaves.{is_name_record, written, replaced}

pub written-name : (bytes : List ℕ) → written configuration 1 bytes ≡ take 3 bytes
unfolding written is_name_record both
written-name bytes = refl

pub written-most : (n r : ℕ) (bytes : List ℕ) → length (written n r bytes) ≤ length bytes
unfolding written
written-most n r bytes =
    by_case (is_name_record n r) (λ e. rw (e, length-take) (omega arith)) (λ e. rw e (omega arith))

pub replaced_sets : (s : Slave) (n k : ℕ) (bs : List ℕ) → bytes_in (replaced s n k bs) n ≡ sets (bytes_in s n) k bs
unfolding replaced
replaced_sets s n k [] = refl
replaced_sets s n k (b ∷ bs) = rw (replaced_sets (put_in_slave s n k b) n (suc k) bs, in_slave_same n k b s)
