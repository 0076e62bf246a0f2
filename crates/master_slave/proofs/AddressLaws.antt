-- An operation that becomes pending, and a complete round: its address and then its data.
-- Assumes nothing.
use Prim.Native.Nat.{ℕ}
use mathlib.Core.Path.{refl, subst}
use mathlib.Core.List.{List}
use Rattle.file.specs.Rules.Layout.{pending_flag}
use Rattle.file.specs.Rules.Cluster.{Cluster}
use Rattle.file.specs.Rules.Decode.{decode}
use Rattle.file.specs.Rules.Legal.{LegalPending}
use Rattle.file.specs.Rules.Changes.{with_epoch, with_pending}
use Rattle.file.specs.Inner.Accepted.{Becomes, Placed}
use Rattle.file.proofs.Shape.{shape_refl}
use Rattle.file.proofs.Surveyed.{placed-kept}
use Rattle.file.proofs.ReaderLaws.{becomes-decoded}
use Rattle.frame.specs.Rules.Fireworks.{data_firework}
use Rattle.master_slave.specs.Rules.Slaves.{with_address}
use Rattle.master_slave.specs.Inner.Duties.{data_effect}
use Rattle.master_slave.specs.Inner.Carried.{Carried}

-- ---- an operation that becomes pending

module _ {f : List ℕ} (c : Cluster) (epoch name pb2 pb3 : ℕ) (raised : Becomes f (with_epoch c epoch)) where
  pub pending-legal : LegalPending (with_address c epoch name pb2 pb3) → LegalPending (with_pending (decode f) pending_flag name pb2 pb3)
  unfolding with_address
  pending-legal p = rw raised.decoded p

  pub becomes-pending : {g : List ℕ} → Becomes g (with_pending (decode f) pending_flag name pb2 pb3) → Becomes g (with_address c epoch name pb2 pb3)
  unfolding with_address
  becomes-pending stored = rw raised.decoded at stored

-- ---- a complete round: its address and then its data

module _ (f : List ℕ) {g : List ℕ} (epoch name pb2 pb3 : ℕ) (h : Becomes g (with_address (decode f) epoch name pb2 pb3)) where
  pub address-placed : {places : List ℕ} → Placed f places → Placed g places
  unfolding with_address with_pending with_epoch
  address-placed p = placed-kept p h refl (shape_refl (decode f).slaves)

  pub address_carried :
      (bytes : List ℕ) {old new file : List ℕ} {mask : ℕ} → Carried (data_effect (decode g) bytes) data_firework old new mask file →
      Carried (data_effect (with_address (decode f) epoch name pb2 pb3) bytes) data_firework old new mask file
  address_carried bytes {old} {new} {file} {mask} k =
      subst (λ (d : Cluster). Carried (data_effect d bytes) data_firework old new mask file) h.decoded k

pub ruleset becoming = (becomes-decoded, pending-legal, becomes-pending)

pub ruleset rounds = (address-placed, address_carried)
