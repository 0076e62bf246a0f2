-- What the functions of a master-slave round promise to one another and to the layers above.
use Rattle.std.specs.Prelude.{ℕ, suc, ◌<◌, ◌≡◌, List, [], ◌∷◌, cond, length, get_or, set, leb}
use Rattle.std.specs.Int.Bits.{bit_and}
use Rattle.file.specs.Rules.Order.{both}
use Rattle.file.specs.Rules.Cluster.{Slave, Cluster}
use Rattle.file.specs.Rules.Changes.{with_slaves}
use Rattle.file.specs.Inner.Accepted.{Becomes}
use Rattle.master_slave.specs.Rules.Bus.{Senders, slots, anyone, sender_mask, answer_bytes, answer_in}
use Rattle.master_slave.specs.Rules.Effect.{Effect}

-- an accepted frame carried out: the mask, the buffer and the file
pub record Carried (effect : Effect) (firework : ℕ) (old new : List ℕ) (mask : ℕ) (file : List ℕ) : Type 0 where
  pub senders : mask ≡ sender_mask effect.senders
  pub buffer : new ≡ answer_in old (answer_bytes firework effect.senders)
  pub becomes : Becomes file effect.after

-- someone sends in each of the slots 1 to last, and in no other
unfoldable pub senders_to : ℕ → Senders
senders_to last slot = cond (both (leb 1 slot) (leb slot last)) (0 ∷ []) []

-- a sender's bytes joined into a buffer from a place on
unfoldable pub said : List ℕ → ℕ → List ℕ → List ℕ
said buffer at [] = buffer
said buffer at (b ∷ bs) = said (set buffer at (bit_and (get_or buffer at 0) b)) (suc at) bs

-- the buffer, and the last slot that someone sent in, 0 where nobody did, for a rule whose senders send from slot 1 on
pub record Heard (r : Senders) (firework : ℕ) (old new : List ℕ) (last : ℕ) : Type 0 where
  pub few : last < slots
  pub reach : (slot : ℕ) → anyone (r slot) ≡ anyone (senders_to last slot)
  pub buffer : new ≡ answer_in old (answer_bytes firework r)

-- ---- slave by slave

-- the last slot that someone sent in, with one more sender
unfoldable pub reach_of : ℕ → List ℕ → ℕ
reach_of last [] = last
reach_of last (b ∷ bs) = length (b ∷ bs)

-- one slave's part in a read or a compare: its reply joined into the buffer
pub record Replied (reply old new : List ℕ) (last next : ℕ) : Type 0 where
  pub buffer : new ≡ said old 1 reply
  pub reach : next ≡ reach_of last reply

-- the cluster with the slave at an index replaced
unfoldable pub with_slave : Cluster → ℕ → Slave → Cluster
with_slave c s x = with_slaves c (set c.slaves s x)
