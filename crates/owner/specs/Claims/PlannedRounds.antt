-- The owner file and the rounds as they run: in every epoch it says who may send, and who does where no multiplexed receive stands in the
-- way, if it is awake.
use Rattle.std.specs.Prelude.{ℕ, ◌-◌, ◌/◌, ◌%◌, ◌^◌, ◌≤◌, ◌<◌, ◌≡◌, ◌≢◌, ◌↔◌, List, [], ◌∷◌, ◌++◌, map, Bool, true, false, cond, length, get_or, replicate, eqb}
use Rattle.file.specs.Rules.Order.{both}
use Rattle.file.specs.Rules.Cluster.{Slave, Cluster, logical_name}
use Rattle.file.specs.Rules.Results.{done}
use Rattle.file.specs.Rules.Decode.{decode}
use Rattle.frame.specs.Rules.Fireworks.{multipartner}
use Rattle.cluster.specs.Rules.RoundGrounds.{round_by_lem}
use Rattle.master_slave.specs.Rules.Bus.{slots}
use Rattle.master_slave.specs.Rules.Slaves.{epoch_raised}
use Rattle.multipartner.specs.Rules.Entries.{Entry, is_multiplexed, covers}
use Rattle.multipartner.specs.Rules.Multipartner.{sends_from, cluster_below, sent_during}
use Rattle.multipartner.specs.Rules.Multipartner.{passed_over_lem}
use Rattle.cluster.specs.Rules.Round.{round_on}
use Rattle.cluster.specs.Claims.Sleep.{awake_among}
use Rattle.owner.specs.Rules.Plan.{rounds, is_owned, is_multiplexed_receive, is_there, sends_in, senders_in, two_send, some_entry, some_entry_of, multiplexed_send}
use Rattle.owner.specs.Rules.OwnerFile.{no_owner, owner_of, last_owned}

-- the bytes sent in a slot of a round as it runs
unfoldable pub sent_as_run : Cluster → ℕ → ℕ → List ℕ
sent_as_run c round slot = sent_during (passed_over_lem c) round (epoch_raised c) slot

-- for each slave, in table order, whether it sends in a slot from 1 on of the round as it runs, the slots before having stored what
-- they store
unfoldable pub sends_as_run : Cluster → ℕ → ℕ → List Bool
sends_as_run c round slot =
    map (λ (s : Slave). is_there (sends_from (passed_over_lem c) round slot s)) (cluster_below (passed_over_lem c) round (epoch_raised c) slot).slaves

-- a multiplexed receive of the slave covers the slot before the end
unfoldable pub may_receive : ℕ → ℕ → Slave → Bool
may_receive round slot s = some_entry (λ (e : Entry). both (is_multiplexed_receive e) (covers e slot)) round s

-- ---- where 23 does not hold, in every epoch

-- slave by slave: one that sends is planned, and one that is planned sends if it is awake and no multiplexed receive of its covers the slot
pub data AsPlanned (round slot : ℕ) : List Slave → List Bool → Type 0 where
  no_slaves : AsPlanned round slot [] []
  next_slave : {s : Slave} {sends : Bool} {ss : List Slave} {others : List Bool} → (sends ≡ true → sends_in round slot s ≡ true)
      → (s.asleep ≡ 0 → may_receive round slot s ≡ false → sends_in round slot s ≡ true → sends ≡ true) → AsPlanned round slot ss others
      → AsPlanned round slot (s ∷ ss) (sends ∷ others)

abbrev pub SendAsPlanned : Type 0
SendAsPlanned =
    (c : Cluster) → multiplexed_send c.slaves ≡ false → (round : ℕ) → round < rounds → is_owned round ≡ true
    → (slot : ℕ) → 0 < slot → slot < slots → AsPlanned round slot c.slaves (sends_as_run c round slot)

-- no more slaves send than the plan has there, so that where 20 does not hold no two do
abbrev pub CountAsPlanned : Type 0
CountAsPlanned =
    (c : Cluster) → multiplexed_send c.slaves ≡ false → (round : ℕ) → round < rounds → is_owned round ≡ true
    → (slot : ℕ) → length (sent_as_run c round slot) ≤ length (senders_in round slot c.slaves)

-- of the call that carries out a round: a bit of its mask is set only if the plan of the same file has a sender in that slot, and is set if
-- the plan has one that is awake and of which no multiplexed receive covers the slot
pub record MaskPlanned (ss : List Slave) (mask round slot : ℕ) : Type 0 where
  pub set : mask / 2 ^ slot % 2 ≡ 1 → senders_in round slot ss ≢ []
  pub planned : (before after : List Slave) (s : Slave) → ss ≡ before ++ s ∷ after → 0 < slot → s.asleep ≡ 0
      → sends_in round slot s ≡ true → may_receive round slot s ≡ false → mask / 2 ^ slot % 2 ≡ 1

abbrev pub MaskAsPlanned : Type 0
MaskAsPlanned =
    (file frame answer : List ℕ) (mask round : ℕ) → (round_on file frame answer).0 ≡ done mask → round_by_lem frame ≡ multipartner round → round < rounds
    → is_owned round ≡ true → multiplexed_send (decode file).slaves ≡ false → (slot : ℕ) → slot < slots
    → MaskPlanned (decode file).slaves mask round slot

-- who sends in a round as it runs has that slot in the owner file, where 20 does not hold either
pub record OwnsSlot (ss : List Slave) (master round slot : ℕ) (s : Slave) : Type 0 where
  pub listed : slot ≤ last_owned round ss (slots - 1)
  pub owner : owner_of master round ss slot ≡ logical_name s

abbrev pub SenderOwns : Type 0
SenderOwns =
    (c : Cluster) → multiplexed_send c.slaves ≡ false → two_send c.slaves ≡ false → (master round : ℕ) → round < rounds → is_owned round ≡ true
    → (slot : ℕ) → 0 < slot → slot < slots → (before after : List Slave) (s : Slave) → c.slaves ≡ before ++ s ∷ after
    → get_or (sends_as_run c round slot) (length before) false ≡ true → OwnsSlot c.slaves master round slot s

-- what a slot's owner says of the round as it runs: 0x00, and nobody sends; or a slave's name, of those before and after it none sends, and
-- itself it does if it is awake and no multiplexed receive of its covers the slot
pub data OwnerRuns (c : Cluster) (round slot : ℕ) : ℕ → Type 0 where
  nobody_sends : sent_as_run c round slot ≡ [] → OwnerRuns c round slot no_owner
  one_may_send : (before after : List Slave) (s : Slave) (sends : Bool) → c.slaves ≡ before ++ s ∷ after → length (sent_as_run c round slot) ≡ cond sends 1 0
      → sends_as_run c round slot ≡ replicate (length before) false ++ sends ∷ replicate (length after) false
      → (s.asleep ≡ 0 → may_receive round slot s ≡ false → sends ≡ true) → OwnerRuns c round slot (logical_name s)

abbrev pub OwnersRun : Type 0
OwnersRun =
    (c : Cluster) → multiplexed_send c.slaves ≡ false → two_send c.slaves ≡ false → (master round : ℕ) → round < rounds → is_owned round ≡ true
    → (slot : ℕ) → 0 < slot → slot < slots → OwnerRuns c round slot (owner_of master round c.slaves slot)

-- ---- without multiplexed entries the owner file says who sends, of those that are awake

-- no slave has a multiplexed entry before the end in its file of that round
abbrev pub Plain : Cluster → ℕ → Type 0
Plain c round = some_entry_of (λ (e : Entry). is_multiplexed e.operation) round c.slaves ≡ false

-- in every slot of such a round as it runs as many slaves send as the plan has there awake, so that 20 is about the rounds as they run with
-- every slave awake
abbrev pub PlainCountAsPlanned : Type 0
PlainCountAsPlanned =
    (c : Cluster) (round : ℕ) → round < rounds → Plain c round → (slot : ℕ)
    → length (sent_as_run c round slot) ≡ length (awake_among (senders_in round slot c.slaves))

-- just those slaves do that the plan has and that are awake
abbrev pub PlainAsPlanned : Type 0
PlainAsPlanned =
    (c : Cluster) (round : ℕ) → round < rounds → Plain c round → (slot : ℕ) → 0 < slot → slot < slots
    → sends_as_run c round slot ≡ map (λ (s : Slave). both (eqb s.asleep 0) (sends_in round slot s)) c.slaves

-- nobody sends, and the owner is 0x00; or one slave alone does, if it is awake, of those before and after it none, and the owner is its name
pub data PlainOwnerRuns (c : Cluster) (round slot : ℕ) : ℕ → Type 0 where
  none_sends : sent_as_run c round slot ≡ [] → PlainOwnerRuns c round slot no_owner
  one_sends : (before after : List Slave) (s : Slave) → c.slaves ≡ before ++ s ∷ after
      → length (sent_as_run c round slot) ≡ cond (eqb s.asleep 0) 1 0
      → sends_as_run c round slot ≡ replicate (length before) false ++ eqb s.asleep 0 ∷ replicate (length after) false
      → PlainOwnerRuns c round slot (logical_name s)

-- where 20 does not hold, every owner is who sends, if it is awake
abbrev pub PlainOwnersRun : Type 0
PlainOwnersRun =
    (c : Cluster) → two_send c.slaves ≡ false → (master round : ℕ) → round < rounds → is_owned round ≡ true → Plain c round
    → (slot : ℕ) → 0 < slot → slot < slots → PlainOwnerRuns c round slot (owner_of master round c.slaves slot)

-- of the call that carries out a round: bit s of its mask is set exactly if the plan of the same file has a sender in slot s that is awake
abbrev pub PlainMaskAsPlanned : Type 0
PlainMaskAsPlanned =
    (file frame answer : List ℕ) (mask round : ℕ) → (round_on file frame answer).0 ≡ done mask → round_by_lem frame ≡ multipartner round → round < rounds
    → Plain (decode file) round → (slot : ℕ) → slot < slots
    → (mask / 2 ^ slot % 2 ≡ 1) ↔ (awake_among (senders_in round slot (decode file).slaves) ≢ [])
