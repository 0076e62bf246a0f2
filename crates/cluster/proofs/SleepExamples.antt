-- Rounds of clusters of four slaves, worked out: who takes part, and who sleeps afterwards.
-- Assumes nothing.
use Prim.Native.Nat.{ℕ}
use mathlib.Core.Path.{◌≡◌, refl}
use mathlib.Core.List.{List, [], ◌∷◌, ◌++◌, map}
use mathlib.Core.Bool.{Bool, true, false}
use lib.ListN.{get_or, replicate}
use Rattle.file.specs.Rules.Bytes.{number_of, part}
use Rattle.file.specs.Rules.Order.{both, either}
use Rattle.file.specs.Rules.Cluster.{Slave, Cluster, is_awake, last_record, bytes_among, bytes_in, has_record, physical_name, logical_name, comparison_value, pb2_of}
use Rattle.file.specs.Rules.Changes.{put_among, put_in_slave, with_sleep, with_slaves, with_epoch, with_pending}
use Rattle.frame.specs.Rules.Fireworks.{multipartner, msd, msa}
use Rattle.master_slave.specs.Rules.Bus.{joined, bus_byte}
use Rattle.master_slave.specs.Rules.Slaves.{with_address, next_epoch, epoch_raised, execution_of, duty_by, pending_duty, is_unnamed, addresses, addressed}
use Rattle.master_slave.specs.Rules.Slaves.{answers_read, answers_compare, may_write, takes_write, takes_name, slave_after, slaves_after, falls_asleep, rests_after}
use Rattle.master_slave.specs.Rules.Slaves.{rested}
use Rattle.multipartner.specs.Rules.Entries.{entry_of, entry_there, entry_at, is_multiplexed, receives, sends, ends, covers, in_turn, out_of_turn, eligible, acting_from, acting, byte_place}
use Rattle.multipartner.specs.Rules.Multipartner.{within, send_place, may_store, store_place, plans_from, sends_from, stores_at, byte_there, stored_there, sent_by}
use Rattle.multipartner.specs.Rules.Multipartner.{sent_in, received_in, cluster_below, sent_during}
use Rattle.master_slave.specs.Rules.Effect.{Effect}
use Rattle.multipartner.specs.Rules.Multipartner.{passed_over_lem}
use Rattle.cluster.specs.Rules.Round.{effect_of}

-- a slave of that name, whose 0x08 has so many bytes more than its records 0x00 and 1
slave : ℕ → ℕ → ℕ → Slave
slave asleep name more = record { asleep = asleep; files = record { number = 0x08; bytes = replicate 7 0 ++ (name ∷ replicate more 0) } ∷ [] }

-- 0x08 of the first, the third and the fourth has records 0x00 to 4, that of the second ends with record 3; the fourth sleeps
cluster : ℕ → ℕ → Cluster
cluster name «record» =
    record {
      edition = 1;
      epoch = 0;
      flag = 1;
      pending_name = name;
      pending_pb2 = pb2_of 0x08 2;
      pending_pb3 = «record»;
      slaves = slave 0 0xFF 12 ∷ slave 0 0xFF 8 ∷ slave 0 5 12 ∷ slave 1 6 12 ∷ [];
    }

-- the sleep bytes after one MSD, and after two
once : ℕ → ℕ → List ℕ
once name «record» = map (λ (s : Slave). s.asleep) (effect_of (cluster name «record») msd (0x49 ∷ [])).after.slaves

twice : ℕ → ℕ → List ℕ
twice name «record» =
    map (λ (s : Slave). s.asleep) (effect_of (effect_of (cluster name «record») msd (0x49 ∷ [])).after msd (0x49 ∷ [])).after.slaves

-- at 0xFF the unnamed that have the record, at 0x00 the others, at a name who holds it: never one that sleeps, who wakes
-- (`unfolding at-unnamed` below unfolds what stands here)
at-unnamed : once 0xFF 4 ≡ 1 ∷ 0 ∷ 0 ∷ 0 ∷ []
unfolding once cluster slave effect_of pending_duty duty_by execution_of pb2_of epoch_raised with_epoch slaves_after slave_after rested rests_after
    falls_asleep addressed addresses is_awake has_record logical_name bytes_in bytes_among with_sleep with_slaves both
at-unnamed = refl

at-broadcast : once 0x00 4 ≡ 0 ∷ 0 ∷ 1 ∷ 0 ∷ []
unfolding at-unnamed
at-broadcast = refl

at_sleeper : once 6 4 ≡ 0 ∷ 0 ∷ 0 ∷ 0 ∷ []
unfolding at-unnamed
at_sleeper = refl

-- the same MSD twice: who slept wakes, who was awake sleeps
at-broadcast-twice : twice 0x00 4 ≡ 0 ∷ 0 ∷ 0 ∷ 1 ∷ []
unfolding at-unnamed twice
at-broadcast-twice = refl

-- an execute of record 3, which is none, wakes everyone
record_3 : once 0x00 3 ≡ 0 ∷ 0 ∷ 0 ∷ 0 ∷ []
unfolding at-unnamed
record_3 = refl

-- an MSA, here of a read at 5 of record 1 of 0x3D, leaves the sleep bytes as they are
after-address :
    map (λ (s : Slave). s.asleep) (effect_of (cluster 0x00 4) msa (0x55 ∷ 0 ∷ 5 ∷ 0xF4 ∷ 1 ∷ 0 ∷ [])).after.slaves ≡ 0 ∷ 0 ∷ 0 ∷ 1 ∷ []
unfolding at-unnamed with_address with_pending
after-address = refl

-- ---- a slave named 6, awake and asleep: who takes part in a read, a compare, a write and a baptism at its name

awake_and_asleep : (Slave → Bool) → List Bool
awake_and_asleep takes_part = takes_part (slave 0 6 12) ∷ takes_part (slave 1 6 12) ∷ []

in_read : awake_and_asleep (answers_read 6 0x08 1) ≡ true ∷ false ∷ []
unfolding at-unnamed awake_and_asleep answers_read is_unnamed
in_read = refl

in_compare : awake_and_asleep (answers_compare 6) ≡ true ∷ false ∷ []
unfolding at-unnamed awake_and_asleep answers_compare comparison_value physical_name part number_of
in_compare = refl

in_write : awake_and_asleep (takes_write 6 0x08 2) ≡ true ∷ false ∷ []
unfolding at-unnamed awake_and_asleep takes_write may_write
in_write = refl

in_baptism : awake_and_asleep (takes_name 6) ≡ true ∷ false ∷ []
unfolding at-unnamed awake_and_asleep takes_name comparison_value physical_name part number_of
in_baptism = refl

-- ---- a multipartner round: two slaves send in slot 1 and two receive, of each two one sleeps

-- by the entry 40 01 10 01 of round 2 a slave sends byte 0 of record 1 of 0x10 in slot 1, by 40 01 00 01 it stores there
partner : ℕ → ℕ → ℕ → Slave
partner asleep operation byte =
    record {
      asleep = asleep;
      files =
          record { number = 2; bytes = replicate 4 0 ++ (0x40 ∷ 1 ∷ operation ∷ 1 ∷ []) } ∷
          record { number = 0x08; bytes = replicate 7 0 ++ (5 ∷ replicate 8 0) } ∷
          record { number = 0x10; bytes = replicate 4 0 ++ (byte ∷ replicate 3 0) } ∷ [];
    }

partners : Effect
partners =
    effect_of
    (record {
      edition = 1;
      epoch = 0;
      flag = 0;
      pending_name = 0;
      pending_pb2 = 0;
      pending_pb3 = 0;
      slaves = partner 0 0x10 0x0F ∷ partner 1 0x10 0xF0 ∷ partner 0 0x00 0x33 ∷ partner 1 0x00 0x33 ∷ [];
    })
    (multipartner 2) (0xBA ∷ [])

-- the sleeping sender's byte is not on the bus
partners_sent : partners.senders 1 ≡ 0x0F ∷ []
unfolding partners partner effect_of passed_over_lem epoch_raised with_epoch next_epoch cluster_below sent_during sent_in sent_by received_in sends_from
    plans_from stores_at stored_there byte_there send_place store_place may_store within byte_place acting acting_from eligible out_of_turn in_turn covers
    entry_at entry_there entry_of sends receives ends is_multiplexed last_record bus_byte joined put_in_slave put_among with_slaves is_awake is_unnamed logical_name bytes_in bytes_among both either
partners_sent = refl

-- the sleeping receiver keeps its byte
partners_hold : map (λ (s : Slave). get_or (bytes_in s 0x10) 4 0) partners.after.slaves ≡ 0x0F ∷ 0xF0 ∷ 0x0F ∷ 0x33 ∷ []
unfolding partners_sent rested rests_after falls_asleep with_sleep
partners_hold = refl

-- and all are awake then
partners_wake : map (λ (s : Slave). s.asleep) partners.after.slaves ≡ 0 ∷ 0 ∷ 0 ∷ 0 ∷ []
unfolding partners_hold
partners_wake = refl
