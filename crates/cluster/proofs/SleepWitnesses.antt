-- The claims on sleep on one file: what each asks of it is met.
-- Assumes nothing.
use Prim.Native.Nat.{ℕ}
use native.Mathlib.Omega.{arith}
use mathlib.Core.Path.{◌≡◌, refl}
use mathlib.Core.List.{List, [], ◌∷◌}
use lib.ListN.{replicate}
use Rattle.file.specs.Rules.Layout.{width_of}
use Rattle.file.specs.Rules.Order.{first_of, both, either}
use Rattle.file.specs.Rules.Results.{done}
use Rattle.file.specs.Rules.Bytes.{number_of, bytes_of, part, all_zero, Bytes}
use Rattle.file.specs.Rules.Cluster.{is_awake, no_operation, broadcast_read, bytes_among, bytes_in, last_record, has_record, physical_name, logical_name, pb2_of}
use Rattle.file.specs.Rules.Decode.{decode, decode_at, slaves_at, slave_at, files_at, file_at, file_size, offset_at}
use Rattle.file.specs.Rules.Encode.{encode, encode_at, header, file_length, slaves_place, slaves_size, table, table_entry, slaves_bytes, slave_size, slave_bytes, contents, directory, directory_entry}
use Rattle.file.specs.Rules.Changes.{with_sleep, with_slaves, with_epoch, with_pending}
use Rattle.file.specs.Rules.FileGrounds.{is_among, has_repeat, file_grounds, file_grounds_at, wrong_size, wrong_mark, wrong_edition, wrong_length, wrong_header}
use Rattle.file.specs.Rules.FileGrounds.{wrong_pending, broken_layout, walk_file, table_end, walk_slaves, and_then, walk_slave, good_table_entry, walk_directory, good_entry}
use Rattle.file.specs.Rules.FileGrounds.{ends_at, lacks_needed, all_have_needed, has_needed, equal_physical_names}
use Rattle.frame.specs.Rules.Check.{exclusive_or, check_of, address_check}
use Rattle.frame.specs.Rules.Fireworks.{round_of, round_in}
use Rattle.frame.specs.Rules.FrameGrounds.{wrong_frame_length, wrong_check}
use Rattle.master_slave.specs.Rules.Slaves.{with_address, next_epoch, epoch_raised, execution_of, duty_by, pending_duty, addresses, addressed, slave_after, slaves_after, falls_asleep, rests_after, rested}
use Rattle.cluster.specs.Rules.RoundGrounds.{short_answer, round_by_lem, write_pending, grounds_on}
use Rattle.cluster.specs.Rules.Round.{effect_of, frame_on, round_ground, round_on}
use Rattle.cluster.specs.Claims.Cases.{data_round}
use Rattle.cluster.specs.Claims.Writes.{slave_in}
use Rattle.cluster.specs.Claims.Sleep.{AllAwake, PutsToSleep, MayFallAsleep, awake_alone, AnswersFor, where_awake}
use Rattle.file.proofs.BytesBelow.{all_below, bytes_below}
use Rattle.cluster.proofs.Sleep.{sleep_puts-to_sleep, sleep_silent, sleeper_keeps_files, data-wakes, multipartner-wakes, address-wakes-nobody}
use Rattle.cluster.proofs.AwakeAlone.{sleepers_silent, awake_as_alone}

-- 104 bytes: two slaves named 1 and 2, of physical names 1 and 2, each with records 0x00 to 4 in 0x08; an operation is pending, and the
-- last two are their sleep bytes
unfoldable two_slaves : ℕ → ℕ → ℕ → ℕ → ℕ → ℕ → List ℕ
two_slaves epoch name pb2 pb3 first second =
    0x54 ∷ 0x41 ∷ 0x01 ∷ 0x02 ∷ 0x00 ∷ 0x10 ∷ 0x00 ∷ 0x68 ∷ epoch ∷ 0x01 ∷ name ∷ pb2 ∷ pb3 ∷ 0 ∷ 0 ∷ 0 ∷
    0x00 ∷ 0x18 ∷ 0x02 ∷ first ∷ 0x00 ∷ 0x40 ∷ 0x02 ∷ second ∷
    0x08 ∷ 0x04 ∷ 0x00 ∷ 0x20 ∷ 0x3D ∷ 0x02 ∷ 0x00 ∷ 0x34 ∷
    0 ∷ 0 ∷ 0 ∷ 0 ∷ 0 ∷ 0 ∷ 0 ∷ 0x01 ∷ 0 ∷ 0 ∷ 0 ∷ 0 ∷ 0 ∷ 0 ∷ 0 ∷ 0 ∷ 0 ∷ 0 ∷ 0 ∷ 0 ∷
    0 ∷ 0 ∷ 0 ∷ 0 ∷ 0 ∷ 0 ∷ 0 ∷ 0 ∷ 0 ∷ 0 ∷ 0 ∷ 0x01 ∷
    0x08 ∷ 0x04 ∷ 0x00 ∷ 0x48 ∷ 0x3D ∷ 0x02 ∷ 0x00 ∷ 0x5C ∷
    0 ∷ 0 ∷ 0 ∷ 0 ∷ 0 ∷ 0 ∷ 0 ∷ 0x02 ∷ 0 ∷ 0 ∷ 0 ∷ 0 ∷ 0 ∷ 0 ∷ 0 ∷ 0 ∷ 0 ∷ 0 ∷ 0 ∷ 0 ∷
    0 ∷ 0 ∷ 0 ∷ 0 ∷ 0 ∷ 0 ∷ 0 ∷ 0 ∷ 0 ∷ 0 ∷ 0 ∷ 0x02 ∷ []

unfoldable buffer : List ℕ
buffer = replicate 64 0

-- ---- the execute of record 4 of 0x08 is pending at 0x00; the first slave is awake, the second sleeps

unfoldable before : List ℕ
before = two_slaves 0 0x00 0x22 4 0 1

before-bytes : Bytes before
before-bytes = bytes_below before (unfold before two_slaves all_below both in refl)

data-bytes : Bytes data_round
data-bytes = bytes_below data_round (unfold all_below both in refl)

-- `unfolding sleeps` below unfolds what stands here: a file's, buffer's and frame's grounds, and what the file holds
sleeps : PutsToSleep before data_round buffer 0x00
unfolding width_of before buffer two_slaves file_grounds_at first_of both either wrong_size wrong_mark wrong_edition wrong_length wrong_header
    wrong_pending no_operation broadcast_read all_zero part number_of offset_at broken_layout walk_file table_end walk_slaves and_then walk_slave
    good_table_entry walk_directory good_entry file_size ends_at lacks_needed all_have_needed has_needed last_record decode decode_at slaves_at slave_at
    files_at file_at equal_physical_names has_repeat is_among physical_name bytes_in bytes_among round_ground file_grounds short_answer grounds_on round_by_lem round_of round_in wrong_frame_length write_pending pb2_of
sleeps = record { is_msd = refl; accepted = refl; pending = record { is_flag = refl; is_name = refl; is_pb2 = refl; is_pb3 = refl } }

-- the first falls asleep
first-falls : (slave_in (round_on before data_round buffer).2 0).asleep ≡ 1
unfolding sleeps slave_in is_awake addresses logical_name has_record
first-falls =
    (sleep_puts-to_sleep before data_round buffer 0x00 before-bytes data-bytes sleeps 0 (omega arith)).falls
    (record { awake = refl; is_addressed = refl; has = refl })

-- the second wakes: it was asleep
second-wakes : (slave_in (round_on before data_round buffer).2 1).asleep ≡ 0
unfolding sleeps slave_in
second-wakes =
    (sleep_puts-to_sleep before data_round buffer 0x00 before-bytes data-bytes sleeps 1 (omega arith)).wakes
    (λ (m : MayFallAsleep 0x00 (slave_in before 1)). let z : ◌≡◌ {A = ℕ} 1 0 = m.awake in omega arith)

-- and keeps its files
second_keeps : (slave_in (round_on before data_round buffer).2 1).files ≡ (slave_in before 1).files
unfolding sleeps slave_in
second_keeps = sleeper_keeps_files before data_round buffer before-bytes data-bytes 1 (omega arith) refl

-- nobody sends
nobody-sends : (round_on before data_round buffer).0 ≡ done 0
nobody-sends = (sleep_silent before data_round buffer 0x00 sleeps).0

-- the file that is left
unfoldable left : List ℕ
left = two_slaves 1 0x00 0x22 4 1 0

is-left : (round_on before data_round buffer).2 ≡ left
unfolding sleeps left round_on frame_on effect_of pending_duty duty_by execution_of epoch_raised next_epoch with_epoch slaves_after slave_after rested
    rests_after falls_asleep addressed addresses is_awake has_record logical_name with_sleep with_slaves encode encode_at header
    file_length slaves_place slaves_size table table_entry slaves_bytes slave_size slave_bytes contents directory directory_entry bytes_of
is-left = refl

-- ---- on it the first sleeps and the second is awake

left-bytes : Bytes left
left-bytes = bytes_below left (unfold left two_slaves all_below both in refl)

-- a multipartner round, of number 2, wakes
multipartner-bytes : Bytes (0xBA ∷ [])
multipartner-bytes = bytes_below (0xBA ∷ []) (unfold all_below both in refl)

left-fits : round_ground left (0xBA ∷ []) buffer ≡ 0
unfolding sleeps left
left-fits = refl

left-wakes : AllAwake (round_on left (0xBA ∷ []) buffer).2
unfolding sleeps
left-wakes = multipartner-wakes left (0xBA ∷ []) buffer 2 left-bytes multipartner-bytes left-fits refl

-- an MSA of a read of record 1 of 0x3D at 1 does not
unfoldable address : List ℕ
address = 0x55 ∷ 0x07 ∷ 0x01 ∷ 0xF4 ∷ 0x01 ∷ 0xA6 ∷ []

unfoldable asked : List ℕ
asked = two_slaves 7 0x01 0xF4 1 1 0

address-fits : round_ground left address buffer ≡ 0
unfolding sleeps left address wrong_check address_check check_of exclusive_or
address-fits = refl

is-asked : (round_on left address buffer).2 ≡ asked
unfolding is-left address-fits asked with_address with_pending
is-asked = refl

address-bytes : Bytes address
address-bytes = bytes_below address (unfold address all_below both in refl)

left-sleeps : (decode (round_on left address buffer).2).slaves ≡ (decode left).slaves
unfolding address-fits
left-sleeps = address-wakes-nobody left address buffer left-bytes address-bytes address-fits refl

-- the MSD after it does, and the slave that is read sleeps: nobody sends
asked-bytes : Bytes asked
asked-bytes = bytes_below asked (unfold asked two_slaves all_below both in refl)

asked-fits : round_ground asked data_round buffer ≡ 0
unfolding sleeps asked
asked-fits = refl

asked-wakes : AllAwake (round_on asked data_round buffer).2
unfolding sleeps asked
asked-wakes =
    data-wakes asked data_round buffer asked-bytes data-bytes asked-fits refl
    (λ (name : ℕ) (p : PutsToSleep asked data_round buffer name). let z : ◌≡◌ {A = ℕ} 0xF4 0x22 = p.pending.is_pb2 in omega arith)

asked_alone : AnswersFor asked data_round buffer (awake_alone asked data_round).senders
asked_alone = sleepers_silent asked data_round buffer asked-fits

asked-second :
    where_awake (decode asked).slaves (decode (round_on asked data_round buffer).2).slaves ≡
    (awake_alone asked data_round).after.slaves
asked-second = awake_as_alone asked data_round buffer asked-bytes data-bytes asked-fits
