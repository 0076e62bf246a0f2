-- Posts and turns over the C calls, computed: each number of a post; of a turn 27, 18, 14, 1 of the file's and 9, and each way; and the
-- state at the start.
-- Assumes nothing.
use Prim.Native.Nat.{ℕ}
use mathlib.Core.Path.{◌≡◌, refl}
use mathlib.Core.List.{List, [], ◌∷◌, ◌++◌}
use lib.ListN.{set, replicate}
use Rattle.file.specs.Rules.Changes.{with_slaves, with_epoch, with_pending, with_sleep}
use Rattle.file.specs.Rules.Cluster.{logical_name, is_awake, has_record, pb2_of, record_of, no_operation, broadcast_read, logical_names}
use Rattle.file.specs.Rules.FileGrounds.{load_ground, load_verdict, equal_logical_names, held_names}
use Rattle.file.specs.Rules.Order.{first_of, both, either}
use Rattle.file.specs.Rules.Results.{number_in, result_of}
use Rattle.frame.specs.Rules.Check.{exclusive_or, check_of, address_check, data_check}
use Rattle.frame.specs.Rules.Fireworks.{round_of, round_in}
use Rattle.frame.specs.Rules.Frames.{frame_of, address_bytes, address_frame}
use Rattle.frame.specs.Rules.FrameGrounds.{wrong_frame_length, wrong_check, no_file_number}
use Rattle.master_slave.specs.Inner.Carried.{senders_to}
use Rattle.master_slave.specs.Rules.Bus.{anyone, mask_below_lem, sender_mask, joined, bus_byte, answer_bytes, answer_in, slot_bytes, nobody}
use Rattle.cluster.specs.Rules.RoundGrounds.{short_answer, round_by_lem, write_pending, grounds_on}
use Rattle.cluster.specs.Rules.MasterSlave.{address_sent, data_sent, round_sent}
use Rattle.cluster.specs.Rules.Round.{effect_of, frame_on, round_ground, round_on}
use Rattle.master_slave.specs.Rules.Slaves.{in_slot, with_address, next_epoch, epoch_raised, execution_of, duty_by, pending_duty, sent_to, slaves_after}
use Rattle.master_slave.specs.Rules.Slaves.{slave_after, rested, rests_after, falls_asleep, addressed, addresses, is_unnamed, answers_read}
use Rattle.master_slave.specs.Rules.Slaves.{answers_compare, read_reply, reply_to}
use Rattle.screens.specs.Rules.Screens.{last_served, is_waiting, read_of, fresh, next_screen, due_from, due, no_screen, read_grounds, post_ground}
use Rattle.screens.specs.Rules.Screens.{posted, post_on, place_of}
use Rattle.screens.specs.Rules.Turn.{served_by, read_sent, after_serving, due_grounds, state_grounds, turn_ground, turn_made, turn_on}
use Rattle.convert.proofs.Examples.{examples as convert_examples}
use Rattle.ttpa.specs.Rules.Calls.{check_call, screens_call, post_call, none_waited, turn_screen, turn_senders, turn_call}

-- a slave named 5, epoch 0xE0
abbrev one_slave : List ℕ
one_slave =
    0x54 ∷ 0x41 ∷ 0x01 ∷ 0x01 ∷ 0x00 ∷ 0x10 ∷ 0x00 ∷ 0x38 ∷ 0xE0 ∷ 0x00 ∷ 0x00 ∷ 0x00 ∷ 0x00 ∷ 0x00 ∷ 0x00 ∷ 0x00 ∷ 0x00 ∷ 0x14 ∷
    0x02 ∷ 0x00 ∷ 0x08 ∷ 0x03 ∷ 0x00 ∷ 0x1C ∷ 0x3D ∷ 0x02 ∷ 0x00 ∷ 0x2C ∷ 0x34 ∷ 0xF8 ∷ 0xBF ∷ 0xB9 ∷ 0x15 ∷ 0x2F ∷ 0x05 ∷ 0x05 ∷
    0x31 ∷ 0x5E ∷ 0xA9 ∷ 0xF3 ∷ 0x7A ∷ 0xD0 ∷ 0x74 ∷ 0xB1 ∷ 0xA7 ∷ 0x27 ∷ 0x28 ∷ 0xF9 ∷ 0x31 ∷ 0x5E ∷ 0xA9 ∷ 0xF3 ∷ 0x7A ∷ 0xD0 ∷
    0x74 ∷ 0xB1 ∷ []

-- the same slave asleep
abbrev one_asleep : List ℕ
one_asleep = set one_slave 19 1

-- after the read of record 0 of 0x3D at 5
abbrev one_read : List ℕ
one_read =
    0x54 ∷ 0x41 ∷ 0x01 ∷ 0x01 ∷ 0x00 ∷ 0x10 ∷ 0x00 ∷ 0x38 ∷ 0xE2 ∷ 0x01 ∷ 0x05 ∷ 0xF4 ∷ 0x00 ∷ 0x00 ∷ 0x00 ∷ 0x00 ∷ 0x00 ∷ 0x14 ∷
    0x02 ∷ 0x00 ∷ 0x08 ∷ 0x03 ∷ 0x00 ∷ 0x1C ∷ 0x3D ∷ 0x02 ∷ 0x00 ∷ 0x2C ∷ 0x34 ∷ 0xF8 ∷ 0xBF ∷ 0xB9 ∷ 0x15 ∷ 0x2F ∷ 0x05 ∷ 0x05 ∷
    0x31 ∷ 0x5E ∷ 0xA9 ∷ 0xF3 ∷ 0x7A ∷ 0xD0 ∷ 0x74 ∷ 0xB1 ∷ 0xA7 ∷ 0x27 ∷ 0x28 ∷ 0xF9 ∷ 0x31 ∷ 0x5E ∷ 0xA9 ∷ 0xF3 ∷ 0x7A ∷ 0xD0 ∷
    0x74 ∷ 0xB1 ∷ []

-- a slave named 0xFF, asleep, epoch 0
abbrev sleeper : List ℕ
sleeper =
    0x54 ∷ 0x41 ∷ 0x01 ∷ 0x01 ∷ 0x00 ∷ 0x10 ∷ 0x00 ∷ 0x38 ∷ 0x00 ∷ 0x01 ∷ 0xFF ∷ 0xF5 ∷ 0x00 ∷ 0x00 ∷ 0x00 ∷ 0x00 ∷ 0x00 ∷ 0x14 ∷
    0x02 ∷ 0x01 ∷ 0x08 ∷ 0x03 ∷ 0x00 ∷ 0x1C ∷ 0x3D ∷ 0x02 ∷ 0x00 ∷ 0x2C ∷ 0x2D ∷ 0xD4 ∷ 0x56 ∷ 0x27 ∷ 0x31 ∷ 0x54 ∷ 0x02 ∷ 0xFF ∷
    0x00 ∷ 0x00 ∷ 0x00 ∷ 0x00 ∷ 0x00 ∷ 0x00 ∷ 0x00 ∷ 0x00 ∷ 0x29 ∷ 0x2C ∷ 0x1F ∷ 0x7F ∷ 0x00 ∷ 0x00 ∷ 0x00 ∷ 0x00 ∷ 0x00 ∷ 0x00 ∷
    0x00 ∷ 0x00 ∷ []

-- after a read of record 2 of 0x3D at 1
abbrev woken : List ℕ
woken =
    0x54 ∷ 0x41 ∷ 0x01 ∷ 0x01 ∷ 0x00 ∷ 0x10 ∷ 0x00 ∷ 0x38 ∷ 0x02 ∷ 0x01 ∷ 0x01 ∷ 0xF4 ∷ 0x02 ∷ 0x00 ∷ 0x00 ∷ 0x00 ∷ 0x00 ∷ 0x14 ∷
    0x02 ∷ 0x00 ∷ 0x08 ∷ 0x03 ∷ 0x00 ∷ 0x1C ∷ 0x3D ∷ 0x02 ∷ 0x00 ∷ 0x2C ∷ 0x2D ∷ 0xD4 ∷ 0x56 ∷ 0x27 ∷ 0x31 ∷ 0x54 ∷ 0x02 ∷ 0xFF ∷
    0x00 ∷ 0x00 ∷ 0x00 ∷ 0x00 ∷ 0x00 ∷ 0x00 ∷ 0x00 ∷ 0x00 ∷ 0x29 ∷ 0x2C ∷ 0x1F ∷ 0x7F ∷ 0x00 ∷ 0x00 ∷ 0x00 ∷ 0x00 ∷ 0x00 ∷ 0x00 ∷
    0x00 ∷ 0x00 ∷ []

-- two slaves named 5, which 22 refuses to load
abbrev equal_names : List ℕ
equal_names =
    0x54 ∷ 0x41 ∷ 0x01 ∷ 0x02 ∷ 0x00 ∷ 0x10 ∷ 0x00 ∷ 0x64 ∷ 0xFD ∷ 0x01 ∷ 0x01 ∷ 0x21 ∷ 0x02 ∷ 0x00 ∷ 0x00 ∷ 0x00 ∷ 0x00 ∷ 0x18 ∷
    0x02 ∷ 0x00 ∷ 0x00 ∷ 0x40 ∷ 0x02 ∷ 0x01 ∷ 0x08 ∷ 0x04 ∷ 0x00 ∷ 0x20 ∷ 0x3D ∷ 0x02 ∷ 0x00 ∷ 0x34 ∷ 0xD8 ∷ 0x2D ∷ 0x94 ∷ 0x69 ∷
    0x83 ∷ 0x1A ∷ 0x05 ∷ 0x05 ∷ 0x00 ∷ 0x00 ∷ 0x00 ∷ 0x00 ∷ 0x00 ∷ 0x00 ∷ 0x00 ∷ 0x00 ∷ 0x04 ∷ 0x64 ∷ 0xB8 ∷ 0x2C ∷ 0xD8 ∷ 0xAB ∷
    0xC2 ∷ 0x0E ∷ 0x00 ∷ 0x00 ∷ 0x00 ∷ 0x00 ∷ 0x00 ∷ 0x00 ∷ 0x00 ∷ 0x00 ∷ 0x08 ∷ 0x03 ∷ 0x00 ∷ 0x48 ∷ 0x3D ∷ 0x02 ∷ 0x00 ∷ 0x58 ∷
    0x3B ∷ 0x6B ∷ 0xFB ∷ 0x0F ∷ 0xEF ∷ 0xE8 ∷ 0x00 ∷ 0x05 ∷ 0x00 ∷ 0x00 ∷ 0x00 ∷ 0x07 ∷ 0x00 ∷ 0x00 ∷ 0x00 ∷ 0x56 ∷ 0xDA ∷ 0xC5 ∷
    0xC5 ∷ 0x78 ∷ 0x00 ∷ 0x00 ∷ 0x00 ∷ 0x07 ∷ 0x00 ∷ 0x00 ∷ 0x00 ∷ 0x56 ∷ []

-- all eight wait, screen 7 was served last; screen 0 asks 5 for record 0 of 0x3D
abbrev all_wait : List ℕ
all_wait =
    0x07 ∷ 0x01 ∷ 0x05 ∷ 0x3D ∷ 0x00 ∷ 0x80 ∷ 0x01 ∷ 0x3F ∷ 0x00 ∷ 0x01 ∷ 0x05 ∷ 0x08 ∷ 0x03 ∷ 0x01 ∷ 0x01 ∷ 0x00 ∷ 0xFF ∷ 0x02 ∷
    0x06 ∷ 0x08 ∷ 0x03 ∷ 0x01 ∷ 0x05 ∷ 0x3D ∷ 0x03 ∷ 0x01 ∷ 0x06 ∷ 0x08 ∷ 0x04 ∷ 0x01 ∷ 0x06 ∷ 0x3D ∷ 0x02 ∷ []

-- screen 0 was served
abbrev zero_served : List ℕ
zero_served =
    0x00 ∷ 0x00 ∷ 0x05 ∷ 0x3D ∷ 0x00 ∷ 0x80 ∷ 0x01 ∷ 0x3F ∷ 0x00 ∷ 0x01 ∷ 0x05 ∷ 0x08 ∷ 0x03 ∷ 0x01 ∷ 0x01 ∷ 0x00 ∷ 0xFF ∷ 0x02 ∷
    0x06 ∷ 0x08 ∷ 0x03 ∷ 0x01 ∷ 0x05 ∷ 0x3D ∷ 0x03 ∷ 0x01 ∷ 0x06 ∷ 0x08 ∷ 0x04 ∷ 0x01 ∷ 0x06 ∷ 0x3D ∷ 0x02 ∷ []

-- all eight wait, screen 1 was served last; screen 2 asks 1 for record 2 of 0x3D
abbrev asked : List ℕ
asked =
    0x01 ∷ 0x01 ∷ 0x02 ∷ 0x08 ∷ 0xFF ∷ 0xFF ∷ 0x00 ∷ 0x3F ∷ 0x01 ∷ 0x02 ∷ 0x01 ∷ 0x3D ∷ 0x02 ∷ 0x01 ∷ 0x02 ∷ 0x3D ∷ 0x02 ∷ 0xFF ∷
    0x01 ∷ 0x08 ∷ 0x03 ∷ 0x02 ∷ 0x00 ∷ 0x1E ∷ 0x13 ∷ 0x01 ∷ 0x00 ∷ 0x3F ∷ 0x01 ∷ 0xFF ∷ 0x01 ∷ 0x3D ∷ 0x02 ∷ []

-- screen 2 was served
abbrev two_served : List ℕ
two_served =
    0x02 ∷ 0x01 ∷ 0x02 ∷ 0x08 ∷ 0xFF ∷ 0xFF ∷ 0x00 ∷ 0x3F ∷ 0x01 ∷ 0x00 ∷ 0x01 ∷ 0x3D ∷ 0x02 ∷ 0x01 ∷ 0x02 ∷ 0x3D ∷ 0x02 ∷ 0xFF ∷
    0x01 ∷ 0x08 ∷ 0x03 ∷ 0x02 ∷ 0x00 ∷ 0x1E ∷ 0x13 ∷ 0x01 ∷ 0x00 ∷ 0x3F ∷ 0x01 ∷ 0xFF ∷ 0x01 ∷ 0x3D ∷ 0x02 ∷ []

-- the state of the turn on equal names
abbrev sharing : List ℕ
sharing =
    0x05 ∷ 0x00 ∷ 0x00 ∷ 0x00 ∷ 0x00 ∷ 0x00 ∷ 0x14 ∷ 0x89 ∷ 0x2C ∷ 0x00 ∷ 0xEE ∷ 0x40 ∷ 0x9C ∷ 0x00 ∷ 0x00 ∷ 0x00 ∷ 0x00 ∷ 0x00 ∷
    0xA8 ∷ 0x2E ∷ 0xA4 ∷ 0x01 ∷ 0x05 ∷ 0x08 ∷ 0x02 ∷ 0x00 ∷ 0x00 ∷ 0x00 ∷ 0x00 ∷ 0x00 ∷ 0x2A ∷ 0x8E ∷ 0x91 ∷ []

-- the state with the screen last served, and the first two screens' bytes
abbrev two : ℕ → List ℕ → List ℕ → List ℕ
two last first second = last ∷ first ++ second ++ replicate 24 0

-- a screen that does not wait
abbrev none : List ℕ
none = 0x00 ∷ 0x00 ∷ 0x00 ∷ 0x00 ∷ []

-- a read that is answered
abbrev good : List ℕ
good = 0x01 ∷ 0x05 ∷ 0x3D ∷ 0x00 ∷ []

-- a read of file 64, at 0x00: 18 is before 14
abbrev no_file_lem : List ℕ
no_file_lem = 0x01 ∷ 0x00 ∷ 0x40 ∷ 0x00 ∷ []

-- a read at 0x00
abbrev to_all : List ℕ
to_all = 0x01 ∷ 0x00 ∷ 0x3F ∷ 0x00 ∷ []

-- a read at 0xFF, waiting by another value than 1
abbrev unnamed_read : List ℕ
unnamed_read = 0xFF ∷ 0xFF ∷ 0x08 ∷ 0x01 ∷ []

-- an answer buffer, and one that is too short
abbrev long : List ℕ
long = replicate 64 0xEE

abbrev short : List ℕ
short = replicate 63 0xEE

pub record PostExamples : Type 0 where
  pub at_start : screens_call (replicate 33 0xFF) ≡ (0, 7 ∷ replicate 32 0)
  pub posted : post_call fresh 3 5 0x3D 0 ≡ (0, 7 ∷ replicate 12 0 ++ good ++ replicate 16 0)
  -- another screen's waiting byte stays as it was
  pub beside : post_call (two 3 unnamed_read none) 1 5 0x3D 0 ≡ (0, two 3 unnamed_read good)
  pub at_unnamed : (post_call fresh 7 0xFF 8 1).0 ≡ 0
  pub above_seven : post_call fresh 8 0 64 0 ≡ (27, fresh)
  pub last_above : post_call (two 8 good none) 0 5 8 1 ≡ (27, two 8 good none)
  pub waiting : post_call (two 7 good none) 0 0 64 0 ≡ (28, two 7 good none)
  pub no_such_file : post_call fresh 0 0 64 0 ≡ (18, fresh)
  pub broadcast : post_call fresh 0 0 63 0 ≡ (14, fresh)

pub post_examples : PostExamples
unfolding fresh screens_call is_waiting last_served place_of no_screen read_grounds post_ground posted post_on post_call first_of either both no_file_number broadcast_read result_of number_in
post_examples =
    record {
      at_start = refl;
      posted = refl;
      beside = refl;
      at_unnamed = refl;
      above_seven = refl;
      last_above = refl;
      waiting = refl;
      no_such_file = refl;
      broadcast = refl;
    }

pub record TurnExamples : Type 0 where
  -- from 7 on to 0, answered by the slave in the slots 1 to 5
  pub after_seven :
      turn_call one_slave all_wait long 0 9 ≡
      (0, 0x3E, 0, zero_served, (0x49 ∷ 0xA7 ∷ 0x27 ∷ 0x28 ∷ 0xF9 ∷ 0x18 ∷ []) ++ replicate 58 0xFF, one_read)
  pub wakes : turn_call sleeper asked long 9 9 ≡ (0, 0, 2, two_served, 0x49 ∷ replicate 63 0xFF, woken)
  -- asked by its own name, a sleeping slave is silent, and awake afterwards
  pub wakes_asked : turn_call one_asleep all_wait long 9 9 ≡ (0, 0, 0, zero_served, 0x49 ∷ replicate 63 0xFF, one_read)
  pub none_waits : turn_call one_slave (two 3 none none) long 9 9 ≡ (0, 9, 8, two 3 none none, long, one_slave)
  pub none_waits_last_above : turn_call one_slave (two 8 none none) long 9 9 ≡ (27, 9, 9, two 8 none none, long, one_slave)
  pub none_waits_no_file : turn_call [] fresh long 9 9 ≡ (1, 9, 9, fresh, long, [])
  pub last_above : turn_call [] (two 8 no_file_lem none) [] 9 9 ≡ (27, 9, 9, two 8 no_file_lem none, [], [])
  pub no_such_file : turn_call [] (two 7 no_file_lem none) [] 9 9 ≡ (18, 9, 9, two 7 no_file_lem none, [], [])
  pub broadcast : turn_call [] (two 7 to_all none) [] 9 9 ≡ (14, 9, 9, two 7 to_all none, [], [])
  -- a bad read that is not due is not looked at; due, it refuses
  pub not_due : (turn_call one_slave (two 0 no_file_lem good) long 9 9).2 ≡ 1
  pub due_next : (turn_call one_slave (two 1 no_file_lem good) long 9 9).0 ≡ 18
  pub file_refused : turn_call [] (two 7 good none) long 9 9 ≡ (1, 9, 9, two 7 good none, long, [])
  pub short_buffer : (turn_call one_slave (two 7 good none) short 9 9).0 ≡ 9
  pub idle_short : (turn_call one_slave fresh short 9 9).0 ≡ 9
  -- nobody is unnamed: served, and silent
  pub silent : (turn_call one_slave (two 7 unnamed_read none) long 9 9).1 ≡ 0
  pub silent_served : (turn_call one_slave (two 7 unnamed_read none) long 9 9).2 ≡ 0
  -- one is, and awake: silent too
  pub unnamed_silent : (turn_call woken (two 7 unnamed_read none) long 9 9).1 ≡ 0
  pub unnamed_bus : (turn_call woken (two 7 unnamed_read none) long 9 9).4 ≡ 0x49 ∷ replicate 63 0xFF
  -- any waiting byte but 0
  pub high_bit_waits : (turn_call one_slave (two 7 (0x80 ∷ 0x05 ∷ 0x3D ∷ 0x00 ∷ []) none) long 9 9).2 ≡ 0
  -- 22 is no ground of a turn
  pub not_loaded : check_call equal_names ≡ 22
  pub still_served : (turn_call equal_names sharing long 9 9).2 ≡ 5

pub turn_examples : TurnExamples
unfolding convert_examples with_slaves with_epoch with_pending with_sleep logical_name is_awake has_record pb2_of load_ground load_verdict equal_logical_names
    number_in result_of round_of round_in exclusive_or check_of address_check wrong_frame_length wrong_check no_file_number frame_of address_bytes address_frame
    anyone mask_below_lem sender_mask joined bus_byte answer_bytes answer_in in_slot senders_to with_address next_epoch epoch_raised execution_of duty_by pending_duty
    sent_to slaves_after slave_after rested rests_after falls_asleep addressed addresses is_unnamed answers_read answers_compare short_answer round_by_lem
    write_pending grounds_on effect_of frame_on round_ground round_on address_sent data_sent round_sent last_served is_waiting read_of fresh next_screen due_from
    due no_screen read_grounds served_by read_sent after_serving due_grounds state_grounds turn_ground turn_made turn_on check_call none_waited turn_screen
    turn_senders turn_call slot_bytes nobody read_reply reply_to record_of no_operation broadcast_read held_names logical_names data_check place_of
turn_examples =
    record {
      after_seven = refl;
      wakes = refl;
      wakes_asked = refl;
      none_waits = refl;
      none_waits_last_above = refl;
      none_waits_no_file = refl;
      last_above = refl;
      no_such_file = refl;
      broadcast = refl;
      not_due = refl;
      due_next = refl;
      file_refused = refl;
      short_buffer = refl;
      idle_short = refl;
      silent = refl;
      silent_served = refl;
      unnamed_silent = refl;
      unnamed_bus = refl;
      high_bit_waits = refl;
      not_loaded = refl;
      still_served = refl;
    }
