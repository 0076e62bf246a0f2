-- The files of the cases M6 to M9: each meets what its case's law asks of a file, and the law gives the round on it. And demand 3 on a file
-- whose only slave sleeps: what it asks of file, names and calls is met, and the slave is awake after the first step.
-- Assumes nothing.
use Rattle.std.proofs.Common.{ℕ, arith, ◌≡◌, refl, ◌∙◌, List, [], ◌∷◌, true, replicate, get_or}
use Rattle.file.specs.Rules.Layout.{width_of}
use Rattle.file.specs.Rules.Order.{first_of, both, either}
use Rattle.file.specs.Rules.Results.{done}
use Rattle.file.specs.Rules.Bytes.{Bytes, All, all_empty, all_next, number_of, part, all_zero}
use Rattle.file.specs.Rules.Cluster.{is_awake, no_operation, broadcast_read, bytes_among, bytes_in, last_record, has_record, record_of, physical_name, logical_name, comparison_value}
use Rattle.file.specs.Rules.Decode.{decode, decode_at, slaves_at, slave_at, files_at, file_at, file_size, offset_at}
use Rattle.file.specs.Rules.FileGrounds.{is_among, has_repeat, file_grounds, file_ground, file_ground_at, file_grounds_at, wrong_size, wrong_mark, wrong_edition}
use Rattle.file.specs.Rules.FileGrounds.{wrong_length, wrong_header, wrong_pending, broken_layout, walk_file, table_end, walk_slaves, and_then, walk_slave, good_table_entry}
use Rattle.file.specs.Rules.FileGrounds.{walk_directory, good_entry, ends_at, lacks_needed, all_have_needed, has_needed, equal_physical_names}
use Rattle.frame.specs.Rules.Check.{exclusive_or, check_of}
use Rattle.frame.specs.Rules.Fireworks.{data_firework, round_of, round_in}
use Rattle.frame.specs.Rules.FrameGrounds as frames
use Rattle.master_slave.specs.Rules.Bus.{joined, bus_byte, slot_bytes, answer_bytes, answer_in, nobody}
use Rattle.master_slave.specs.Rules.Slaves.{is_unnamed, addresses, addressed, execution_of, duty_by, pending_duty, answers_read}
use Rattle.cluster.specs.Rules.RoundGrounds.{short_answer, round_by_lem, write_pending, grounds_on}
use Rattle.cluster.specs.Inner.EachGround.{no_firework, length_for, wrong_length_on, wrong_check_on, no_operation_on, broadcast_read_on, frame_ground}
use Rattle.cluster.specs.Rules.Round.{round_ground, round_on}
use Rattle.cluster.specs.Rules.Summary.{without, wrong_summary}
use Rattle.cluster.specs.Claims.Cases.{data_round}
use Rattle.cluster.proofs.Cases as rounds
use Rattle.cluster.specs.Claims.Sleep.{AllAwake}
use Rattle.cluster.proofs.Rounds.{others_decide}
use Rattle.naming.specs.Rules.Position.{fresh, end_at}
use Rattle.naming.specs.Rules.RunGrounds.{start_ground, run_grounds, names_grounds, unfit_name, unfit_position}
use Rattle.naming.specs.Rules.Step.{step_ground, step_keeping_ground, step_keeping}
use Rattle.naming.specs.Rules.Account.{Call, bit_clear, naming_rounds, names_of, names_in_lem, names_held, unnamed_among, insert, falling, end_with, account_of}
use Rattle.naming.specs.Rules.Account.{go_on_lem, free_pass, pass, pass_on, extra, one_round, arguments_ground, account_call, account_after}
use Rattle.naming.specs.Claims.Demand.{start_on, permitted, after_calls, OfBytes, of_step, Demand}
use Rattle.naming.specs.Claims.PermittedRounds.{is-step}
use Rattle.naming.specs.Claims.Sleep.{wakes_by_step, by_first_lem}
use Rattle.naming.specs.Claims.Files.{one_slave, m6_file_lem, m7_file_lem, m8_file_lem, m9_file_lem}
use Rattle.naming.specs.Claims.Cases.{answer_buffer}
use Rattle.file.proofs.BytesBelow.{all_below, bytes_below}
use Rattle.naming.proofs.Lists.{steps-permitted}
use Rattle.naming.proofs.OverBytes.{demand_3}
use Rattle.naming.proofs.Unasked.{plain_step, step_unasked}
use Rattle.naming.proofs.Sleep.{step-wakes, stays_awake, counted-awake}

-- `unfolding m6` below unfolds what stands here: a file's, buffer's and frame's grounds, and what the file holds
pub m6 : (round_on m6_file_lem data_round answer_buffer).0 ≡ done 2
unfolding m6_file_lem one_slave file_ground file_ground_at file_grounds_at first_of both either wrong_size wrong_mark wrong_edition wrong_length wrong_header
    wrong_pending no_operation broadcast_read all_zero part number_of offset_at broken_layout walk_file table_end walk_slaves and_then walk_slave
    good_table_entry walk_directory good_entry file_size ends_at lacks_needed all_have_needed has_needed last_record decode width_of decode_at slaves_at
    slave_at files_at file_at equal_physical_names has_repeat is_among physical_name bytes_in bytes_among round_ground file_grounds short_answer
    frame_ground grounds_on round_by_lem round_of round_in no_firework wrong_length_on length_for write_pending frames.wrong_frame_length wrong_check_on
    no_operation_on broadcast_read_on pending_duty duty_by execution_of is_awake is_unnamed logical_name comparison_value
m6 = rounds.m6 m6_file_lem answer_buffer refl refl (slave_at 2 m6_file_lem 16) refl refl refl refl

pub m7 : (round_on m7_file_lem data_round answer_buffer).0 ≡ done 0
unfolding m6 m7_file_lem
m7 = rounds.m7 m7_file_lem answer_buffer refl refl (slave_at 2 m7_file_lem 16) refl refl refl

pub m8 : get_or (round_on m8_file_lem data_round answer_buffer).1 1 0 ≡ 0x30
unfolding m6 m8_file_lem answers_read addressed addresses has_record record_of
m8 = rounds.m8 m8_file_lem answer_buffer refl 1 0x08 2 refl (slave_at 2 m8_file_lem 16) (slave_at 2 m8_file_lem 20) refl refl refl refl refl

-- 0xB9 and 0x75
pub m8_checks : get_or (round_on m8_file_lem data_round answer_buffer).1 5 0 ≡ 0x31
unfolding m8 check_of exclusive_or bus_byte joined
m8_checks = rounds.read-checks m8_file_lem answer_buffer refl 1 0x08 2 refl (slave_at 2 m8_file_lem 16) (slave_at 2 m8_file_lem 20) refl refl refl refl refl

pub m9 : ((round_on m9_file_lem data_round answer_buffer).0 ≡ done 0) × ((round_on m9_file_lem data_round answer_buffer).1 ≡ data_firework ∷ replicate 63 0xFF)
unfolding m6 m9_file_lem answer_in answer_bytes slot_bytes nobody bus_byte joined
m9 = rounds.m9 m9_file_lem answer_buffer refl 0x3D 1 refl

-- ---- a sleeper

-- the file of M6 with nothing pending and its slave, unnamed, asleep
unfoldable pub sleeper : List ℕ
sleeper =
    0x54 ∷ 0x41 ∷ 0x01 ∷ 0x01 ∷ 0x00 ∷ 0x10 ∷ 0x00 ∷ 0x38 ∷ 0 ∷ 0 ∷ 0 ∷ 0 ∷ 0 ∷ 0 ∷ 0 ∷ 0 ∷
    0x00 ∷ 0x14 ∷ 0x02 ∷ 0x01 ∷
    0x08 ∷ 0x03 ∷ 0x00 ∷ 0x1C ∷ 0x3D ∷ 0x02 ∷ 0x00 ∷ 0x2C ∷
    0 ∷ 0 ∷ 0 ∷ 0 ∷ 0 ∷ 0 ∷ 0 ∷ 0xFF ∷ 0 ∷ 0 ∷ 0 ∷ 0x07 ∷ 0 ∷ 0 ∷ 0 ∷ 0x10 ∷
    0 ∷ 0 ∷ 0 ∷ 0 ∷ 0 ∷ 0 ∷ 0 ∷ 0x07 ∷ 0 ∷ 0 ∷ 0 ∷ 0x10 ∷ []

pub sleeper_accepted : file_ground sleeper ≡ 0
unfolding m6 sleeper
sleeper_accepted = refl

pub sleeper_sleeps : AllAwake sleeper → ⊥
unfolding m6 sleeper
sleeper_sleeps (all_next none rest) = omega (arith, none)

-- the extra read, and the poll after it
unfoldable pub two_steps : List Call
two_steps = plain_step answer_buffer ∷ plain_step answer_buffer ∷ []

pub sleeper_bytes : Bytes sleeper
sleeper_bytes = bytes_below sleeper (unfold sleeper all_below both in refl)

pub one_name : Bytes (5 ∷ [])
one_name = bytes_below (5 ∷ []) (unfold all_below both in refl)

pub one-name-accepted : start_ground (5 ∷ []) ≡ 0
unfolding start_ground names_grounds first_of unfit_name has_repeat is_among both either
one-name-accepted = refl

pub steps-may : permitted (5 ∷ []) (start_on sleeper) (fresh (5 ∷ [])) two_steps ≡ true
unfolding two_steps
steps-may = steps-permitted (5 ∷ []) (start_on sleeper) (fresh (5 ∷ [])) (unfold start_on in refl) (all_next is-step (all_next is-step all_empty))

steps-bytes : All OfBytes two_steps
unfolding two_steps
steps-bytes = all_next of_step (all_next of_step all_empty)

sleeper_demand :
    Demand sleeper (5 ∷ []) two_steps (after_calls (5 ∷ []) (start_on sleeper) (fresh (5 ∷ [])) two_steps).0.file
    (after_calls (5 ∷ []) (start_on sleeper) (fresh (5 ∷ [])) two_steps).1
sleeper_demand = demand_3 sleeper sleeper_bytes sleeper_accepted (5 ∷ []) one_name one-name-accepted two_steps steps-bytes steps-may

-- it is awake after the first step, and stays so
pub first-accepted : step_keeping_ground sleeper (fresh (5 ∷ [])) (5 ∷ []) without answer_buffer ≡ 0
unfolding step_ground run_grounds names_grounds first_of unfit_name unfit_position has_repeat is_among fresh end_at both either
first-accepted =
    step_unasked sleeper (fresh (5 ∷ [])) (5 ∷ []) answer_buffer
    ∙ others_decide sleeper answer_buffer (run_grounds (5 ∷ []) (fresh (5 ∷ []))) sleeper_accepted (omega arith)

sleeper_woken : AllAwake (step_keeping sleeper (fresh (5 ∷ [])) (5 ∷ []) without answer_buffer).3
sleeper_woken =
    step-wakes sleeper (fresh (5 ∷ [])) (5 ∷ []) without answer_buffer sleeper_bytes one_name (unfold fresh in omega arith) first-accepted
    (unfold fresh end_at in refl)

sleeper_stays_awake : AllAwake (after_calls (5 ∷ []) (start_on sleeper) (fresh (5 ∷ [])) two_steps).0.file
unfolding two_steps start_on
sleeper_stays_awake =
    stays_awake sleeper sleeper_bytes sleeper_accepted (5 ∷ []) one_name one-name-accepted two_steps [] steps-bytes steps-may
    (by_first_lem (wakes_by_step first-accepted (unfold fresh end_at in refl)))

-- the run then counts two rounds
pub two-counted : (after_calls (5 ∷ []) (start_on sleeper) (fresh (5 ∷ [])) two_steps).1.counts.rounds ≡ 2
unfolding m6 sleeper two_steps names_in_lem names_of account_of unnamed_among names_held falling insert end_with account_after account_call
    arguments_ground wrong_summary one_round extra pass_on pass free_pass naming_rounds bit_clear go_on_lem
two-counted = sleeper_demand.rounds

sleeper_counted : AllAwake (after_calls (5 ∷ []) (start_on sleeper) (fresh (5 ∷ [])) two_steps).0.file
unfolding two_steps
sleeper_counted =
    counted-awake sleeper sleeper_bytes sleeper_accepted (5 ∷ []) one_name one-name-accepted two_steps [] steps-bytes steps-may
    (λ (z : (after_calls (5 ∷ []) (start_on sleeper) (fresh (5 ∷ [])) two_steps).1.counts.rounds ≡ 0). omega (arith, two-counted, z))
