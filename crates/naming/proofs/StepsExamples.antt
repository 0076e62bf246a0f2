-- Up to so many steps, case by case, computed: refused at once, none asked for, a run that has ended, as many as were asked for, fewer
-- because the run ends, and because 17 comes up in mid-run. On the file whose only slave sleeps, and on those of M6 and M8.
-- Assumes nothing.
use Rattle.std.proofs.Common.{ℕ, ◌≤◌, ◌≡◌, refl, List, [], ◌∷◌, ◌⊎◌, inl, arith, replicate}
use Rattle.file.specs.Rules.Layout.{width_of}
use Rattle.file.specs.Rules.Order.{first_of, both, either}
use Rattle.file.specs.Rules.Results.{Result, refused, done}
use Rattle.file.specs.Rules.Bytes.{number_of, bytes_of, part, all_zero}
use Rattle.file.specs.Rules.Cluster.{is_awake, no_operation, broadcast_read, bytes_among, bytes_in, last_record, has_record, record_of, physical_name, logical_name, new_logical_name, comparison_value, pb2_of}
use Rattle.file.specs.Rules.Changes.{put_among, put_in_slave, with_sleep, with_slaves, with_epoch, with_pending}
use Rattle.file.specs.Rules.Decode.{decode, decode_at, slaves_at, slave_at, files_at, file_at, file_size, offset_at}
use Rattle.file.specs.Rules.Encode.{directory_entry, directory, contents, slave_size, slave_bytes, table_entry, slaves_bytes, table, slaves_place, slaves_size, file_length, header, encode_at, encode}
use Rattle.file.specs.Rules.FileGrounds.{is_among, has_repeat, file_grounds, file_grounds_at, wrong_size, wrong_mark, wrong_edition, wrong_length, wrong_header}
use Rattle.file.specs.Rules.FileGrounds.{wrong_pending, broken_layout, walk_file, table_end, walk_slaves, and_then, walk_slave, good_table_entry, walk_directory, good_entry}
use Rattle.file.specs.Rules.FileGrounds.{ends_at, lacks_needed, all_have_needed, has_needed, equal_physical_names}
use Rattle.frame.specs.Rules.Fireworks.{round_of, round_in}
use Rattle.frame.specs.Rules.Check.{exclusive_or, check_of, address_check, data_check}
use Rattle.frame.specs.Rules.Frames.{frame_of, address_bytes, address_frame, data_frame}
use Rattle.frame.specs.Rules.FrameGrounds as frames
use Rattle.master_slave.specs.Rules.Bus.{joined, bus_byte, anyone, mask_below_lem, sender_mask, slot_bytes, answer_bytes, answer_in, nobody}
use Rattle.master_slave.specs.Rules.Slaves.{with_address, next_epoch, epoch_raised, execution_of, duty_by, pending_duty, is_unnamed, addresses, addressed, answers_read}
use Rattle.master_slave.specs.Rules.Slaves.{read_reply, answers_compare, reply_to, in_slot, sent_to}
use Rattle.master_slave.specs.Rules.Slaves.{replaced, may_write, is_name_record, written, takes_write, takes_name, named, slave_after, slaves_after, falls_asleep, rests_after, rested}
use Rattle.cluster.specs.Rules.RoundGrounds.{short_answer, round_by_lem, write_pending, grounds_on}
use Rattle.cluster.specs.Rules.Round.{effect_of, frame_on, round_ground, round_on}
use Rattle.cluster.specs.Rules.MasterSlave.{address_sent, data_sent, round_sent}
use Rattle.naming.specs.Rules.RunRounds.{sent, at_unnamed}
use Rattle.naming.specs.Rules.Position.{Position, fresh, end_at}
use Rattle.naming.specs.Rules.Pass.{place_of, ask_or_give, question_of, part_of, give_of}
use Rattle.naming.specs.Rules.Run.{at_step, tried, round_at, round_here, is_first}
use Rattle.naming.specs.Rules.Run.{is_repeated, is_needless, pass_over, onto, pass_round, is_extra, next_round}
use Rattle.naming.specs.Rules.Run.{wrote, onward, next_name, move_on, pass_advance, count_raised, advance}
use Rattle.naming.specs.Rules.RunGrounds.{unfit_name, names_grounds, unfit_position, run_grounds}
use Rattle.naming.specs.Rules.Step.{ended, is_reply, made_by_lem, step_ground, step_made, step_on}
use Rattle.naming.specs.Rules.Steps.{is_made_lem, mask_in, begun, next_step, with_step, steps_from, StepsDone, steps, steps_on}
use Rattle.naming.specs.Claims.Files.{one_slave, m6_file_lem, m8_file_lem}
use Rattle.naming.specs.Claims.Cases.{answer_buffer}
use Rattle.naming.specs.Claims.Steps.{each_step, answer_after, NumberAnswered, Told}
use Rattle.naming.proofs.Witnesses.{sleeper, sleeper_bytes, one_name}
use Rattle.naming.proofs.StepsInARow.{steps-answered, steps-told, no_other-told, stops_by_17, stops-at-first}

abbrev five : List ℕ
five = 5 ∷ []

-- a running position by its step and its counts
abbrev at : ℕ → ℕ → ℕ → Position
at step rounds comparisons =
    record { end = 0; place = record { index = 0; step = step; value = 7 }; counts = record { rounds = rounds; comparisons = comparisons }; halves = record { high = 0; low = 7 } }

-- one at the name behind it, with that end
abbrev behind : ℕ → ℕ → Position
behind end rounds = record { end = end; place = record { index = 1; step = 0; value = 7 }; counts = record { rounds = rounds; comparisons = 65 }; halves = record { high = 0; low = 7 } }

-- answer and position
abbrev told : Result StepsDone × Position × List ℕ × List ℕ → Result StepsDone × Position
told s = (s.0, s.1)

-- The definitions are unfolded in steps: what a step names, and what it unfolds, the next unfolds with it.

-- ---- refused at once, whatever k: a file of no bytes, a buffer of no bytes, the name 0, a name twice, and 17 by step, rounds and comparisons

no_file : (k : ℕ) → steps_on k [] (fresh five) five answer_buffer ≡ (refused 1, fresh five, answer_buffer, [])
unfolding steps_on step_ground file_grounds file_grounds_at first_of either wrong_size width_of
no_file k = refl

short : (k : ℕ) → steps_on k sleeper (fresh five) five [] ≡ (refused 9, fresh five, [], sleeper)
unfolding no_file sleeper both wrong_mark wrong_edition wrong_length wrong_header wrong_pending no_operation broadcast_read all_zero part number_of
    offset_at broken_layout walk_file table_end walk_slaves and_then walk_slave good_table_entry walk_directory good_entry file_size ends_at lacks_needed
    all_have_needed has_needed last_record decode_at slaves_at slave_at files_at file_at equal_physical_names has_repeat is_among physical_name bytes_in
    bytes_among short_answer
short k = refl

unfit-name : (k : ℕ) → steps_on k sleeper (fresh five) (5 ∷ 0 ∷ []) answer_buffer ≡ (refused 15, fresh five, answer_buffer, sleeper)
unfolding short run_grounds names_grounds unfit_name
unfit-name k = refl

name-twice : (k : ℕ) → steps_on k sleeper (fresh five) (5 ∷ 5 ∷ []) answer_buffer ≡ (refused 16, fresh five, answer_buffer, sleeper)
unfolding unfit-name
name-twice k = refl

step_17 : (k : ℕ) → steps_on k sleeper (at 200 9 65) five answer_buffer ≡ (refused 17, at 200 9 65, answer_buffer, sleeper)
unfolding unfit-name unfit_position
step_17 k = refl

rounds_17 : (k : ℕ) → steps_on k sleeper (at 196 1000000 65) five answer_buffer ≡ (refused 17, at 196 1000000 65, answer_buffer, sleeper)
unfolding step_17
rounds_17 k = refl

comparisons_17 : (k : ℕ) → steps_on k sleeper (at 196 9 1000000) five answer_buffer ≡ (refused 17, at 196 9 1000000, answer_buffer, sleeper)
unfolding step_17
comparisons_17 k = refl

-- ---- none: none asked for, and a run that has ended

none-asked : steps_on 0 sleeper (at 199 9 65) five answer_buffer ≡ (done (steps 0 0), at 199 9 65, answer_buffer, sleeper)
unfolding step_17 steps_from begun
none-asked = refl

ended_already : steps_on 3 sleeper (behind 2 9) five answer_buffer ≡ (done (steps 0 0), behind 2 9, answer_buffer, sleeper)
unfolding none-asked next_step step_on is_made_lem
ended_already = refl

-- ---- as many as were asked for. The extra read, at which the slave sleeps, and the poll; the two writes, and the comparison with 0, which it
-- answers in slot 1; one write more, which nobody answers. The mask is the last one's

after : ℕ → ℕ → ℕ → ℕ → Position
after step rounds comparisons high =
    record { end = 0; place = record { index = 0; step = step; value = 0 }; counts = record { rounds = rounds; comparisons = comparisons }; halves = record { high = high; low = 0 } }

encoded_again : encode (decode sleeper) ≡ sleeper
unfolding ended_already decode encode encode_at header file_length slaves_place slaves_size slave_size contents bytes_of table table_entry slaves_bytes slave_bytes directory directory_entry
encoded_again = refl

address_carried : (round_on sleeper (address_sent (decode sleeper) (sent (next_round five (fresh five)))) answer_buffer).0 ≡ done 0
unfolding encoded_again fresh end_at next_round is_extra sent address_sent address_frame address_bytes frame_of address_check check_of exclusive_or
    pb2_of round_on round_ground grounds_on round_by_lem round_of round_in frames.wrong_frame_length frames.wrong_check frame_on effect_of next_epoch
    with_address with_epoch with_pending sender_mask mask_below_lem anyone nobody
address_carried = refl

one-step : told (steps_on 1 sleeper (fresh five) five answer_buffer) ≡ (done (steps 1 0), after 0 1 0 0)
unfolding address_carried after step_made is_reply made_by_lem count_raised advance round_sent data_sent write_pending epoch_raised pending_duty duty_by
    execution_of sent_to reply_to in_slot answers_read addressed addresses is_awake is_unnamed logical_name has_record slaves_after slave_after
    with_slaves rested rests_after falls_asleep with_sleep answer_in answer_bytes slot_bytes bus_byte joined with_step mask_in
one-step = refl

two_steps : told (steps_on 2 sleeper (fresh five) five answer_buffer) ≡ (done (steps 2 0), after 1 2 0 0)
unfolding one-step pass_advance move_on onward wrote pass_round round_here onto pass_over is_needless is_first is_repeated round_at place_of ask_or_give question_of
two_steps = refl

five-steps :
    steps_on 5 sleeper (fresh five) five answer_buffer ≡ (
      done (steps 5 2),
      after 4 5 1 0,
      0x49 ∷ 0x00 ∷ replicate 62 0xFF,
      0x54 ∷ 0x41 ∷ 0x01 ∷ 0x01 ∷ 0x00 ∷ 0x10 ∷ 0x00 ∷ 0x38 ∷ 0x0A ∷ 0x01 ∷ 0xFF ∷ 0x22 ∷ 0x02 ∷ 0 ∷ 0 ∷ 0 ∷
          0x00 ∷ 0x14 ∷ 0x02 ∷ 0x00 ∷
          0x08 ∷ 0x03 ∷ 0x00 ∷ 0x1C ∷ 0x3D ∷ 0x02 ∷ 0x00 ∷ 0x2C ∷
          0 ∷ 0 ∷ 0 ∷ 0 ∷ 0 ∷ 0 ∷ 0 ∷ 0xFF ∷ 0 ∷ 0 ∷ 0 ∷ 0 ∷ 0 ∷ 0 ∷ 0 ∷ 0 ∷
          0 ∷ 0 ∷ 0 ∷ 0 ∷ 0 ∷ 0 ∷ 0 ∷ 0x07 ∷ 0 ∷ 0 ∷ 0 ∷ 0x10 ∷ [],
    )
unfolding two_steps part_of tried at_unnamed data_frame data_check takes_write may_write written is_name_record replaced put_in_slave put_among answers_compare comparison_value record_of
five-steps = refl

six_steps : told (steps_on 6 sleeper (fresh five) five answer_buffer) ≡ (done (steps 6 0), after 6 6 1 0x80000000)
unfolding five-steps at_step
six_steps = refl

-- ---- fewer because the run ends: by a name that two slaves hold, who answer in slots 1 to 5, and by the last round of a pass; the millionth
-- round is no ground then

name-taken :
    told (steps_on 3 m8_file_lem (fresh (1 ∷ [])) (1 ∷ []) answer_buffer) ≡
    (done (steps 2 62), record { end = 2; place = record { index = 1; step = 0; value = 0 }; counts = record { rounds = 2; comparisons = 0 }; halves = record { high = 0; low = 0 } })
unfolding six_steps m8_file_lem read_reply next_name
name-taken = refl

run_ends : told (steps_on 3 sleeper (at 199 999999 65) five answer_buffer) ≡ (done (steps 1 0), behind 2 1000000)
unfolding name-taken give_of takes_name named new_logical_name
run_ends = refl

ends-after : answer_after five 1 sleeper (at 199 999999 65) answer_buffer ≡ done ended
unfolding run_ends each_step answer_after
ends-after = refl

-- ---- fewer because 17 comes up in mid-run: by the rounds, after one step and after two, and by the comparisons, at a comparison that the
-- slave answers

mid_run_17 : told (steps_on 3 sleeper (at 196 999999 65) five answer_buffer) ≡ (done (steps 1 0), at 199 1000000 65)
unfolding ends-after
mid_run_17 = refl

two_then_17 : told (steps_on 5 sleeper (at 196 999998 65) (5 ∷ 7 ∷ []) answer_buffer) ≡ (done (steps 2 0), behind 0 1000000)
unfolding ends-after
two_then_17 = refl

compared_17 : told (steps_on 3 m6_file_lem (at 195 9 999999) five answer_buffer) ≡ (done (steps 1 2), at 196 10 1000000)
unfolding ends-after m6_file_lem one_slave
compared_17 = refl

-- the step itself is refused by it, and so is each one after it
refused_17 : answer_after five 1 sleeper (at 196 999999 65) answer_buffer ≡ refused 17
unfolding ends-after
refused_17 = refl

refused_again : answer_after five 2 sleeper (at 196 999999 65) answer_buffer ≡ refused 17
unfolding ends-after
refused_again = refl

compared-refused : answer_after five 1 m6_file_lem (at 195 9 999999) answer_buffer ≡ refused 17
unfolding compared_17
compared-refused = refl

-- ---- what the claims ask for is met

mid_run-none : step_ground sleeper (at 196 999999 65) five answer_buffer ≡ 0
unfolding step_17
mid_run-none = refl

mid_run-answered : NumberAnswered 3 sleeper (at 196 999999 65) five answer_buffer
mid_run-answered = (steps-answered 3 sleeper (at 196 999999 65) five answer_buffer).0 mid_run-none

mid_run-is : (steps_on 3 sleeper (at 196 999999 65) five answer_buffer).0 ≡ done (steps 1 0)
unfolding ends-after
mid_run-is = refl

told_17 : Told 3 sleeper (at 196 999999 65) five answer_buffer 1 0
told_17 = steps-told 3 sleeper (at 196 999999 65) five answer_buffer 1 0 mid_run-is

told_alone : (steps_on 3 sleeper (at 196 999999 65) five answer_buffer).0 ≡ done (steps 1 0)
told_alone = no_other-told 3 sleeper (at 196 999999 65) five answer_buffer 1 0 mid_run-none told_17

reason_17 : (answer_after five 1 sleeper (at 196 999999 65) answer_buffer ≡ refused 17) ⊎ (answer_after five 1 sleeper (at 196 999999 65) answer_buffer ≡ done ended)
reason_17 = stops_by_17 3 sleeper (at 196 999999 65) five answer_buffer 1 0 sleeper_bytes one_name (omega arith) mid_run-is (omega arith)

first_17 : 1 ≤ 1
first_17 = stops-at-first 3 sleeper (at 196 999999 65) five answer_buffer 1 0 1 mid_run-is (inl refused_17)
