-- The summary, computed: each way in which one does not match, what a call writes back, the filling and the question; and files and calls
-- that meet what the claims on it ask.
-- Assumes nothing.
use Rattle.std.proofs.Common.{ℕ, arith, ◌≡◌, refl, sym, ◌∙◌, ◌≢◌, List, [], ◌∷◌, map, true, false, length}
use Rattle.file.specs.Rules.Layout.{width_of}
use Rattle.file.specs.Rules.Order.{first_of, both, either}
use Rattle.file.specs.Rules.Results.{refused, done}
use Rattle.file.specs.Rules.Bytes.{All, Bytes, all_empty, all_next, number_of, part, all_zero}
use Rattle.file.specs.Rules.Cluster.{is_awake, bytes_among, bytes_in, last_record, physical_name, new_logical_name, logical_name, logical_names, comparison_value, pb2_of, no_operation, broadcast_read}
use Rattle.file.specs.Rules.Decode.{decode, decode_at, slaves_at, slave_at, files_at, file_at, file_size, offset_at}
use Rattle.file.specs.Rules.FileGrounds.{is_among, has_repeat, file_grounds, file_ground, file_ground_at, file_grounds_at, wrong_size, wrong_mark, wrong_edition}
use Rattle.file.specs.Rules.FileGrounds.{wrong_length, wrong_header, wrong_pending, broken_layout, walk_file, table_end, walk_slaves, and_then, walk_slave, good_table_entry}
use Rattle.file.specs.Rules.FileGrounds.{walk_directory, good_entry, ends_at, lacks_needed, all_have_needed, has_needed, equal_physical_names}
use Rattle.file.proofs.Bytes.{all_first}
use Rattle.frame.specs.Rules.Fireworks.{Round, multipartner, msd, no_round, round_in, round_of}
use Rattle.master_slave.specs.Rules.Slaves.{addressed, addresses, is_unnamed, takes_name}
use Rattle.cluster.specs.Rules.RoundGrounds.{write_pending, round_by_lem}
use Rattle.cluster.specs.Rules.Round.{round_ground, round_on}
use Rattle.cluster.specs.Rules.Summary.{Summary, without, kept, alike, wrong_summary, kept_for, round_keeping_ground, round_keeping, fill_ground, fill_on, nobody, at, first_from, holder_in}
use Rattle.cluster.specs.Claims.Cases.{data_round}
use Rattle.cluster.specs.Claims.Renaming.{Baptizes, names_of, name_after}
use Rattle.cluster.specs.Claims.Summary.{Matches, given_none, given_names, FirstAt}
use Rattle.cluster.proofs.Holders.{question_is-first}
use Rattle.cluster.proofs.Rounds.{buffer_decides, others_decide}
use Rattle.cluster.proofs.Sent.{alone_round, alone_fits, round-fits}
use Rattle.cluster.proofs.Renaming.{baptizing_renames}
use Rattle.cluster.proofs.Keeping.{rounds_in_order, matched_ground, keeping_refused, keeping-accepted, still_matches_baptized}
use Rattle.naming.specs.Rules.Position.{Position, fresh}
use Rattle.naming.specs.Rules.Run.{is_extra, next_round, pass_round, round_here, onto}
use Rattle.naming.specs.Rules.RunGrounds.{run_grounds, names_grounds, unfit_name, unfit_position}
use Rattle.naming.specs.Rules.Pass.{place_of, ask_or_give, give_of}
use Rattle.naming.specs.Rules.Run.{pass_over, is_needless, is_first, is_repeated, round_at}
use Rattle.naming.specs.Rules.RunGrounds.{start_ground}
use Rattle.naming.specs.Rules.RunRounds.{RunRound}
use Rattle.naming.specs.Rules.Step.{step_ground, step_on, step_keeping_ground, step_keeping}
use Rattle.naming.specs.Rules.Account.{Call, step}
use Rattle.naming.specs.Claims.Demand.{start_on, permitted, of_step}
use Rattle.naming.specs.Claims.PermittedRounds.{PermittedFrom, is-step, no_frames, one_more_lem}
use Rattle.naming.specs.Claims.Renaming.{StepBaptizes}
use Rattle.naming.specs.Claims.Files.{one_slave, m10_file}
use Rattle.naming.specs.Claims.Cases.{answer_buffer}
use Rattle.naming.specs.Claims.Summary.{AnyCall, a_step, a_frame, WellTyped, typed_step, typed_frame, ListedCall, given, not_given, listed_calls}
use Rattle.naming.specs.Claims.Summary.{BaptizesNobody, in_step_lem, in_frame_lem, GivenToBaptize, no_calls, next_given, next_not_given, filled_from, AnswersAsFile}
use Rattle.naming.specs.Claims.Summary.{GivenMatching, none_given, step_given_lem, frame_given, as_plain}
use Rattle.naming.proofs.Examples.{m10_accepted}
use Rattle.file.proofs.BytesBelow.{all_below, bytes_below}
use Rattle.naming.proofs.Lists.{steps-permitted}
use Rattle.naming.proofs.PermittedRounds.{rounds-fit, each-multipartner}
use Rattle.naming.proofs.Unasked.{plain_step, plain_frame, given_makes_no_difference}
use Rattle.naming.proofs.Renaming.{baptizing-step_renames}
use Rattle.naming.proofs.StepKeeping.{matched_step, step-keeping-accepted}
use Rattle.naming.proofs.Summaries.{steps_in_order, filled_and_kept}

-- ---- 24: a count above the slice's length, another name, a name too few or too many; equal names, with a byte behind them, and none

count-above : wrong_summary (kept 3 (1 ∷ 2 ∷ [])) (1 ∷ 2 ∷ []) ≡ true
unfolding wrong_summary alike both either
count-above = refl

other_name : wrong_summary (kept 2 (1 ∷ 3 ∷ [])) (1 ∷ 2 ∷ []) ≡ true
unfolding wrong_summary alike both either
other_name = refl

shorter_count : wrong_summary (kept 1 (1 ∷ 2 ∷ [])) (1 ∷ 2 ∷ []) ≡ true
unfolding wrong_summary alike both either
shorter_count = refl

longer_count : wrong_summary (kept 3 (1 ∷ 2 ∷ 0 ∷ [])) (1 ∷ 2 ∷ []) ≡ true
unfolding wrong_summary alike both either
longer_count = refl

equal-names : (wrong_summary (kept 2 (1 ∷ 2 ∷ [])) (1 ∷ 2 ∷ []) ≡ false) × (wrong_summary (kept 2 (1 ∷ 2 ∷ 9 ∷ [])) (1 ∷ 2 ∷ []) ≡ false)
unfolding wrong_summary alike both either
equal-names = (refl, refl)

no_names : (wrong_summary (kept 0 []) [] ≡ false) × (wrong_summary (kept 0 (9 ∷ [])) [] ≡ false) × (wrong_summary without (1 ∷ []) ≡ false)
unfolding wrong_summary alike both either
no_names = (refl, refl, refl)

-- ---- what a call writes back: the names, the byte behind them as it was

names-back : kept_for (kept 2 (0xFF ∷ 0xFF ∷ 9 ∷ [])) (1 ∷ 0xFF ∷ []) ≡ kept 2 (1 ∷ 0xFF ∷ 9 ∷ [])
unfolding kept_for
names-back = refl

-- ---- the question: the first of two holders, one further on, nobody, 0xFF asked for, a name behind the count, no names; a count above the
-- slice's length

first_of_two : holder_in 5 3 (4 ∷ 5 ∷ 5 ∷ []) ≡ done (at 1)
unfolding holder_in first_from
first_of_two = refl

at_0 : holder_in 4 3 (4 ∷ 5 ∷ 5 ∷ []) ≡ done (at 0)
unfolding holder_in first_from
at_0 = refl

nobody-holds : holder_in 6 3 (4 ∷ 5 ∷ 5 ∷ []) ≡ done nobody
unfolding holder_in first_from
nobody-holds = refl

unnamed-asked : holder_in 0xFF 3 (4 ∷ 0xFF ∷ 0xFF ∷ []) ≡ done (at 1)
unfolding holder_in first_from
unnamed-asked = refl

behind-count : holder_in 5 1 (4 ∷ 5 ∷ []) ≡ done nobody
unfolding holder_in first_from
behind-count = refl

nobody-there : holder_in 5 0 [] ≡ done nobody
unfolding holder_in first_from
nobody-there = refl

asked-above : holder_in 4 3 (4 ∷ 5 ∷ []) ≡ refused 24
unfolding holder_in
asked-above = refl

-- by the claim on every summary: the first of the counted names, and a name that stands behind them alone
counted-first : FirstAt (4 ∷ 5 ∷ 5 ∷ []) 5 1
unfolding first_of_two
counted-first = ((question_is-first 5 3 (4 ∷ 5 ∷ 5 ∷ 6 ∷ []) (omega arith)).place 1).0 refl

counted_none : All (λ (n : ℕ). n ≢ 6) (4 ∷ 5 ∷ 5 ∷ [])
unfolding first_of_two
counted_none = (question_is-first 6 3 (4 ∷ 5 ∷ 5 ∷ 6 ∷ []) (omega arith)).none.0 refl

-- ---- files

-- one slave without a name, and the execute of record 1 of 0x08 pending at 0xFF
baptized : List ℕ
baptized = one_slave 0x22 1 0x10

-- `unfolding baptized_accepted` below unfolds what stands here: a file's grounds
baptized_accepted : file_ground baptized ≡ 0
unfolding baptized one_slave file_ground file_ground_at file_grounds_at first_of both either wrong_size wrong_mark wrong_edition wrong_length
    wrong_header wrong_pending no_operation broadcast_read all_zero part number_of offset_at broken_layout walk_file table_end walk_slaves and_then
    walk_slave good_table_entry walk_directory good_entry file_size ends_at lacks_needed all_have_needed has_needed last_record decode width_of decode_at
    slaves_at slave_at files_at file_at equal_physical_names has_repeat is_among physical_name bytes_in bytes_among
baptized_accepted = refl

-- ---- the filling from the file of M10, whose two slaves have no name: room for two and a byte more, for two, and for one

m10_names : names_of m10_file ≡ 0xFF ∷ 0xFF ∷ []
unfolding m10_file logical_names decode width_of decode_at slaves_at slave_at files_at file_at file_size offset_at part number_of logical_name bytes_in bytes_among
m10_names = refl

m10_count : length (decode m10_file).slaves ≡ 2
unfolding m10_names
m10_count = refl

room_and_more : fill_on m10_file (0 ∷ 0 ∷ 9 ∷ []) ≡ (done 2, 0xFF ∷ 0xFF ∷ 9 ∷ [])
unfolding baptized_accepted m10_names fill_on fill_ground file_grounds
room_and_more = refl

room : fill_on m10_file (0 ∷ 0 ∷ []) ≡ (done 2, 0xFF ∷ 0xFF ∷ [])
unfolding baptized_accepted m10_names fill_on fill_ground file_grounds
room = refl

room_for_one : fill_on m10_file (0 ∷ []) ≡ (refused 24, 0 ∷ [])
unfolding baptized_accepted m10_names fill_on fill_ground file_grounds
room_for_one = refl

-- a file that is none, before the slice is looked at
no_file : fill_on [] [] ≡ (refused 1, [])
unfolding fill_on fill_ground file_grounds width_of file_grounds_at first_of wrong_size either
no_file = refl

-- ---- 24 after the file's grounds, before 9 and 10

m10_matches : Matches m10_file (kept 2 (0xFF ∷ 0xFF ∷ 9 ∷ []))
m10_matches = given_names {count = 2} {slice = 0xFF ∷ 0xFF ∷ 9 ∷ []} (omega arith) (sym m10_names)

m10_no_match : Matches m10_file (kept 2 (0xFF ∷ 1 ∷ [])) → ⊥
m10_no_match (given_names few same) = let other : ◌≡◌ {A = List ℕ} (0xFF ∷ 1 ∷ []) (0xFF ∷ 0xFF ∷ []) = same ∙ m10_names in let z : ◌≡◌ {A = ℕ} 1 0xFF = cc in omega arith

frame_and_summary_wrong : round_keeping_ground m10_file (kept 2 (0xFF ∷ 1 ∷ [])) [] [] ≡ 24
frame_and_summary_wrong = (rounds_in_order m10_file (kept 2 (0xFF ∷ 1 ∷ [])) [] []).of_summary m10_accepted m10_no_match

-- which leaves the summary as it was, not made to match
nothing-back : round_keeping m10_file (kept 2 (0xFF ∷ 1 ∷ [])) [] [] ≡ (refused 24, [], m10_file, kept 2 (0xFF ∷ 1 ∷ []))
nothing-back =
    keeping_refused m10_file (kept 2 (0xFF ∷ 1 ∷ [])) [] [] (λ z. omega (arith, sym frame_and_summary_wrong ∙ z)) ∙ rw frame_and_summary_wrong

frame_wrong : round_keeping_ground m10_file (kept 2 (0xFF ∷ 0xFF ∷ 9 ∷ [])) [] [] ≡ 9
unfolding round_ground
frame_wrong =
    (rounds_in_order m10_file (kept 2 (0xFF ∷ 0xFF ∷ 9 ∷ [])) [] []).of_round m10_matches ∙ buffer_decides m10_file [] _ m10_accepted (omega arith)

all_wrong : round_keeping_ground [] (kept 1 []) [] [] ≡ 1
unfolding round_keeping_ground file_grounds width_of file_grounds_at first_of wrong_size either
all_wrong = refl

-- 24 of a step too, also where the run has ended
ended_and_wrong : step_keeping_ground m10_file (fresh []) [] (kept 2 (0xFF ∷ 1 ∷ [])) [] ≡ 24
ended_and_wrong = (steps_in_order m10_file (fresh []) [] (kept 2 (0xFF ∷ 1 ∷ [])) []).of_summary m10_accepted m10_no_match

-- ---- a baptizing: the one slave, without a name, takes its new logical name, 0x00. The summary that the round is given has it, one that it
-- is not given no longer matches.

baptized_names : names_of baptized ≡ 0xFF ∷ []
unfolding m10_names baptized one_slave
baptized_names = refl

baptized_bytes : Bytes baptized
baptized_bytes = bytes_below baptized (unfold baptized one_slave all_below both in refl)

msd-bytes : Bytes data_round
msd-bytes = bytes_below data_round (unfold all_below both in refl)

baptizes : Baptizes baptized data_round answer_buffer 0xFF
unfolding baptized one_slave decode width_of decode_at pb2_of write_pending both
baptizes =
    record {
      is_msd = alone_round;
      accepted = round-fits baptized data_round answer_buffer baptized_accepted (omega arith) (alone_fits (decode baptized) refl);
      pending = record { is_flag = refl; is_name = refl; is_pb2 = refl; is_pb3 = refl };
    }

taken : map (name_after 0xFF) (decode baptized).slaves ≡ 0x00 ∷ []
unfolding baptized one_slave decode width_of decode_at slaves_at slave_at files_at file_at file_size offset_at part number_of name_after takes_name
    addressed addresses is_awake is_unnamed physical_name comparison_value new_logical_name logical_name bytes_in bytes_among both either
taken = refl

names-after : names_of (round_on baptized data_round answer_buffer).2 ≡ 0x00 ∷ []
names-after = baptizing_renames baptized data_round answer_buffer 0xFF baptized_bytes msd-bytes baptizes ∙ taken

matches-before : Matches baptized (kept 1 (0xFF ∷ 9 ∷ []))
matches-before = given_names {count = 1} {slice = 0xFF ∷ 9 ∷ []} (omega arith) (sym baptized_names)

kept_through : (round_keeping baptized (kept 1 (0xFF ∷ 9 ∷ [])) data_round answer_buffer).3 ≡ kept 1 (0x00 ∷ 9 ∷ [])
kept_through =
    rw (keeping-accepted baptized (kept 1 (0xFF ∷ 9 ∷ [])) data_round answer_buffer none, names-after) (unfold kept_for in refl)
  where
    none : round_keeping_ground baptized (kept 1 (0xFF ∷ 9 ∷ [])) data_round answer_buffer ≡ 0
    none = matched_ground baptized (kept 1 (0xFF ∷ 9 ∷ [])) data_round answer_buffer matches-before ∙ baptizes.accepted

not-given : Matches (round_on baptized data_round answer_buffer).2 (kept 1 (0xFF ∷ 9 ∷ [])) → ⊥
not-given (given_names few same) = let other : ◌≡◌ {A = List ℕ} (0xFF ∷ []) (0x00 ∷ []) = same ∙ names-after in let z : ◌≡◌ {A = ℕ} 0xFF 0x00 = cc in omega arith

-- the comparison value is another than the slave's physical name: the baptizing renames nobody, and a summary that the round is not given
-- matches still

unfound : List ℕ
unfound = one_slave 0x22 1 0x11

unfound_accepted : file_ground unfound ≡ 0
unfolding unfound baptized_accepted
unfound_accepted = refl

unfound_baptizes : Baptizes unfound data_round answer_buffer 0xFF
unfolding unfound one_slave decode width_of decode_at pb2_of write_pending both
unfound_baptizes =
    record {
      is_msd = alone_round;
      accepted = round-fits unfound data_round answer_buffer unfound_accepted (omega arith) (alone_fits (decode unfound) refl);
      pending = record { is_flag = refl; is_name = refl; is_pb2 = refl; is_pb3 = refl };
    }

unfound_names : names_of unfound ≡ 0xFF ∷ []
unfolding m10_names unfound one_slave
unfound_names = refl

none-taken : map (name_after 0xFF) (decode unfound).slaves ≡ 0xFF ∷ []
unfolding taken unfound
none-taken = refl

nobody-renamed : Matches (round_on unfound data_round answer_buffer).2 (kept 1 (0xFF ∷ 9 ∷ []))
nobody-renamed =
    (still_matches_baptized unfound data_round answer_buffer 0xFF 1 (0xFF ∷ 9 ∷ []) (bytes_below unfound (unfold unfound one_slave all_below both in refl))
    msd-bytes unfound_baptizes (given_names {count = 1} {slice = 0xFF ∷ 9 ∷ []} (omega arith) (sym unfound_names))).1 (none-taken ∙ sym unfound_names)

-- ---- a step that baptizes: the last of a pass for name 1, its value found

last_of_pass : Position
last_of_pass = record { end = 0; place = record { index = 0; step = 199; value = 0x10 }; counts = record { rounds = 136; comparisons = 65 }; halves = record { high = 7; low = 0x10 } }

pass_fits : first_of (run_grounds (1 ∷ []) last_of_pass) ≡ 0
unfolding last_of_pass run_grounds names_grounds first_of unfit_name unfit_position has_repeat is_among both either
pass_fits = refl

step_baptizes : (file : List ℕ) → file_ground file ≡ 0 → StepBaptizes file last_of_pass (1 ∷ []) answer_buffer
unfolding step_ground
step_baptizes file is =
    record {
      accepted = others_decide file answer_buffer (run_grounds (1 ∷ []) last_of_pass) is (omega arith) ∙ pass_fits;
      runs = unfold last_of_pass in refl;
      executes = unfold last_of_pass next_round is_extra pass_round round_here onto pass_over is_needless is_first is_repeated both round_at place_of ask_or_give give_of in refl;
    }

-- the step gives the one slave its name, and the summary has it
step-names-after : names_of (step_on baptized last_of_pass (1 ∷ []) answer_buffer).3 ≡ 0x00 ∷ []
step-names-after =
    baptizing-step_renames baptized last_of_pass (1 ∷ []) answer_buffer baptized_bytes (step_baptizes baptized baptized_accepted) ∙ taken

step-kept_through : (step_keeping baptized last_of_pass (1 ∷ []) (kept 1 (0xFF ∷ 9 ∷ [])) answer_buffer).4 ≡ kept 1 (0x00 ∷ 9 ∷ [])
step-kept_through =
    rw (step-keeping-accepted baptized last_of_pass (1 ∷ []) (kept 1 (0xFF ∷ 9 ∷ [])) answer_buffer none, step-names-after) (unfold kept_for in refl)
  where
    none : step_keeping_ground baptized last_of_pass (1 ∷ []) (kept 1 (0xFF ∷ 9 ∷ [])) answer_buffer ≡ 0
    none =
        matched_step baptized last_of_pass (1 ∷ []) (kept 1 (0xFF ∷ 9 ∷ [])) answer_buffer matches-before
        ∙ (step_baptizes baptized baptized_accepted).accepted

-- ---- from the filling to the question: a step that is given the summary, a step, a multipartner round and a refused frame that are not, and
-- a round that is

two-names : List ℕ
two-names = 1 ∷ 2 ∷ []

m10_step : AnyCall
m10_step = a_step (fresh two-names) two-names answer_buffer

m10_round : AnyCall
m10_round = a_frame (0x78 ∷ []) answer_buffer

m10_calls : List ListedCall
m10_calls = given m10_step ∷ not_given m10_step ∷ not_given m10_round ∷ not_given (a_frame [] answer_buffer) ∷ given m10_round ∷ []

typed-step : WellTyped m10_step
unfolding m10_step two-names
typed-step = typed_step {p = fresh (1 ∷ 2 ∷ [])} (bytes_below (1 ∷ 2 ∷ []) (unfold all_below both in refl)) (unfold fresh in omega arith)

typed_round : WellTyped m10_round
unfolding m10_round
typed_round = typed_frame (bytes_below (0x78 ∷ []) (unfold all_below both in refl))

-- a fresh run begins with a read
polls : next_round (1 ∷ 2 ∷ []) (fresh (1 ∷ 2 ∷ [])) ≡ RunRound.poll 1
unfolding fresh next_round is_extra
polls = refl

no_baptism : (file : List ℕ) → BaptizesNobody file m10_step
unfolding m10_step two-names
no_baptism file =
    in_step_lem (λ (b : StepBaptizes file (fresh (1 ∷ 2 ∷ [])) (1 ∷ 2 ∷ []) answer_buffer).
    let other : ◌≡◌ {A = RunRound} (RunRound.poll 1) RunRound.baptize = sym polls ∙ b.executes in let z : ◌≡◌ {A = ℕ} 0 1 = cc in omega arith)

no-msd : (file : List ℕ) → BaptizesNobody file m10_round
unfolding m10_round round_by_lem round_of round_in
no-msd file =
    in_frame_lem (λ (name : ℕ) (b : Baptizes file (0x78 ∷ []) answer_buffer name).
    let is : ◌≡◌ {A = Round} (multipartner 0) msd = b.is_msd in let z : ◌≡◌ {A = ℕ} 0 1 = cc in omega arith)

no_frame : (file : List ℕ) → BaptizesNobody file (a_frame [] answer_buffer)
unfolding round_by_lem
no_frame file = in_frame_lem (λ (name : ℕ) (b : Baptizes file [] answer_buffer name).
    let is : ◌≡◌ {A = Round} no_round msd = b.is_msd in let z : ◌≡◌ {A = ℕ} 0 1 = cc in omega arith)

m10_through : (file : List ℕ) (summary : Summary) → GivenToBaptize file summary m10_calls
unfolding m10_calls
m10_through file summary =
    next_given typed-step
    (next_not_given typed-step (no_baptism _)
    (next_not_given typed_round (no-msd _) (next_not_given (typed_frame all_empty) (no_frame _) (next_given typed_round no_calls))))

m10-kept :
    AnswersAsFile (listed_calls m10_file (filled_from m10_file (0 ∷ 0 ∷ 9 ∷ [])) m10_calls).0
    (listed_calls m10_file (filled_from m10_file (0 ∷ 0 ∷ 9 ∷ [])) m10_calls).1 (length (decode m10_file).slaves)
m10-kept =
    filled_and_kept m10_file (0 ∷ 0 ∷ 9 ∷ []) m10_calls (bytes_below m10_file (unfold m10_file all_below both in refl)) m10_accepted
    (rw m10_count (omega arith)) (m10_through m10_file (filled_from m10_file (0 ∷ 0 ∷ 9 ∷ [])))

-- ---- a list of demand 3's calls, a step given a summary and a round given none: it is permitted as the same list without is

mixed_calls : List Call
mixed_calls = step (record { summary = kept 2 (0xFF ∷ 0xFF ∷ 9 ∷ []); buffer = answer_buffer }) ∷ plain_frame (0x78 ∷ []) answer_buffer ∷ []

mixed : GivenMatching (1 ∷ 2 ∷ []) (start_on m10_file) (fresh (1 ∷ 2 ∷ [])) mixed_calls
unfolding mixed_calls start_on
mixed = step_given_lem m10_matches (frame_given given_none none_given)

step_from : PermittedFrom m10_file (1 ∷ 2 ∷ []) (plain_step answer_buffer ∷ [])
unfolding start_ground names_grounds first_of unfit_name has_repeat is_among both either
step_from =
    record {
      file_bytes = bytes_below m10_file (unfold m10_file all_below in refl);
      accepted = m10_accepted;
      name_bytes = bytes_below (1 ∷ 2 ∷ []) (unfold all_below in refl);
      start = refl;
      call_bytes = all_next of_step all_empty;
      may = steps-permitted (1 ∷ 2 ∷ []) (start_on m10_file) (fresh (1 ∷ 2 ∷ [])) (unfold start_on in refl) (all_next is-step all_empty);
    }

mixed_permitted : permitted (1 ∷ 2 ∷ []) (start_on m10_file) (fresh (1 ∷ 2 ∷ [])) mixed_calls ≡ true
mixed_permitted =
    (given_makes_no_difference (1 ∷ 2 ∷ []) (start_on m10_file) (fresh (1 ∷ 2 ∷ [])) mixed_calls mixed).1 ∙ unfold mixed_calls as_plain in plain
  where
    plain : permitted (1 ∷ 2 ∷ []) (start_on m10_file) (fresh (1 ∷ 2 ∷ [])) (plain_step answer_buffer ∷ plain_frame (0x78 ∷ []) answer_buffer ∷ []) ≡ true
    plain =
        rounds-fit m10_file (1 ∷ 2 ∷ []) (plain_step answer_buffer ∷ []) step_from ((0x78 ∷ []) ∷ []) (all_first each-multipartner)
        (plain_frame (0x78 ∷ []) answer_buffer ∷ []) (one_more_lem (omega arith) no_frames) [] all_empty
