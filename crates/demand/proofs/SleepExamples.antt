-- A file whose only slave sleeps. It is awake after a trace of one MSD, and after ttpa_start and a step, a multipartner round, a trace of
-- one or a lone MSD; it sleeps on after a trace of one MSA and after a step of an ended run. So what the claims on who is awake ask can be
-- met.
-- Assumes nothing.
use Prim.Native.Nat.{ℕ}
use native.Mathlib.Omega.{arith}
use mathlib.Core.Path.{◌≡◌, refl, sym, ap, ◌∙◌, subst}
use mathlib.Core.List.{List, [], ◌∷◌}
use mathlib.Core.Bool.{true, false}
use lib.ListN.{replicate}
use Rattle.file.specs.Rules.Bytes.{Bytes, All, all_empty, all_next, number_of, part}
use Rattle.file.specs.Rules.Order.{both, either}
use Rattle.file.specs.Rules.Cluster.{Slave, no_operation, broadcast_read, logical_name}
use Rattle.frame.specs.Rules.Check.{exclusive_or, check_of, address_check}
use Rattle.frame.specs.Rules.Fireworks.{round_of, round_in}
use Rattle.frame.specs.Rules.FrameGrounds as frames
use Rattle.master_slave.specs.Rules.Slaves.{execution_of, duty_by, pending_duty}
use Rattle.cluster.specs.Rules.RoundGrounds.{short_answer, round_by_lem, write_pending, grounds_on}
use Rattle.cluster.specs.Inner.EachGround.{no_firework, length_for, wrong_length_on, wrong_check_on, no_operation_on, broadcast_read_on, frame_ground}
use Rattle.cluster.specs.Rules.Round.{round_ground}
use Rattle.cluster.specs.Rules.Summary.{without, wrong_summary}
use Rattle.cluster.specs.Claims.Sleep.{AllAwake}
use Rattle.trace.specs.Rules.Trace.{frame_count, data_length, offset_in, length_in, data_place_lem, whole_rows, broken_trace, frames_from, frames_of}
use Rattle.trace.specs.Rules.TraceRun.{trace_ground, trace_on}
use Rattle.trace.specs.Claims.Sleep.{sent_ground, none_left_lem, one_sent, NoSleep, Woken, woken}
use Rattle.trace.proofs.Calls.{none-holds}
use Rattle.trace.proofs.Sleep.{trace-wakes, trace_stays_awake, addresses_wake_nobody}
use Rattle.naming.specs.Rules.Position.{running, fresh, end_at}
use Rattle.naming.specs.Rules.Step.{step_keeping}
use Rattle.naming.specs.Rules.Account.{names_of, names_in_lem, names_held, unnamed_among, insert, falling, end_with, account_of, extra, one_round, arguments_ground, account_call, account_after}
use Rattle.naming.specs.Claims.Demand.{start_on}
use Rattle.naming.specs.Claims.PermittedRounds.{no_rounds, multipartner_next, SentBy, no_frames, one_more_lem}
use Rattle.naming.specs.Claims.Sleep.{wakes_by_frame}
use Rattle.naming.specs.Claims.Cases.{answer_buffer}
use Rattle.file.proofs.BytesBelow.{all_below, bytes_below}
use Rattle.naming.proofs.Sleep.{no_round-wakes-nobody}
use Rattle.naming.proofs.Unasked.{step_unasked, frame_unasked}
use Rattle.naming.proofs.Witnesses.{sleeper, sleeper_bytes, sleeper_accepted, sleeper_sleeps, one_name, one-name-accepted, first-accepted}
use Rattle.convert.proofs.Examples.{examples as convert_examples}
use Rattle.ttpa.specs.Rules.Calls.{start_call, words_of, position_in}
use Rattle.demand.specs.Claims.Traces.{frame_call, frames_singly, singly}
use Rattle.demand.specs.Claims.DemandCalls.{CCall, ttpa_step, ttpa_round, ttpa_trace_lem, GivenBytes, given-step, given-frame, given-trace, Memory, returned, after_calls}
use Rattle.demand.specs.Claims.DemandCalls.{permitted, calls_fed, started, is-step, memory_of, arguments_of, arguments_of_all}
use Rattle.demand.specs.Claims.Sleep.{this_one, MayWake, by_step, by_round, by_trace, by_first_lem, in_frame, NoneSleeps.one_more_lem as one_awake, no_calls, woken_by}
use Rattle.demand.proofs.Traces.{zeros-long}
use Rattle.demand.proofs.DemandCalls.{ground_of, call-number, accepted-runs, start-number, start-memory, steps-permitted, demand_over_calls}
use Rattle.demand.proofs.Permitted.{rounds-fit_calls}
use Rattle.demand.proofs.Summary.{trace-bytes}
use Rattle.demand.proofs.Sleep.{calls_stay_awake, calls_counted-awake, c_calls_wake}

-- ---- a trace of one MSD, nothing being pending

unfoldable one_data : List ℕ
one_data = 0x00 ∷ 0x01 ∷ 0x00 ∷ 0x01 ∷ 0x00 ∷ 0x00 ∷ 0x01 ∷ 0x49 ∷ []

trace-runs : trace_ground sleeper one_data ≡ 0
unfolding one_data broken_trace whole_rows data_place_lem frame_count data_length offset_in length_in part number_of both either
trace-runs = none-holds sleeper one_data sleeper_accepted refl

data-taken : sent_ground sleeper (0x49 ∷ []) ≡ 0
unfolding convert_examples sleeper no_operation broadcast_read round_ground short_answer frame_ground grounds_on round_by_lem round_of round_in no_firework
    wrong_length_on length_for write_pending frames.wrong_frame_length wrong_check_on no_operation_on broadcast_read_on pending_duty duty_by execution_of
data-taken = refl

nothing-pending : NoSleep sleeper (0x49 ∷ [])
unfolding data-taken
nothing-pending name sleeps = omega (arith, sleeps.pending.is_flag)

frame-wakes : Woken sleeper (frames_of one_data)
unfolding one_data frames_of frames_from frame_count data_place_lem offset_in length_in part number_of round_by_lem round_of round_in
frame-wakes = woken data-taken (λ e. let z : ◌≡◌ {A = ℕ} 0 1 = cc in omega arith) (one_sent nothing-pending none_left_lem)

data-bytes : Bytes one_data
data-bytes = bytes_below one_data (unfold one_data all_below both in refl)

sleeper_traced : AllAwake (trace_on sleeper one_data).1
sleeper_traced = trace-wakes sleeper one_data sleeper_bytes data-bytes trace-runs frame-wakes

-- ---- a trace of one MSA, a read of record 1 of 0x3D at 1: it sleeps on, and stays awake if the other trace was run before

unfoldable one_address : List ℕ
one_address = 0x00 ∷ 0x01 ∷ 0x00 ∷ 0x06 ∷ 0x00 ∷ 0x00 ∷ 0x06 ∷ 0x55 ∷ 0x07 ∷ 0x01 ∷ 0xF4 ∷ 0x01 ∷ 0xA6 ∷ []

address-bytes : Bytes one_address
address-bytes = bytes_below one_address (unfold one_address all_below both in refl)

address-taken : sent_ground sleeper (0x55 ∷ 0x07 ∷ 0x01 ∷ 0xF4 ∷ 0x01 ∷ 0xA6 ∷ []) ≡ 0
unfolding data-taken frames.wrong_check address_check check_of exclusive_or
address-taken = refl

sleeper_addressed : AllAwake (trace_on sleeper one_address).1 → ⊥
unfolding frame-wakes one_address
sleeper_addressed up =
    sleeper_sleeps
    (subst (λ (ss : List Slave). All (λ (s : Slave). s.asleep ≡ 0) ss)
    (addresses_wake_nobody sleeper one_address sleeper_bytes address-bytes (one_sent (λ accepted. refl) none_left_lem)) up)

sleeper_stays_traced : AllAwake (trace_on (trace_on sleeper one_data).1 one_address).1
unfolding frames_of frames_from frame_count data_place_lem offset_in length_in part number_of round_by_lem round_of round_in one_address
sleeper_stays_traced =
    trace_stays_awake (trace_on sleeper one_data).1 one_address (trace-bytes sleeper one_data sleeper_bytes data-bytes) address-bytes
    (one_sent (λ name sleeps. let same = sleeps.is_msd in let z : ◌≡◌ {A = ℕ} 0 1 = cc in omega arith) none_left_lem) sleeper_traced

-- ---- a step of an ended run: of one over no names

sleeper_left-asleep : AllAwake (step_keeping sleeper (fresh []) [] without answer_buffer).3 → ⊥
sleeper_left-asleep =
    rw (no_round-wakes-nobody sleeper (fresh []) [] without answer_buffer
    (λ accepted (e : (fresh []).end ≡ running). unfold fresh end_at in omega (arith, e))) sleeper_sleeps

-- ---- ttpa_start and ttpa_step

abbrev begun : Memory
begun = started sleeper (5 ∷ []) (replicate 8 0)

returns_ground : (c : CCall) → returned (5 ∷ []) begun c ≡ ground_of (5 ∷ []) (start_on sleeper) (fresh (5 ∷ [])) c
returns_ground c =
    ap (λ (m : Memory). returned (5 ∷ []) m c) (start-memory sleeper (5 ∷ []) (replicate 8 0) one-name-accepted)
    ∙ call-number (5 ∷ []) (start_on sleeper) (fresh (5 ∷ [])) c

step_returns : returned (5 ∷ []) begun (ttpa_step answer_buffer 0) ≡ 0
unfolding ground_of start_on
step_returns =
    returns_ground (ttpa_step answer_buffer 0) ∙ sym (step_unasked sleeper (fresh (5 ∷ [])) (5 ∷ []) answer_buffer) ∙ first-accepted

begins : (start_call (5 ∷ []) (replicate 8 0)).0 ≡ 0
begins = start-number (5 ∷ []) (replicate 8 0) ∙ one-name-accepted

step-may : permitted false (5 ∷ []) begun (ttpa_step answer_buffer 0 ∷ []) ≡ true
step-may = steps-permitted (5 ∷ []) begun (ttpa_step answer_buffer 0 ∷ []) (all_next is-step all_empty)

still_running : (position_in begun.run).end ≡ 0
still_running =
    ap (λ (m : Memory). (position_in m.run).end) (start-memory sleeper (5 ∷ []) (replicate 8 0) one-name-accepted)
    ∙ unfold position_in words_of fresh end_at in refl

sleeper_stepped : AllAwake (after_calls (5 ∷ []) begun (ttpa_step answer_buffer 0 ∷ [])).file
sleeper_stepped =
    calls_stay_awake sleeper sleeper_bytes (accepted-runs sleeper_accepted) (5 ∷ []) one_name (replicate 8 0) begins
    (ttpa_step answer_buffer 0 ∷ []) [] (all_next given-step all_empty) step-may (by_first_lem step_returns (by_step is-step still_running))

-- the words then count a round, the extra read
one-counted : (position_in (after_calls (5 ∷ []) begun (ttpa_step answer_buffer 0 ∷ [])).run).counts.rounds ≡ 1
unfolding data-taken calls_fed names_in_lem names_of account_of unnamed_among names_held falling insert end_with account_after account_call arguments_ground wrong_summary one_round extra logical_name
one-counted =
    (demand_over_calls sleeper sleeper_bytes (accepted-runs sleeper_accepted) (5 ∷ []) one_name (replicate 8 0) begins
    (ttpa_step answer_buffer 0 ∷ []) (all_next given-step all_empty) step-may).rounds

sleeper_counted_in_words : AllAwake (after_calls (5 ∷ []) begun (ttpa_step answer_buffer 0 ∷ [])).file
sleeper_counted_in_words =
    calls_counted-awake sleeper sleeper_bytes (accepted-runs sleeper_accepted) (5 ∷ []) one_name (replicate 8 0) begins
    (ttpa_step answer_buffer 0 ∷ []) [] (all_next given-step all_empty) step-may (λ z. omega (arith, one-counted, z))

-- ---- ttpa_start and a multipartner round, of number 2, by ttpa_round or in a trace

unfoldable one_shared : List ℕ
one_shared = 0x00 ∷ 0x01 ∷ 0x00 ∷ 0x01 ∷ 0x00 ∷ 0x00 ∷ 0x01 ∷ 0xBA ∷ []

shared-taken : sent_ground sleeper (0xBA ∷ []) ≡ 0
unfolding data-taken
shared-taken = refl

-- a call that sends that frame is permitted, and if it returns 0 all are awake after it
shared-wakes :
    (c : CCall) → GivenBytes c → SentBy ((0xBA ∷ []) ∷ []) (singly (arguments_of_all (5 ∷ []) begun (c ∷ []))) →
    returned (5 ∷ []) begun c ≡ 0 → MayWake begun c → AllAwake (after_calls (5 ∷ []) begun (c ∷ [])).file
shared-wakes c given sends e wakes =
    calls_stay_awake sleeper sleeper_bytes (accepted-runs sleeper_accepted) (5 ∷ []) one_name (replicate 8 0) begins (c ∷ []) []
    (all_next given all_empty)
    (rounds-fit_calls sleeper sleeper_bytes (accepted-runs sleeper_accepted) (5 ∷ []) one_name (replicate 8 0) begins [] all_empty
    (unfold permitted in refl) ((0xBA ∷ []) ∷ [])
    (multipartner_next {firework = 0xBA} {r = 2} (omega arith) (unfold round_of round_in in refl) no_rounds) (c ∷ [])
    (unfold after_calls in sends) [] all_empty)
    (by_first_lem e wakes)

sleeper_shared : AllAwake (after_calls (5 ∷ []) begun (ttpa_round (0xBA ∷ []) answer_buffer 0 ∷ [])).file
unfolding singly arguments_of_all arguments_of ground_of start_on frame-wakes
sleeper_shared =
    shared-wakes (ttpa_round (0xBA ∷ []) answer_buffer 0) (given-frame (bytes_below (0xBA ∷ []) (unfold all_below both in refl)))
    (one_more_lem zeros-long no_frames) (returns_ground (ttpa_round (0xBA ∷ []) answer_buffer 0) ∙ shared-taken)
    (by_round (λ e. let z : ◌≡◌ {A = ℕ} 0 1 = cc in omega arith))

sleeper_shared_traced : AllAwake (after_calls (5 ∷ []) begun (ttpa_trace_lem one_shared [] ∷ [])).file
unfolding singly arguments_of_all arguments_of frames_singly frame_call ground_of start_on trace-runs frame-wakes one_shared
sleeper_shared_traced =
    shared-wakes (ttpa_trace_lem one_shared []) (given-trace (bytes_below one_shared (unfold one_shared all_below both in refl)))
    (one_more_lem zeros-long no_frames) (returns_ground (ttpa_trace_lem one_shared []) ∙ none-holds sleeper one_shared sleeper_accepted refl)
    (by_trace (this_one shared-taken (λ e. let z : ◌≡◌ {A = ℕ} 0 1 = cc in omega arith)))

-- ---- a lone MSD by ttpa_round, which demand 3 does not permit

abbrev one_msd : List CCall
one_msd = ttpa_round (0x49 ∷ []) answer_buffer 0 ∷ []

sleeper_sent : AllAwake (after_calls (5 ∷ []) (memory_of (start_on sleeper) (fresh (5 ∷ []))) one_msd).file
unfolding singly arguments_of_all arguments_of start_on frame-wakes
sleeper_sent =
    c_calls_wake sleeper (5 ∷ []) (fresh (5 ∷ [])) one_msd sleeper_bytes one_name (unfold fresh in omega arith)
    (all_next (given-frame (bytes_below (0x49 ∷ []) (unfold all_below both in refl))) all_empty)
    (woken_by
    (wakes_by_frame (frame_unasked sleeper (0x49 ∷ []) answer_buffer ∙ data-taken) (λ e. let z : ◌≡◌ {A = ℕ} 0 1 = cc in omega arith))
    (one_awake (in_frame (λ accepted. nothing-pending)) no_calls))
