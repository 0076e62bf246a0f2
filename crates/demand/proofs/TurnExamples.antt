-- A turn between two steps of a naming run, on the file whose only slave sleeps: it serves a screen that posted a read, and what demand 3
-- asks is met. A turn alone wakes that slave, leaves a summary that matches, and does the same on the widened file; one that is refused leaves
-- what is pending. A read that is posted where all others wait is served by the eighth turn.
-- Assumes nothing.
use Prim.Native.Nat.{ℕ}
use native.Mathlib.Omega.{arith}
use mathlib.Core.Path.{◌≡◌, refl, sym, ◌∙◌}
use mathlib.Core.List.{List, [], ◌∷◌}
use mathlib.Core.Bool.{true, false}
use lib.ListN.{replicate}
use Rattle.file.specs.Rules.Layout.{width_of}
use Rattle.file.specs.Rules.Bytes.{Bytes, All, all_empty, all_next, number_of, part}
use Rattle.file.specs.Rules.Order.{first_of, both, either}
use Rattle.file.specs.Rules.Results.{result_of, number_in}
use Rattle.file.specs.Rules.Cluster.{broadcast_read, bytes_among, bytes_in, physical_name, logical_name, logical_names}
use Rattle.file.specs.Rules.Decode.{decode, decode_at, slaves_at, slave_at, files_at, file_at, file_size, offset_at}
use Rattle.file.specs.Rules.Editions.{in_edition}
use Rattle.file.specs.Rules.FileGrounds.{file_ground, is_among}
use Rattle.file.proofs.BytesBelow.{all_below, bytes_below}
use Rattle.frame.specs.Rules.FrameGrounds.{no_file_number}
use Rattle.cluster.specs.Claims.Sleep.{AllAwake}
use Rattle.frame.specs.Rules.Fireworks.{round_of, round_in}
use Rattle.cluster.specs.Claims.Pending.{Pending}
use Rattle.cluster.specs.Rules.RoundGrounds.{round_by_lem, short_answer}
use Rattle.cluster.specs.Rules.Summary.{kept, wrong_summary}
use Rattle.cluster.specs.Claims.Summary.{Matches, given_names, LeavesRest}
use Rattle.naming.specs.Rules.Account.{names_of, names_in_lem, names_held, unnamed_among, insert, falling, end_with, account_of, go_on_lem, free_pass, pass}
use Rattle.naming.specs.Rules.Account.{pass_on, bit_clear, naming_rounds, extra, one_round, arguments_ground, account_call, account_after}
use Rattle.naming.specs.Rules.Position.{fresh as first_position_lem}
use Rattle.naming.specs.Claims.Demand.{start_on}
use Rattle.naming.specs.Claims.Cases.{answer_buffer}
use Rattle.naming.proofs.Witnesses.{sleeper, sleeper_bytes, sleeper_accepted, one_name, one-name-accepted}
use Rattle.naming.proofs.EditionWitnesses.{sleeper_widens}
use Rattle.screens.specs.Rules.Screens.{last_served, place_of, is_waiting, read_of, fresh, next_screen, due_from, due, no_screen, read_grounds}
use Rattle.screens.specs.Rules.Screens.{post_ground, posted, post_on}
use Rattle.screens.specs.Rules.Turn.{due_grounds, state_grounds, turn_ground, turn_on}
use Rattle.ttpa.specs.Rules.Calls.{start_call, position_in, screens_call, post_call, turn_call}
use Rattle.demand.specs.Claims.DemandCalls.{CCall, ttpa_step, ttpa_round, ttpa_turn, GivenBytes, given-step, given-frame, given-turn, Memory}
use Rattle.demand.specs.Claims.DemandCalls.{after_calls, frames_served, turn_frames, permitted, calls_fed, CallsDemand, started, is-step}
use Rattle.demand.specs.Claims.DemandCalls.{memory_of, arguments_of, arguments_of_all}
use Rattle.demand.specs.Claims.Traces.{singly}
use Rattle.demand.specs.Claims.Pending.{in_frame, no_calls, one_more_lem}
use Rattle.demand.specs.Claims.Turns.{Serves, a_step, a_turn}
use Rattle.demand.specs.Claims.Summary.{Made, other, all_made_lem, in_turn, none_made_lem, next_made}
use Rattle.screens.proofs.ScreenGrounds.{turn-none, turn-edition}
use Rattle.screens.proofs.ScreenEditions.{turns-converted}
use Rattle.ttpa.proofs.Turns.{turn_keeps_summary-call, PostedThenEight, posted_then_eight_over_calls}
use Rattle.demand.proofs.TurnFrames.{Serving}
use Rattle.demand.proofs.DemandCalls.{accepted-runs, runs-accepted, start-number, throughout_calls, demand_over_calls}
use Rattle.demand.proofs.Pending.{c_calls_stay_pending}
use Rattle.demand.proofs.Summary.{kept_by_calls}
use Rattle.demand.proofs.Turns.{serving-told, turns-permitted, no_turn-within, served-turns_wake}

-- ---- a state in which screen 2 waits for record 1 of 0x3D at 5: its bytes, as ttpa_post leaves them after ttpa_screens

unfoldable pub waiting : List ℕ
waiting = 7 ∷ 0 ∷ 0 ∷ 0 ∷ 0 ∷ 0 ∷ 0 ∷ 0 ∷ 0 ∷ 1 ∷ 5 ∷ 0x3D ∷ 1 ∷ replicate 20 0

waiting-posted : post_call (screens_call []).1 2 5 0x3D 1 ≡ (0, waiting)
unfolding screens_call post_call number_in post_on post_ground posted fresh waiting first_of result_of no_screen last_served is_waiting place_of
    read_grounds no_file_number broadcast_read both either
waiting-posted = refl

pub waiting-bytes : Bytes waiting
waiting-bytes = bytes_below waiting (unfold waiting all_below both in refl)

-- on every accepted file a turn serves it
pub waiting-served : (f : List ℕ) → file_ground f ≡ 0 → Serving f waiting answer_buffer 2
unfolding state_grounds due_grounds due due_from next_screen is_waiting place_of last_served no_screen read_of read_grounds no_file_number
    broadcast_read both first_of waiting
waiting-served f accepted = record { none = turn-none waiting f answer_buffer refl accepted (omega arith); is_due = refl }

-- ---- a step, a turn and a step

abbrev begun : Memory
begun = started sleeper (5 ∷ []) (replicate 8 0)

abbrev one_step : CCall
one_step = ttpa_step answer_buffer 0

abbrev pub one_turn : CCall
one_turn = ttpa_turn waiting answer_buffer 0 0

abbrev mixed : List CCall
mixed = one_step ∷ one_turn ∷ one_step ∷ []

begins : (start_call (5 ∷ []) (replicate 8 0)).0 ≡ 0
begins = start-number (5 ∷ []) (replicate 8 0) ∙ one-name-accepted

given : All GivenBytes mixed
given = all_next given-step (all_next (given-turn waiting-bytes) (all_next given-step all_empty))

mixed_may : permitted false (5 ∷ []) begun mixed ≡ true
mixed_may =
    turns-permitted sleeper sleeper_bytes (accepted-runs sleeper_accepted) (5 ∷ []) one_name (replicate 8 0) begins [] all_empty
    (unfold permitted in refl) mixed
    (all_next (a_step is-step) (all_next (a_turn waiting-bytes) (all_next (a_step is-step) all_empty)))

-- the turn serves, on the file that the first step leaves
between_serves : Serves (after_calls (5 ∷ []) begun (one_step ∷ [])).file waiting answer_buffer 0 0
between_serves =
    serving-told 0 0
    (waiting-served _
    (runs-accepted
    (throughout_calls sleeper sleeper_bytes (accepted-runs sleeper_accepted) (5 ∷ []) one_name (replicate 8 0) begins (one_step ∷ [])
    (one_turn ∷ one_step ∷ []) (all_next given-step all_empty) mixed_may).accepted))

mixed_demand : CallsDemand sleeper (5 ∷ []) mixed (after_calls (5 ∷ []) begun mixed)
mixed_demand =
    demand_over_calls sleeper sleeper_bytes (accepted-runs sleeper_accepted) (5 ∷ []) one_name (replicate 8 0) begins
    mixed given mixed_may

-- two rounds are counted, those of the steps
mixed_counted : (position_in (after_calls (5 ∷ []) begun mixed).run).counts.rounds ≡ 2
unfolding both either short_answer naming_rounds is_among pass free_pass pass_on go_on_lem bit_clear sleeper width_of decode decode_at slaves_at slave_at
    files_at file_at file_size offset_at part number_of physical_name bytes_in bytes_among calls_fed names_in_lem names_of account_of unnamed_among
    names_held falling insert end_with account_after account_call arguments_ground wrong_summary one_round extra logical_name first_of
mixed_counted = mixed_demand.rounds

-- within a round of others it is not permitted
within_barred : permitted true (5 ∷ []) (after_calls (5 ∷ []) begun (one_step ∷ [])) (one_turn ∷ []) ≡ false
within_barred = no_turn-within (5 ∷ []) (after_calls (5 ∷ []) begun (one_step ∷ [])) waiting answer_buffer 0 0 waiting-bytes between_serves []

-- ---- a turn alone

sleeper_turned : AllAwake (turn_call sleeper waiting answer_buffer 0 0).5
sleeper_turned =
    (served-turns_wake sleeper waiting answer_buffer 0 0 sleeper_bytes waiting-bytes
    (serving-told 0 0 (waiting-served sleeper sleeper_accepted))).1

-- a summary of its name matches before and after it, handed aside or among calls that are given it
sleeper_names : logical_names (decode sleeper) ≡ 0xFF ∷ []
unfolding sleeper logical_names decode width_of decode_at slaves_at slave_at files_at file_at file_size offset_at part number_of logical_name bytes_in
    bytes_among
sleeper_names = refl

unnamed-matches : Matches sleeper (kept 1 (0xFF ∷ 9 ∷ []))
unnamed-matches = given_names {count = 1} {slice = 0xFF ∷ 9 ∷ []} (omega arith) (sym sleeper_names)

summary-kept : Matches (turn_call sleeper waiting answer_buffer 0 0).5 (kept 1 (0xFF ∷ 9 ∷ []))
summary-kept = turn_keeps_summary-call sleeper waiting answer_buffer 0 0 (0xFF ∷ 9 ∷ []) 1 sleeper_bytes waiting-bytes unnamed-matches

abbrev turn_made : List Made
turn_made = other [] [] one_turn ∷ []

summary-kept-by-calls :
    Matches (all_made_lem 1 sleeper (0xFF ∷ 9 ∷ []) turn_made).0 (kept 1 (all_made_lem 1 sleeper (0xFF ∷ 9 ∷ []) turn_made).1) ×
    LeavesRest (kept 1 (0xFF ∷ 9 ∷ [])) (kept 1 (all_made_lem 1 sleeper (0xFF ∷ 9 ∷ []) turn_made).1)
summary-kept-by-calls =
    kept_by_calls sleeper (0xFF ∷ 9 ∷ []) 1 turn_made sleeper_bytes (next_made (in_turn waiting-bytes) none_made_lem) unnamed-matches

-- on the widened file it answers the same, and leaves the widened form of the file that it leaves
sleeper-widened :
    turn_on waiting (in_edition sleeper 2) answer_buffer ≡ (
      (turn_on waiting sleeper answer_buffer).0,
      (turn_on waiting sleeper answer_buffer).1,
      (turn_on waiting sleeper answer_buffer).2,
      in_edition (turn_on waiting sleeper answer_buffer).3 2,
    )
sleeper-widened = (turns-converted sleeper 2 waiting answer_buffer sleeper_widens waiting-bytes).0

-- ---- files of an unknown edition

abbrev no_edition_lem : ℕ → List ℕ
no_edition_lem rest = 0x54 ∷ 0x41 ∷ 3 ∷ replicate 13 rest

unknown_edition-turned : (turn_on waiting (no_edition_lem 0) answer_buffer).0 ≡ (turn_on waiting (no_edition_lem 0xFF) []).0
unknown_edition-turned =
    turn-edition.of_state waiting (no_edition_lem 0) (no_edition_lem 0xFF) answer_buffer [] refl refl
    (record { one = λ e. omega (arith, e); two = λ e. omega (arith, e) })

-- with another state, which has no ground either
unknown_edition-idle : (turn_on waiting (no_edition_lem 0) answer_buffer).0 ≡ (turn_on fresh (no_edition_lem 0xFF) []).0
unfolding last_served place_of is_waiting read_of fresh next_screen due_from due no_screen read_grounds due_grounds state_grounds no_file_number
    broadcast_read both first_of waiting
unknown_edition-idle =
    turn-edition.of_file waiting fresh (no_edition_lem 0) (no_edition_lem 0xFF) answer_buffer [] refl refl refl refl
    (record { one = λ e. omega (arith, e); two = λ e. omega (arith, e) })

-- ---- a post where all other screens wait, and eight turns

sleeper_eight : PostedThenEight sleeper answer_buffer
sleeper_eight = posted_then_eight_over_calls sleeper answer_buffer sleeper_accepted (omega arith) sleeper_bytes

-- ---- a multipartner frame and a turn that 27 refuses leave what is pending

abbrev without_msa : List CCall
without_msa = ttpa_round (0x78 ∷ []) answer_buffer 0 ∷ ttpa_turn (8 ∷ replicate 32 0) answer_buffer 0 0 ∷ []

sleeper-pending :
    Pending (decode (after_calls (5 ∷ []) (memory_of (start_on sleeper) (first_position_lem (5 ∷ []))) without_msa).file)
    (decode sleeper).flag (decode sleeper).pending_name (decode sleeper).pending_pb2 (decode sleeper).pending_pb3
unfolding singly arguments_of_all arguments_of turn_frames frames_served turn_on turn_ground state_grounds first_of no_screen last_served result_of
    round_by_lem round_of round_in
sleeper-pending =
    c_calls_stay_pending sleeper (5 ∷ []) (first_position_lem (5 ∷ [])) without_msa sleeper_bytes
    (all_next (given-frame (bytes_below (0x78 ∷ []) (unfold all_below both in refl)))
    (all_next (given-turn (bytes_below (8 ∷ replicate 32 0) (unfold all_below both in refl))) all_empty))
    (one_more_lem (in_frame (λ g taken. let same = taken.is_msa in let z : ◌≡◌ {A = ℕ} 0 1 = cc in omega arith)) no_calls)
