-- Lists of C calls that meet what the claims on two lists of names ask: of every accepted file and any two acceptable lists without a
-- common name, and on the file of M10, whose two slaves have no name, with summaries, refused steps, rounds of others and a trace among
-- the steps and between the runs, or with a turn; the stored figures there and on the file of M8, whose two slaves hold name 1; and like
-- statements that are false.
-- Assumes nothing.
use Prim.Native.Nat.{ℕ, zero, suc, ◌+◌, ◌≤◌}
use native.Mathlib.Omega.{arith}
use mathlib.Core.Path.{◌≡◌, refl, sym, ap, ◌∙◌}
use mathlib.Core.List.{List, [], ◌∷◌, ◌++◌, map}
use mathlib.Core.Bool.{true, false}
use lib.ListN.{length, replicate, get_or, drop, length-replicate}
use Rattle.demand.specs.Claims.Summary.{AllGivenRight, AllGivenRight.one_more_lem as next_given, no_calls, step_without, step_matching}
use Rattle.demand.proofs.SummaryExamples.{m10_matches}
use Rattle.file.specs.Rules.Layout.{width_of}
use Rattle.file.specs.Rules.Bytes.{Bytes, All, All.all_empty, All.all_next as also, number_of, part, all_zero}
use Rattle.file.specs.Rules.Cluster.{no_operation, broadcast_read, bytes_among, bytes_in, last_record, physical_name}
use Rattle.file.specs.Rules.Decode.{decode_at, slaves_at, slave_at, files_at, file_at, file_size, offset_at}
use Rattle.file.specs.Rules.Order.{first_of, both, either}
use Rattle.file.specs.Rules.FileGrounds.{is_among, has_repeat, file_ground, file_ground_at, file_grounds_at, wrong_size, wrong_mark, wrong_edition}
use Rattle.file.specs.Rules.FileGrounds.{wrong_length, wrong_header, wrong_pending, broken_layout, walk_file, table_end, walk_slaves, and_then}
use Rattle.file.specs.Rules.FileGrounds.{walk_slave}
use Rattle.file.specs.Rules.FileGrounds.{good_table_entry, walk_directory, good_entry, ends_at, lacks_needed, all_have_needed, has_needed}
use Rattle.file.specs.Rules.FileGrounds.{equal_physical_names}
use Rattle.file.proofs.Order.{clash}
use Rattle.file.proofs.Bytes.{all_append, all_map}
use Rattle.file.proofs.BytesBelow.{all_below, bytes_below}
use Rattle.frame.specs.Rules.Fireworks.{round_of, round_in}
use Rattle.cluster.specs.Rules.RoundGrounds.{short_answer}
use Rattle.cluster.specs.Rules.Summary.{wrong_summary, alike}
use Rattle.trace.specs.Rules.Trace.{frame_count, data_length, offset_in, length_in, data_place_lem, whole_rows, broken_trace, frames_from, frames_of}
use Rattle.naming.specs.Rules.Position.{names_used_up, all_named_lem}
use Rattle.naming.specs.Rules.RunGrounds.{start_ground, names_grounds, unfit_name}
use Rattle.naming.specs.Rules.Account.{Named, Call, Account, arguments_ground, account_of, account_call, one_round, end_with, extra, insert}
use Rattle.naming.specs.Rules.Account.{falling, unnamed_among, names_held}
use Rattle.naming.specs.Rules.Figures.{free_names, givings, name_given, renamed, names_after, rounds_for, end_for, extra_again, rounds_for_nobody}
use Rattle.naming.specs.Claims.Files.{m8_file_lem, m10_file}
use Rattle.naming.specs.Claims.Cases.{answer_buffer, slave}
use Rattle.naming.specs.Claims.PermittedRounds.{Rounds, no_rounds, multipartner_next, SentBy, no_frames, one_more_lem}
use Rattle.naming.specs.Claims.TwoLists.{NoCommon, SecondRun, RunsTogether}
use Rattle.naming.proofs.Examples.{m10_accepted}
use Rattle.naming.proofs.TwoLists.{account_step, account_steps, long_step, long_many}
use Rattle.naming.proofs.TwoListsExamples.{m10_slaves_lem, m10_slaves, m8_slaves, three_runs, names-fewer, names_more, first-held, nobody-after_3}
use Rattle.ttpa.specs.Rules.Calls.{start_call}
use Rattle.demand.specs.Claims.DemandCalls.{CCall, ttpa_step, ttpa_step_keeping, ttpa_round, ttpa_trace_lem, GivenBytes, given-step}
use Rattle.demand.specs.Claims.DemandCalls.{given-step_keeping, given-frame, given-trace, given-turn, is-step_keeping}
use Rattle.demand.specs.Claims.DemandCalls.{is-step, Memory, after_calls, permitted, slaves_in, TakenByRounds, started, arguments_of}
use Rattle.demand.specs.Claims.DemandCalls.{arguments_of_all, memory_after, turn_frames}
use Rattle.demand.specs.Claims.Turns.{Serves, a_step, a_turn}
use Rattle.demand.specs.Claims.Traces.{frame_call, frames_singly, singly}
use Rattle.demand.specs.Claims.TwoLists.{ToItsEnd, file_after, run_after, steps_taken, LongStep, long, long_keeping}
use Rattle.demand.proofs.Traces.{zeros-long, singly-append}
use Rattle.demand.proofs.DemandCalls.{accepted-runs, runs-accepted, start-number, steps-permitted, throughout_calls, demand_over_calls, by_rules}
use Rattle.demand.proofs.DemandCalls.{frames_alone}
use Rattle.demand.proofs.Permitted.{rounds-fit_calls}
use Rattle.demand.proofs.Turns.{serving-told, turns-permitted}
use Rattle.demand.proofs.TurnExamples.{waiting, waiting-bytes, waiting-served, one_turn}
use Rattle.demand.proofs.TwoLists.{long_call, steps_by_rules, steps-given, steps-only, bytes_left, names-left, two_lists_over_calls}
use Rattle.demand.proofs.TwoLists.{joined-starts, common_returns, calls-counted, runs-end_over_calls, every_run-ends_over_calls}
use Rattle.demand.proofs.TwoLists.{end-mark_over_calls, second_finds_over_calls, two-runs_over_calls}

-- ---- every two lists: each run by as many steps as it has rounds, a round of others and a trace of one before them

-- steps with an answer buffer of 64 bytes
abbrev steps : ℕ → List CCall
steps n = replicate n (long_call 0)

unfoldable one_traced : List ℕ
one_traced = 0x00 ∷ 0x01 ∷ 0x00 ∷ 0x01 ∷ 0x00 ∷ 0x00 ∷ 0x01 ∷ 0x78 ∷ []

abbrev others : List CCall
others = ttpa_round (0x78 ∷ []) answer_buffer 0 ∷ ttpa_trace_lem one_traced [] ∷ []

others-given : All GivenBytes others
others-given =
    also (given-frame (bytes_below (0x78 ∷ []) (unfold all_below both in refl)))
    (also (given-trace (bytes_below one_traced (unfold one_traced all_below both in refl))) all_empty)

abbrev two_frames : List (List ℕ)
two_frames = (0x78 ∷ []) ∷ (0x78 ∷ []) ∷ []

twice : Rounds two_frames
unfolding round_of round_in
twice =
    multipartner_next {firework = 0x78} {r = 0} (omega arith) refl (multipartner_next {firework = 0x78} {r = 0} (omega arith) refl no_rounds)

others-sent : (names : List ℕ) (m : Memory) → SentBy two_frames (by_rules names m others)
unfolding singly arguments_of_all arguments_of frames_singly frame_call one_traced frames_of frames_from broken_trace whole_rows data_place_lem
    frame_count data_length offset_in length_in part number_of both either
others-sent names m = one_more_lem zeros-long (one_more_lem zeros-long no_frames)

abbrev busy_run : ℕ → List CCall
busy_run n = others ++ steps n

abbrev whole_run_lem : List ℕ → List ℕ → List CCall
whole_run_lem file names = busy_run (rounds_for (slaves_in file) names)

abbrev second_run_lem : List ℕ → List ℕ → List ℕ → List CCall
second_run_lem file A B = busy_run (rounds_for (names_after (slaves_in file) A) B)

record Listed (names : List ℕ) : Type 0 where
  bytes : Bytes names
  fits : start_ground names ≡ 0

starts : {names : List ℕ} → Listed names → (run : List ℕ) → (start_call names run).0 ≡ 0
starts {names} l run = start-number names run ∙ l.fits

module _ (file : List ℕ) (b : Bytes file) (taken : TakenByRounds file) {names : List ℕ} (l : Listed names) (run : List ℕ) (n : ℕ) where
  busy_given : All GivenBytes (busy_run n)
  busy_given = all_append others-given (steps-given 0 n)

  busy_may : permitted false names (started file names run) (busy_run n) ≡ true
  busy_may =
      rounds-fit_calls file b taken names l.bytes run (starts l run) [] all_empty (steps-permitted names (started file names run) [] all_empty)
      two_frames twice others (others-sent _ _) (steps n) (steps-only 0 n)

  busy_steps : steps_taken names (started file names run) (busy_run n) ≡ n
  unfolding others-sent account_steps account_step account_call after_calls
  busy_steps =
      let behind = after_calls names (started file names run) others in
      let counted = calls-counted file b taken names l.bytes run (starts l run) (busy_run n) busy_given busy_may in
      let long : account_steps (account_of (slaves_in file) names) (by_rules names behind (steps n)) ≡ n =
      ap (λ (cs : List Call). account_steps (account_of (slaves_in file) names) cs) (steps_by_rules 0 names behind n)
      ∙ long_many n (account_of (slaves_in file) names) in
      omega (arith, counted, long)

  busy_ends : rounds_for (slaves_in file) names ≤ n → ToItsEnd file names run (busy_run n)
  busy_ends enough =
      (runs-end_over_calls file b taken names l.bytes run (starts l run) (busy_run n) busy_given busy_may).0 (omega (arith, enough, busy_steps))

module _ (file : List ℕ) (b : Bytes file) (taken : TakenByRounds file) where
  run_ends : {names : List ℕ} → Listed names → (run : List ℕ) → ToItsEnd file names run (whole_run_lem file names)
  run_ends {names} l run = busy_ends file b taken l run (rounds_for (slaves_in file) names) (omega arith)

  names-whole :
      {names : List ℕ} → Listed names → (run : List ℕ) →
      slaves_in (file_after file names run (whole_run_lem file names)) ≡ names_after (slaves_in file) names
  names-whole {names} l run = names-left file b taken names l.bytes run (starts l run) (whole_run_lem file names) (run_ends l run)

  mark-whole :
      {names : List ℕ} → Listed names → (run : List ℕ) → (run_after file names run (whole_run_lem file names)).end ≡ end_for (slaves_in file) names
  mark-whole {names} l run = end-mark_over_calls file b taken names l.bytes run (starts l run) (whole_run_lem file names) (run_ends l run)

  -- B's run after any run over A
  second-ends :
      {A B : List ℕ} → Listed A → Listed B → {run : List ℕ} {first : List CCall} → ToItsEnd file A run first → (run' : List ℕ) →
      ToItsEnd (file_after file A run first) B run' (second_run_lem file A B)
  second-ends {A} {B} a l {run} {first} to run' =
      let d = demand_over_calls file b taken A a.bytes run (starts a run) first to.bytes to.may in
      busy_ends (file_after file A run first) (bytes_left file b taken A a.bytes run (starts a run) first to) d.accepted l run'
      (rounds_for (names_after (slaves_in file) A) B) (rw (names-left file b taken A a.bytes run (starts a run) first to) (omega arith))

  -- whatever the run's words are before each ttpa_start
  module _ {A B : List ℕ} (a : Listed A) (l : Listed B) (apart : NoCommon A B) (run run' run'' : List ℕ) where
    abbrev file_between : List ℕ
    file_between = file_after file A run (whole_run_lem file A)

    joined-listed : Listed (A ++ B)
    joined-listed =
        record {
          bytes = all_append a.bytes l.bytes;
          fits = sym (start-number (A ++ B) run) ∙ (joined-starts A B a.bytes l.bytes run run run (starts a run) (starts l run)).1 apart;
        }

    left-alike :
        slaves_in (file_after file_between B run' (second_run_lem file A B)) ≡ slaves_in (file_after file (A ++ B) run'' (whole_run_lem file (A ++ B)))
    left-alike =
        two_lists_over_calls file b taken A B a.bytes l.bytes apart run run' run'' (starts a run) (starts l run')
        (whole_run_lem file A) (second_run_lem file A B) (whole_run_lem file (A ++ B))
        (run_ends a run) (second-ends a l (run_ends a run) run') (run_ends joined-listed run'')

    finds : SecondRun (slaves_in file) A B (slaves_in file_between) (run_after file_between B run' (second_run_lem file A B))
    finds =
        second_finds_over_calls file b taken A B a.bytes l.bytes run run' (starts a run) (starts l run')
        (whole_run_lem file A) (second_run_lem file A B) (run_ends a run) (second-ends a l (run_ends a run) run')

    together :
        RunsTogether (slaves_in file) A B (run_after file A run (whole_run_lem file A))
        (run_after file_between B run' (second_run_lem file A B)) (run_after file (A ++ B) run'' (whole_run_lem file (A ++ B)))
    together =
        two-runs_over_calls file b taken A B a.bytes l.bytes apart run run' run'' (starts a run) (starts l run')
        (whole_run_lem file A) (second_run_lem file A B) (whole_run_lem file (A ++ B))
        (run_ends a run) (second-ends a l (run_ends a run) run') (run_ends joined-listed run'')

-- ---- the files, and lists of names

m10_bytes : Bytes m10_file
m10_bytes = bytes_below m10_file (unfold m10_file all_below both in refl)

m10_taken : TakenByRounds m10_file
m10_taken = accepted-runs m10_accepted

m8_bytes : Bytes m8_file_lem
m8_bytes = bytes_below m8_file_lem (unfold m8_file_lem all_below both in refl)

m8_accepted : file_ground m8_file_lem ≡ 0
unfolding m8_file_lem file_ground file_ground_at file_grounds_at first_of both either wrong_size wrong_mark wrong_edition wrong_length wrong_header
    wrong_pending no_operation broadcast_read all_zero part number_of offset_at broken_layout walk_file table_end walk_slaves and_then walk_slave
    good_table_entry walk_directory good_entry file_size ends_at lacks_needed all_have_needed has_needed last_record width_of decode_at slaves_at
    slave_at files_at file_at equal_physical_names has_repeat is_among physical_name bytes_in bytes_among
m8_accepted = refl

m8_taken : TakenByRounds m8_file_lem
m8_taken = accepted-runs m8_accepted

listed : (names : List ℕ) → all_below names ≡ true → start_ground names ≡ 0 → Listed names
listed names below none = record { bytes = bytes_below names below; fits = none }

no_names : Listed []
unfolding all_below both start_ground names_grounds first_of unfit_name has_repeat is_among either
no_names = listed [] refl refl

name_1 : Listed (1 ∷ [])
unfolding no_names
name_1 = listed (1 ∷ []) refl refl

name_2 : Listed (2 ∷ [])
unfolding no_names
name_2 = listed (2 ∷ []) refl refl

names_1_to_3 : Listed (1 ∷ 2 ∷ 3 ∷ [])
unfolding no_names
names_1_to_3 = listed (1 ∷ 2 ∷ 3 ∷ []) refl refl

name_4 : Listed (4 ∷ [])
unfolding no_names
name_4 = listed (4 ∷ []) refl refl

apart_1_2 : NoCommon (1 ∷ []) (2 ∷ [])
unfolding is_among either
apart_1_2 = also refl all_empty

apart_3_4 : NoCommon (1 ∷ 2 ∷ 3 ∷ []) (4 ∷ [])
unfolding is_among either
apart_3_4 = also refl (also refl (also refl all_empty))

-- ---- the stored figures

-- the words of a run before ttpa_start, and the file that a run leaves
abbrev words : List ℕ
words = replicate 8 0

abbrev left_by_lem : List ℕ → List ℕ → List ℕ
left_by_lem file names = file_after file names words (whole_run_lem file names)

-- names used up: one round more than the run over both
m10_used_up : (run_after m10_file (1 ∷ []) words (whole_run_lem m10_file (1 ∷ []))).end ≡ names_used_up
unfolding three_runs
m10_used_up =
    mark-whole m10_file m10_bytes m10_taken name_1 words
    ∙ ap (λ (ss : List Named). end_for ss (1 ∷ [])) m10_slaves ∙ ap (λ (l : List ℕ). get_or l 0 0) names-fewer

m10-longer :
    (run_after m10_file (1 ∷ []) words (whole_run_lem m10_file (1 ∷ []))).counts.rounds +
    (run_after (left_by_lem m10_file (1 ∷ [])) (2 ∷ []) words (second_run_lem m10_file (1 ∷ []) (2 ∷ []))).counts.rounds ≡
    (run_after m10_file (1 ∷ 2 ∷ []) words (whole_run_lem m10_file (1 ∷ 2 ∷ []))).counts.rounds + 1
unfolding extra_again
m10-longer = (together m10_file m10_bytes m10_taken name_1 name_2 apart_1_2 words words words).used_up m10_used_up

-- all named: the run over both is A's, and B's run has the extra read and 4 rounds
m10_all-named : (run_after m10_file (1 ∷ 2 ∷ 3 ∷ []) words (whole_run_lem m10_file (1 ∷ 2 ∷ 3 ∷ []))).end ≡ all_named_lem
unfolding three_runs
m10_all-named =
    mark-whole m10_file m10_bytes m10_taken names_1_to_3 words
    ∙ ap (λ (ss : List Named). end_for ss (1 ∷ 2 ∷ 3 ∷ [])) m10_slaves ∙ ap (λ (l : List ℕ). get_or l 0 0) names_more

m10-same :
    (run_after m10_file (1 ∷ 2 ∷ 3 ∷ []) words (whole_run_lem m10_file (1 ∷ 2 ∷ 3 ∷ []))).counts.rounds ≡
    (run_after m10_file (1 ∷ 2 ∷ 3 ∷ 4 ∷ []) words (whole_run_lem m10_file (1 ∷ 2 ∷ 3 ∷ 4 ∷ []))).counts.rounds
m10-same = (together m10_file m10_bytes m10_taken names_1_to_3 name_4 apart_3_4 words words words).named m10_all-named

m10-nobody :
    (run_after (left_by_lem m10_file (1 ∷ 2 ∷ 3 ∷ [])) (4 ∷ []) words (second_run_lem m10_file (1 ∷ 2 ∷ 3 ∷ []) (4 ∷ []))).counts.rounds ≡ 5
m10-nobody =
    (together m10_file m10_bytes m10_taken names_1_to_3 name_4 apart_3_4 words words words).nobody m10_all-named
    ∙ ap (λ (ss : List Named). rounds_for_nobody (names_held (names_after ss (1 ∷ 2 ∷ 3 ∷ []))) (4 ∷ [])) m10_slaves ∙ nobody-after_3

-- B's run finds the lesser of two slaves unnamed, A's name having gone to the greater
m10_found : falling (unnamed_among (slaves_in (left_by_lem m10_file (1 ∷ [])))) ≡ 0x0000000700000010 ∷ []
unfolding m10_slaves_lem slave free_names names_held falling insert unnamed_among is_among either
m10_found =
    (finds m10_file m10_bytes m10_taken name_1 name_2 apart_1_2 words words words).unnamed
    ∙ ap (λ (ss : List Named). drop (length (free_names (names_held ss) (1 ∷ []))) (falling (unnamed_among ss))) m10_slaves

-- either list empty
m10-first-empty :
    slaves_in (file_after (left_by_lem m10_file []) (1 ∷ []) words (second_run_lem m10_file [] (1 ∷ []))) ≡ slaves_in (left_by_lem m10_file (1 ∷ []))
m10-first-empty = left-alike m10_file m10_bytes m10_taken no_names name_1 all_empty words words words

m10-second-empty :
    slaves_in (file_after (left_by_lem m10_file (1 ∷ [])) [] words (second_run_lem m10_file (1 ∷ []) [])) ≡ slaves_in (left_by_lem m10_file (1 ∷ []))
unfolding is_among
m10-second-empty = left-alike m10_file m10_bytes m10_taken name_1 no_names (also refl all_empty) words words words

-- A's name held at the start, by two slaves
m8_used_up : (run_after m8_file_lem (1 ∷ []) words (whole_run_lem m8_file_lem (1 ∷ []))).end ≡ names_used_up
unfolding three_runs
m8_used_up =
    mark-whole m8_file_lem m8_bytes m8_taken name_1 words
    ∙ ap (λ (ss : List Named). end_for ss (1 ∷ [])) m8_slaves ∙ ap (λ (l : List ℕ). get_or l 0 0) first-held

m8-alike :
    slaves_in (file_after (left_by_lem m8_file_lem (1 ∷ [])) (2 ∷ []) words (second_run_lem m8_file_lem (1 ∷ []) (2 ∷ []))) ≡
    slaves_in (left_by_lem m8_file_lem (1 ∷ 2 ∷ []))
m8-alike = left-alike m8_file_lem m8_bytes m8_taken name_1 name_2 apart_1_2 words words words

-- ---- steps alone, with buffers of 64 bytes: as many as the run has rounds, and the first of them with a summary

steps-long : (n : ℕ) → All LongStep (steps n)
steps-long zero = all_empty
steps-long (suc n) = also (long zeros-long) (steps-long n)

steps_right : (names : List ℕ) (m : Memory) (n : ℕ) → AllGivenRight names m (steps n)
steps_right names m zero = no_calls
steps_right names m (suc n) = next_given step_without (steps_right names (memory_after names m (long_call 0)) n)

steps-end :
    (file : List ℕ) → Bytes file → TakenByRounds file → {names : List ℕ} → Listed names → (run : List ℕ) →
    ToItsEnd file names run (steps (rounds_for (slaves_in file) names))
steps-end file b taken {names} l run =
    let n = rounds_for (slaves_in file) names in
    every_run-ends_over_calls file b taken names l.bytes run (starts l run) (steps n) (steps-long n) (steps_right names _ n)
    (omega (arith, length-replicate n (long_call 0)))

summary-first : ToItsEnd m10_file (1 ∷ []) words (ttpa_step_keeping answer_buffer 0 (0xFF ∷ 0xFF ∷ 9 ∷ []) 2 ∷ steps 135)
unfolding three_runs
summary-first =
    let due = ap (λ (ss : List Named). rounds_for ss (1 ∷ [])) m10_slaves ∙ ap (λ (l : List ℕ). get_or l 1 0) names-fewer in
    every_run-ends_over_calls m10_file m10_bytes m10_taken (1 ∷ []) name_1.bytes words (starts name_1 words) _
    (also (long_keeping zeros-long) (steps-long 135)) (next_given (step_matching m10_matches) (steps_right (1 ∷ []) _ 135))
    (omega (arith, due, length-replicate 135 (long_call 0)))

-- ---- with summaries, refused steps, a multipartner round and a trace of one among the steps

-- a run over name 1 ends with its 136th step
m10-ends :
    {calls : List CCall} → All GivenBytes calls → permitted false (1 ∷ []) (started m10_file (1 ∷ []) words) calls ≡ true →
    steps_taken (1 ∷ []) (started m10_file (1 ∷ []) words) calls ≡ 136 → ToItsEnd m10_file (1 ∷ []) words calls
unfolding three_runs
m10-ends {calls} given may taken =
    let due = ap (λ (ss : List Named). rounds_for ss (1 ∷ [])) m10_slaves ∙ ap (λ (l : List ℕ). get_or l 1 0) names-fewer in
    (runs-end_over_calls m10_file m10_bytes m10_taken (1 ∷ []) name_1.bytes words (starts name_1 words) calls given may).0
    (omega (arith, due, taken))

-- a step with the summary of the file's slaves, of which what lies beyond the count does not matter; one with a summary of other names,
-- refused by 24; one with a short buffer, refused by 9
abbrev before : List CCall
before =
    ttpa_step_keeping answer_buffer 0 (0xFF ∷ 0xFF ∷ 9 ∷ []) 2 ∷ ttpa_step_keeping answer_buffer 0 (0xFF ∷ 1 ∷ []) 2 ∷ ttpa_step [] 0 ∷ []

abbrev mixed : List CCall
mixed = before ++ (others ++ steps 135)

before-given : All GivenBytes before
before-given = also given-step_keeping (also given-step_keeping (also given-step all_empty))

mixed_given : All GivenBytes mixed
mixed_given = all_append before-given (all_append others-given (steps-given 0 135))

mixed_may : permitted false (1 ∷ []) (started m10_file (1 ∷ []) words) mixed ≡ true
mixed_may =
    rounds-fit_calls m10_file m10_bytes m10_taken (1 ∷ []) name_1.bytes words (starts name_1 words) before before-given
    (steps-permitted (1 ∷ []) (started m10_file (1 ∷ []) words) before (also is-step_keeping (also is-step_keeping (also is-step all_empty))))
    two_frames twice others (others-sent _ _) (steps 135) (steps-only 0 135)

mixed_steps : steps_taken (1 ∷ []) (started m10_file (1 ∷ []) words) mixed ≡ 136
unfolding others-sent account_steps account_step arguments_ground first_of wrong_summary alike short_answer names_held account_of account_call one_round end_with extra m10_slaves_lem slave
mixed_steps =
    calls-counted m10_file m10_bytes m10_taken (1 ∷ []) name_1.bytes words (starts name_1 words) mixed mixed_given mixed_may
    ∙ ap (λ (ss : List Named). account_steps (account_of ss (1 ∷ [])) (by_rules (1 ∷ []) (started m10_file (1 ∷ []) words) mixed)) m10_slaves

mixed_ends : ToItsEnd m10_file (1 ∷ []) words mixed
mixed_ends = m10-ends mixed_given mixed_may mixed_steps

-- one of the 136 steps short, a run is not at its end
m10_not_yet : ToItsEnd m10_file (1 ∷ []) words (busy_run 135) → ⊥
unfolding three_runs
m10_not_yet to =
    let due = ap (λ (ss : List Named). rounds_for ss (1 ∷ [])) m10_slaves ∙ ap (λ (l : List ℕ). get_or l 1 0) names-fewer in
    let made = busy_steps m10_file m10_bytes m10_taken name_1 words 135 in
    let exactly =
    runs-end_over_calls m10_file m10_bytes m10_taken (1 ∷ []) name_1.bytes words (starts name_1 words) (busy_run 135) to.bytes to.may in
    omega (arith, due, made, exactly.1 to)

-- and with the same round and trace behind it, between the two runs
abbrev between : List CCall
between = mixed ++ (others ++ [])

between-given : All GivenBytes between
between-given = all_append mixed_given (all_append others-given all_empty)

between-may : permitted false (1 ∷ []) (started m10_file (1 ∷ []) words) between ≡ true
between-may =
    rounds-fit_calls m10_file m10_bytes m10_taken (1 ∷ []) name_1.bytes words (starts name_1 words) mixed mixed_given mixed_may
    two_frames twice others (others-sent _ _) [] all_empty

between-steps : steps_taken (1 ∷ []) (started m10_file (1 ∷ []) words) between ≡ 136
unfolding mixed_steps
between-steps =
    calls-counted m10_file m10_bytes m10_taken (1 ∷ []) name_1.bytes words (starts name_1 words) between between-given between-may
    ∙ ap (λ (ss : List Named). account_steps (account_of ss (1 ∷ [])) (by_rules (1 ∷ []) (started m10_file (1 ∷ []) words) between)) m10_slaves

between_ends : ToItsEnd m10_file (1 ∷ []) words between
between_ends = m10-ends between-given between-may between-steps

between-second : ToItsEnd (file_after m10_file (1 ∷ []) words between) (2 ∷ []) words (second_run_lem m10_file (1 ∷ []) (2 ∷ []))
between-second = second-ends m10_file m10_bytes m10_taken name_1 name_2 between_ends words

between-alike :
    slaves_in (file_after (file_after m10_file (1 ∷ []) words between) (2 ∷ []) words (second_run_lem m10_file (1 ∷ []) (2 ∷ []))) ≡
    slaves_in (left_by_lem m10_file (1 ∷ 2 ∷ []))
between-alike =
    two_lists_over_calls m10_file m10_bytes m10_taken (1 ∷ []) (2 ∷ []) name_1.bytes name_2.bytes apart_1_2 words words words
    (starts name_1 words) (starts name_2 words) between (second_run_lem m10_file (1 ∷ []) (2 ∷ [])) (whole_run_lem m10_file (1 ∷ 2 ∷ [])) between_ends between-second
    (run_ends m10_file m10_bytes m10_taken (joined-listed m10_file m10_bytes m10_taken name_1 name_2 apart_1_2 words words words) words)

between-finds :
    SecondRun (slaves_in m10_file) (1 ∷ []) (2 ∷ []) (slaves_in (file_after m10_file (1 ∷ []) words between))
    (run_after (file_after m10_file (1 ∷ []) words between) (2 ∷ []) words (second_run_lem m10_file (1 ∷ []) (2 ∷ [])))
between-finds =
    second_finds_over_calls m10_file m10_bytes m10_taken (1 ∷ []) (2 ∷ []) name_1.bytes name_2.bytes words words (starts name_1 words) (starts name_2 words)
    between (second_run_lem m10_file (1 ∷ []) (2 ∷ [])) between_ends between-second

-- ---- with a turn behind the first step

abbrev turned : List CCall
turned = long_call 0 ∷ one_turn ∷ steps 135

turned-given : All GivenBytes turned
turned-given = also given-step (also (given-turn waiting-bytes) (steps-given 0 135))

turned-may : permitted false (1 ∷ []) (started m10_file (1 ∷ []) words) turned ≡ true
turned-may =
    turns-permitted m10_file m10_bytes m10_taken (1 ∷ []) name_1.bytes words (starts name_1 words) [] all_empty
    (steps-permitted (1 ∷ []) (started m10_file (1 ∷ []) words) [] all_empty) turned
    (also (a_step is-step) (also (a_turn waiting-bytes) (all_map (λ c is. a_step is) (steps-only 0 135))))

-- it serves, on the file that the step leaves
turned_serves : Serves (file_after m10_file (1 ∷ []) words (long_call 0 ∷ [])) waiting answer_buffer 0 0
turned_serves =
    serving-told 0 0
    (waiting-served _
    (runs-accepted
    (throughout_calls m10_file m10_bytes m10_taken (1 ∷ []) name_1.bytes words (starts name_1 words) (long_call 0 ∷ [])
    (one_turn ∷ steps 135) (also given-step all_empty) turned-may).accepted))

-- its frames are no steps of the account
module _ (a : Account) where
  frames_uncounted : (xs : List (List ℕ)) (ds : List Call) → account_steps a (map frame_call xs ++ ds) ≡ account_steps a ds
  unfolding account_steps account_step account_call frame_call
  frames_uncounted [] ds = refl
  frames_uncounted (x ∷ xs) ds = omega (arith, frames_uncounted xs ds)

  turn-uncounted :
      (names : List ℕ) (m : Memory) (cs : List CCall) →
      account_steps a (by_rules names m (one_turn ∷ cs)) ≡ account_steps a (by_rules names (memory_after names m one_turn) cs)
  unfolding arguments_of_all arguments_of
  turn-uncounted names m cs =
      let rest = arguments_of_all names (memory_after names m one_turn) cs in
      let xs = turn_frames m.file waiting answer_buffer in
      rw (singly-append (arguments_of m.file one_turn) rest, frames_alone xs) (frames_uncounted xs (singly rest))

  step-counted :
      (names : List ℕ) (m : Memory) (cs : List CCall) →
      account_steps a (by_rules names m (long_call 0 ∷ cs)) ≡
      1 + account_steps (account_call a long_step) (by_rules names (memory_after names m (long_call 0)) cs)
  unfolding singly arguments_of_all arguments_of account_steps account_step arguments_ground first_of wrong_summary short_answer
  step-counted names m cs = refl

turned-steps : steps_taken (1 ∷ []) (started m10_file (1 ∷ []) words) turned ≡ 136
turned-steps =
    let begun = started m10_file (1 ∷ []) words in
    let stepped = memory_after (1 ∷ []) begun (long_call 0) in
    let served = memory_after (1 ∷ []) stepped one_turn in
    let a = account_of (slaves_in m10_file) (1 ∷ []) in
    let b = account_call a long_step in
    calls-counted m10_file m10_bytes m10_taken (1 ∷ []) name_1.bytes words (starts name_1 words) turned turned-given turned-may
    ∙ step-counted a (1 ∷ []) begun (one_turn ∷ steps 135)
    ∙ ap (λ (n : ℕ). 1 + n)
    (turn-uncounted b (1 ∷ []) stepped (steps 135)
    ∙ ap (λ (cs : List Call). account_steps b cs) (steps_by_rules 0 (1 ∷ []) served 135)
    ∙ long_many 135 b)

turned-ends : ToItsEnd m10_file (1 ∷ []) words turned
turned-ends = m10-ends turned-given turned-may turned-steps

turned-alike :
    slaves_in (file_after (file_after m10_file (1 ∷ []) words turned) (2 ∷ []) words (second_run_lem m10_file (1 ∷ []) (2 ∷ []))) ≡
    slaves_in (left_by_lem m10_file (1 ∷ 2 ∷ []))
turned-alike =
    two_lists_over_calls m10_file m10_bytes m10_taken (1 ∷ []) (2 ∷ []) name_1.bytes name_2.bytes apart_1_2 words words words
    (starts name_1 words) (starts name_2 words) turned (second_run_lem m10_file (1 ∷ []) (2 ∷ [])) (whole_run_lem m10_file (1 ∷ 2 ∷ [])) turned-ends
    (second-ends m10_file m10_bytes m10_taken name_1 name_2 turned-ends words)
    (run_ends m10_file m10_bytes m10_taken (joined-listed m10_file m10_bytes m10_taken name_1 name_2 apart_1_2 words words words) words)

-- ---- like statements that are false

-- the first slave's logical name
unfoldable first_name : List Named → ℕ
first_name [] = 0
first_name (s ∷ ss) = s.logical

-- what one run over some names leaves on the file of M10
m10_left : {names : List ℕ} → Listed names → slaves_in (left_by_lem m10_file names) ≡ names_after m10_slaves_lem names
m10_left {names} l = names-whole m10_file m10_bytes m10_taken l words ∙ ap (λ (ss : List Named). names_after ss names) m10_slaves

names_1_2 : Listed (1 ∷ 2 ∷ [])
names_1_2 = joined-listed m10_file m10_bytes m10_taken name_1 name_2 apart_1_2 words words words

names_2_1 : Listed (2 ∷ 1 ∷ [])
unfolding no_names
names_2_1 = listed (2 ∷ 1 ∷ []) refl refl

-- "A followed by B" for B followed by A
abbrev Reversed : Type 0
Reversed =
    (file : List ℕ) → Bytes file → TakenByRounds file → (A B : List ℕ) → Bytes A → Bytes B → NoCommon A B →
    (run run' run'' : List ℕ) → (start_call A run).0 ≡ 0 → (start_call B run').0 ≡ 0 → (first second whole : List CCall) →
    ToItsEnd file A run first → ToItsEnd (file_after file A run first) B run' second → ToItsEnd file (B ++ A) run'' whole →
    slaves_in (file_after (file_after file A run first) B run' second) ≡ slaves_in (file_after file (B ++ A) run'' whole)

not_reversed : Reversed → ⊥
unfolding first_name m10_slaves_lem slave names_after renamed name_given givings free_names names_held falling insert unnamed_among is_among either
not_reversed claim =
    let same =
    claim m10_file m10_bytes m10_taken (1 ∷ []) (2 ∷ []) name_1.bytes name_2.bytes apart_1_2 words words words
    (starts name_1 words) (starts name_2 words) (whole_run_lem m10_file (1 ∷ [])) (second_run_lem m10_file (1 ∷ []) (2 ∷ [])) (whole_run_lem m10_file (2 ∷ 1 ∷ []))
    (run_ends m10_file m10_bytes m10_taken name_1 words)
    (second-ends m10_file m10_bytes m10_taken name_1 name_2 (run_ends m10_file m10_bytes m10_taken name_1 words) words)
    (run_ends m10_file m10_bytes m10_taken names_2_1 words) in
    let alike = left-alike m10_file m10_bytes m10_taken name_1 name_2 apart_1_2 words words words in
    let names : names_after m10_slaves_lem (1 ∷ 2 ∷ []) ≡ names_after m10_slaves_lem (2 ∷ 1 ∷ []) =
    sym (m10_left names_1_2) ∙ sym alike ∙ same ∙ m10_left names_2_1 in
    let z : ◌≡◌ {A = ℕ} 2 1 = ap first_name names in omega (arith, z)

-- B's run on the first file
abbrev OnFirstFile : Type 0
OnFirstFile =
    (file : List ℕ) → Bytes file → TakenByRounds file → (A B : List ℕ) → Bytes A → Bytes B → NoCommon A B →
    (run run' run'' : List ℕ) → (start_call A run).0 ≡ 0 → (start_call B run').0 ≡ 0 → (first second whole : List CCall) →
    ToItsEnd file A run first → ToItsEnd file B run' second → ToItsEnd file (A ++ B) run'' whole →
    slaves_in (file_after file B run' second) ≡ slaves_in (file_after file (A ++ B) run'' whole)

not_on_first-file : OnFirstFile → ⊥
unfolding not_reversed
not_on_first-file claim =
    let same =
    claim m10_file m10_bytes m10_taken (1 ∷ []) (2 ∷ []) name_1.bytes name_2.bytes apart_1_2 words words words
    (starts name_1 words) (starts name_2 words) (whole_run_lem m10_file (1 ∷ [])) (whole_run_lem m10_file (2 ∷ [])) (whole_run_lem m10_file (1 ∷ 2 ∷ []))
    (run_ends m10_file m10_bytes m10_taken name_1 words) (run_ends m10_file m10_bytes m10_taken name_2 words)
    (run_ends m10_file m10_bytes m10_taken names_1_2 words) in
    let names : names_after m10_slaves_lem (2 ∷ []) ≡ names_after m10_slaves_lem (1 ∷ 2 ∷ []) =
    sym (m10_left name_2) ∙ same ∙ m10_left names_1_2 in
    let z : ◌≡◌ {A = ℕ} 0xFF 2 = ap first_name names in omega (arith, z)

-- A's run not to its end
abbrev CutShort : Type 0
CutShort =
    (file : List ℕ) → Bytes file → TakenByRounds file → (A B : List ℕ) → Bytes A → Bytes B → NoCommon A B →
    (run run' run'' : List ℕ) → (start_call A run).0 ≡ 0 → (start_call B run').0 ≡ 0 → (first second whole : List CCall) → All GivenBytes first →
    permitted false A (started file A run) first ≡ true →
    ToItsEnd (file_after file A run first) B run' second → ToItsEnd file (A ++ B) run'' whole →
    slaves_in (file_after (file_after file A run first) B run' second) ≡ slaves_in (file_after file (A ++ B) run'' whole)

not_cut_short : CutShort → ⊥
unfolding not_reversed after_calls
not_cut_short claim =
    let same =
    claim m10_file m10_bytes m10_taken (1 ∷ []) (2 ∷ []) name_1.bytes name_2.bytes apart_1_2 words words words
    (starts name_1 words) (starts name_2 words) [] (whole_run_lem m10_file (2 ∷ [])) (whole_run_lem m10_file (1 ∷ 2 ∷ [])) all_empty
    (steps-permitted (1 ∷ []) (started m10_file (1 ∷ []) words) [] all_empty)
    (run_ends m10_file m10_bytes m10_taken name_2 words) (run_ends m10_file m10_bytes m10_taken names_1_2 words) in
    let names : names_after m10_slaves_lem (2 ∷ []) ≡ names_after m10_slaves_lem (1 ∷ 2 ∷ []) =
    sym (m10_left name_2) ∙ same ∙ m10_left names_1_2 in
    let z : ◌≡◌ {A = ℕ} 0xFF 2 = ap first_name names in omega (arith, z)

-- any two acceptable lists acceptable as one: a common name is refused by 16
abbrev AnyJoined : Type 0
AnyJoined =
    (A B : List ℕ) → Bytes A → Bytes B → (run : List ℕ) → (start_call A run).0 ≡ 0 → (start_call B run).0 ≡ 0 → (start_call (A ++ B) run).0 ≡ 0

common_1 : NoCommon (1 ∷ []) (1 ∷ []) → ⊥
unfolding is_among either
common_1 (also other none) = clash refl other

by_16 : (start_call (1 ∷ 1 ∷ []) words).0 ≡ 16
by_16 = common_returns (1 ∷ []) (1 ∷ []) name_1.bytes name_1.bytes words words words (starts name_1 words) (starts name_1 words) common_1

not_any_joined : AnyJoined → ⊥
not_any_joined claim =
    omega (arith, by_16, claim (1 ∷ []) (1 ∷ []) name_1.bytes name_1.bytes words (starts name_1 words) (starts name_1 words))
