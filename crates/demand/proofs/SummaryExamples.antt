-- C calls that meet what the claims on the summary ask: from the filling through rounds, a step and a refused frame to the question; a
-- summary that does not match; and a list of demand 3's calls with summaries and without.
-- Assumes nothing.
use Prim.Native.Nat.{ℕ}
use native.Mathlib.Omega.{arith}
use mathlib.Core.Path.{◌≡◌, refl, sym, ◌∙◌}
use mathlib.Core.List.{List, [], ◌∷◌}
use lib.ListN.{length}
use Rattle.file.specs.Rules.Layout.{width_of}
use Rattle.file.specs.Rules.Bytes.{Bytes, All.all_empty, All.all_next as also, number_of, part}
use Rattle.file.specs.Rules.Order.{first_of, both, either}
use Rattle.file.specs.Rules.Results.{number_in}
use Rattle.file.specs.Rules.Cluster.{bytes_among, bytes_in, logical_name, logical_names}
use Rattle.file.specs.Rules.Decode.{decode, decode_at, slaves_at, slave_at, files_at, file_at, file_size, offset_at}
use Rattle.file.specs.Rules.FileGrounds.{is_among, has_repeat}
use Rattle.frame.specs.Rules.Fireworks.{Round, multipartner, msd, round_of, round_in}
use Rattle.cluster.specs.Rules.Summary.{kept}
use Rattle.cluster.specs.Rules.RoundGrounds.{round_by_lem}
use Rattle.cluster.specs.Claims.Renaming.{Baptizes, names_of}
use Rattle.cluster.proofs.Renaming.{only-baptizing_renames}
use Rattle.cluster.specs.Claims.Summary.{Matches, given_names}
use Rattle.cluster.proofs.Holders.{filling_matches}
use Rattle.naming.specs.Rules.Position.{fresh}
use Rattle.naming.specs.Rules.RunGrounds.{start_ground, names_grounds, unfit_name}
use Rattle.naming.specs.Claims.Files.{m10_file}
use Rattle.naming.specs.Claims.Cases.{answer_buffer}
use Rattle.file.proofs.BytesBelow.{all_below, bytes_below}
use Rattle.naming.proofs.Examples.{m10_accepted}
use Rattle.ttpa.specs.Rules.Calls.{fill_call, start_call, words_of, position_in, round_call, round_keeping_call}
use Rattle.demand.specs.Claims.DemandCalls.{CCall, ttpa_step_keeping, ttpa_round, ttpa_step, given-step, given-step_keeping, given-frame, memory_after, after_calls}
use Rattle.demand.specs.Claims.DemandCalls.{started, CallsDemand, is-step, is-step_keeping}
use Rattle.demand.specs.Claims.Summary.{Made, keeping_round, keeping_step_lem, other, other_file, in_round, in_step_lem, in_other, AllKeep, none_made_lem, next_made, AnswersAsRead, filled_and_made}
use Rattle.demand.specs.Claims.Summary.{AllGivenRight, one_more_lem, no_calls, step_matching, step_without, round_without}
use Rattle.demand.proofs.DemandCalls.{accepted-runs, start-number, steps-permitted, demand_over_calls}
use Rattle.demand.proofs.Summary.{filled_and_asked, rounds_with_summary}

-- ---- the file of M10, whose two slaves have no name

m10_names : names_of m10_file ≡ 0xFF ∷ 0xFF ∷ []
unfolding m10_file logical_names decode width_of decode_at slaves_at slave_at files_at file_at file_size offset_at part number_of logical_name bytes_in bytes_among
m10_names = refl

m10_count : length (decode m10_file).slaves ≡ 2
unfolding m10_names
m10_count = refl

pub m10_matches : Matches m10_file (kept 2 (0xFF ∷ 0xFF ∷ 9 ∷ []))
m10_matches = given_names {count = 2} {slice = 0xFF ∷ 0xFF ∷ 9 ∷ []} (omega arith) (sym m10_names)

m10_no_match : Matches m10_file (kept 2 (0xFF ∷ 1 ∷ [])) → ⊥
m10_no_match (given_names few same) = let other : ◌≡◌ {A = List ℕ} (0xFF ∷ 1 ∷ []) (0xFF ∷ 0xFF ∷ []) = same ∙ m10_names in let z : ◌≡◌ {A = ℕ} 1 0xFF = cc in omega arith

-- ---- from the filling to the question

m10_fills : (fill_call m10_file (0 ∷ 0 ∷ 9 ∷ []) 0).0 ≡ 0
unfolding fill_call number_in
m10_fills = rw (filling_matches m10_file (0 ∷ 0 ∷ 9 ∷ []) m10_accepted (rw m10_count (omega arith))).0

-- a multipartner round that is not given the summary, a step and a round that are, and a refused frame
m10_calls : List Made
m10_calls =
    other [] [] (ttpa_round (0x78 ∷ []) answer_buffer 0) ∷ keeping_step_lem (words_of (fresh (1 ∷ 2 ∷ []))) (1 ∷ 2 ∷ []) answer_buffer 0 ∷
    keeping_round (0x78 ∷ []) answer_buffer 0 ∷ keeping_round [] answer_buffer 0 ∷ []

m10_bytes : Bytes m10_file
m10_bytes = bytes_below m10_file (unfold m10_file all_below both in refl)

one-two : Bytes (1 ∷ 2 ∷ [])
one-two = bytes_below (1 ∷ 2 ∷ []) (unfold all_below both in refl)

multipartner-bytes : Bytes (0x78 ∷ [])
multipartner-bytes = bytes_below (0x78 ∷ []) (unfold all_below both in refl)

nobody_baptized : (name : ℕ) → Baptizes m10_file (0x78 ∷ []) answer_buffer name → ⊥
unfolding round_by_lem round_of round_in
nobody_baptized name b = let e : ◌≡◌ {A = Round} (multipartner 0) msd = b.is_msd in let z : ◌≡◌ {A = ℕ} 0 1 = cc in omega arith

names_stay : names_of (other_file m10_file [] [] (ttpa_round (0x78 ∷ []) answer_buffer 0)) ≡ names_of m10_file
unfolding memory_after round_call
names_stay = only-baptizing_renames m10_file (0x78 ∷ []) answer_buffer m10_bytes multipartner-bytes nobody_baptized

m10_keep : (count : ℕ) (held : List ℕ) → AllKeep count m10_file held m10_calls
unfolding m10_calls
m10_keep count held =
    next_made (in_other {run = []} all_empty (unfold position_in in omega arith) (given-frame multipartner-bytes) names_stay)
    (next_made (in_step_lem {run = words_of (fresh (1 ∷ 2 ∷ []))} one-two (unfold words_of position_in fresh in omega arith))
    (next_made (in_round multipartner-bytes) (next_made (in_round all_empty) none_made_lem)))

m10-asked :
    AnswersAsRead (filled_and_made m10_file (0 ∷ 0 ∷ 9 ∷ []) 0 m10_calls).0 (filled_and_made m10_file (0 ∷ 0 ∷ 9 ∷ []) 0 m10_calls).1
    (fill_call m10_file (0 ∷ 0 ∷ 9 ∷ []) 0).1 1 0
m10-asked =
    filled_and_asked m10_file (0 ∷ 0 ∷ 9 ∷ []) 0 m10_bytes m10_fills m10_calls
    (m10_keep (fill_call m10_file (0 ∷ 0 ∷ 9 ∷ []) 0).1 (fill_call m10_file (0 ∷ 0 ∷ 9 ∷ []) 0).2) 1 0

-- ---- a summary that does not match, and one that does

m10_by_24 : round_keeping_call m10_file (0x78 ∷ []) answer_buffer 5 (0xFF ∷ 1 ∷ []) 2 ≡ (24, 5, answer_buffer, m10_file, 0xFF ∷ 1 ∷ [])
m10_by_24 =
    let given = rounds_with_summary m10_file (0x78 ∷ []) answer_buffer 5 (0xFF ∷ 1 ∷ []) 2 in
    given.lent (given.by24.1 (accepted-runs m10_accepted, m10_no_match))

-- ---- demand 3's calls: a step with a summary that matches, a step without, and a multipartner round

mixed_calls : List CCall
mixed_calls = ttpa_step_keeping answer_buffer 0 (0xFF ∷ 0xFF ∷ 9 ∷ []) 2 ∷ ttpa_step answer_buffer 0 ∷ ttpa_round (0x78 ∷ []) answer_buffer 0 ∷ []

mixed_given : (run : List ℕ) → AllGivenRight (1 ∷ 2 ∷ []) (started m10_file (1 ∷ 2 ∷ []) run) mixed_calls
unfolding mixed_calls
mixed_given run = one_more_lem (step_matching m10_matches) (one_more_lem step_without (one_more_lem round_without no_calls))

-- and demand 3 of a list that has a step with a summary that does not match, which is refused by 24
refused_calls : List CCall
refused_calls = ttpa_step_keeping answer_buffer 0 (0xFF ∷ 0xFF ∷ []) 2 ∷ ttpa_step_keeping answer_buffer 0 (0xFF ∷ 1 ∷ []) 2 ∷ ttpa_step answer_buffer 0 ∷ []

m10_starts : (run : List ℕ) → (start_call (1 ∷ 2 ∷ []) run).0 ≡ 0
m10_starts run = start-number (1 ∷ 2 ∷ []) run ∙ unfold start_ground names_grounds first_of unfit_name has_repeat is_among both either in refl

refused_demand : (run : List ℕ) → CallsDemand m10_file (1 ∷ 2 ∷ []) refused_calls (after_calls (1 ∷ 2 ∷ []) (started m10_file (1 ∷ 2 ∷ []) run) refused_calls)
unfolding refused_calls
refused_demand run =
    demand_over_calls m10_file m10_bytes (accepted-runs m10_accepted)
    (1 ∷ 2 ∷ []) one-two run (m10_starts run)
    refused_calls (also given-step_keeping (also given-step_keeping (also given-step all_empty)))
    (steps-permitted (1 ∷ 2 ∷ []) (started m10_file (1 ∷ 2 ∷ []) run) refused_calls (also is-step_keeping (also is-step_keeping (also is-step all_empty))))
