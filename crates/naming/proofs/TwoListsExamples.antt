-- Lists of calls that meet what the claims on two lists of names ask, of every accepted file and any two acceptable lists without a common
-- name; and the figures computed, on the file of M10, whose two slaves have no name, and on that of M8, whose two hold name 1.
-- Assumes nothing.
use Prim.Native.Nat.{ℕ, ◌≤◌}
use native.Mathlib.Omega.{arith}
use mathlib.Core.Path.{◌≡◌, refl}
use mathlib.Core.List.{List, [], ◌∷◌, ◌++◌}
use mathlib.Core.Bool.{true}
use lib.ListN.{replicate}
use Rattle.file.specs.Rules.Layout.{width_of}
use Rattle.file.specs.Rules.Order.{both, either}
use Rattle.file.specs.Rules.Bytes.{Bytes, All, All.all_empty, All.all_next as also, number_of, part}
use Rattle.file.specs.Rules.Cluster.{bytes_among, bytes_in, physical_name, logical_name}
use Rattle.file.specs.Rules.Decode.{decode, decode_at, slaves_at, slave_at, files_at, file_at, file_size, offset_at}
use Rattle.file.specs.Rules.FileGrounds.{is_among, file_ground}
use Rattle.file.proofs.Bytes.{all_first, all_append}
use Rattle.file.proofs.BytesBelow.{all_below, bytes_below}
use Rattle.cluster.specs.Rules.Summary.{without}
use Rattle.naming.specs.Rules.Position.{fresh}
use Rattle.naming.specs.Rules.RunGrounds.{start_ground}
use Rattle.naming.specs.Rules.Account.{Named, Call, frame, account_call, account_of, bit_clear, naming_rounds, names_of, names_in_lem, insert, falling, unnamed_among, names_held}
use Rattle.naming.specs.Rules.Figures.{taken_names, free_names, before_free, taken_tried, givings, name_given, renamed, names_after}
use Rattle.naming.specs.Rules.Figures.{naming_sum, extra_for, rounds_for, end_for, rounds_for_nobody, extra_again}
use Rattle.naming.specs.Claims.Files.{m8_file_lem, m10_file}
use Rattle.naming.specs.Claims.Cases.{answer_buffer, slave}
use Rattle.naming.specs.Claims.Demand.{start_on, permitted, OfBytes, of_frame}
use Rattle.naming.specs.Claims.PermittedRounds.{file_after, run_after, no_frames, one_more_lem}
use Rattle.naming.specs.Claims.TwoLists.{NoCommon, ToItsEnd, SecondRun, RunsTogether}
use Rattle.naming.proofs.OverBytes.{demand_3, bytes_after}
use Rattle.naming.proofs.Lists.{steps-permitted}
use Rattle.naming.proofs.PermittedRounds.{rounds-fit, each-multipartner}
use Rattle.naming.proofs.TwoLists.{two_lists, joined-accepted, account_step, account_steps, counts_same, runs-end, long_step}
use Rattle.naming.proofs.TwoLists.{long-steps, long-only, long-bytes, long_many}
use Rattle.naming.proofs.TwoRuns.{end_mark, second_finds, two_runs}

-- ---- every two lists: each run by as many steps as it has rounds, a multipartner round before them

abbrev other : Call
other = frame (record { summary = without; bytes = 0x78 ∷ []; buffer = answer_buffer })

abbrev busy_run : ℕ → List Call
busy_run n = other ∷ replicate n long_step

module _ {file : List ℕ} (b : Bytes file) (g : file_ground file ≡ 0) {names : List ℕ} (l : Bytes names) (fit : start_ground names ≡ 0) (n : ℕ) where
  busy_bytes : All OfBytes (busy_run n)
  busy_bytes = also (of_frame (bytes_below (0x78 ∷ []) (unfold all_below both in refl))) (long-bytes (long-steps n))

  busy_may : permitted names (start_on file) (fresh names) (busy_run n) ≡ true
  busy_may =
      let none = steps-permitted names (start_on file) (fresh names) (unfold start_on in refl) all_empty in
      rounds-fit file names []
      (record { file_bytes = b; accepted = g; name_bytes = l; start = fit; call_bytes = all_empty; may = none })
      ((0x78 ∷ []) ∷ []) (all_first each-multipartner) (other ∷ []) (one_more_lem (omega arith) no_frames) (replicate n long_step) (long-only (long-steps n))

  busy_ends : rounds_for (names_in_lem (decode file)) names ≤ n → ToItsEnd file names (busy_run n)
  unfolding account_steps account_step account_call
  busy_ends enough =
      let counted = counts_same file b g names l fit (busy_run n) busy_bytes busy_may in
      let long = long_many n (account_of (names_in_lem (decode file)) names) in
      (runs-end file b g names l fit (busy_run n) busy_bytes busy_may).0 (omega (arith, enough, counted, long))

module _ {file : List ℕ} (b : Bytes file) (g : file_ground file ≡ 0) where
  abbrev whole_run_lem : List ℕ → List Call
  whole_run_lem names = busy_run (rounds_for (names_in_lem (decode file)) names)

  run_ends : {names : List ℕ} → Bytes names → start_ground names ≡ 0 → ToItsEnd file names (whole_run_lem names)
  run_ends {names} l fit = busy_ends b g l fit (rounds_for (names_in_lem (decode file)) names) (omega arith)

  run-marked :
      {names : List ℕ} → Bytes names → start_ground names ≡ 0 →
      (run_after file names (whole_run_lem names)).end ≡ end_for (names_in_lem (decode file)) names
  run-marked {names} l fit = end_mark file b g names l fit (whole_run_lem names) (run_ends l fit)

  module _ {A B : List ℕ} (a : Bytes A) (l : Bytes B) (fa : start_ground A ≡ 0) (fb : start_ground B ≡ 0) (apart : NoCommon A B) where
    abbrev between : List ℕ
    between = file_after file A (whole_run_lem A)

    abbrev second_run_lem : List Call
    second_run_lem = busy_run (rounds_for (names_in_lem (decode between)) B)

    second-ends : ToItsEnd between B second_run_lem
    second-ends =
        let one = run_ends a fa in
        let d = demand_3 file b g A a fa (whole_run_lem A) one.bytes one.may in
        busy_ends (bytes_after file b g A a fa (whole_run_lem A) one.bytes one.may) d.accepted l fb
        (rounds_for (names_in_lem (decode between)) B) (omega arith)

    both_end : ToItsEnd file (A ++ B) (whole_run_lem (A ++ B))
    both_end = run_ends (all_append a l) ((joined-accepted A B a l fa fb).1 apart)

    left-alike : names_in_lem (decode (file_after between B second_run_lem)) ≡ names_in_lem (decode (file_after file (A ++ B) (whole_run_lem (A ++ B))))
    left-alike =
        two_lists file b g A B a l fa fb apart (whole_run_lem A) second_run_lem (whole_run_lem (A ++ B)) (run_ends a fa) second-ends both_end

    finds : SecondRun (names_in_lem (decode file)) A B (names_in_lem (decode between)) (run_after between B second_run_lem)
    finds = second_finds file b g A B a l fa fb (whole_run_lem A) second_run_lem (run_ends a fa) second-ends

    together :
        RunsTogether (names_in_lem (decode file)) A B
        (run_after file A (whole_run_lem A)) (run_after between B second_run_lem) (run_after file (A ++ B) (whole_run_lem (A ++ B)))
    together = two_runs file b g A B a l fa fb apart (whole_run_lem A) second_run_lem (whole_run_lem (A ++ B)) (run_ends a fa) second-ends both_end

-- ---- the slaves of both files

unfoldable pub m10_slaves_lem : List Named
m10_slaves_lem = slave 0x0000000700000010 0xFF ∷ slave 0x00000007000000A0 0xFF ∷ []

pub m10_slaves : names_in_lem (decode m10_file) ≡ m10_slaves_lem
unfolding m10_file m10_slaves_lem slave decode width_of decode_at slaves_at slave_at files_at file_at file_size offset_at part number_of names_in_lem
    names_of physical_name logical_name bytes_in bytes_among
m10_slaves = refl

unfoldable pub m8_slaves_lem : List Named
m8_slaves_lem = slave 0x0000000700000010 1 ∷ slave 0x00000007000000A0 1 ∷ []

pub m8_slaves : names_in_lem (decode m8_file_lem) ≡ m8_slaves_lem
unfolding m10_slaves m8_file_lem m8_slaves_lem
m8_slaves = refl

-- ---- the runs

-- the end mark and the rounds of a run over A, the rounds of one over B after it and of one over both, and the extra read made again
unfoldable pub three_runs : List Named → List ℕ → List ℕ → List ℕ
three_runs slaves A B =
    end_for slaves A ∷ rounds_for slaves A ∷ rounds_for (names_after slaves A) B ∷ rounds_for slaves (A ++ B) ∷ extra_again A B ∷ []

-- more unnamed slaves than free names: names used up, and B goes on
pub names-fewer : three_runs m10_slaves_lem (1 ∷ []) (2 ∷ []) ≡ 2 ∷ 136 ∷ 136 ∷ 271 ∷ 1 ∷ []
unfolding three_runs m10_slaves_lem slave end_for rounds_for names_after extra_again extra_for naming_sum givings name_given renamed taken_tried
    taken_names before_free free_names naming_rounds bit_clear insert falling unnamed_among names_held is_among either
names-fewer = refl

-- as many: names used up, and B finds nobody
pub names_as_many : three_runs m10_slaves_lem (1 ∷ 2 ∷ []) (3 ∷ []) ≡ 2 ∷ 271 ∷ 5 ∷ 275 ∷ 1 ∷ []
unfolding names-fewer
names_as_many = refl

-- fewer: all named, and the whole of B's run is more
pub names_more : three_runs m10_slaves_lem (1 ∷ 2 ∷ 3 ∷ []) (4 ∷ []) ≡ 1 ∷ 275 ∷ 5 ∷ 275 ∷ 1 ∷ []
unfolding names-fewer
names_more = refl

-- either list empty, and both
first_empty : three_runs m10_slaves_lem [] (1 ∷ []) ≡ 2 ∷ 0 ∷ 136 ∷ 136 ∷ 0 ∷ []
unfolding names-fewer
first_empty = refl

second_empty : three_runs m10_slaves_lem (1 ∷ []) [] ≡ 2 ∷ 136 ∷ 0 ∷ 136 ∷ 0 ∷ []
unfolding names-fewer
second_empty = refl

second_empty_named : three_runs m10_slaves_lem (1 ∷ 2 ∷ 3 ∷ []) [] ≡ 1 ∷ 275 ∷ 0 ∷ 275 ∷ 0 ∷ []
unfolding names-fewer
second_empty_named = refl

both_empty : three_runs m10_slaves_lem [] [] ≡ 2 ∷ 0 ∷ 0 ∷ 0 ∷ 0 ∷ []
unfolding names-fewer
both_empty = refl

-- names of A held at the start: all of them, or one
pub first-held : three_runs m8_slaves_lem (1 ∷ []) (2 ∷ []) ≡ 2 ∷ 2 ∷ 5 ∷ 6 ∷ 1 ∷ []
unfolding names-fewer m8_slaves_lem
first-held = refl

one-held : three_runs m8_slaves_lem (1 ∷ 2 ∷ []) (3 ∷ []) ≡ 1 ∷ 6 ∷ 5 ∷ 6 ∷ 1 ∷ []
unfolding first-held
one-held = refl

-- names of B held: before its first free one, behind it, and all
second-held : three_runs m8_slaves_lem (2 ∷ []) (1 ∷ 3 ∷ []) ≡ 1 ∷ 5 ∷ 6 ∷ 5 ∷ 1 ∷ []
unfolding first-held
second-held = refl

held-behind : three_runs m8_slaves_lem (2 ∷ []) (3 ∷ 1 ∷ []) ≡ 1 ∷ 5 ∷ 5 ∷ 5 ∷ 1 ∷ []
unfolding first-held
held-behind = refl

all_held : three_runs m8_slaves_lem (2 ∷ []) (1 ∷ []) ≡ 1 ∷ 5 ∷ 2 ∷ 5 ∷ 1 ∷ []
unfolding first-held
all_held = refl

-- one of two slaves unnamed: A's name held, beside one who waits; B's first name held
unfoldable one_named : List Named
one_named = slave 0x0000000700000010 1 ∷ slave 0x00000007000000A0 0xFF ∷ []

held_beside_one : three_runs one_named (1 ∷ []) (2 ∷ []) ≡ 2 ∷ 2 ∷ 136 ∷ 137 ∷ 1 ∷ []
unfolding names-fewer one_named
held_beside_one = refl

held-before-given : three_runs one_named [] (1 ∷ 2 ∷ 3 ∷ []) ≡ 2 ∷ 0 ∷ 141 ∷ 141 ∷ 0 ∷ []
unfolding held_beside_one
held-before-given = refl

-- ---- a run that finds nobody unnamed

nobody-held : rounds_for_nobody (1 ∷ 1 ∷ []) (1 ∷ 3 ∷ []) ≡ 6
unfolding rounds_for_nobody names-fewer
nobody-held = refl

nobody-behind : rounds_for_nobody (1 ∷ 1 ∷ []) (3 ∷ 1 ∷ []) ≡ 5
unfolding rounds_for_nobody names-fewer
nobody-behind = refl

nobody-all-held : rounds_for_nobody (1 ∷ 1 ∷ []) (1 ∷ []) ≡ 2
unfolding rounds_for_nobody names-fewer
nobody-all-held = refl

nobody_no_names : rounds_for_nobody (1 ∷ 1 ∷ []) [] ≡ 0
unfolding rounds_for_nobody names-fewer
nobody_no_names = refl

-- after a run over 1, 2 and 3 from the slaves of M10
pub nobody-after_3 : rounds_for_nobody (names_held (names_after m10_slaves_lem (1 ∷ 2 ∷ 3 ∷ []))) (4 ∷ []) ≡ 5
unfolding rounds_for_nobody names-fewer
nobody-after_3 = refl
