-- A round given the summary: without one it is the round, 24 stands behind the file's grounds and before the round's, and the summary stays
-- true; and which rounds leave it true that are not given it.
-- Assumes nothing.
use Prim.Native.Nat.{ℕ, ◌≤◌}
use native.Mathlib.Omega.{arith}
use mathlib.Core.Path.{◌≡◌, refl, sym, ap, ◌∙◌}
use mathlib.Core.Logic.{◌≢◌}
use mathlib.Core.List.{List, ◌∷◌}
use mathlib.Core.Bool.{Bool}
use lib.ListN.{length}
use lib.Dec.{eqb}
use borrow.Author.Tests.{eqb-true, eqb-false, ne_eqb}
use Rattle.file.specs.Rules.Bytes.{Bytes, All, all_empty}
use Rattle.file.specs.Rules.Order.{Ground, first_of}
use Rattle.file.specs.Rules.Layout.{pending_flag}
use Rattle.file.specs.Rules.Cluster.{Cluster, logical_names, configuration, pb2_of, execute_operation}
use Rattle.file.specs.Rules.Decode.{decode}
use Rattle.file.specs.Rules.FileGrounds.{file_ground, file_grounds}
use Rattle.file.proofs.Edition.{unknown_edition, refused-edition}
use Rattle.file.proofs.NameReadLaws.{names-count}
use Rattle.file.proofs.Order.{by_case, first-most, joined-next}
use Rattle.file.proofs.Results.{file-first, file_numbered}
use Rattle.file.proofs.Shape.{shape_count}
use Rattle.frame.specs.Rules.Fireworks.{Round, multipartner, msd, msa, no_round}
use Rattle.cluster.specs.Rules.RoundGrounds.{short_answer, round_by_lem, grounds_on}
use Rattle.cluster.specs.Rules.Round.{frame_on, round_ground, round_on}
use Rattle.cluster.specs.Rules.Summary.{Summary, without, kept, wrong_summary, kept_for, round_keeping_ground, round_keeping}
use Rattle.cluster.specs.Claims.Edition.{UnknownEditionKeeping}
use Rattle.cluster.specs.Claims.Renaming.{names_of, Baptizes}
use Rattle.cluster.specs.Claims.Summary.{Matches, given_none, given_names, RoundWithout, RoundsInOrder, RoundRefusedBy24, RefusedKeepsSummary, KeepingIsRound, RoundKeepsSummary}
use Rattle.cluster.specs.Claims.Summary.{StillMatchesExactly, StillMatches, StillMatchesBaptized, NoBaptizing, refused_round, no_msd, nothing_pending}
use Rattle.cluster.specs.Claims.Summary.{other_operation, other_record, NoBaptizingExactly}
use Rattle.cluster.proofs.Rounds.{round-refused, round-becomes, round-kept}
use Rattle.cluster.proofs.Renaming.{baptizing_renames, only-baptizing_renames}
use Rattle.cluster.proofs.SummaryLaws.{matches_right, mismatch_wrong, kept_for-true, rest-same, given-file, given_wrong, given_right, given-none, numbered_most}

-- ---- its grounds

module _ (file : List ℕ) (summary : Summary) (frame buffer : List ℕ) where
  abbrev others : List Ground
  others = (9, short_answer buffer) ∷ grounds_on (decode file) (round_by_lem frame) frame

  abbrev wrong : Bool
  wrong = wrong_summary summary (names_of file)

  -- without its summary a round given one has the grounds behind it
  pub keeping-round : round_keeping_ground file summary frame buffer ≡ 0 → round_ground file frame buffer ≡ 0
  unfolding round_keeping_ground round_ground
  keeping-round e = (given-none file wrong others e).1

  pub matched_ground : Matches file summary → round_keeping_ground file summary frame buffer ≡ round_ground file frame buffer
  unfolding round_keeping_ground round_ground
  matched_ground m = given_right file wrong others (matches_right file m)

  file-ground : file_ground file ≢ 0 → round_keeping_ground file summary frame buffer ≡ file_ground file
  unfolding round_keeping_ground
  file-ground some = given-file file wrong others some

  wrong_ground : file_ground file ≡ 0 → (Matches file summary → ⊥) → round_keeping_ground file summary frame buffer ≡ 24
  unfolding round_keeping_ground
  wrong_ground none never = given_wrong file wrong others none (mismatch_wrong file summary never)

pub rounds_in_order : RoundsInOrder
rounds_in_order file summary frame buffer =
    record {
      of_file = file-ground file summary frame buffer;
      of_summary = wrong_ground file summary frame buffer;
      of_round = matched_ground file summary frame buffer;
    }

-- a round's own numbers are below 24
frame-most : (c : Cluster) (round : Round) (frame : List ℕ) → All (λ (g : Ground). g.0 ≤ 14) (grounds_on c round frame)
unfolding grounds_on
frame-most c (multipartner r) frame = numbered_most 14 11 _ (omega arith) all_empty
frame-most c msd frame = numbered_most 14 11 _ (omega arith) (numbered_most 14 12 _ (omega arith) all_empty)
frame-most c msa frame =
    numbered_most 14 11 _ (omega arith)
    (numbered_most 14 12 _ (omega arith) (numbered_most 14 13 _ (omega arith) (numbered_most 14 14 _ (omega arith) all_empty)))
frame-most c no_round frame = numbered_most 14 10 _ (omega arith) all_empty

round-most : (file frame buffer : List ℕ) → file_ground file ≡ 0 → round_ground file frame buffer ≤ 14
unfolding round_ground
round-most file frame buffer none =
    let rest : first_of (others file without frame buffer) ≤ 14 = first-most 14 (numbered_most 14 9 _ (omega arith) (frame-most (decode file) (round_by_lem frame) frame)) in
    let behind = joined-next (file_grounds file) (others file without frame buffer) (file_numbered file) (file-first file ∙ none) in
    rw behind rest

pub round-refused_by_24 : RoundRefusedBy24
round-refused_by_24 file summary frame buffer none = (
  λ is m. let most = round-most file frame buffer none in let same = matched_ground file summary frame buffer m in omega (arith, is),
  λ never. wrong_ground file summary frame buffer none never,
)

-- ---- what it leaves

pub keeping_refused : RefusedKeepsSummary
unfolding round_keeping
keeping_refused file summary frame buffer some = rw (ne_eqb _ _ some)

pub keeping-accepted :
    (file : List ℕ) (summary : Summary) (frame buffer : List ℕ) → round_keeping_ground file summary frame buffer ≡ 0 →
    round_keeping file summary frame buffer ≡
    ((round_on file frame buffer).0, (round_on file frame buffer).1, (round_on file frame buffer).2, kept_for summary (names_of (round_on file frame buffer).2))
unfolding round_keeping
keeping-accepted file summary frame buffer none = rw none

pub keeping_is-round : KeepingIsRound
keeping_is-round file summary frame buffer none = rw (keeping-accepted file summary frame buffer none)

pub round-without : RoundWithout
round-without file frame buffer =
    let same : round_keeping_ground file without frame buffer ≡ round_ground file frame buffer = matched_ground file without frame buffer given_none in
    by_case (eqb (round_ground file frame buffer) 0)
    (λ t. keeping-accepted file without frame buffer (same ∙ eqb-true _ _ t) ∙ unfold kept_for in refl)
    (λ f.
    let some : round_ground file frame buffer ≢ 0 = eqb-false _ _ f in
    keeping_refused file without frame buffer (λ z. some (sym same ∙ z)) ∙ rw (same, round-refused file frame buffer some))

-- a file of unknown edition
pub keeping_edition : UnknownEditionKeeping
keeping_edition f g summary frame buffer long front other =
    let refused-f : file_ground f ≢ 0 = refused-edition f other in
    let same : file_ground f ≡ file_ground g = unknown_edition f g long front other in
    let refused-g : file_ground g ≢ 0 = λ z. refused-f (same ∙ z) in
    let here-f = file-ground f summary frame buffer refused-f in
    let here-g = file-ground g summary frame buffer refused-g in
    let left = keeping_refused f summary frame buffer (λ z. refused-f (sym here-f ∙ z)) in
    let right = keeping_refused g summary frame buffer (λ z. refused-g (sym here-g ∙ z)) in
    (rw (left, right, here-f, here-g, same), rw (left, right), rw (left, right))

-- as many slaves as before
round-count : (file frame buffer : List ℕ) → Bytes file → Bytes frame → round_ground file frame buffer ≡ 0 → length (names_of (round_on file frame buffer).2) ≡ length (names_of file)
round-count file frame buffer fb rb none =
    ap (λ (c : Cluster). length (logical_names c)) (round-becomes file frame buffer fb rb none).decoded
    ∙ names-count (frame_on (decode file) frame).after
    ∙ sym (shape_count (round-kept file frame buffer rb none).shape)
    ∙ sym (names-count (decode file))

pub round_keeps_summary : RoundKeepsSummary
round_keeps_summary file summary frame buffer fb rb m =
    by_case (eqb (round_keeping_ground file summary frame buffer) 0)
    (λ t.
    let none = eqb-true (round_keeping_ground file summary frame buffer) 0 t in
    rw (keeping-accepted file summary frame buffer none)
    (kept_for-true file (round_on file frame buffer).2 m (round-count file frame buffer fb rb (keeping-round file summary frame buffer none))))
    (λ f. rw (keeping_refused file summary frame buffer (eqb-false _ _ f)) (m, rest-same summary))

-- ---- a round not given it

pub same_names : (file after : List ℕ) {summary : Summary} → names_of after ≡ names_of file → Matches file summary → Matches after summary
same_names file after e given_none = given_none
same_names file after e (given_names few same) = given_names few (same ∙ sym e)

pub still_matches_exactly : StillMatchesExactly
still_matches_exactly file after count slice m = (λ n. names n m, λ e. same_names file after e m)
  where
    names : {count : ℕ} {slice : List ℕ} → Matches after (kept count slice) → Matches file (kept count slice) → names_of after ≡ names_of file
    names (given_names few same) (given_names few' same') = sym same ∙ same'

pub still_matches : StillMatches
still_matches file summary frame buffer fb rb m never =
    same_names file (round_on file frame buffer).2 (only-baptizing_renames file frame buffer fb rb never) m

pub still_matches_baptized : StillMatchesBaptized
still_matches_baptized file frame buffer name count slice fb rb b m =
    let names = baptizing_renames file frame buffer name fb rb b in
    let (there, back) = still_matches_exactly file (round_on file frame buffer).2 count slice m in
    (λ n. sym names ∙ there n, λ e. back (names ∙ e))

-- an MSD, or none
msd_or : {P : Type 0} (r : Round) → (r ≡ msd → P) → (r ≢ msd → P) → P
msd_or (multipartner r) is other = other (λ e. let z : ◌≡◌ {A = ℕ} 0 1 = cc in omega arith)
msd_or msd is other = is refl
msd_or msa is other = other (λ e. let z : ◌≡◌ {A = ℕ} 0 1 = cc in omega arith)
msd_or no_round is other = other (λ e. let z : ◌≡◌ {A = ℕ} 0 1 = cc in omega arith)

module _ (file frame buffer : List ℕ) where
  none_baptized : NoBaptizing file frame buffer → (name : ℕ) → Baptizes file frame buffer name → ⊥
  none_baptized (refused_round some) name b = some b.accepted
  none_baptized (no_msd other) name b = other b.is_msd
  none_baptized (nothing_pending other) name b = other b.pending.is_flag
  none_baptized (other_operation other) name b = other b.pending.is_pb2
  none_baptized (other_record other) name b = other b.pending.is_pb3

  -- otherwise it is one, at the pending name
  else-baptizes :
      round_ground file frame buffer ≡ 0 → round_by_lem frame ≡ msd → (decode file).flag ≡ pending_flag →
      (decode file).pending_pb2 ≡ pb2_of configuration execute_operation → (decode file).pending_pb3 ≡ 1 → Baptizes file frame buffer (decode file).pending_name
  else-baptizes none is flag pb2 pb3 =
      record { is_msd = is; accepted = none; pending = record { is_flag = flag; is_name = refl; is_pb2 = pb2; is_pb3 = pb3 } }

  which-none : ((name : ℕ) → Baptizes file frame buffer name → ⊥) → NoBaptizing file frame buffer
  which-none never =
      by_case (eqb (round_ground file frame buffer) 0)
      (λ a.
      msd_or (round_by_lem frame)
      (λ is.
      by_case (eqb (decode file).flag pending_flag)
      (λ b.
      by_case (eqb (decode file).pending_pb2 (pb2_of configuration execute_operation))
      (λ d.
      by_case (eqb (decode file).pending_pb3 1)
      (λ e. absurd (never _ (else-baptizes (eqb-true _ _ a) is (eqb-true _ _ b) (eqb-true _ _ d) (eqb-true _ _ e))))
      (λ e. other_record (eqb-false _ _ e)))
      (λ d. other_operation (eqb-false _ _ d)))
      (λ b. nothing_pending (eqb-false _ _ b)))
      (λ other. no_msd other))
      (λ a. refused_round (eqb-false _ _ a))

pub no_baptizing_exactly : NoBaptizingExactly
no_baptizing_exactly file frame buffer = (λ n. none_baptized file frame buffer n, λ never. which-none file frame buffer never)
