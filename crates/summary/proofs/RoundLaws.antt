-- A round given a summary: one law for each way. Given one that matches, it is the round without it, and the summary behind it.
-- Assumes nothing.
use Prim.Native.Nat.{ℕ, ◌≤◌, ◌<◌}
use native.Mathlib.Omega.{arith}
use mathlib.Core.Path.{◌≡◌, refl, sym, ap, ◌∙◌, subst}
use mathlib.Core.Logic.{◌≢◌}
use mathlib.Core.List.{List, ◌++◌}
use mathlib.Core.Bool.{Bool, true, false}
use lib.ListN.{length, drop}
use lib.Dec.{eqb}
use borrow.Author.Tests.{eqb-true, eqb-false}
use Rattle.file.specs.Rules.Bytes.{Bytes}
use Rattle.file.specs.Rules.Results.{Result, refused, done}
use Rattle.file.specs.Rules.Cluster.{logical_names}
use Rattle.file.specs.Rules.Decode.{decode}
use Rattle.file.specs.Inner.Accepted.{Placed, slave_count}
use Rattle.file.specs.Inner.Surveyed.{Surveyed}
use Rattle.file.specs.declared.types.Refusal.{Refusal}
use Rattle.file.proofs.Order.{by_case}
use Rattle.file.proofs.NameReadLaws.{names-count}
use Rattle.file.proofs.Surveyed.{survey-accepted, survey-refused}
use Rattle.master_slave.specs.Rules.Bus.{slots}
use Rattle.cluster.specs.Rules.Round.{Answer, round_ground, round_on}
use Rattle.cluster.specs.Rules.Summary.{kept, wrong_summary, kept_for, round_keeping_ground, round_keeping}
use Rattle.cluster.specs.Claims.Renaming.{names_of}
use Rattle.cluster.specs.Inner.Exchanged.{Exchanged}
use Rattle.cluster.proofs.Rounds.{round-refused, round-accepted}
use Rattle.cluster.proofs.SummaryLaws.{right_matches, given_wrong}
use Rattle.cluster.proofs.Keeping as keeping
use Rattle.cluster.proofs.Keeping.{rounds_in_order, matched_ground, keeping-accepted}
use Rattle.cluster.proofs.RoundCall.{exchanged-round}
use Rattle.cluster.proofs.FrameCall.{call-short}
use Rattle.summary.specs.Inner.Kept.{names_put, slice_after, RoundKept}
use Rattle.summary.proofs.MatchLaws.{matches-room}
use Rattle.naming.proofs.Moves.{Moved, round-moved}
use Rattle.file.specs.Inner.Refusals.{Answered, refusal_number, outcome_of}
use Rattle.std.specs.Prelude.{Ok, Err}

-- ---- the slice after a call

abbrev Rounded : Type 0
Rounded = Answer × List ℕ × List ℕ

-- of one that is not refused it is that of the summary kept for the file that it left
pub slice_carried :
    {A : Type 0} {answer : Result A} {value : A} (count : ℕ) (file slice : List ℕ) → answer ≡ done value →
    kept count (slice_after answer file slice) ≡ kept_for (kept count slice) (names_of file)
unfolding slice_after names_put kept_for
slice_carried count file slice e = rw (e, names-count (decode file))

-- of a refused one it is the slice
pub slice-refused : {A : Type 0} {answer : Result A} {n : ℕ} (file slice : List ℕ) → answer ≡ refused n → slice_after answer file slice ≡ slice
unfolding slice_after
slice-refused file slice e = rw e

-- ---- one frame on an accepted file, and the names behind it

module _ {file places frame buffer : List ℕ} (p : Placed file places) (long : slots ≤ length buffer) where
  exchanged : {answer : Answer} {buffer' file' : List ℕ} → Exchanged (decode file) frame buffer buffer' answer file' → (answer, buffer', file') ≡ round_on file frame buffer
  exchanged x = exchanged-round file frame p.file long x

  pub frame-moved : {answer : Answer} {buffer' file' : List ℕ} → Exchanged (decode file) frame buffer buffer' answer file' → Bytes frame → Moved file places file'
  frame-moved x b =
      subst (λ (f : List ℕ). Moved file places f) (sym (ap (λ (r : Rounded). r.2) (exchanged x))) (round-moved p b buffer)

  module _ {a : Answered ℕ} {buffer' file' : List ℕ} (x : Exchanged (decode file) frame buffer buffer' (outcome_of a) file') where
    pub frame_refused : (slice : List ℕ) {why : Refusal} → a ≡ Err why → RoundKept file frame buffer slice (refused (refusal_number why)) buffer' file' slice
    unfolding outcome_of slice_after
    frame_refused slice e = record { round = rw e at (exchanged x); names = refl }

    pub frame-carried :
        {slice slice' : List ℕ} {mask : ℕ} → a ≡ Ok mask → slice' ≡ logical_names (decode file') ++ drop (slave_count file') slice →
        RoundKept file frame buffer slice (done mask) buffer' file' slice'
    unfolding outcome_of slice_after names_put
    frame-carried e put = record { round = rw e at (exchanged x); names = put }

-- ---- the call from outside

module _ (file frame buffer slice : List ℕ) (count : ℕ) where
  turned : {n : ℕ} → round_keeping_ground file (kept count slice) frame buffer ≡ n → n ≢ 0 → (refused n, buffer, file, kept count slice) ≡ round_keeping file (kept count slice) frame buffer
  turned here some = sym (keeping.keeping_refused file (kept count slice) frame buffer (λ z. some (sym here ∙ z)) ∙ rw here)

  module _ {a : Answered (Unit {0})} {places : List ℕ} (s : Surveyed file (outcome_of a) places) where
    pub keeping_refused : {why : Refusal} → a ≡ Err why → (refused (refusal_number why), buffer, file, kept count slice) ≡ round_keeping file (kept count slice) frame buffer
    keeping_refused {why} e =
        let (is, some) = survey-refused s e in
        turned ((rounds_in_order file (kept count slice) frame buffer).of_file (λ z. some (is ∙ z)) ∙ sym is) some

    module _ {u : Unit {0}} (accepted : a ≡ Ok u) {t : Bool} (test : t ≡ wrong_summary (kept count slice) (logical_names (decode file))) where
      pub keeping_wrong : t ≡ true → (refused 24, buffer, file, kept count slice) ≡ round_keeping file (kept count slice) frame buffer
      unfolding round_keeping_ground
      keeping_wrong e = turned (given_wrong file _ _ (survey-accepted s accepted) (sym test ∙ e)) (λ z. omega arith)

      module _ (right : t ≡ false) where
        ground_same : round_keeping_ground file (kept count slice) frame buffer ≡ round_ground file frame buffer
        ground_same = matched_ground file (kept count slice) frame buffer (right_matches file (kept count slice) (sym test ∙ right))

        -- the round without the summary, and the slice behind it
        same-round : {answer : Answer} {buffer' file' : List ℕ} → (answer, buffer', file') ≡ round_on file frame buffer →
            (answer, buffer', file', kept count (slice_after answer file' slice)) ≡ round_keeping file (kept count slice) frame buffer
        same-round {answer} {buffer'} {file'} is =
            by_case (eqb (round_ground file frame buffer) 0)
            (λ e.
            let none : round_ground file frame buffer ≡ 0 = eqb-true _ _ e in
            let carried = ap (λ (r : Rounded). r.0) (is ∙ round-accepted file frame buffer none) in
            rw (slice_carried count file' slice carried, keeping-accepted file (kept count slice) frame buffer (ground_same ∙ none), ← is))
            (λ e.
            let some : round_ground file frame buffer ≢ 0 = eqb-false _ _ e in
            let told : ◌≡◌ {A = Rounded} (answer, buffer', file') (refused (round_ground file frame buffer), buffer, file) = is ∙ round-refused file frame buffer some in
            rw (slice-refused file' slice (ap (λ (r : Rounded). r.0) told))
            (ap (λ (r : Rounded). (r.0, r.1, r.2, kept count slice)) told ∙ turned ground_same some))

        pub keeping_short : length buffer < slots → (refused 9, buffer, file, kept count slice) ≡ round_keeping file (kept count slice) frame buffer
        unfolding slice_after
        keeping_short short = same-round (call-short frame buffer s accepted short)

        pub keeping_made : {answer : Answer} {buffer' file' slice' : List ℕ} → RoundKept file frame buffer slice answer buffer' file' slice' →
            (answer, buffer', file', kept count slice') ≡ round_keeping file (kept count slice) frame buffer
        keeping_made k = rw k.names (same-round k.round)

-- the slice of a summary that matches has room for the file's names
pub names-fit : (file slice : List ℕ) (count : ℕ) {t : Bool} → t ≡ wrong_summary (kept count slice) (logical_names (decode file)) → t ≡ false → slave_count file ≤ length slice
names-fit file slice count test right =
    let room = matches-room file (right_matches file (kept count slice) (sym test ∙ right)) in omega (arith, names-count (decode file))
