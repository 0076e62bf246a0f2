-- Laws of the summary: which ones match, what the calls that are given it leave of it, and by what they are refused, in rounds and in
-- naming steps.
-- Assumes nothing.
use Prim.Native.Nat.{ℕ, ◌+◌, ◌≤◌}
use native.Mathlib.Omega.{arith}
use mathlib.Core.Path.{◌≡◌, refl, sym, ap, ◌∙◌}
use mathlib.Core.Logic.{◌≢◌}
use mathlib.Core.List.{List, [], ◌∷◌, ◌++◌}
use mathlib.Core.Bool.{Bool, true, false, not}
use lib.ListN.{length, drop, length-append, length-drop}
use lib.Seq.{length-take-le, take_at, drop_at}
use borrow.Author.Tests.{eqb-true, eq-eqb, ltb-false, le-ltb}
use Rattle.file.specs.Rules.Bytes.{All, all_next}
use Rattle.file.specs.Rules.Order.{Ground, first_of}
use Rattle.file.specs.Rules.FileGrounds.{file_ground, file_grounds}
use Rattle.file.proofs.Order.{by_case, clash, both_left, both_right, both_true, either_false, either_false_left, either_false_right, first-none, joined-first, joined-here, joined-next, joined_right}
use Rattle.file.proofs.Results.{file-first, file_numbered}
use Rattle.cluster.specs.Rules.Summary.{Summary, without, kept, alike, wrong_summary, kept_for}
use Rattle.cluster.specs.Claims.Renaming.{names_of}
use Rattle.cluster.specs.Claims.Summary.{Matches, given_none, given_names, MatchesExactly, LeavesRest, of_none, of_names}

-- ---- which match

pub alike_same : (ns ms : List ℕ) → alike ns ms ≡ true → ns ≡ ms
unfolding alike
alike_same [] [] e = refl
alike_same [] (m ∷ ms) e = clash e refl
alike_same (n ∷ ns) [] e = clash e refl
alike_same (n ∷ ns) (m ∷ ms) e = rw (eqb-true n m (both_left _ _ e), alike_same ns ms (both_right _ _ e))

alike_refl : (ns : List ℕ) → alike ns ns ≡ true
unfolding alike
alike_refl [] = refl
alike_refl (n ∷ ns) = both_true (eq-eqb n n refl) (alike_refl ns)

pub right_matches : (file : List ℕ) (summary : Summary) → wrong_summary summary (names_of file) ≡ false → Matches file summary
unfolding wrong_summary
right_matches file without e = given_none
right_matches file (kept count slice) e =
    given_names (ltb-false _ _ (either_false_left _ _ e)) (alike_same _ _ (not-false (either_false_right _ _ e)))
  where
    not-false : {b : Bool} → not b ≡ false → b ≡ true
    not-false {b} n = by_case b (λ t. t) (λ f. clash {b = true} refl (rw f at n))

pub matches_right : (file : List ℕ) {summary : Summary} → Matches file summary → wrong_summary summary (names_of file) ≡ false
unfolding wrong_summary
matches_right file given_none = refl
matches_right file (given_names {count} {slice} few same) =
    either_false (le-ltb (length slice) count few) (rw (same, alike_refl (names_of file)))

pub matches_exactly : MatchesExactly
matches_exactly file summary = (λ e. right_matches file summary e, λ m. matches_right file m)

pub mismatch_wrong : (file : List ℕ) (summary : Summary) → (Matches file summary → ⊥) → wrong_summary summary (names_of file) ≡ true
mismatch_wrong file summary never =
    by_case (wrong_summary summary (names_of file)) (λ t. t) (λ f. absurd (never (right_matches file summary f)))

-- ---- the names that a call writes back

pub kept_for-true :
    (file after : List ℕ) {summary : Summary} → Matches file summary → length (names_of after) ≡ length (names_of file) →
    Matches after (kept_for summary (names_of after)) × LeavesRest summary (kept_for summary (names_of after))
unfolding kept_for
kept_for-true file after given_none e = (given_none, of_none)
kept_for-true file after (given_names {count} {slice} few same) e =
    let whole : length (names_of after) ≡ count = e ∙ sym (ap (λ (l : List ℕ). length l) same) ∙ length-take-le count slice few in
    let long : length (names_of after ++ drop (length (names_of after)) slice) ≡ length slice =
    length-append (names_of after) _ ∙ ap (λ (k : ℕ). length (names_of after) + k) (length-drop (length (names_of after)) slice) ∙ omega arith in (
      given_names {count = count} {slice = names_of after ++ drop (length (names_of after)) slice} (omega (arith, long, few)) (take_at (names_of after) _ count whole),
      of_names long (drop_at (names_of after) _ count whole ∙ ap (λ (k : ℕ). drop k slice) whole),
    )

-- what is left of it by two calls
pub rest-same : (summary : Summary) → LeavesRest summary summary
rest-same without = of_none
rest-same (kept count slice) = of_names refl refl

pub rest_trans : {s t u : Summary} → LeavesRest s t → LeavesRest t u → LeavesRest s u
rest_trans of_none of_none = of_none
rest_trans (of_names size same) (of_names size' same') = of_names (size' ∙ size) (same' ∙ same)

-- ---- the grounds of a call given it: the file's, 24, and others

module _ (file : List ℕ) (wrong : Bool) (others : List Ground) where
  abbrev given : List Ground
  given = file_grounds file ++ (24, wrong) ∷ others

  pub given-file : file_ground file ≢ 0 → first_of given ≡ file_ground file
  given-file some =
      joined-here (file_grounds file) _ (file_numbered file) (λ z. some (sym (file-first file) ∙ z)) ∙ file-first file

  pub given_wrong : file_ground file ≡ 0 → wrong ≡ true → first_of given ≡ 24
  unfolding first_of
  given_wrong none e = joined-next (file_grounds file) _ (file_numbered file) (file-first file ∙ none) ∙ rw e

  pub given_right : wrong ≡ false → first_of given ≡ first_of (file_grounds file ++ others)
  unfolding first_of
  given_right e =
      joined-first (file_grounds file) _ (file_numbered file) ∙ rw e (sym (joined-first (file_grounds file) others (file_numbered file)))

  pub given-none : first_of given ≡ 0 → (wrong ≡ false) × (first_of (file_grounds file ++ others) ≡ 0)
  given-none e =
      let right = (first-none 23 wrong others (joined_right (file_grounds file) _ (file_numbered file) e)).0 in
      (right, sym (given_right right) ∙ e)

  -- behind those of an accepted file
  pub given-behind : file_ground file ≡ 0 → first_of given ≡ first_of ((24, wrong) ∷ others)
  given-behind none = joined-next (file_grounds file) _ (file_numbered file) (file-first file ∙ none)

-- grounds of numbers up to the highest
pub numbered_most : (most n : ℕ) (b : Bool) {gs : List Ground} → n ≤ most → All (λ (g : Ground). g.0 ≤ most) gs → All (λ (g : Ground). g.0 ≤ most) ((n, b) ∷ gs)
numbered_most most n b h hs = all_next h hs
