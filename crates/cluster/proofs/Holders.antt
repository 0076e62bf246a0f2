-- The filling of a summary, and the question who holds a logical name: by a matching summary as by the file's slaves.
-- Assumes nothing.
use Prim.Native.Nat.{ℕ, zero, suc, ◌+◌, ◌≤◌, ◌<◌}
use native.Mathlib.Omega.{arith}
use mathlib.Core.Path.{◌≡◌, refl, sym, ap, ◌∙◌, subst}
use mathlib.Core.Logic.{◌≢◌, ◌↔◌}
use mathlib.Core.List.{List, [], ◌∷◌, ◌++◌, map}
use lib.ListN.{length, take, drop, get_or, length-append, length-drop}
use lib.Seq.{take_at, drop_at}
use lib.Dec.{eqb, ltb}
use borrow.Author.Tests.{eqb-true, eqb-false, eq-eqb, ne_eqb, ltb-true, le-ltb, lt-ltb}
use Rattle.file.specs.Rules.Bytes.{All, all_empty, all_next}
use Rattle.file.specs.Rules.Order.{first_of}
use Rattle.file.specs.Rules.Results.{Result, refused, done}
use Rattle.file.specs.Rules.Cluster.{Slave, Cluster, logical_name, logical_names}
use Rattle.file.specs.Rules.Decode.{decode}
use Rattle.file.specs.Rules.FileGrounds.{file_ground}
use Rattle.file.proofs.Edition.{unknown_edition, refused-edition}
use Rattle.file.proofs.NameReadLaws.{names-count}
use Rattle.file.proofs.Order.{by_case}
use Rattle.cluster.specs.Rules.Summary.{fill_ground, fill_on, Held, nobody, at, first_from, holder_in, holder_from, first_holder}
use Rattle.cluster.specs.Claims.Edition.{UnknownEditionFilling}
use Rattle.cluster.specs.Claims.Renaming.{names_of}
use Rattle.cluster.specs.Claims.Summary.{given_names, FillingMatches, FillingsRefused, FirstAt, FullReadings, QuestionIsFirst, QuestionIsReading, QuestionRefused}
use Rattle.cluster.proofs.SummaryLaws.{given-file, given_wrong, given-behind}

-- ---- the filling

module _ (file slice : List ℕ) where
  abbrev count : ℕ
  count = length (decode file).slaves

  fill-file : file_ground file ≢ 0 → fill_ground file slice ≡ file_ground file
  unfolding fill_ground
  fill-file some = given-file file (ltb (length slice) count) [] some

  fill-short : file_ground file ≡ 0 → length slice < count → fill_ground file slice ≡ 24
  unfolding fill_ground
  fill-short none short = given_wrong file (ltb (length slice) count) [] none (lt-ltb (length slice) count short)

  fill-long : file_ground file ≡ 0 → count ≤ length slice → fill_ground file slice ≡ 0
  unfolding fill_ground first_of
  fill-long none long = given-behind file (ltb (length slice) count) [] none ∙ rw (le-ltb (length slice) count long)

  pub fill_done : file_ground file ≡ 0 → count ≤ length slice → fill_on file slice ≡ (done count, names_of file ++ drop count slice)
  unfolding fill_on
  fill_done none long = rw (fill-long none long)

  fill-refused : fill_ground file slice ≢ 0 → fill_on file slice ≡ (refused (fill_ground file slice), slice)
  unfolding fill_on
  fill-refused some = rw (ne_eqb _ _ some)

pub filling_matches : FillingMatches
filling_matches file slice none long =
    let whole : length (names_of file) ≡ count file slice = names-count (decode file) in
    let size : length (names_of file ++ drop (count file slice) slice) ≡ length slice =
    length-append (names_of file) _ ∙ ap (λ (k : ℕ). length (names_of file) + k) (length-drop (count file slice) slice) ∙ omega (arith, long) in
    rw (fill_done file slice none long) (
      refl,
      record {
        matches = given_names {count = count file slice} {slice = names_of file ++ drop (count file slice) slice} (omega (arith, long, size)) (take_at (names_of file) _ (count file slice) whole);
        all = refl;
        size = size;
        rest = drop_at (names_of file) _ (count file slice) whole;
      },
    )

pub fillings_refused : FillingsRefused
fillings_refused file slice =
    record {
      of_file = λ some. let is = fill-file file slice some in fill-refused file slice (λ z. some (sym is ∙ z)) ∙ rw is;
      of_room = λ none short. let is = fill-short file slice none short in fill-refused file slice (λ z. omega (arith, sym is ∙ z)) ∙ rw is;
    }

-- from a file of unknown edition
pub filling_edition : UnknownEditionFilling
filling_edition f g slice long front other =
    let refused-f : file_ground f ≢ 0 = refused-edition f other in
    let same : file_ground f ≡ file_ground g = unknown_edition f g long front other in
    let refused-g : file_ground g ≢ 0 = λ z. refused-f (same ∙ z) in
    rw ((fillings_refused f slice).of_file refused-f, (fillings_refused g slice).of_file refused-g, same)

-- ---- the question

reading-names : (name place : ℕ) (ss : List Slave) → first_from name place (map logical_name ss) ≡ holder_from name place ss
unfolding first_from holder_from
reading-names name place [] = refl
reading-names name place (s ∷ ss) = rw (reading-names name (suc place) ss)

pub reading-first : (c : Cluster) (name : ℕ) → first_from name 0 (logical_names c) ≡ first_holder c name
unfolding logical_names first_holder
reading-first c name = reading-names name 0 c.slaves

pub question_is-reading : QuestionIsReading
unfolding holder_in
question_is-reading file name count slice (given_names few same) =
    rw (le-ltb (length slice) count few, same, reading-first (decode file) name)

pub question_refused : QuestionRefused
unfolding holder_in
question_refused name count slice = (
  (
    λ is. by_case (ltb (length slice) count) (λ t. ltb-true _ _ t) (λ f. absurd (told (rw f at is))),
    λ short. rw (lt-ltb (length slice) count short),
  ),
  λ long n is. told (rw (le-ltb (length slice) count long) at is),
)
  where
    told : {h : Held} {n : ℕ} → ◌≡◌ {A = Result Held} (done h) (refused n) → ⊥
    told e = let z : ◌≡◌ {A = ℕ} 0 1 = cc in omega arith

-- ---- the first of the names

-- found that many places on
record Found (names : List ℕ) (name place p : ℕ) : Type 0 where
  pub further : ℕ
  pub sum : p ≡ place + further
  pub first : FirstAt names name further

first-here : (name : ℕ) (ns : List ℕ) {n : ℕ} → n ≡ name → FirstAt (n ∷ ns) name 0
first-here name ns e = record { there = omega arith; holds = e; first = λ other less. absurd (omega (arith, less)) }

first-later : {name n : ℕ} {ns : List ℕ} {place : ℕ} → n ≢ name → FirstAt ns name place → FirstAt (n ∷ ns) name (suc place)
first-later {name} {n} {ns} {place} other f = record { there = let t = f.there in omega arith; holds = f.holds; first = before }
  where
    before : (q : ℕ) → q < suc place → get_or (n ∷ ns) q 0 ≢ name
    before zero less = other
    before (suc q) less = f.first q (omega (arith, less))

names_found : (name place : ℕ) (ns : List ℕ) {p : ℕ} → first_from name place ns ≡ at p → Found ns name place p
unfolding first_from
names_found name place [] e = let z : ◌≡◌ {A = ℕ} 0 1 = cc in absurd (omega arith)
names_found name place (n ∷ ns) {p} e =
    by_case (eqb n name)
    (λ t.
    let same = rw t at e in
    let is : place ≡ p = cc in
    record { further = 0; sum = omega arith; first = first-here name ns (eqb-true n name t) })
    (λ f.
    let found = names_found name (suc place) ns (rw f at e) in
    let sum = found.sum in
    record { further = suc found.further; sum = omega arith; first = first-later (eqb-false n name f) found.first })

found_names : (name place : ℕ) (ns : List ℕ) (further : ℕ) → FirstAt ns name further → first_from name place ns ≡ at (place + further)
unfolding first_from
found_names name place [] further f = let t = f.there in absurd (omega arith)
found_names name place (n ∷ ns) zero f =
    let sum : place + 0 ≡ place = omega arith in rw (eq-eqb n name f.holds, sum)
found_names name place (n ∷ ns) (suc further) f =
    let sum : suc place + further ≡ place + suc further = omega arith in
    let other : n ≢ name = f.first 0 (omega arith) in
    let rest : FirstAt ns name further =
    record { there = let t = f.there in omega arith; holds = f.holds; first = λ q less. f.first (suc q) (omega (arith, less)) } in
    rw (ne_eqb n name other) (found_names name (suc place) ns further rest ∙ ap (λ (k : ℕ). at k) sum)

none_named : (name place : ℕ) (ns : List ℕ) → first_from name place ns ≡ nobody → All (λ (n : ℕ). n ≢ name) ns
unfolding first_from
none_named name place [] e = all_empty
none_named name place (n ∷ ns) e =
    by_case (eqb n name)
    (λ t. let clashes = rw t at e in let z : ◌≡◌ {A = ℕ} 0 1 = cc in absurd (omega arith))
    (λ f. all_next (eqb-false n name f) (none_named name (suc place) ns (rw f at e)))

named_none : (name place : ℕ) {ns : List ℕ} → All (λ (n : ℕ). n ≢ name) ns → first_from name place ns ≡ nobody
unfolding first_from
named_none name place all_empty = refl
named_none name place (all_next {a = n} other rest) = rw (ne_eqb n name other) (named_none name (suc place) rest)

first_exactly : (name : ℕ) (ns : List ℕ) (p : ℕ) → (first_from name 0 ns ≡ at p) ↔ FirstAt ns name p
first_exactly name ns p = (
  λ e.
      let found = names_found name 0 ns e in
      let sum = found.sum in
      let is : found.further ≡ p = omega arith in
      subst (λ (k : ℕ). FirstAt ns name k) is found.first,
  λ f. let sum : 0 + p ≡ p = omega arith in found_names name 0 ns p f ∙ ap (λ (k : ℕ). at k) sum,
)

-- ---- by the slice, and by the slaves

pub question_is-first : QuestionIsFirst
question_is-first name count slice long =
    record {
      place = λ p. let (there, back) = first_exactly name (take count slice) p in (λ e. there (told (sym is ∙ e)), λ f. is ∙ rw (back f));
      none = (λ e. none_named name 0 (take count slice) (told (sym is ∙ e)), λ a. is ∙ rw (named_none name 0 a));
    }
  where
    is : holder_in name count slice ≡ done (first_from name 0 (take count slice))
    is = unfold holder_in in rw (le-ltb (length slice) count long)

    told : {a b : Held} → ◌≡◌ {A = Result Held} (done a) (done b) → a ≡ b
    told e = cc

-- slaves by their names
names-none : (name : ℕ) (ss : List Slave) → All (λ (n : ℕ). n ≢ name) (map logical_name ss) → All (λ (s : Slave). logical_name s ≢ name) ss
names-none name [] all_empty = all_empty
names-none name (s ∷ ss) (all_next other rest) = all_next other (names-none name ss rest)

none-names : (name : ℕ) {ss : List Slave} → All (λ (s : Slave). logical_name s ≢ name) ss → All (λ (n : ℕ). n ≢ name) (map logical_name ss)
none-names name all_empty = all_empty
none-names name (all_next other rest) = all_next other (none-names name rest)

pub full_readings : FullReadings
unfolding first_holder
full_readings c name =
    let same = reading-names name 0 c.slaves in
    record {
      place = λ p. let (there, back) = first_exactly name (map logical_name c.slaves) p in (λ e. there (same ∙ e), λ f. sym same ∙ back f);
      none = (
        λ e. names-none name c.slaves (none_named name 0 (map logical_name c.slaves) (same ∙ e)),
        λ a. sym same ∙ named_none name 0 (none-names name a),
      );
    }
