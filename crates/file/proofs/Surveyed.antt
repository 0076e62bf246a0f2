-- What the layers above take from the survey of a file, by its answer; and that the places of an accepted file stay those of every file
-- with a cluster of the same edition and shape.
-- Assumes nothing.
use Prim.Native.Nat.{ℕ, ◌<◌}
use mathlib.Core.Path.{◌≡◌, sym, ap, ◌∙◌, subst}
use mathlib.Core.List.{List}
use mathlib.Core.Bool.{Bool, true, false, cond}
use lib.ListN.{length}
use Rattle.file.specs.Rules.Cluster.{Cluster, configuration, documentation, logical_names}
use Rattle.file.specs.Rules.Decode.{decode}
use Rattle.file.specs.Rules.FileGrounds.{file_ground, has_repeat, held_names, load_ground, load_verdict}
use Rattle.file.specs.Rules.Results.{refused, done, result_of}
use Rattle.file.specs.Inner.Places.{file_place, SameShape}
use Rattle.file.specs.Inner.Accepted.{Becomes, AcceptedFile, slave_count, Placed}
use Rattle.file.specs.Inner.Surveyed.{Surveyed}
use Rattle.file.specs.declared.types.Refusal.{Refusal}
use Rattle.file.proofs.Results.{load_first, load_twice, result_refused, no_ground, that_ground}
use Rattle.file.proofs.Shape.{shape_count}
use Rattle.file.proofs.AtWidth.{shape_file_place}
use Rattle.file.proofs.ReaderLaws.{becomes-decoded}
use Rattle.file.specs.Inner.Refusals.{Answered, refusal_number, outcome_of}
use Rattle.std.specs.Prelude.{Ok, Err}

-- ---- the answer of the survey

module _ {f places : List ℕ} {a : Answered (Unit {0})} (s : Surveyed f (outcome_of a) places) where
  pub survey-accepted : {u : Unit {0}} → a ≡ Ok u → file_ground f ≡ 0
  unfolding outcome_of
  survey-accepted e = no_ground tt (file_ground f) (rw e at s.is)

  pub survey-placed : {u : Unit {0}} → a ≡ Ok u → Placed f places
  unfolding outcome_of
  survey-placed e = s.placed (rw e)

  pub survey-becomes : {u : Unit {0}} → a ≡ Ok u → AcceptedFile f
  survey-becomes e = (survey-placed e).file

  pub survey-refused : {why : Refusal} → a ≡ Err why → (refusal_number why ≡ file_ground f) × (refusal_number why ≡ 0 → ⊥)
  unfolding outcome_of
  survey-refused {why} e = that_ground tt (refusal_number why) (file_ground f) (rw e at s.is)

  -- the checker's call: the survey's refusal, 22, or none
  pub check_surveyed : {why : Refusal} → a ≡ Err why → refused (refusal_number why) ≡ load_verdict f
  unfolding load_verdict
  check_surveyed {why} e =
      let (is, some) = survey-refused e in
      let reason : load_ground f ≡ (refusal_number why) = load_first f (λ z. some (is ∙ z)) ∙ sym is in
      rw reason (result_refused tt some)

  module _ {u : Unit {0}} (e : a ≡ Ok u) {t : Bool} (test : t ≡ has_repeat (held_names (logical_names (decode f)))) where
    last_ground : load_ground f ≡ cond t 22 0
    last_ground = load_twice f (survey-accepted e) ∙ rw test

    pub check_equal : t ≡ true → refused 22 ≡ load_verdict f
    unfolding load_verdict result_of
    check_equal twice = rw (last_ground, twice)

    pub check_accepts : t ≡ false → done tt ≡ load_verdict f
    unfolding load_verdict result_of
    check_accepts once = rw (last_ground, once)

-- ---- another file, with a cluster of the same edition and shape

pub kept-count : (f : List ℕ) {g : List ℕ} {c : Cluster} → Becomes g c → SameShape (decode f).slaves c.slaves → slave_count g ≡ slave_count f
kept-count f b same = ap (λ (d : Cluster). length d.slaves) b.decoded ∙ sym (shape_count same)

pub placed-kept : {f g places : List ℕ} {c : Cluster} → Placed f places → Becomes g c → c.edition ≡ (decode f).edition → SameShape (decode f).slaves c.slaves → Placed g places
placed-kept {f} {g} {c = c} p b edition same =
    let inside : (s : ℕ) → s < slave_count g → s < slave_count f = λ s l. subst (λ (n : ℕ). s < n) (kept-count f b same) l in
    let place : (s n : ℕ) → file_place (decode f) s n ≡ file_place (decode g) s n = λ s n. rw b.decoded (shape_file_place (decode f) c (sym edition) same s n) in
    record {
      file = becomes-decoded b;
      at = record {
        config = λ s l. p.at.config s (inside s l) ∙ place s configuration;
        document = λ s l. p.at.document s (inside s l) ∙ place s documentation;
      };
    }
