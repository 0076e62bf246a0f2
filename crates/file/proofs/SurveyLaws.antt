-- The checker's last steps: the physical names, and one law for each way to its answer.
-- Assumes nothing.
use Prim.Native.Nat.{ℕ, suc, ◌+◌, ◌*◌, ◌≤◌, ◌<◌}
use mathlib.Core.Path.{◌≡◌, refl, sym, ◌∙◌, ap, subst}
use mathlib.Core.List.{List, [], ◌∷◌, map}
use mathlib.Core.Bool.{Bool, true, false, not}
use native.Mathlib.Omega.{arith}
use borrow.Author.Tests.{le-leb, lt-leb, eqb-true, eqb-false}
use lib.Dec.{leb, eqb}
use lib.ListN.{length, get_or, take}
use lib.Seq.{get_or-take}
use Rattle.std.specs.Prelude.{Option, Some, None}
use Rattle.file.specs.Rules.Order.{first_of}
use Rattle.file.specs.Rules.Layout.{width_in, OffsetWidth, edition_of, header_size, entry_size_lem, max_slaves, max_length}
use Rattle.file.specs.Rules.Bytes.{All, Bytes}
use Rattle.file.specs.Inner.Numbers.{ByteAt}
use Rattle.file.specs.Rules.Cluster.{physical_name}
use Rattle.file.specs.Rules.Decode.{slaves_at, decode_at}
use Rattle.file.specs.Rules.Results.{refused, done, result_of, number_in}
use Rattle.file.specs.Inner.Refusals.{refusal_number, Answered, outcome_of}
use Rattle.file.specs.declared.types.Refusal.{Refusal}
use Rattle.std.specs.Prelude.{Ok, Err}
use Rattle.file.specs.Rules.FileGrounds.{to, walk_slaves, table_end, walk_file, broken_layout, lacks_needed, equal_physical_names, is_among, has_repeat, file_ground_at, file_ground}
use Rattle.file.specs.Rules.Encode.{slaves_place}
use Rattle.file.specs.Inner.Places.{file_place_at, file_place, places_each}
use Rattle.file.specs.Inner.Accepted.{PlacesOf, WidthOf}
use Rattle.file.specs.Inner.Checked.{EntriesFit, GoodHeader, HeaderChecked, PlacesFit, stated_places, documentation_places, walk_of, SlavesWalked}
use Rattle.file.specs.Inner.Checked.{WholeWalk, BodyWalked, slaves_ground, NameStands, names_at, NamesStand}
use Rattle.file.specs.Inner.Surveyed.{Surveyed}
use Rattle.file.proofs.Order.{by_case, clash}
use Rattle.file.proofs.Facts.{true_unless, size_facts, header_facts}
use Rattle.file.proofs.Results.{result_done, result_refused}
use Rattle.file.proofs.RefusalLaws.{refusal_some}
use Rattle.file.proofs.AcceptedFacts.{layout-whole}
use Rattle.file.proofs.Arrivals.{broken_arrives, length-slaves_at}
use Rattle.file.proofs.StatedSlaves.{needed-places, stated-names, stated-config, stated-document}
use Rattle.file.proofs.HeaderLaws.{after-header}
use Rattle.file.proofs.Accepted.{accepted-becomes}
use Rattle.file.proofs.AtWidth.{ground_at, decode-at}

-- ---- ground 6 after a good header

-- what the header says of the sizes
pub header-sizes : (w : ℕ) (f : List ℕ) → GoodHeader w f → (header_size w ≤ length f) × (length f ≤ max_length w) × (get_or f 3 0 ≤ max_slaves w)
header-sizes w f h =
    let size = size_facts w f h.size in
    let rest = header_facts w f h.rest in
    (size.low, size.high, rest.count)

pub header_good : {w : ℕ} {f : List ℕ} {a : Answered (Unit {0})} → HeaderChecked w f (number_in (outcome_of a)) → {u : Unit {0}} → a ≡ Ok u → GoodHeader w f
unfolding number_in outcome_of
header_good {w} {f} h e = (subst (λ (x : Answered (Unit {0})). HeaderChecked w f (number_in (outcome_of x))) e h).passed refl

pub whole : {w : ℕ} {f places : List ℕ} {good : Bool} → BodyWalked w f good places → good ≡ true → WholeWalk w f places
whole w e = w.whole e

-- the count is within the bytes, and a list of places has room for it
pub count-within : {w : ℕ} {f : List ℕ} → GoodHeader w f → 3 < length f
count-within {w} {f} h = omega (arith, header-sizes w f h)

pub count_fits : {w : ℕ} {f places : List ℕ} {n : ℕ} → GoodHeader w f → PlacesFit w places → ByteAt f 3 n → places_each * n ≤ length places
count_fits {w} {f} {places} {n} h fit k = omega (arith, header-sizes w f h, k.is, fit.room)

pub file-fits : {w : ℕ} {f : List ℕ} → GoodHeader w f → length f ≤ max_length w
file-fits {w} {f} h = omega (arith, header-sizes w f h)

pub table_fits : {w : ℕ} {f : List ℕ} {n : ℕ} → OffsetWidth w → GoodHeader w f → 8 + 4 * w + 2 * w * n ≤ length f → EntriesFit w f (header_size w) n
table_fits width h fits = record { width = width; within = fits; short = file-fits h }

arrived : {a b : ℕ} → to a ≡ to b → a ≡ b
arrived q = cc

layout-broken : (w : ℕ) (f : List ℕ) → (walk_file w f ≡ to (length f) → ⊥) → broken_layout w f ≡ true
layout-broken w f h = true_unless (λ e. h ((layout-whole w f).0 e))

walk-file : (w : ℕ) (f : List ℕ) → header_size w + entry_size_lem w * get_or f 3 0 ≤ length f → walk_file w f ≡ walk_slaves w f (header_size w) (header_size w + entry_size_lem w * get_or f 3 0) (get_or f 3 0)
unfolding walk_file table_end
walk-file w f h = rw (le-leb (header_size w + entry_size_lem w * get_or f 3 0) (length f) h)

pub body_short : {w : ℕ} {f : List ℕ} {n : ℕ} (places : List ℕ) → ByteAt f 3 n → length f < header_size w + entry_size_lem w * n → BodyWalked w f false places
unfolding walk_file table_end
body_short {w} {f} {n} places k h =
    let past : length f < header_size w + entry_size_lem w * get_or f 3 0 = rw (← k.is) h in
    record {
      broke = λ _. layout-broken w f (λ e. broken_arrives (rw (lt-leb (header_size w + entry_size_lem w * get_or f 3 0) (length f) past) at e));
      whole = λ t. clash t refl;
    }

module _
    {w : ℕ} {f : List ℕ} {n : ℕ} {end : Option ℕ} {places : List ℕ}
    (k : ByteAt f 3 n) (fits : header_size w + entry_size_lem w * n ≤ length f) (walked : SlavesWalked w f n end places) where
  whole_is : walk_file w f ≡ walk_of end
  whole_is =
      let count = k.is in
      let there : header_size w + entry_size_lem w * get_or f 3 0 ≤ length f = rw (← count) fits in
      walk-file w f there ∙ rw (← count) (sym walked.walk)

  pub body_broken : end ≡ None → BodyWalked w f false places
  unfolding walk_of
  body_broken e = record { broke = λ _. layout-broken w f (λ q. broken_arrives (rw (whole_is, e) at q)); whole = λ t. clash t refl }

  pub body_walked : {place : ℕ} {t : Bool} → GoodHeader w f → end ≡ Some place → t ≡ eqb place (length f) → BodyWalked w f t places
  unfolding walk_of
  body_walked {place} header e same =
      record {
        broke = λ t. layout-broken w f (λ q. eqb-false place (length f) (sym same ∙ t) (arrived (rw (whole_is, e) at q)));
        whole = λ t. record {
          header = header;
          walk = whole_is ∙ rw (e, eqb-true place (length f) (sym same ∙ t));
          stated = rw (← k.is) (rw e at walked.stated);
        };
      }

-- ---- grounds 7 and 8

module _ {w : ℕ} {f places : List ℕ} (h : WholeWalk w f places) where
  slaves-walk : walk_slaves w f (header_size w) (header_size w + entry_size_lem w * get_or f 3 0) (get_or f 3 0) ≡ to (length f)
  unfolding walk_file table_end
  slaves-walk =
      by_case (leb (header_size w + entry_size_lem w * get_or f 3 0) (length f))
      (λ t. rw t at h.walk)
      (λ t. broken_arrives (rw t at h.walk))

  pub whole-count-within : 3 < length f
  whole-count-within = count-within h.header

  pub whole-count-fits : {n : ℕ} → PlacesFit w places → ByteAt f 3 n → places_each * n ≤ length places
  whole-count-fits fit k = count_fits h.header fit k

  abbrev stated-places : List ℕ
  stated-places = take (places_each * get_or f 3 0) places

  lacks : lacks_needed w f ≡ is_among 0 stated-places
  unfolding lacks_needed decode_at
  lacks = rw (needed-places w f (header_size w) (header_size w + entry_size_lem w * get_or f 3 0) (get_or f 3 0) (length f) (omega arith) slaves-walk, ← h.stated) (twice (is_among 0 stated-places))
    where
      twice : (b : Bool) → not (not b) ≡ b
      twice true = refl
      twice false = refl

  stand : is_among 0 stated-places ≡ false → (map physical_name (slaves_at w f (header_size w) (get_or f 3 0)) ≡ names_at f stated-places) × All (NameStands f) (documentation_places stated-places)
  stand e =
      rw h.stated (stated-names w f (header_size w) (header_size w + entry_size_lem w * get_or f 3 0) (get_or f 3 0) (length f) (omega arith) slaves-walk (rw h.stated at e))

  -- the code's count and its tests are values of its own, with their equations
  module _ {n : ℕ} (count : ByteAt f 3 n) {a : Bool} (missing : a ≡ is_among 0 (take (places_each * n) places)) where
    missing_is : a ≡ is_among 0 stated-places
    missing_is = rw count.is at missing

    pub lacks_file : a ≡ true → 7 ≡ slaves_ground w f
    unfolding slaves_ground first_of
    lacks_file e = rw (lacks, ← missing_is, e)

    module _ (none : a ≡ false) where
      pub names_stand : NamesStand f (take (places_each * n) places)
      names_stand = rw count.is (record { all = (stand (sym missing_is ∙ none)).1 })

      module _ {t : Bool} (is : t ≡ has_repeat (names_at f (take (places_each * n) places))) where
        repeats : equal_physical_names w f ≡ t
        unfolding equal_physical_names decode_at
        repeats = rw (stand (sym missing_is ∙ none)).0 (sym (rw count.is at is))

        lacks_none : lacks_needed w f ≡ false
        lacks_none = lacks ∙ sym missing_is ∙ none

        pub names_equal : t ≡ true → 8 ≡ slaves_ground w f
        unfolding slaves_ground first_of
        names_equal e = rw (lacks_none, repeats, e)

        pub slaves_good : t ≡ false → 0 ≡ slaves_ground w f
        unfolding slaves_ground first_of
        slaves_good e = rw (lacks_none, repeats, e)

-- ---- the whole answer

-- after a whole walk grounds 7 and 8 decide
after-layout : {w : ℕ} {f places : List ℕ} → WholeWalk w f places → file_ground_at w f ≡ slaves_ground w f
unfolding first_of slaves_ground
after-layout {w} {f} h = rw (after-header w f h.header, (layout-whole w f).1 h.walk)

-- where neither holds, no place is missing
none_missing : {w : ℕ} {f places : List ℕ} → WholeWalk w f places → slaves_ground w f ≡ 0 → is_among 0 (take (places_each * get_or f 3 0) places) ≡ false
unfolding slaves_ground first_of
none_missing {w} {f} h e =
    by_case (lacks_needed w f)
    (λ t. absurd (seven (rw t at e)))
    (λ t. sym (lacks h) ∙ t)
  where
    seven : ◌≡◌ {A = ℕ} 7 0 → ⊥
    seven q = omega arith

-- and they are those of the slaves
placed-there : {w : ℕ} {f : List ℕ} (places : List ℕ) → OffsetWidth w → WholeWalk w f places → slaves_ground w f ≡ 0 → PlacesOf (decode_at w f) places
unfolding file_place file_place_at slaves_place decode_at
placed-there {w} {f} places width h e =
    let k = get_or f 3 0 in
    let back : width_in (edition_of w) ≡ w = omega (arith, width.even) in
    let count = length-slaves_at w f (header_size w) k in
    let some = rw h.stated at (none_missing h e) in
    let same : (i : ℕ) → i < 2 * k → get_or places i 0 ≡ get_or (stated_places w f (header_size w) k) i 0 = λ i l. rw (← h.stated) (sym (get_or-take (2 * k) places i 0 l)) in
    record {
      config = λ s l.
          let inside : s < k = rw count at l in
          rw (back, same (2 * s) (omega arith), count) (stated-config w f (header_size w) (header_size w + entry_size_lem w * k) k (length f) s (slaves-walk h) some inside);
      document = λ s l.
          let inside : s < k = rw count at l in
          rw (back, same (2 * s + 1) (omega arith), count) (stated-document w f (header_size w) (header_size w + entry_size_lem w * k) k (length f) s (slaves-walk h) some inside);
    }

module _ {f : List ℕ} {w : ℕ} (v : WidthOf f w) (places : List ℕ) where
  survey_refuses : {n : ℕ} → n ≡ file_ground_at w f → (n ≡ 0 → ⊥) → Surveyed f (refused n) places
  survey_refuses {n} is some =
      record {
        is = result_refused tt some ∙ ap (λ (m : ℕ). result_of m tt) (is ∙ sym (ground_at v));
        placed = λ a. let z : ◌≡◌ {A = ℕ} 0 1 = cc in absurd (omega arith);
      }

  pub refused_by_header : {a : Answered (Unit {0})} {why : Refusal} → HeaderChecked w f (number_in (outcome_of a)) → a ≡ Err why → Surveyed f (refused (refusal_number why)) places
  unfolding number_in outcome_of
  refused_by_header {why = why} h e =
      let checked : HeaderChecked w f (refusal_number why) = subst (λ (x : Answered (Unit {0})). HeaderChecked w f (number_in (outcome_of x))) e h in
      survey_refuses (checked.refused (refusal_some why)) (refusal_some why)

  pub refused_by_layout : {good : Bool} {a : List ℕ} → GoodHeader w f → BodyWalked w f good a → good ≡ false → Surveyed f (refused 6) places
  unfolding first_of
  refused_by_layout h b bad = survey_refuses (rw (after-header w f h, b.broke bad)) (λ z. omega arith)

  refused_by_slaves : {good : Bool} {n : ℕ} {a : List ℕ} → BodyWalked w f good a → good ≡ true → n ≡ slaves_ground w f → (n ≡ 0 → ⊥) → Surveyed f (refused n) places
  refused_by_slaves b good is some = survey_refuses (is ∙ sym (after-layout (b.whole good))) some

  survey_accepts : {good : Bool} {n : ℕ} → Bytes f → BodyWalked w f good places → good ≡ true → n ≡ slaves_ground w f → n ≡ 0 → Surveyed f (done tt) places
  survey_accepts bytes body walked is none =
      let h = body.whole walked in
      let good : file_ground f ≡ 0 = ground_at v ∙ after-layout h ∙ (sym is ∙ none) in
      record {
        is = sym (result_done good);
        placed = λ _. record {
          file = accepted-becomes f bytes good;
          at = rw (decode-at v) (placed-there places v.width h (sym is ∙ none));
        };
      }

  pub survey-answers :
      {good : Bool} (a : Answered (Unit {0})) → Bytes f → BodyWalked w f good places → good ≡ true → number_in (outcome_of a) ≡ slaves_ground w f →
      Surveyed f (outcome_of a) places
  unfolding number_in outcome_of
  survey-answers (Ok u) bytes body walked is = survey_accepts bytes body walked is refl
  survey-answers (Err why) bytes body walked is = refused_by_slaves body walked is (refusal_some why)

-- a list whose every element is a byte
pub bytes-known : (f : List ℕ) → ((k : ℕ) → get_or f k 0 < 256) → Bytes f
bytes-known [] h = All.all_empty
bytes-known (b ∷ bs) h = All.all_next (h 0) (bytes-known bs (λ k. h (suc k)))
