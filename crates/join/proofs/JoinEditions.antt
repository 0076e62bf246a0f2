-- Joins of converted files: the second file may be in either edition, and a joined file's form is the join of forms.
-- Assumes nothing.
use Rattle.std.proofs.Common.{ℕ, ◌+◌, ◌*◌, arith, ◌≡◌, refl, sym, ap, ap₂, ◌∙◌, subst, List, [], ◌∷◌, Bool, false, cond, length, get_or, eqb, ltb, eqb-true, le-ltb}
use borrow.Author.Tests.{eqb-false}
use Rattle.file.specs.Rules.Bytes.{Bytes}
use Rattle.file.specs.Rules.Order.{Ground, first_of, either}
use Rattle.file.specs.Rules.Layout.{OffsetWidth, width_in, max_slaves, max_length}
use Rattle.file.specs.Rules.Cluster.{Cluster, logical_names}
use Rattle.file.specs.Rules.Results.{Result, refused, done, written_in}
use Rattle.file.specs.Rules.Encode.{slaves_place, file_length, encode}
use Rattle.file.specs.Rules.Decode.{decode}
use Rattle.file.specs.Rules.Changes.{with_edition}
use Rattle.file.specs.Rules.Editions.{in_edition, exceeds}
use Rattle.file.specs.Rules.FileGrounds.{file_ground}
use Rattle.file.specs.Claims.Editions.{Converts}
use Rattle.file.proofs.Order.{by_case, either_false}
use Rattle.file.proofs.Appended.{file_length-append}
use Rattle.file.proofs.Shape.{shape_file_length}
use Rattle.file.proofs.Width.{two_widths}
use Rattle.file.proofs.EditionOne.{edition-at}
use Rattle.file.proofs.Editions.{converts, copies}
use Rattle.convert.proofs.Calls.{Within, within}
use Rattle.convert.proofs.ConversionGrounds.{form-length}
use Rattle.join.specs.Rules.Joined.{slaves_joined, joined, joined_file, shares_name}
use Rattle.join.specs.Rules.Join.{join_ground, join_on}
use Rattle.join.specs.Claims.JoinGrounds.{JoinedLength}
use Rattle.join.specs.Claims.JoinEditions.{HasForm, SecondInEither, JoinedForms}
use Rattle.join.proofs.Joining.{joined-count, joined_shape}
use Rattle.join.proofs.Order.{over, first_decides, after_both, none-holds, join_written}
use Rattle.join.proofs.JoinGrounds.{joined-long}
use Rattle.join.proofs.Result.{no_ground, first-accepted, names-apart_in, joins-legal, joined-decoded}

-- ---- the second file

-- of the second only its slaves are asked for
joined-second-edition : (c d : Cluster) (e : ℕ) → joined c (with_edition d e) ≡ joined c d
unfolding joined slaves_joined with_edition
joined-second-edition c d e = refl

-- 30 in an edition, and 29 and 30, by the two clusters
abbrev over_in : ℕ → List ℕ → Cluster → Cluster → Bool
over_in e out c d = either (exceeds (width_in e) (joined c d).slaves) (ltb (length out) (file_length (width_in e) (joined c d).slaves))

abbrev last_grounds : List ℕ → Cluster → Cluster → List Ground
last_grounds out c d = (29, shares_name c d) ∷ (30, over_in c.edition out c d) ∷ []

last-second-edition : (out : List ℕ) (c d : Cluster) (e : ℕ) → first_of (last_grounds out c (with_edition d e)) ≡ first_of (last_grounds out c d)
unfolding joined slaves_joined shares_name with_edition
last-second-edition out c d e = refl

-- the answer by the ground and the joined file
answered : ℕ → List ℕ → List ℕ → Result ℕ × List ℕ
answered reason bytes out = cond (eqb reason 0) (done (length bytes), written_in out bytes) (refused reason, out)

answers : (f g out : List ℕ) → join_on f g out ≡ answered (join_ground f g out) (joined_file f g) out
unfolding join_on answered
answers f g out = refl

form_converts : (g : List ℕ) (d : ℕ) → HasForm g d → Converts g d
form_converts g d h = converts g d h.bytes h.accepted h.width h.room

module _ (f g : List ℕ) (d : ℕ) (h : HasForm g d) where
  ground_second : (out : List ℕ) → join_ground f (in_edition g d) out ≡ join_ground f g out
  ground_second out =
      by_case (eqb (file_ground f) 0)
      (λ q.
      let accepted : file_ground f ≡ 0 = eqb-true (file_ground f) 0 q in
      after_both f (in_edition g d) out accepted (form_converts g d h).accepted
      ∙ ap (λ (x : Cluster). first_of (last_grounds out (decode f) x)) (form_converts g d h).cluster
      ∙ last-second-edition out (decode f) (decode g) d
      ∙ sym (after_both f g out accepted h.accepted))
      (λ q.
      let some : file_ground f ≡ 0 → ⊥ = eqb-false (file_ground f) 0 q in
      first_decides f (in_edition g d) out some ∙ sym (first_decides f g out some))

  file-second : joined_file f (in_edition g d) ≡ joined_file f g
  unfolding joined_file
  file-second =
      ap (λ (x : Cluster). encode (joined (decode f) x)) (form_converts g d h).cluster
      ∙ ap encode (joined-second-edition (decode f) (decode g) d)

pub second_in_either : SecondInEither
second_in_either f g d out h =
    answers f (in_edition g d) out
    ∙ ap₂ (λ (reason : ℕ) (bytes : List ℕ). answered reason bytes out) (ground_second f g d h out) (file-second f g d h)
    ∙ sym (answers f g out)

-- ---- the first file

-- the edition of the first is the result's, and nothing else is
joined-first-edition : (c d : Cluster) (e : ℕ) → joined (with_edition c e) d ≡ with_edition (joined c d) e
unfolding joined slaves_joined with_edition logical_names
joined-first-edition c d e = refl

-- an edition with room for the joined slaves has room for the first's
room-first : (w : ℕ) (c d : Cluster) → exceeds w (joined c d).slaves ≡ false → exceeds w c.slaves ≡ false
unfolding exceeds
room-first w c d room =
    let inside : Within w (joined c d).slaves = within room in
    either_false
    (le-ltb (max_slaves w) (length c.slaves) (omega (arith, inside.few, joined-count c d)))
    (le-ltb (max_length w) (file_length w c.slaves)
    (omega (arith, inside.short, shape_file_length w (joined_shape c d), file_length-append w c.slaves d.slaves)))

apart-first : (c d : Cluster) (e : ℕ) → shares_name (with_edition c e) d ≡ shares_name c d
unfolding shares_name with_edition
apart-first c d e = refl

over_first : (out : List ℕ) (c d : Cluster) (e : ℕ) → over_in (with_edition c e).edition out (with_edition c e) d ≡ over_in e out c d
unfolding joined slaves_joined with_edition logical_names
over_first out c d e = refl

pub joined_forms : JoinedForms
joined_forms f g e d out room n b h is form fits =
    second_in_either (in_edition f e) g d room h
    ∙ join_written (in_edition f e) g room
    (none-holds (in_edition f e) g room there.accepted h.accepted apart small)
    ∙ ap (λ (bytes : List ℕ). (done (length bytes), written_in room bytes)) same
  where
    none : join_ground f g out ≡ 0
    none = no_ground f g out n is

    decoded : decode (joined_file f g) ≡ joined (decode f) (decode g)
    decoded = joined-decoded f g (joins-legal f g out none b h.bytes)

    has_room : exceeds (width_in e) (joined (decode f) (decode g)).slaves ≡ false
    has_room = subst (λ (x : Cluster). exceeds (width_in e) x.slaves ≡ false) decoded form.room

    there : Converts f e
    there = converts f e b (first-accepted f g out none) form.width (room-first (width_in e) (decode f) (decode g) has_room)

    apart : shares_name (decode (in_edition f e)) (decode g) ≡ false
    apart =
        ap (λ (x : Cluster). shares_name x (decode g)) there.cluster ∙ apart-first (decode f) (decode g) e ∙ names-apart_in f g out none

    long : length (in_edition (joined_file f g) e) ≡ file_length (width_in e) (joined (decode f) (decode g)).slaves
    long = form-length (joined_file f g) e form.width ∙ ap (λ (x : Cluster). file_length (width_in e) x.slaves) decoded

    small : over (in_edition f e) g room ≡ false
    small =
        ap (λ (x : Cluster). over_in x.edition room x (decode g)) there.cluster
        ∙ over_first room (decode f) (decode g) e
        ∙ either_false has_room
        (le-ltb (length room) (file_length (width_in e) (joined (decode f) (decode g)).slaves) (omega (arith, long, fits)))

    same : joined_file (in_edition f e) g ≡ in_edition (joined_file f g) e
    same =
        unfold joined_file in unfold in_edition in
        (ap (λ (x : Cluster). encode (joined x (decode g))) there.cluster
        ∙ ap encode (joined-first-edition (decode f) (decode g) e)
        ∙ ap (λ (x : Cluster). encode (with_edition x e)) (sym decoded))

-- ---- the length

length-in :
    (f g : List ℕ) (e : ℕ) → Bytes f → file_ground f ≡ 0 → get_or f 2 0 ≡ e → OffsetWidth (width_in e)
    → length (joined_file f g) + (8 + 4 * width_in e) ≡ length f + length (in_edition g e)
unfolding file_length slaves_place
length-in f g e bytes accepted is width =
    let edition : (decode f).edition ≡ e = edition-at f accepted ∙ is in
    let own : length f ≡ file_length (width_in e) (decode f).slaves =
    sym (ap length (ap (in_edition f) (sym is) ∙ copies f bytes accepted)) ∙ form-length f e width
    in
    let long : length (joined_file f g) ≡ file_length (width_in e) (joined (decode f) (decode g)).slaves =
    joined-long f g ∙ ap (λ (k : ℕ). file_length (width_in k) (joined (decode f) (decode g)).slaves) edition
    in
    omega (
      arith,
      own,
      long,
      form-length g e width,
      shape_file_length (width_in e) (joined_shape (decode f) (decode g)),
      file_length-append (width_in e) (decode f).slaves (decode g).slaves,
    )

pub lengths_joined : JoinedLength
lengths_joined =
    record {
      in_one = λ f g bytes accepted is. length-in f g 1 bytes accepted is two_widths.0;
      in_two = λ f g bytes accepted is. length-in f g 2 bytes accepted is two_widths.1;
    }
