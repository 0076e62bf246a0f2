-- Where a conversion writes, and what it leaves: the form, an accepted file with the same cluster; back again, the same bytes.
-- Assumes nothing.
use Rattle.std.proofs.Common.{ℕ, ◌≤◌, arith, ◌≡◌, refl, sym, ap, ◌∙◌, subst, List, false, cond, length, get_or, take, drop, take_at, eqb, eqb-true}
use borrow.Author.Tests.{eqb-false}
use Rattle.file.specs.Rules.Bytes.{Bytes}
use Rattle.file.specs.Rules.Layout.{OffsetWidth, width_in}
use Rattle.file.specs.Rules.Results.{Result, refused, done, written_in}
use Rattle.file.specs.Rules.Cluster.{Cluster, logical_names}
use Rattle.file.specs.Rules.Decode.{decode}
use Rattle.file.specs.Rules.Changes.{with_edition}
use Rattle.file.specs.Rules.Editions.{in_edition, exceeds}
use Rattle.file.specs.Rules.FileGrounds.{file_ground, has_repeat, held_names}
use Rattle.file.specs.Claims.Editions.{Converts}
use Rattle.file.proofs.Order.{by_case}
use Rattle.file.proofs.Results.{load_twice}
use Rattle.file.proofs.Accepted.{accepted-legal}
use Rattle.file.proofs.EditionOne.{edition-at}
use Rattle.file.proofs.Editions.{converts, copies, widened}
use Rattle.convert.specs.Rules.Convert.{convert_ground, convert_on}
use Rattle.convert.specs.Claims.Forms.{Writable, WrittenExactly, Written, CallConverts, CallsComeBack, CallWidens, CallCopies}
use Rattle.convert.proofs.Calls.{none-holds, convert-refused, convert-written}
use Rattle.convert.proofs.ConversionGrounds.{form-length, no_ground_accepted, no_ground_under, no_ground_fits, own_limits}

refused-done : {P : Type 0} {m n : ℕ} → ◌≡◌ {A = Result ℕ} (refused m) (done n) → P
refused-done e = let z : ◌≡◌ {A = ℕ} 0 1 = ap (λ (r : Result ℕ). tag r) e in absurd (omega (arith, z))
  where
    tag : Result ℕ → ℕ
    tag (refused n) = 0
    tag (done n) = 1

done-same : {m n : ℕ} → ◌≡◌ {A = Result ℕ} (done m) (done n) → m ≡ n
done-same e = ap value e
  where
    value : Result ℕ → ℕ
    value (refused n) = 0
    value (done n) = n

-- ---- a call that wrote

module _ (f : List ℕ) (e : ℕ) (out : List ℕ) (n : ℕ) (is : (convert_on f e out).0 ≡ done n) where
  no_ground : convert_ground f e out ≡ 0
  no_ground =
      by_case (eqb (convert_ground f e out) 0)
      (λ q. eqb-true _ 0 q)
      (λ q. refused-done (sym (ap (λ (r : Result ℕ × List ℕ). r.0) (convert-refused f e out refl (eqb-false _ 0 q))) ∙ is))

  long : n ≡ length (in_edition f e)
  long = done-same (sym is ∙ ap (λ (r : Result ℕ × List ℕ). r.0) (convert-written f e out no_ground))

  -- its bytes stand in front
  left : take n (convert_on f e out).1 ≡ in_edition f e
  unfolding written_in
  left =
      ap (λ (r : Result ℕ × List ℕ). take n r.1) (convert-written f e out no_ground)
      ∙ take_at (in_edition f e) (drop (length (in_edition f e)) out) n (sym long)

  there : Bytes f → OffsetWidth (width_in e) → Converts f e
  there b width = converts f e b (no_ground_accepted f e out no_ground) width (no_ground_under f e out no_ground)

  where_written : OffsetWidth (width_in e) → Writable f e out n
  where_written width =
      record {
        accepted = no_ground_accepted f e out no_ground;
        within = no_ground_under f e out no_ground;
        room = omega (arith, form-length f e width, no_ground_fits f e out no_ground);
        count = long;
      }

pub written_exactly : WrittenExactly
written_exactly f e out n width = (λ is. where_written f e out n is width, λ w. there-written w)
  where
    there-written : Writable f e out n → (convert_on f e out).0 ≡ done n
    there-written w =
        let none : convert_ground f e out ≡ 0 = none-holds f e out w.accepted w.within (omega (arith, form-length f e width, w.room)) in
        ap (λ (r : Result ℕ × List ℕ). r.0) (convert-written f e out none) ∙ ap done (sym w.count)

names_in : (c : Cluster) (e : ℕ) → logical_names (with_edition c e) ≡ logical_names c
unfolding with_edition logical_names
names_in c e = refl

edition-in : (c : Cluster) (e : ℕ) → (with_edition c e).edition ≡ e
unfolding with_edition
edition-in c e = refl

slaves-in : (c : Cluster) (e : ℕ) → (with_edition c e).slaves ≡ c.slaves
unfolding with_edition
slaves-in c e = refl

form-written : (f : List ℕ) (e : ℕ) → file_ground f ≡ 0 → Converts f e → Written f e (in_edition f e)
form-written f e accepted there =
    record {
      form = refl;
      accepted = there.accepted;
      edition = sym (edition-at (in_edition f e) there.accepted) ∙ ap (λ (c : Cluster). c.edition) there.cluster ∙ edition-in (decode f) e;
      cluster = there.cluster;
      loads =
          load_twice (in_edition f e) there.accepted
          ∙ ap (λ (names : List ℕ). cond (has_repeat (held_names names)) 22 0) (ap logical_names there.cluster ∙ names_in (decode f) e)
          ∙ sym (load_twice f accepted);
    }

pub call_converts : CallConverts
call_converts f e out n b width is =
    subst (Written f e) (sym (left f e out n is))
    (form-written f e (no_ground_accepted f e out (no_ground f e out n is)) (there f e out n is b width))

-- ---- a file written in its own edition, from a form of it

-- the call on any accepted file of the same slaves, asked for an edition in which they have room and this form
own_form : (f g : List ℕ) (e : ℕ) (out : List ℕ) → OffsetWidth (width_in e) → file_ground g ≡ 0 → exceeds (width_in e) (decode g).slaves ≡ false
    → in_edition g e ≡ f → length f ≤ length out → convert_on g e out ≡ (done (length f), written_in out f)
own_form f g e out width accepted under is fits =
    convert-written g e out (none-holds g e out accepted under (omega (arith, form-length g e width, ap length is)))
    ∙ ap (λ (bytes : List ℕ). (done (length bytes), written_in out bytes)) is

module _ (f : List ℕ) (b : Bytes f) (accepted : file_ground f ≡ 0) where
  edition : (decode f).edition ≡ get_or f 2 0
  edition = edition-at f accepted

  own_width : OffsetWidth (width_in (get_or f 2 0))
  own_width = subst (λ (e : ℕ). OffsetWidth (width_in e)) edition (accepted-legal f b accepted).width

  own_under : exceeds (width_in (get_or f 2 0)) (decode f).slaves ≡ false
  own_under = subst (λ (e : ℕ). exceeds (width_in e) (decode f).slaves ≡ false) edition (own_limits (decode f) (accepted-legal f b accepted))

pub call_copies : CallCopies
call_copies f out b accepted fits = own_form f f (get_or f 2 0) out (own_width f b accepted) accepted (own_under f b accepted) (copies f b accepted) fits

pub calls_come_back : CallsComeBack
calls_come_back f e out back n b width is fits =
    let accepted : file_ground f ≡ 0 = no_ground_accepted f e out (no_ground f e out n is) in
    let form : Converts f e = there f e out n is b width in
    let slaves = ap (λ (c : Cluster). c.slaves) form.cluster ∙ slaves-in (decode f) e in
    subst (λ (g : List ℕ). convert_on g (get_or f 2 0) back ≡ (done (length f), written_in back f)) (sym (left f e out n is))
    (own_form f (in_edition f e) (get_or f 2 0) back (own_width f b accepted) form.accepted (rw slaves (own_under f b accepted))
    (subst (λ (d : ℕ). in_edition (in_edition f e) d ≡ f) (edition f b accepted) form.back) fits)

pub call_widens : CallWidens
call_widens f out b accepted one room =
    let wide = widened f b accepted one in
    let width : OffsetWidth 4 = (Rattle.file.proofs.Width.two_widths).1 in (
      length (in_edition f 2),
      ap (λ (r : Result ℕ × List ℕ). r.0)
          (convert-written f 2 out (none-holds f 2 out accepted wide.fits (omega (arith, form-length f 2 width, wide.long)))),
    )
