-- What ttpa_holder tells: the place of the first holder, which is one of the slice, and TTPA_NOBODY of nobody alone.
-- Assumes nothing.
use Prim.Native.Nat.{ℕ, suc, ◌+◌, ◌≤◌, ◌<◌}
use native.Mathlib.Omega.{arith}
use mathlib.Core.Path.{◌≡◌, refl, sym, ap, ◌∙◌}
use mathlib.Core.List.{List, [], ◌∷◌}
use lib.ListN.{length, take, length-take}
use lib.Dec.{eqb, ltb}
use Rattle.file.specs.Rules.Results.{done, number_in}
use Rattle.file.proofs.Order.{by_case}
use borrow.Author.Tests.{le-ltb}
use Rattle.cluster.specs.Claims.Summary.{FirstCounted}
use Rattle.cluster.proofs.Holders.{question_is-first}
use Rattle.cluster.specs.Rules.Summary.{Held, nobody, at, first_from, holder_in}
use Rattle.ttpa.specs.Claims.Holder.{HolderTellsFirst}
use Rattle.ttpa.specs.Rules.Calls.{lent_after, nobody_place, place_of, holder_call}

-- among so many names, of which the first stands at a place
data Among (first size : ℕ) : Held → Type 0 where
  none : Among first size nobody
  one : {n : ℕ} → n < first + size → Among first size (at n)

among_next : (first size : ℕ) {h : Held} → Among (suc first) size h → Among first (suc size) h
among_next first size none = none
among_next first size (one {n} l) = one {n = n} (omega (arith, l))

first_among : (name first : ℕ) (names : List ℕ) → Among first (length names) (first_from name first names)
unfolding first_from
first_among name first [] = none
first_among name first (n ∷ ns) =
    by_case (eqb n name)
    (λ e. let here : first < first + length (n ∷ ns) = omega arith in rw e (one here))
    (λ e. rw e (among_next first (length ns) (first_among name (suc first) ns)))

only-nobody : {size : ℕ} {h : Held} → Among 0 size h → size ≤ nobody_place → place_of h ≡ nobody_place → h ≡ nobody
unfolding place_of
only-nobody none few e = refl
only-nobody (one l) few e = absurd (omega (arith, l, few, e))

-- a slice has no more bytes than a pointer can count
nobody_alone : (held : List ℕ) (count name place : ℕ) → length held ≤ nobody_place → holder_call held count name place ≡ (0, nobody_place) → holder_in name count held ≡ done nobody
unfolding holder_call holder_in number_in lent_after
nobody_alone held count name place few e =
    by_case (ltb (length held) count)
    (λ t. absurd (let z : ◌≡◌ {A = ℕ} 24 0 = rw t at (ap (λ (r : ℕ × ℕ). r.0) e) in omega (arith, z)))
    (λ t.
    let is : place_of (first_from name 0 (take count held)) ≡ nobody_place = rw t at (ap (λ (r : ℕ × ℕ). r.1) e) in
    let short : length (take count held) ≤ nobody_place = rw (length-take count held) (omega (arith, few)) in
    rw (t, only-nobody (first_among name 0 (take count held)) short is))

-- a place that is told, and is not TTPA_NOBODY
only_at : (h : Held) {p : ℕ} → place_of h ≡ p → p < nobody_place → h ≡ at p
unfolding place_of
only_at nobody e few = absurd (omega (arith, e, few))
only_at (at n) e few = ap at e

pub holder_tells_first : HolderTellsFirst
unfolding nobody_place place_of
holder_tells_first held long count name place within =
    record {
      first = λ p few. (
        λ e. (answer.place p).0 (is ∙ ap done (only_at found (told e) few)),
        λ f. call ((answer.place p).1 f),
      );
      none = (
        λ e. answer.none.0 (nobody_alone held count name place (omega (arith, long)) e),
        λ a. call (answer.none.1 a),
      );
    }
  where
    answer : FirstCounted name count held
    answer = question_is-first name count held within

    found : Held
    found = first_from name 0 (take count held)

    is : holder_in name count held ≡ done found
    is = unfold holder_in in rw (le-ltb (length held) count within)

    call : {h : Held} → holder_in name count held ≡ done h → holder_call held count name place ≡ (0, place_of h)
    call e = unfold holder_call number_in lent_after in rw e

    told : {p : ℕ} → holder_call held count name place ≡ (0, p) → place_of found ≡ p
    told e = ap (λ (r : ℕ × ℕ). r.1) (sym (call is) ∙ e)
