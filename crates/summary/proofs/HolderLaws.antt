-- The question: what the loop along the names keeps, and one law for each way.
-- Assumes nothing.
use Rattle.std.proofs.Common.{ℕ, suc, ◌+◌, ◌≤◌, ◌<◌, arith, add-one, ◌≡◌, refl, ap, ◌∙◌, List, [], ◌∷◌, length, get_or, take, drop, drop-cons, get_or-take, length-take-le, lt-ltb, le-ltb, eq-eqb, ne_eqb}
use Rattle.std.proofs.Math.Seq.{drop-length}
use Rattle.file.specs.Rules.Results.{refused, done}
use Rattle.cluster.specs.Rules.Summary.{Held, nobody, at, first_from, holder_in}

pub holder-refused : (name count : ℕ) (slice : List ℕ) → length slice < count → refused 24 ≡ holder_in name count slice
unfolding holder_in
holder-refused name count slice h = rw (lt-ltb (length slice) count h)

-- the first holder among the names from this place on is that of all names
pub record Asking (name count : ℕ) (slice : List ℕ) (place : ℕ) : Type 0 where
  pub long : count ≤ length slice
  pub most : place ≤ count
  pub same : first_from name place (drop place (take count slice)) ≡ first_from name 0 (take count slice)

pub asking_start : (name count : ℕ) (slice : List ℕ) → count ≤ length slice → Asking name count slice 0
asking_start name count slice h = record { long = h; most = omega arith; same = refl }

module _ {name count : ℕ} {slice : List ℕ} {place : ℕ} (h : Asking name count slice place) where
  whole : length (take count slice) ≡ count
  whole = length-take-le count slice h.long

  answer : {r : Held} → r ≡ first_from name 0 (take count slice) → done r ≡ holder_in name count slice
  unfolding holder_in
  answer e = rw (le-ltb (length slice) count h.long, e)

  module _ (more : place < count) where
    here : drop place (take count slice) ≡ get_or slice place 0 ∷ drop (suc place) (take count slice)
    here =
        let there : place < length (take count slice) = omega (arith, whole) in
        drop-cons (take count slice) place 0 there ∙ ap (λ (n : ℕ). n ∷ drop (suc place) (take count slice)) (get_or-take count slice place 0 more)

    pub asking_here : get_or slice place 0 ≡ name → done (at place) ≡ holder_in name count slice
    unfolding first_from
    asking_here e = answer (rw (here, eq-eqb (get_or slice place 0) name e) at h.same)

    pub asking_next : (get_or slice place 0 ≡ name → ⊥) → Asking name count slice (place + 1)
    unfolding first_from
    asking_next e =
        record { long = h.long; most = omega arith; same = rw (add-one place) (rw (here, ne_eqb (get_or slice place 0) name e) at h.same) }

  pub asking_done : count ≤ place → done nobody ≡ holder_in name count slice
  unfolding first_from
  asking_done none =
      let all : drop place (take count slice) ≡ [] = let same : place ≡ length (take count slice) = omega (arith, whole, h.most) in rw same (drop-length (take count slice)) in
      answer (rw all at h.same)
