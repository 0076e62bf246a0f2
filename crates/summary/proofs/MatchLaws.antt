-- Ground 24 name by name: what the loop along the slaves keeps, and one law for each way. And a summary that matches: its slice has room
-- for the names, which stand in it already.
-- Assumes nothing.
use Rattle.std.proofs.Common.{ℕ, suc, ◌+◌, ◌≤◌, ◌<◌, arith, add-one, ◌≡◌, refl, sym, ap, ◌∙◌, List, [], ◌∷◌, Bool, true, false, not, length, get_or, take, drop, drop-cons, get_or-take, length-take-le, eq-eqb, ne_eqb, lt-ltb, le-ltb}
use Rattle.std.proofs.Math.Seq.{drop-length}
use Rattle.file.specs.Rules.Cluster.{Cluster, logical_name, logical_names}
use Rattle.file.specs.Inner.Places.{no_slave_lem, slave_of}
use Rattle.file.proofs.Order.{by_case, both-next, both_false_left, either_left, either-next}
use Rattle.file.proofs.NameReadLaws.{names-count, name_in}
use Rattle.cluster.specs.Rules.Summary.{kept, alike, wrong_summary}
use Rattle.cluster.specs.Claims.Renaming.{names_of}
use Rattle.cluster.specs.Claims.Summary.{Matches, given_names}
use Rattle.cluster.proofs.SummaryLaws.{alike_same}

-- ---- lists that are alike

other_length : (xs ys : List ℕ) → (length xs ≡ length ys → ⊥) → alike xs ys ≡ false
other_length xs ys other = by_case (alike xs ys) (λ t. absurd (other (ap length (alike_same xs ys t)))) (λ f. f)

-- ---- a summary that matches

front-count : (count : ℕ) (slice : List ℕ) {names : List ℕ} → count ≤ length slice → take count slice ≡ names → length names ≡ count
front-count count slice room same = ap length (sym same) ∙ length-take-le count slice room

-- the slice has room for the names
pub matches-room : (file : List ℕ) {count : ℕ} {slice : List ℕ} → Matches file (kept count slice) → length (names_of file) ≤ length slice
matches-room file (given_names {count} {slice} room same) = let whole = front-count count slice room same in omega (arith, room)

-- ---- name by name

module _ (c : Cluster) (count : ℕ) (slice : List ℕ) where
  pub short_wrong : length slice < count → true ≡ wrong_summary (kept count slice) (logical_names c)
  unfolding wrong_summary
  short_wrong short = sym (either_left (not (alike (take count slice) (logical_names c))) (lt-ltb (length slice) count short))

  by_names : {t : Bool} → count ≤ length slice → t ≡ alike (take count slice) (logical_names c) → not t ≡ wrong_summary (kept count slice) (logical_names c)
  unfolding wrong_summary
  by_names long is = rw (either-next (not (alike (take count slice) (logical_names c))) (le-ltb (length slice) count long), ← is)

  pub count_wrong : {n : ℕ} → count ≤ length slice → n ≡ length c.slaves → (count ≡ n → ⊥) → true ≡ wrong_summary (kept count slice) (logical_names c)
  count_wrong long is other =
      by_names long
      (sym
      (other_length (take count slice) (logical_names c)
      (λ e. other (sym (length-take-le count slice long) ∙ e ∙ names-count c ∙ sym is))))

  -- the first names agree: the slice is right exactly where the others agree
  pub record Agreeing (slave : ℕ) : Type 0 where
    pub long : count ≤ length slice
    pub all : count ≡ length c.slaves
    pub most : slave ≤ count
    pub same : alike (drop slave (take count slice)) (drop slave (logical_names c)) ≡ alike (take count slice) (logical_names c)

  pub agreeing_start : {n : ℕ} → count ≤ length slice → n ≡ length c.slaves → count ≡ n → Agreeing 0
  agreeing_start long is count-is = record { long = long; all = count-is ∙ is; most = omega arith; same = refl }

module _ {c : Cluster} {count : ℕ} {slice : List ℕ} {slave : ℕ} (h : Agreeing c count slice slave) where
  module _ (more : slave < count) where
    held-here : drop slave (take count slice) ≡ get_or slice slave 0 ∷ drop (suc slave) (take count slice)
    held-here =
        let there : slave < length (take count slice) = omega (arith, length-take-le count slice h.long) in
        drop-cons (take count slice) slave 0 there ∙ ap (λ (n : ℕ). n ∷ drop (suc slave) (take count slice)) (get_or-take count slice slave 0 more)

    name-here : drop slave (logical_names c) ≡ logical_name (slave_of c slave) ∷ drop (suc slave) (logical_names c)
    name-here =
        let there : slave < length (logical_names c) = omega (arith, names-count c, h.all) in
        drop-cons (logical_names c) slave (logical_name no_slave_lem) there ∙ ap (λ (n : ℕ). n ∷ drop (suc slave) (logical_names c)) (name_in c slave)

    module _ {name : ℕ} (is : name ≡ logical_name (slave_of c slave)) where
      pub agreeing_stop : (get_or slice slave 0 ≡ name → ⊥) → true ≡ wrong_summary (kept count slice) (logical_names c)
      unfolding alike
      agreeing_stop other =
          let differ : (get_or slice slave 0 ≡ logical_name (slave_of c slave) → ⊥) = λ e. other (e ∙ sym is) in
          by_names c count slice h.long (sym (both_false_left _ (ne_eqb _ _ differ)) ∙ (rw (held-here, name-here) at h.same))

      pub agreeing_next : get_or slice slave 0 ≡ name → Agreeing c count slice (slave + 1)
      unfolding alike
      agreeing_next e =
          record {
            long = h.long;
            all = h.all;
            most = omega arith;
            same = rw (add-one slave) (sym (both-next _ (eq-eqb _ _ (e ∙ is))) ∙ (rw (held-here, name-here) at h.same));
          }

  pub agreeing_done : count ≤ slave → false ≡ wrong_summary (kept count slice) (logical_names c)
  unfolding alike
  agreeing_done none =
      let end : slave ≡ count = omega (arith, h.most) in
      let first : drop slave (take count slice) ≡ [] =
      let e : slave ≡ length (take count slice) = end ∙ sym (length-take-le count slice h.long) in rw e (drop-length (take count slice)) in
      let second : drop slave (logical_names c) ≡ [] =
      let e : slave ≡ length (logical_names c) = end ∙ h.all ∙ sym (names-count c) in rw e (drop-length (logical_names c)) in
      by_names c count slice h.long (rw (first, second) at h.same)
