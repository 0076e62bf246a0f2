-- The call that joins: its grounds in their order, and what it answers and leaves.
-- Assumes nothing.
use Rattle.std.proofs.Common.{ℕ, ◌≡◌, sym, ◌∙◌, ◌≢◌, List, [], ◌∷◌, ◌++◌, Bool, true, false, length, ltb, eq-eqb, ne_eqb}
use Rattle.file.specs.Rules.Order.{first_of, either}
use Rattle.file.specs.Rules.Layout.{width_in}
use Rattle.file.specs.Rules.Results.{refused, done, written_in}
use Rattle.file.specs.Rules.Encode.{file_length}
use Rattle.file.specs.Rules.Decode.{decode}
use Rattle.file.specs.Rules.Editions.{exceeds}
use Rattle.file.specs.Rules.FileGrounds.{file_grounds, file_ground}
use Rattle.file.proofs.Order.{joined-here, joined-next}
use Rattle.file.proofs.Results.{file-first, file_numbered}
use Rattle.join.specs.Rules.Joined.{joined, joined_file, shares_name}
use Rattle.join.specs.Rules.Join.{join_grounds, join_ground, join_on}

-- ground 30: the limits of the first's edition, or the buffer
abbrev pub over : List ℕ → List ℕ → List ℕ → Bool
over f g out =
    either (exceeds (width_in (decode f).edition) (joined (decode f) (decode g)).slaves)
    (ltb (length out) (file_length (width_in (decode f).edition) (joined (decode f) (decode g)).slaves))

module _ (f g out : List ℕ) where
  pub first_decides : file_ground f ≢ 0 → join_ground f g out ≡ file_ground f
  unfolding join_ground join_grounds
  first_decides some = joined-here (file_grounds f) _ (file_numbered f) (λ z. some (sym (file-first f) ∙ z)) ∙ file-first f

  after_first : file_ground f ≡ 0 → join_ground f g out ≡ first_of (file_grounds g ++ (29, shares_name (decode f) (decode g)) ∷ (30, over f g out) ∷ [])
  unfolding join_ground join_grounds
  after_first accepted = joined-next (file_grounds f) _ (file_numbered f) (file-first f ∙ accepted)

  pub second_decides : file_ground f ≡ 0 → file_ground g ≢ 0 → join_ground f g out ≡ file_ground g
  second_decides accepted some =
      after_first accepted ∙ joined-here (file_grounds g) _ (file_numbered g) (λ z. some (sym (file-first g) ∙ z)) ∙ file-first g

  pub after_both : file_ground f ≡ 0 → file_ground g ≡ 0 → join_ground f g out ≡ first_of ((29, shares_name (decode f) (decode g)) ∷ (30, over f g out) ∷ [])
  after_both first second = after_first first ∙ joined-next (file_grounds g) _ (file_numbered g) (file-first g ∙ second)

  module _ (first : file_ground f ≡ 0) (second : file_ground g ≡ 0) where
    pub names_decide : shares_name (decode f) (decode g) ≡ true → join_ground f g out ≡ 29
    unfolding first_of
    names_decide shared = after_both first second ∙ rw shared

    pub size_decides : shares_name (decode f) (decode g) ≡ false → over f g out ≡ true → join_ground f g out ≡ 30
    unfolding first_of
    size_decides apart large = after_both first second ∙ rw (apart, large)

    pub none-holds : shares_name (decode f) (decode g) ≡ false → over f g out ≡ false → join_ground f g out ≡ 0
    unfolding first_of
    none-holds apart small = after_both first second ∙ rw (apart, small)

  -- refused, with the buffer as it was; or written
  pub join-refused : {n : ℕ} → join_ground f g out ≡ n → n ≢ 0 → join_on f g out ≡ (refused n, out)
  unfolding join_on
  join-refused is some = rw (is, ne_eqb _ _ some)

  pub join_written : join_ground f g out ≡ 0 → join_on f g out ≡ (done (length (joined_file f g)), written_in out (joined_file f g))
  unfolding join_on
  join_written none = rw (eq-eqb _ _ none)
