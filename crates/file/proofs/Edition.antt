-- A file of an unknown edition is refused before anything behind its first three bytes is looked at: its length and those bytes alone
-- decide the ground.
-- Assumes nothing.
use Rattle.std.proofs.Common.{ℕ, ◌<◌, arith, ◌≡◌, sym, ap, ◌∙◌, List, true, not, cond, length, get_or, take, get_or-take, eqb, eqb-true, ne_eqb}
use Rattle.file.specs.Rules.Order.{either}
use Rattle.file.specs.Rules.Layout.{width_of, edition_of}
use Rattle.file.specs.Rules.FileGrounds.{wrong_size, wrong_mark, wrong_edition, file_grounds_at, file_ground_at, file_ground, load_verdict}
use Rattle.file.specs.Rules.Results.{result_of}
use Rattle.file.specs.Claims.Edition.{NoEdition, ThirdGround, UnknownEdition, UnknownEditionAnswer}
use Rattle.file.proofs.Order.{by_case, clash, first_alike}
use Rattle.file.proofs.Width.{width_two}
use Rattle.file.proofs.Results.{load_first}
use Rattle.file.proofs.AcceptedFacts.{accepted}

-- files with the same first bytes agree in each of them
pub same-front : (n : ℕ) (f g : List ℕ) → take n f ≡ take n g → (i : ℕ) → i < n → get_or f i 0 ≡ get_or g i 0
same-front n f g e i h = sym (get_or-take n f i 0 h) ∙ ap (λ (l : List ℕ). get_or l i 0) e ∙ get_or-take n g i 0 h

pub unknown-edition-at :
    (w : ℕ) (f g : List ℕ)
    → length f ≡ length g
    → take 3 f ≡ take 3 g
    → (get_or f 2 0 ≡ edition_of w → ⊥)
    → file_ground_at w f ≡ file_ground_at w g
unfolding file_ground_at file_grounds_at wrong_size wrong_mark wrong_edition
unknown-edition-at w f g long front other =
    let e₀ : get_or f 0 0 ≡ get_or g 0 0 = same-front 3 f g front 0 (omega arith) in
    let e₁ : get_or f 1 0 ≡ get_or g 1 0 = same-front 3 f g front 1 (omega arith) in
    let e₂ : get_or f 2 0 ≡ get_or g 2 0 = same-front 3 f g front 2 (omega arith) in
    let refused : wrong_edition w f ≡ true = ap not (ne_eqb _ _ other) in
    first_alike 1 _ _ (rw long)
    (λ _. first_alike 2 _ _ (rw (e₀, e₁)) (λ _. first_alike 3 _ _ (rw e₂) (λ p. clash refused p)))

-- at the width of the file: ground 3 is that byte 2 is neither 1 nor 2
pub third_ground : ThirdGround
unfolding wrong_edition width_of either
third_ground f =
    by_case (eqb (get_or f 2 0) 2)
    (λ t. rw (eqb-true (get_or f 2 0) 2 t))
    (λ t. by_case (eqb (get_or f 2 0) 1) (λ u. rw (t, u)) (λ u. rw (t, u)))

neither : (f : List ℕ) → NoEdition f → get_or f 2 0 ≡ edition_of (width_of f) → ⊥
neither f other is = other.one (is ∙ ap edition_of (width_two f other.two))

-- a file of an unknown edition is refused
pub refused-edition : (f : List ℕ) → NoEdition f → file_ground f ≡ 0 → ⊥
unfolding file_ground
refused-edition f other g = neither f other ((accepted (width_of f) f).0 g).edition

pub same-edition : (f g : List ℕ) → take 3 f ≡ take 3 g → get_or f 2 0 ≡ get_or g 2 0
same-edition f g front = same-front 3 f g front 2 (omega arith)

pub unknown_edition : UnknownEdition
unfolding file_ground width_of
unknown_edition f g long front other =
    unknown-edition-at (width_of f) f g long front (neither f other)
    ∙ ap (λ (b : ℕ). file_ground_at (cond (eqb b 2) 4 2) g) (same-edition f g front)

-- So the checker's call answers the same, by the file's own ground.
pub unknown_edition-answer : UnknownEditionAnswer
unfolding load_verdict
unknown_edition-answer f g long first other =
    let here : get_or f 2 0 ≡ get_or g 2 0 = same-edition f g first in
    let other' : NoEdition g = record { one = λ z. other.one (here ∙ z); two = λ z. other.two (here ∙ z) } in
    ap (λ (n : ℕ). result_of n tt)
    (load_first f (refused-edition f other) ∙ unknown_edition f g long first other ∙ sym (load_first g (refused-edition g other')))
