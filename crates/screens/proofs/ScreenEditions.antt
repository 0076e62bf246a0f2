-- A turn on a file and on its converted form: the grounds are the same, and so is the read's round.
-- Assumes nothing.
use Rattle.std.proofs.Common.{ℕ, ◌≡◌, refl, sym, ap, ◌∙◌, List, [], ◌∷◌, ◌++◌, cond, eqb, eqb-true}
use borrow.Author.Tests.{eqb-false}
use Rattle.file.specs.Rules.Order.{Ground, first_of}
use Rattle.file.specs.Rules.FileGrounds.{file_grounds}
use Rattle.file.specs.Rules.Editions.{in_edition}
use Rattle.file.proofs.Order.{by_case, joined-first}
use Rattle.cluster.specs.Rules.RoundGrounds.{short_answer}
use Rattle.cluster.specs.Claims.RoundEditions.{Convertible}
use Rattle.cluster.proofs.RoundEditions.{grounds_behind, sent-converted}
use Rattle.screens.specs.Rules.Screens.{read_of, Due, nobody, screen, due}
use Rattle.screens.specs.Rules.Turn.{read_sent, state_grounds, turn_ground, turn_on}
use Rattle.screens.specs.Claims.ScreenEditions.{TurnsConverted}
use Rattle.screens.proofs.ScreenGrounds.{turn_free, turn-refused, state_numbered}
use Rattle.screens.proofs.Turns.{may-send-bytes, turn_idles, turn-serves}

ground_same :
    (f : List ℕ) (e : ℕ) (state buffer : List ℕ) → Convertible f e → turn_ground state (in_edition f e) buffer ≡ turn_ground state f buffer
unfolding turn_ground
ground_same f e state buffer convertible =
    let short : List Ground = (9, short_answer buffer) ∷ [] in
    joined-first (state_grounds state) (file_grounds (in_edition f e) ++ short) (state_numbered state)
    ∙ ap (λ (n : ℕ). cond (eqb (first_of (state_grounds state)) 0) n (first_of (state_grounds state))) (grounds_behind convertible refl)
    ∙ sym (joined-first (state_grounds state) (file_grounds f ++ short) (state_numbered state))

pub turns-converted : TurnsConverted
turns-converted f e state buffer convertible sb =
    by_case (eqb (turn_ground state f buffer) 0)
    (λ t. by_due (eqb-true _ _ t) (due state) refl)
    (λ t.
    let old = turn-refused state f buffer (eqb-false _ _ t) in
    let new = turn-refused state (in_edition f e) buffer (λ z. eqb-false _ _ t (sym same ∙ z)) in
    (rw (old, new, same), rw old convertible))
  where
    same : turn_ground state (in_edition f e) buffer ≡ turn_ground state f buffer
    same = ground_same f e state buffer convertible

    by_due :
        turn_ground state f buffer ≡ 0 → (d : Due) → due state ≡ d →
        (turn_on state (in_edition f e) buffer ≡ (
          (turn_on state f buffer).0,
          (turn_on state f buffer).1,
          (turn_on state f buffer).2,
          in_edition (turn_on state f buffer).3 e,
        )) ×
        Convertible (turn_on state f buffer).3 e
    by_due none nobody is =
        let old = turn_idles state f buffer none is in
        let new = turn_idles state (in_edition f e) buffer (same ∙ none) is in
        (rw (old, new), rw old convertible)
    by_due none (screen i) is =
        let may = may-send-bytes state i sb is (turn_free state f buffer none).state in
        let (round, after) = sent-converted f e (read_sent (read_of state i)) buffer convertible may in
        let old = turn-serves state f buffer none i is in
        let new = turn-serves state (in_edition f e) buffer (same ∙ none) i is in
        (rw (old, new, round), rw old after)
