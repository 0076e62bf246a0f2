-- Marks for what was seen, a test for each mark: which marks are among those of a list. And the elements of a list under a mark.
-- Assumes nothing.
use Rattle.std.proofs.Common.{ℕ, ◌<◌, ◌≡◌, ap, ◌∙◌, List, [], ◌∷◌, map, Bool, true, false, eq-eqb, eqb-true, length, get_or, set, replicate}
use Rattle.std.proofs.Common.{length-set, get_or-set_same, get_or-set_other, eqb}
use borrow.Author.Tests.{eqb-false}
use lib.ListN.{length-replicate, get_or-replicate}
use Rattle.file.specs.Rules.FileGrounds.{is_among}
use Rattle.file.specs.Inner.Marked.{Marked}
use Rattle.file.proofs.Order.{by_case, clash, either_left, either_right, either-next}

pub marked_none : (room : ℕ) → Marked (replicate room false) []
unfolding is_among
marked_none room = record { are = λ m h. get_or-replicate room m false false (rw (length-replicate room false) at h) }

pub marked_add : {seen : List Bool} {marks : List ℕ} → Marked seen marks → (m : ℕ) → m < length seen → Marked (set seen m true) (m ∷ marks)
unfolding is_among
marked_add {seen} {marks} h m room =
    record {
      are = λ k fits.
          by_case (eqb k m)
          (λ e. rw (either_left (is_among k marks) e, eqb-true k m e) (get_or-set_same seen m true false room))
          (λ e.
          rw (either-next (is_among k marks) e)
          (get_or-set_other seen m k true false (eqb-false k m e) ∙ h.are k (rw (length-set seen m true) at fits)));
    }

-- the mark of an element is among the marks, so an element whose mark is not seen is new
among_marks : (mark : ℕ → ℕ) (n : ℕ) (l : List ℕ) → is_among n l ≡ true → is_among (mark n) (map mark l) ≡ true
unfolding is_among
among_marks mark n [] e = e
among_marks mark n (m ∷ l) e =
    by_case (eqb n m)
    (λ t. either_left (is_among (mark n) (map mark l)) (eq-eqb (mark n) (mark m) (ap mark (eqb-true n m t))))
    (λ t. either_right (eqb (mark n) (mark m)) (among_marks mark n l (rw (either-next (is_among n l) t) at e)))

pub marked-new :
    {seen : List Bool} (mark : ℕ → ℕ) (n : ℕ) (l : List ℕ) → Marked seen (map mark l) → mark n < length seen →
    get_or seen (mark n) false ≡ false → is_among n l ≡ false
marked-new mark n l h room e =
    by_case (is_among n l) (λ t. clash (h.are (mark n) room ∙ among_marks mark n l t) e) (λ t. t)
