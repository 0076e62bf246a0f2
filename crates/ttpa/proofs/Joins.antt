-- The call that joins: its number, what it leaves, and joins of converted files.
-- Assumes nothing.
use Prim.Native.Nat.{ℕ}
use mathlib.Core.Path.{◌≡◌, refl, sym, ap, ◌∙◌, subst}
use mathlib.Core.List.{List}
use lib.ListN.{length, take}
use Rattle.file.specs.Rules.Results.{Result, done, written_in, number_in}
use Rattle.file.specs.Rules.Editions.{in_edition}
use Rattle.convert.specs.Rules.Convert.{convert_on}
use Rattle.convert.proofs.Forms.{written_exactly}
use Rattle.join.specs.Rules.Joined.{joined_file}
use Rattle.join.specs.Rules.Join.{join_on}
use Rattle.join.specs.Claims.Result.{JoinOf}
use Rattle.join.proofs.Order.{join_written}
use Rattle.join.proofs.Result.{call-joins}
use Rattle.join.proofs.JoinEditions.{joined_forms}
use Rattle.ttpa.specs.Rules.Calls.{convert_call, join_call, lent_after}
use Rattle.ttpa.specs.Claims.Join.{JoinNumbers, JoinWritten, JoinLeft, JoinsConverted}
use Rattle.ttpa.proofs.Numbers.{join-number}
use Rattle.ttpa.proofs.Conversion.{conversion_written}

-- a join that wrote, as a call
join-done :
    (first second out : List ℕ) (size : ℕ) {n : ℕ} {new : List ℕ} → join_on first second out ≡ (done n, new) →
    join_call first second out size ≡ (0, n, new)
unfolding join_call number_in lent_after
join-done first second out size is = rw is

-- what a call that returned 0 wrote
join-left :
    (first second out : List ℕ) (size : ℕ) → (join_call first second out size).0 ≡ 0 →
    join_on first second out ≡ (done (length (joined_file first second)), written_in out (joined_file first second))
join-left first second out size none = join_written first second out (sym (join-number first second out size) ∙ none)

pub join-numbers : JoinNumbers
join-numbers = join-number

pub join-written-call : JoinWritten
join-written-call first second out size none = join-done first second out size (join-left first second out size none)

pub join-left-call : JoinLeft
join-left-call first second out size b b' none =
    let left = join-left first second out size none in
    let there : (join_on first second out).0 ≡ done (length (joined_file first second)) = ap (λ (r : Result ℕ × List ℕ). r.0) left in
    let joins = (call-joins first second out (length (joined_file first second)) b b' there).joins in
    subst (λ (r : ℕ × ℕ × List ℕ). JoinOf first second (take r.1 r.2)) (sym (join-written-call first second out size none)) (rw left at joins)

convert-returns :
    (e : ℕ) (file out : List ℕ) (size : ℕ) {n : ℕ} → (convert_on file e out).0 ≡ done n → (convert_call e file out size).0 ≡ 0
unfolding convert_call number_in
convert-returns e file out size is = rw is

pub joins-converted : JoinsConverted
joins-converted first second e d out size room again b form none other fits =
    let there : (join_on first second out).0 ≡ done (length (joined_file first second)) =
    ap (λ (r : Result ℕ × List ℕ). r.0) (join-left first second out size none) in
    let j = joined_file first second in
    let converts : (convert_on j e room).0 ≡ done (length (in_edition j e)) =
    (written_exactly j e room (length (in_edition j e)) other.width).1
    (record { accepted = other.accepted; within = other.room; room = fits; count = refl }) in
    join-done (in_edition first e) (in_edition second d) room again
    (joined_forms first second e d out room (length j) b form there other fits)
    ∙ sym (conversion_written e j room again (convert-returns e j room again converts))
