-- What the calls at the lines answered.
use denote.Param.Members.{Shared, MutLaws, FnLaws, step_gives}
use Rattle.std.proofs.Common.{Bor, ◌≡◌, List, [], ◌∷◌, Option, None, Some, Result, Ok, Err, OnOk, All, map, subst, sym, refl}
use Rattle.std.proofs.lemmas.Fn.{says_at}
use Rattle.std.proofs.lemmas.Iterator.{YieldsList}
use Rattle.std.proofs.lemmas.Iterator.Consumers.{YieldsList-end}
use Rattle.std.proofs.lemmas.List.Elements.{All-nil, All-cons, All-same}
use Rattle.std.proofs.lemmas.Result.{IfOk-from_err}
use Rattle.std.specs.Fn.{Called, FnReturnsAt}
use Rattle.std.specs.Iterator.{YieldsThen}
use Rattle.std.specs.List.{FoldsTo}
use Rattle.std.specs.Option.{MatchOption}
use Rattle.std.specs.Result.{IsErr}

-- one call, as `try_for_each` tells it
pub said : {F T R : Type 0} (g : Shared F (Bor T × Unit {0}) R) (f : F) (x : Bor T) (r : R) (q : F) → MutLaws g → FnLaws g → (v : R) × Called g f (x, tt) v q × (v ≡ r) → FnReturnsAt g f x.now r × (q ≡ f)
said g f x r q law stays k = (says_at g (step_gives g f (x, tt) k.0 q law k.1) k.2, stays.step_stays f (x, tt) k.0 q k.1)

module _ {A B F : Type 0} (P : B → Type 0) (v : A → B) (turn : F → A → F → Type 0) (f : F) where
  -- of calls that each leave the function as it was, all that one says
  each_gave : (xs : List A) (last : F) → FoldsTo turn f xs last → ((x : A) (q : F) → turn f x q → P (v x) × (q ≡ f)) → All P (map v xs)
  each_gave [] last calls one = All-nil P
  each_gave (x ∷ xs) last calls one =
      let first = one x calls.0 calls.1 in
      All-cons P (v x) (map v xs) first.0 (each_gave xs last (subst (λ k. FoldsTo turn k xs last) first.1 calls.2) one)

  -- the same of `try_for_each` over what yields a list, where it answered Ok
  pub handed : {S E : Type 0} {steps : S → Option A → S → Type 0} {s : S} {all : List B} (Q : A → Type 0) (r : Result (Unit {0}) E) (xs : List A) (o : Option A) (last : F) (u : S) → YieldsList steps v s all → YieldsThen steps s xs o u → FoldsTo turn f xs last → MatchOption o (r ≡ Ok tt) Q → ((x : A) → Q x → IsErr r) → ((x : A) (q : F) → turn f x q → P (v x) × (q ≡ f)) → OnOk r (All P all)
  handed {all = all} Q (Ok w) xs None last u road ran calls end broke one =
      let drained = YieldsList-end road xs ran.0 ran.1 None u refl ran.2 in
      All-same P all (map v xs) (sym drained.0) (each_gave xs last calls one)
  handed {all = all} Q (Err e) xs None last u road ran calls end broke one = tt
  handed {all = all} Q r xs (Some x) last u road ran calls end broke one = IfOk-from_err r (λ w. All P all) (broke x end)
