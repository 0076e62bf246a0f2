-- Answers are told apart: no two of one type are taken to the same, since the maps of `specs/Inner/ScreenAnswers.antt` can be undone.
-- Assumes nothing.
use Rattle.std.proofs.Common.{ℕ, ◌≡◌, refl, sym, ◌∙◌, ap, Bool, true, false, Ok, Err, Option, Some, None}
use Rattle.file.specs.Rules.Results.{Result, refused, done}
use Rattle.file.specs.Inner.Refusals.{Answered}
use Rattle.file.proofs.Order.{clash}
use Rattle.file.proofs.Distinct.{refusal_in, refusal_back}
use Rattle.cluster.specs.Rules.Round.{Answer}
use Rattle.screens.specs.Rules.Screens.{Due, nobody, screen}
use Rattle.screens.specs.Rules.Turn.{Turn, idle, served, served_by}
use Rattle.screens.specs.Inner.ScreenAnswers.{due_of, turned_of}
use Rattle.screens.specs.declared.turn.Served.{Served}

looking : Due → Option ℕ
looking nobody = None
looking (screen i) = Some i

looking_back : (a : Option ℕ) → looking (due_of a) ≡ a
unfolding looking due_of
looking_back None = refl
looking_back (Some i) = refl

turning : Result Turn → Answered (Option Served)
turning (refused n) = Err (refusal_in n)
turning (done idle) = Ok None
turning (done (served i mask)) = Ok (Some (record { screen = i; senders = mask }))

turning_back : (a : Answered (Option Served)) → turning (turned_of a) ≡ a
unfolding turning turned_of
turning_back (Err why) = ap Err (refusal_back why)
turning_back (Ok None) = refl
turning_back (Ok (Some s)) = refl

pub dues_distinct : (a b : Option ℕ) → due_of a ≡ due_of b → a ≡ b
dues_distinct a b h = sym (looking_back a) ∙ (ap looking h ∙ looking_back b)

pub turns_distinct : (a b : Answered (Option Served)) → turned_of a ≡ turned_of b → a ≡ b
turns_distinct a b h = sym (turning_back a) ∙ (ap turning h ∙ turning_back b)

-- ---- the rules' answers

is_done : {A : Type 0} → Result A → Bool
is_done (refused n) = false
is_done (done a) = true

pub done_refused : {P A : Type 0} {a : A} {n : ℕ} → ◌≡◌ {A = Result A} (done a) (refused n) → P
unfolding is_done
done_refused e = clash (sym (ap is_done e)) refl

is_served : Result Turn → Bool
is_served (refused n) = false
is_served (done idle) = false
is_served (done (served i mask)) = true

pub idle-served : {P : Type 0} {i mask : ℕ} → ◌≡◌ {A = Result Turn} (done idle) (done (served i mask)) → P
unfolding is_served
idle-served e = clash (ap is_served e) refl

screen_in : Result Turn → ℕ
screen_in (refused n) = 0
screen_in (done idle) = 0
screen_in (done (served i mask)) = i

mask_in : Result Turn → ℕ
mask_in (refused n) = 0
mask_in (done idle) = 0
mask_in (done (served i mask)) = mask

pub served-same : {i j m n : ℕ} → ◌≡◌ {A = Result Turn} (done (served i m)) (done (served j n)) → (i ≡ j) × (m ≡ n)
unfolding screen_in mask_in
served-same e = (ap screen_in e, ap mask_in e)

screen-told : (i : ℕ) (a : Answer) → screen_in (done (served_by i a)) ≡ i
unfolding screen_in served_by
screen-told i (refused n) = refl
screen-told i (done mask) = refl

pub served_by_same : (i j : ℕ) (a b : Answer) → ◌≡◌ {A = Result Turn} (done (served_by i a)) (done (served_by j b)) → i ≡ j
served_by_same i j a b e = sym (screen-told i a) ∙ ap screen_in e ∙ screen-told j b
