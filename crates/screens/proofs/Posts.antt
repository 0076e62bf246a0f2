-- What a post does.
-- Assumes nothing.
use Rattle.std.proofs.Common.{ℕ, ◌+◌, ◌*◌, ◌<◌, ◌≡◌, refl, sym, ap, ◌∙◌, ◌≢◌, List, true, false, arith, length, get_or, set, length-set, get_or-set_same, get_or-set_other, eqb, eqb-true, eq-eqb, ne_eqb, ltb-false}
use borrow.Author.Tests.{eqb-false}
use Rattle.file.specs.Rules.Results.{Result, refused, done, result_of}
use Rattle.file.proofs.Order.{clash, by_case, first-none, either_false_left, either_false_right}
use Rattle.screens.specs.Rules.Screens.{screens, last_served, place_of, is_waiting, Read, read_of, no_screen, post_ground, posted, post_on}
use Rattle.screens.specs.Claims.Turns.{StatesLaidOut, PostBytes, PostWaits}
use Rattle.screens.proofs.Distinct.{done_refused}
use Rattle.screens.proofs.StateBytes.{same-waits, same_read, posted-byte, posted-same, posted-last}

-- what a post says that is not refused
pub record Postable (state : List ℕ) (i : ℕ) : Type 0 where
  pub few : i < screens
  pub last : last_served state < screens
  pub idle : is_waiting state i ≡ false

pub post_free : (state : List ℕ) (i : ℕ) (r : Read) → post_ground state i r ≡ 0 → Postable state i
unfolding post_ground no_screen
post_free state i r e =
    let above = first-none 26 _ _ e in
    let waits = first-none 27 _ _ above.1 in
    let no-screen = either_false_left _ _ above.0 in
    let no_last = either_false_right _ _ above.0 in
    record { few = omega (arith, ltb-false 7 i no-screen); last = omega (arith, ltb-false 7 (last_served state) no_last); idle = waits.0 }

pub post-accepted : (state : List ℕ) (i : ℕ) (r : Read) → post_ground state i r ≡ 0 → post_on state i r ≡ (done tt, posted state i r)
unfolding post_on result_of
post-accepted state i r e = rw (eq-eqb _ _ e)

pub post-turned :
    (state : List ℕ) (i : ℕ) (r : Read) → post_ground state i r ≢ 0 → post_on state i r ≡ (refused (post_ground state i r), state)
unfolding post_on result_of
post-turned state i r some = rw (ne_eqb _ _ some)

pub post-ground : (state : List ℕ) (i : ℕ) (r : Read) → (post_on state i r).0 ≡ done tt → post_ground state i r ≡ 0
post-ground state i r e =
    by_case (eqb (post_ground state i r) 0)
    (λ t. eqb-true _ _ t)
    (λ t. done_refused (sym e ∙ ap (λ (p : Result (Unit {0}) × List ℕ). p.0) (post-turned state i r (eqb-false _ _ t))))

module _ (state : List ℕ) (i : ℕ) (r : Read) (long : length state ≡ 33) (few : i < 8) where
  place : place_of i + 3 < 33
  unfolding place_of
  place = omega (arith, few)

  posted-first : get_or (posted state i r) (place_of i) 0 ≡ 1
  unfolding posted
  posted-first =
      let one : List ℕ = set state (place_of i) 1 in
      let two : List ℕ = set one (place_of i + 1) r.name in
      let three : List ℕ = set two (place_of i + 2) r.file in
      get_or-set_other three (place_of i + 3) (place_of i) r.«record» 0 (λ e. omega (arith, e))
      ∙ get_or-set_other two (place_of i + 2) (place_of i) r.file 0 (λ e. omega (arith, e))
      ∙ get_or-set_other one (place_of i + 1) (place_of i) r.name 0 (λ e. omega (arith, e))
      ∙ get_or-set_same state (place_of i) 1 0 (omega (arith, place, long))

  posted_own : (is_waiting (posted state i r) i ≡ true) × (read_of (posted state i r) i ≡ r)
  unfolding posted is_waiting read_of
  posted_own =
      let p = place in
      let one : List ℕ = set state (place_of i) 1 in
      let two : List ℕ = set one (place_of i + 1) r.name in
      let three : List ℕ = set two (place_of i + 2) r.file in
      let l₁ : length one ≡ 33 = length-set state (place_of i) 1 ∙ long in
      let l₂ : length two ≡ 33 = length-set one (place_of i + 1) r.name ∙ l₁ in
      let l₃ : length three ≡ 33 = length-set two (place_of i + 2) r.file ∙ l₂ in
      let waits : get_or (set three (place_of i + 3) r.«record») (place_of i) 0 ≡ 1 =
      get_or-set_other three (place_of i + 3) (place_of i) r.«record» 0 (λ e. omega (arith, e))
      ∙ get_or-set_other two (place_of i + 2) (place_of i) r.file 0 (λ e. omega (arith, e))
      ∙ get_or-set_other one (place_of i + 1) (place_of i) r.name 0 (λ e. omega (arith, e))
      ∙ get_or-set_same state (place_of i) 1 0 (omega (arith, p, long)) in
      let name : get_or (set three (place_of i + 3) r.«record») (place_of i + 1) 0 ≡ r.name =
      get_or-set_other three (place_of i + 3) (place_of i + 1) r.«record» 0 (λ e. omega (arith, e))
      ∙ get_or-set_other two (place_of i + 2) (place_of i + 1) r.file 0 (λ e. omega (arith, e))
      ∙ get_or-set_same one (place_of i + 1) r.name 0 (omega (arith, p, l₁)) in
      let file : get_or (set three (place_of i + 3) r.«record») (place_of i + 2) 0 ≡ r.file =
      get_or-set_other three (place_of i + 3) (place_of i + 2) r.«record» 0 (λ e. omega (arith, e))
      ∙ get_or-set_same two (place_of i + 2) r.file 0 (omega (arith, p, l₂)) in
      let record' : get_or (set three (place_of i + 3) r.«record») (place_of i + 3) 0 ≡ r.«record» =
      get_or-set_same three (place_of i + 3) r.«record» 0 (omega (arith, p, l₃)) in
      (rw waits, rw (name, file, record'))

pub states_laid_out : StatesLaidOut
unfolding last_served is_waiting read_of place_of
states_laid_out state i =
    record {
      last = refl;
      waits = ((λ w e. clash w (rw (eq-eqb (get_or state (1 + 4 * i) 0) 0 e))), λ n. rw (ne_eqb (get_or state (1 + 4 * i) 0) 0 n));
      read = refl;
    }

pub post-bytes : PostBytes
post-bytes state i r long e =
    let reason = post-ground state i r e in
    let few = (post_free state i r reason).few in
    rw (post-accepted state i r reason)
    (unfold place_of in record {
      waiting = posted-first state i r long few;
      before = λ k l. posted-byte state i r k (λ q. omega (arith, q, l)) (λ q. omega (arith, q, l)) (λ q. omega (arith, q, l)) (λ q. omega (arith, q, l));
      behind = λ k l. posted-byte state i r k (λ q. omega (arith, q, l)) (λ q. omega (arith, q, l)) (λ q. omega (arith, q, l)) (λ q. omega (arith, q, l));
    })

pub post-waits : PostWaits
post-waits state i r long e =
    let reason = post-ground state i r e in
    let free = post_free state i r reason in
    let own = posted_own state i r long free.few in
    rw (post-accepted state i r reason)
    (record {
      waits = own.0;
      read = own.1;
      others =
          λ j other.
          let same = posted-same state j i other r in
          (same-waits state (posted state i r) j same, same_read state (posted state i r) j same);
      last = posted-last state i r;
    })
