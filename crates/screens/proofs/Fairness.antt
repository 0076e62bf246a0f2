-- A posted read is served within eight accepted turns: each accepted turn serves a screen no farther after the one last served than the
-- waiting one, so that the way to it becomes shorter; posts of others and refused calls leave both.
-- Assumes nothing.
use Rattle.std.proofs.Common.{ℕ, zero, suc, ◌+◌, ◌-◌, ◌≤◌, ◌<◌, ◌≡◌, refl, sym, ap, ◌∙◌, subst, List, [], ◌∷◌, true, arith, length, eqb, ltb, eqb-true, ltb-true, ltb-false}
use lib.ListN.{get_or-eq_default}
use borrow.Author.Tests.{eqb-false}
use Rattle.file.specs.Rules.Results.{Result, refused, done}
use Rattle.file.proofs.Order.{by_case, clash}
use Rattle.screens.specs.Rules.Screens.{screens, last_served, place_of, is_waiting, Read, read_of, Due, screen, due, post_ground, posted}
use Rattle.screens.specs.Rules.Screens.{post_on}
use Rattle.screens.specs.Rules.Turn.{Turn, after_serving, turn_ground, turn_on}
use Rattle.screens.specs.Claims.Turns.{away}
use Rattle.screens.specs.Claims.Fairness.{Call, post, turn, state_after, one_if_done, accepted_by, accepted_turns, Serves, ServedWithin}
use Rattle.screens.specs.Claims.Fairness.{now, later, Fair, PostedIsServed}
use Rattle.screens.proofs.StateBytes.{same-waits, same_read, serving_same, posted-same, posted-last, serving_last}
use Rattle.screens.proofs.Posts.{post_free, post-accepted, post-turned, post-ground, post-waits}
use Rattle.screens.proofs.ScreenGrounds.{turn_free, turn-refused, state_last}
use Rattle.screens.proofs.Turns.{turn-serves}
use Rattle.screens.proofs.Due.{Near, near, due_near}

-- a screen that waits with a read, and the one last served
record Waiting (state : List ℕ) (i : ℕ) (r : Read) (last : ℕ) : Type 0 where
  waits : is_waiting state i ≡ true
  read : read_of state i ≡ r
  served : last_served state ≡ last

-- a screen waits only in a state that holds its byte
long_enough : (state : List ℕ) (i : ℕ) → is_waiting state i ≡ true → 0 < length state
unfolding is_waiting
long_enough state i w =
    by_case (ltb 0 (length state))
    (λ t. ltb-true 0 (length state) t)
    (λ t.
    let short : length state ≤ place_of i = omega (arith, ltb-false 0 (length state) t) in
    clash w (rw (get_or-eq_default state 0 short)))

-- the state that a post leaves
abbrev left : Result (Unit {0}) × List ℕ → List ℕ
left p = p.1

module _ {state : List ℕ} {i : ℕ} {r : Read} {last : ℕ} (at : Waiting state i r last) where
  -- ---- another screen is served, or posts

  serving_waits : (j : ℕ) → (i ≡ j → ⊥) → Waiting (after_serving state j) i r j
  serving_waits j other =
      let same = serving_same state i j other in
      record {
        waits = same-waits state (after_serving state j) i same ∙ at.waits;
        read = same_read state (after_serving state j) i same ∙ at.read;
        served = serving_last state j (long_enough state i at.waits);
      }

  post_keeps : (j : ℕ) (q : Read) → Waiting (state_after state (post j q)) i r last
  unfolding state_after
  post_keeps j q =
      by_case (eqb (post_ground state j q) 0)
      (λ t.
      let idle = (post_free state j q (eqb-true _ _ t)).idle in
      let other : i ≡ j → ⊥ = λ e. clash at.waits (rw (← e) at idle) in
      let same = posted-same state i j other q in
      let after : (post_on state j q).1 ≡ posted state j q = ap left (post-accepted state j q (eqb-true _ _ t)) in
      subst (λ (s : List ℕ). Waiting s i r last) (sym after)
      (record {
        waits = same-waits state (posted state j q) i same ∙ at.waits;
        read = same_read state (posted state j q) i same ∙ at.read;
        served = posted-last state j q ∙ at.served;
      }))
      (λ t.
      let after : (post_on state j q).1 ≡ state = ap left (post-turned state j q (eqb-false _ _ t)) in
      subst (λ (s : List ℕ). Waiting s i r last) (sym after) at)

-- ---- a turn

module _ (state file buffer : List ℕ) {answer : Result Turn} {state' buffer' file' : List ℕ}
    (is : turn_on state file buffer ≡ (answer, state', buffer', file')) where
  pub state_left : state_after state (turn file buffer) ≡ state'
  unfolding state_after
  state_left = ap (λ (p : Result Turn × List ℕ × List ℕ × List ℕ). p.1) is

  pub counted : accepted_by state (turn file buffer) ≡ one_if_done answer
  unfolding accepted_by
  counted = ap (λ (p : Result Turn × List ℕ × List ℕ × List ℕ). one_if_done p.0) is

pub one-done : (t : Turn) → one_if_done (done t) ≡ 1
unfolding one_if_done
one-done t = refl

none-refused : (n : ℕ) → one_if_done (refused n) ≡ 0
unfolding one_if_done
none-refused n = refl

module _ (state : List ℕ) (i : ℕ) (r : Read) (file buffer : List ℕ) where
  -- it is refused, serves the screen its read, or serves another that comes before it
  data Went : Type 0 where
    kept : state_after state (turn file buffer) ≡ state → accepted_by state (turn file buffer) ≡ 0 → Went
    own : Serves state i r file buffer → Went
    other :
        {j : ℕ} → (i ≡ j → ⊥) → j < 8 → away (last_served state) j ≤ away (last_served state) i → last_served state < 8 →
        state_after state (turn file buffer) ≡ after_serving state j → accepted_by state (turn file buffer) ≡ 1 → Went

  went-by :
      {d : Due} → d ≡ due state → read_of state i ≡ r → last_served state < 8 → turn_ground state file buffer ≡ 0 →
      Near (last_served state) i d → Went
  went-by is read last none (near {j = j} b l) =
      by_case (eqb i j)
      (λ t.
      let same : due state ≡ screen i = sym is ∙ ap screen (sym (eqb-true i j t)) in
      let serves : Serves state i (read_of state i) file buffer = record { stands = refl; turn = turn-serves state file buffer none i same } in
      own (subst (λ (q : Read). Serves state i q file buffer) read serves))
      (λ t.
      let made = turn-serves state file buffer none j (sym is) in
      other (eqb-false i j t) b l last (state_left state file buffer made) (counted state file buffer made ∙ one-done _))

  went : i < 8 → is_waiting state i ≡ true → read_of state i ≡ r → Went
  went few w read =
      by_case (eqb (turn_ground state file buffer) 0)
      (λ t.
      let none = eqb-true (turn_ground state file buffer) 0 t in
      let last : last_served state < 8 = state_last state (turn_free state file buffer none).state in
      went-by refl read last none (due_near state i last few w))
      (λ t.
      let refused' = turn-refused state file buffer (eqb-false _ _ t) in
      kept (state_left state file buffer refused') (counted state file buffer refused' ∙ none-refused _))

-- ---- lists of calls

closer : (last i j : ℕ) → last < 8 → i < 8 → j < 8 → (i ≡ j → ⊥) → away last j ≤ away last i → away j i < away last i
closer last i j a b c n l = omega arith

-- one turn in front of calls of which the claim holds
one-turn :
    {state file buffer : List ℕ} {i : ℕ} {r : Read} (n turns : ℕ) (cs : List Call) → i < 8 → Waiting state i r (last_served state) →
    away (last_served state) i < n → n ≤ accepted_by state (turn file buffer) + turns → Went state i r file buffer →
    ((m last : ℕ) → Waiting (state_after state (turn file buffer)) i r last → away last i < m → m ≤ turns →
    ServedWithin i r m (state_after state (turn file buffer)) cs) →
    ServedWithin i r n state (turn file buffer ∷ cs)
one-turn {state} {file} {buffer} {i} {r} n turns cs few at l enough (kept same none) rest =
    let bound : accepted_by state (turn file buffer) + n ≤ n = omega (arith, none) in
    let still = subst (λ (s : List ℕ). Waiting s i r (last_served state)) (sym same) at in
    later bound still.waits still.read (rest n (last_served state) still l (omega (arith, none, enough)))
one-turn zero turns cs few at l enough (own serves) rest = absurd (omega (arith, l))
one-turn (suc n) turns cs few at l enough (own serves) rest = now serves
one-turn {state} {file} {buffer} {i} {r} n turns cs few at l enough (other {j = j} differs b near' last after one) rest =
    let shorter = closer (last_served state) i j last few b differs near' in
    let bound : accepted_by state (turn file buffer) + (n - 1) ≤ n = omega (arith, one, l) in
    let still = subst (λ (s : List ℕ). Waiting s i r j) (sym after) (serving_waits at j differs) in
    later bound still.waits still.read (rest (n - 1) j still (omega (arith, shorter, l)) (omega (arith, one, enough)))

fair-from :
    (calls : List Call) (state : List ℕ) (i : ℕ) (r : Read) (n last : ℕ) → i < 8 → Waiting state i r last → away last i < n →
    n ≤ accepted_turns state calls → ServedWithin i r n state calls
unfolding accepted_turns
fair-from [] state i r n last few at l enough = absurd (omega (arith, l, enough))
fair-from (post j q ∷ cs) state i r n last few at l enough =
    let none : accepted_by state (post j q) ≡ 0 = unfold accepted_by in refl in
    let bound : accepted_by state (post j q) + n ≤ n = omega (arith, none) in
    let still = post_keeps at j q in
    later bound still.waits still.read
    (fair-from cs (state_after state (post j q)) i r n last few still l (omega (arith, none, enough)))
fair-from (turn file buffer ∷ cs) state i r n last few at l enough =
    let here : Waiting state i r (last_served state) = record { waits = at.waits; read = at.read; served = refl } in
    let way : away (last_served state) i < n = rw at.served l in
    one-turn n (accepted_turns (state_after state (turn file buffer)) cs) cs few here way enough
    (went state i r file buffer few at.waits at.read)
    (λ m last' at' l' enough'. fair-from cs (state_after state (turn file buffer)) i r m last' few at' l' enough')

pub fair : Fair
fair state i few w calls enough =
    fair-from calls state i (read_of state i) screens (last_served state) few (record { waits = w; read = refl; served = refl }) (omega arith)
    enough

pub posted-is-served : PostedIsServed
posted-is-served state long i r e calls enough =
    let after = post-waits state i r long e in
    let few = (post_free state i r (post-ground state i r e)).few in
    subst (λ (q : Read). ServedWithin i q screens (post_on state i r).1 calls) after.read
    (fair (post_on state i r).1 i few after.waits calls enough)
