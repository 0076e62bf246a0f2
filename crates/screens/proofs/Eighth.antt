-- Eight turns are needed: where all screens wait and screen 0 was served last, seven accepted turns serve the others.
-- Assumes nothing.
use Rattle.std.proofs.Common.{ℕ, zero, suc, ◌≤◌, ◌<◌, ◌≡◌, refl, sym, ap, ◌∙◌, subst, List, [], ◌∷◌, arith, length, replicate}
use Rattle.file.specs.Rules.Order.{first_of, both, either}
use Rattle.file.specs.Rules.Results.{Result, done, result_of}
use Rattle.file.specs.Rules.FileGrounds.{file_ground}
use Rattle.frame.specs.Rules.FrameGrounds.{broadcast_read, no_file_number}
use Rattle.master_slave.specs.Rules.Bus.{slots}
use Rattle.screens.specs.Rules.Screens.{last_served, place_of, is_waiting, Read, read_of, screen, next_screen, due_from, due, no_screen}
use Rattle.screens.specs.Rules.Screens.{read_by, read_grounds, post_ground, posted, post_on}
use Rattle.screens.specs.Rules.Turn.{Turn, after_serving, due_grounds, state_grounds, turn_ground}
use Rattle.screens.specs.Claims.Fairness.{Call, post, turn, state_after, accepted_by, accepted_turns, Serves, ServedWithin}
use Rattle.screens.specs.Claims.Fairness.{ServedAmong, here, behind, all_waiting, SevenAreTooFew}
use Rattle.screens.proofs.Distinct.{served_by_same}
use Rattle.screens.proofs.ScreenGrounds.{turn-none}
use Rattle.screens.proofs.Turns.{turn-serves}
use Rattle.screens.proofs.Fairness.{state_left, counted, one-done, posted-is-served}

-- the calls are that many accepted turns, and none of them serves screen 0
record Unserved (state : List ℕ) (calls : List Call) (turns : ℕ) : Type 0 where
  accepted : accepted_turns state calls ≡ turns
  never : (r : Read) → ServedAmong 0 r state calls → ⊥

some_calls : {i : ℕ} {r : Read} {state : List ℕ} {calls : List Call} → ServedAmong i r state calls → 0 < length calls
some_calls (here s) = omega arith
some_calls (behind s) = omega arith

no-calls : (state : List ℕ) → Unserved state [] 0
unfolding accepted_turns
no-calls state = record { accepted = refl; never = λ r s. let l = some_calls s in absurd (omega (arith, l)) }

-- all wait but screen 1, which was served last
abbrev pub seven_waiting : List ℕ
seven_waiting = 1 ∷ 1 ∷ 1 ∷ 1 ∷ 1 ∷ 0 ∷ replicate 27 1

-- it posts, and eight turns behind the post are accepted
pub record PostedThenEight (file buffer : List ℕ) : Type 0 where
  pub taken : (post_on seven_waiting 1 (read_by 1 1 1)).0 ≡ done tt
  pub accepted : accepted_turns (post_on seven_waiting 1 (read_by 1 1 1)).1 (replicate 8 (turn file buffer)) ≡ 8
  pub served : ServedWithin 1 (read_by 1 1 1) 8 (post_on seven_waiting 1 (read_by 1 1 1)).1 (replicate 8 (turn file buffer))

module _ (file buffer : List ℕ) (good : file_ground file ≡ 0) (long : slots ≤ length buffer) where
  module _ (state : List ℕ) (j : ℕ) (fits : first_of (state_grounds state) ≡ 0) (is : due state ≡ screen j) where
    free : turn_ground state file buffer ≡ 0
    free = turn-none state file buffer fits good long

    after : state_after state (turn file buffer) ≡ after_serving state j
    after = state_left state file buffer (turn-serves state file buffer free j is)

    one : accepted_by state (turn file buffer) ≡ 1
    one = counted state file buffer (turn-serves state file buffer free j is) ∙ one-done _

    one-accepted :
        (calls : List Call) {turns : ℕ} → accepted_turns (after_serving state j) calls ≡ turns →
        accepted_turns state (turn file buffer ∷ calls) ≡ suc turns
    unfolding accepted_turns
    one-accepted calls {turns} rest =
        let others : accepted_turns (state_after state (turn file buffer)) calls ≡ turns =
        ap (λ (x : List ℕ). accepted_turns x calls) after ∙ rest in
        omega (arith, one, others)

    module _ (some : 0 < j) {calls : List Call} {turns : ℕ} (rest : Unserved (after_serving state j) calls turns) where
      not_0 : (r : Read) → Serves state 0 r file buffer → ⊥
      not_0 r s =
          let told = ap (λ (p : Result Turn × List ℕ × List ℕ × List ℕ). p.0) (sym s.turn ∙ turn-serves state file buffer free j is) in
          let same : 0 ≡ j = served_by_same 0 j _ _ told in
          omega (arith, same, some)

      never_here : (r : Read) → ServedAmong 0 r state (turn file buffer ∷ calls) → ⊥
      never_here r (here s) = not_0 r s
      never_here r (behind s) = rest.never r (subst (λ (x : List ℕ). ServedAmong 0 r x calls) after s)

      one_more : Unserved state (turn file buffer ∷ calls) (suc turns)
      one_more = record { accepted = one-accepted calls rest.accepted; never = never_here }

  -- the states between the turns
  reached : ℕ → List ℕ
  reached zero = all_waiting
  reached (suc n) = after_serving (reached n) (suc n)

  seven_turns : Unserved all_waiting (replicate 7 (turn file buffer)) 7
  unfolding reached due due_from next_screen is_waiting last_served place_of after_serving state_grounds due_grounds read_grounds read_of no_screen no_file_number broadcast_read both first_of
  seven_turns =
      one_more (reached 0) 1 refl refl (omega arith) (one_more (reached 1) 2 refl refl (omega arith)
      (one_more (reached 2) 3 refl refl (omega arith) (one_more (reached 3) 4 refl refl (omega arith)
      (one_more (reached 4) 5 refl refl (omega arith) (one_more (reached 5) 6 refl refl (omega arith)
      (one_more (reached 6) 7 refl refl (omega arith) (no-calls _)))))))

  -- an eighth is accepted too, so that what the claims on fairness ask can be met
  pub eight-turns : accepted_turns all_waiting (replicate 8 (turn file buffer)) ≡ 8
  unfolding seven_turns accepted_turns
  eight-turns =
      let some : ℕ → List Call = λ n. replicate n (turn file buffer) in
      one-accepted (reached 0) 1 refl refl (some 7) (one-accepted (reached 1) 2 refl refl (some 6)
      (one-accepted (reached 2) 3 refl refl (some 5) (one-accepted (reached 3) 4 refl refl (some 4)
      (one-accepted (reached 4) 5 refl refl (some 3) (one-accepted (reached 5) 6 refl refl (some 2)
      (one-accepted (reached 6) 7 refl refl (some 1) (one-accepted (reached 7) 0 refl refl [] refl)))))))

  -- so they can with a post between the turns: the screen served first posts again, and seven more are accepted
  pub first-turn : state_after all_waiting (turn file buffer) ≡ after_serving all_waiting 1
  unfolding seven_turns
  first-turn = after (reached 0) 1 refl refl

  post-aside :
      (state : List ℕ) (i : ℕ) (r : Read) (calls : List Call) {left : List ℕ} {turns : ℕ} → (post_on state i r).1 ≡ left →
      accepted_turns left calls ≡ turns → accepted_turns state (post i r ∷ calls) ≡ turns
  unfolding accepted_turns accepted_by state_after
  post-aside state i r calls {turns = turns} is rest =
      let others : accepted_turns (post_on state i r).1 calls ≡ turns = ap (λ (x : List ℕ). accepted_turns x calls) is ∙ rest in
      omega (arith, others)

  reposted : ℕ → List ℕ
  reposted zero = 1 ∷ replicate 32 1
  reposted (suc n) = after_serving (reposted n) (suc (suc n))

  pub eight_with_post : accepted_turns all_waiting (turn file buffer ∷ post 1 (read_by 1 1 1) ∷ replicate 7 (turn file buffer)) ≡ 8
  unfolding seven_turns reposted accepted_turns post_on post_ground posted either
  eight_with_post =
      let some : ℕ → List Call = λ n. replicate n (turn file buffer) in
      one-accepted (reached 0) 1 refl refl (post 1 (read_by 1 1 1) ∷ some 7) (post-aside (reached 1) 1 (read_by 1 1 1) (some 7) refl
      (one-accepted (reposted 0) 2 refl refl (some 6) (one-accepted (reposted 1) 3 refl refl (some 5)
      (one-accepted (reposted 2) 4 refl refl (some 4) (one-accepted (reposted 3) 5 refl refl (some 3)
      (one-accepted (reposted 4) 6 refl refl (some 2) (one-accepted (reposted 5) 7 refl refl (some 1)
      (one-accepted (reposted 6) 0 refl refl [] refl))))))))

  -- what is asked of a posted read can be met
  pub posted_then_eight : PostedThenEight file buffer
  unfolding seven_turns reposted accepted_turns post_on post_ground posted either result_of
  posted_then_eight =
      let some : ℕ → List Call = λ n. replicate n (turn file buffer) in
      let accepted : accepted_turns (reposted 0) (some 8) ≡ 8 =
      one-accepted (reposted 0) 2 refl refl (some 7) (one-accepted (reposted 1) 3 refl refl (some 6)
      (one-accepted (reposted 2) 4 refl refl (some 5) (one-accepted (reposted 3) 5 refl refl (some 4)
      (one-accepted (reposted 4) 6 refl refl (some 3) (one-accepted (reposted 5) 7 refl refl (some 2)
      (one-accepted (reposted 6) 0 refl refl (some 1) (one-accepted (after_serving (reposted 6) 0) 1 refl refl [] refl))))))) in
      record {
        taken = refl;
        accepted = accepted;
        served = posted-is-served seven_waiting refl 1 (read_by 1 1 1) refl (some 8) (omega (arith, accepted));
      }

pub seven_are_too_few : SevenAreTooFew
seven_are_too_few file buffer good long =
    let seven = seven_turns file buffer good long in
    record { accepted = seven.accepted; unserved = seven.never }
