-- The grounds of a post and of a turn in their order, and a turn that none of them refuses.
-- Assumes nothing.
use Rattle.std.proofs.Common.{ℕ, ◌≤◌, ◌<◌, arith, ◌≡◌, refl, sym, ap, ◌∙◌, ◌≢◌, List, [], ◌∷◌, ◌++◌, true, false, length, take, eqb, eqb-true, eq-eqb, ne_eqb, lt-ltb, le-ltb, ltb-false}
use borrow.Author.Tests.{eqb-false}
use Rattle.file.specs.Rules.Bytes.{All, All.all_empty, All.all_next as also}
use Rattle.file.specs.Rules.Order.{Ground, first_of, either}
use Rattle.file.specs.Rules.Results.{refused}
use Rattle.file.specs.Rules.FileGrounds.{file_ground, file_grounds}
use Rattle.file.specs.Claims.Edition.{NoEdition}
use Rattle.file.proofs.Order.{Numbered, by_case, first-none, either_right, joined-here, joined-next, joined-left, joined_right}
use Rattle.file.proofs.Edition.{unknown_edition, refused-edition}
use Rattle.master_slave.specs.Rules.Bus.{slots}
use Rattle.cluster.specs.Rules.RoundGrounds.{short_answer}
use Rattle.cluster.proofs.Rounds.{NoGround, none-holds, file_decides, buffer_decides, others_decide}
use Rattle.screens.specs.Rules.Screens.{last_served, is_waiting, Read, read_of, Due, nobody, screen, due, no_screen, read_grounds}
use Rattle.screens.specs.Rules.Screens.{post_ground}
use Rattle.screens.specs.Rules.Turn.{due_grounds, state_grounds, turn_ground, turn_made, turn_on}
use Rattle.screens.specs.Claims.ScreenGrounds.{PostGroundsInOrder, StateGroundsInOrder, TurnGroundsInOrder, UnknownEdition}
use Rattle.screens.proofs.PostLaws.{read-file, read-broadcast, read_fits, Readable, readable}

-- ---- a post

module _ (state : List ℕ) (i : ℕ) (r : Read) where
  post-above : 7 < i → post_ground state i r ≡ 27
  unfolding post_ground no_screen first_of either
  post-above h = rw (lt-ltb 7 i h)

  last-above : 7 < last_served state → post_ground state i r ≡ 27
  unfolding post_ground first_of
  last-above h =
      let above : no_screen (last_served state) ≡ true = unfold no_screen in lt-ltb 7 (last_served state) h in
      rw (either_right (no_screen i) above)

  module _ (few : i ≤ 7) (last : last_served state ≤ 7) where
    post-waiting : is_waiting state i ≡ true → post_ground state i r ≡ 28
    unfolding post_ground no_screen first_of either
    post-waiting w = rw (le-ltb 7 i few, le-ltb 7 (last_served state) last, w)

    pub post-idle : is_waiting state i ≡ false → post_ground state i r ≡ first_of (read_grounds r)
    unfolding post_ground no_screen first_of either
    post-idle w = rw (le-ltb 7 i few, le-ltb 7 (last_served state) last, w)

pub post_grounds_in_order : PostGroundsInOrder
post_grounds_in_order =
    record {
      above = post-above;
      last = last-above;
      waiting = post-waiting;
      file = λ state i r few last w over. post-idle state i r few last w ∙ sym (read-file r over);
      broadcast = λ state i r few last w fits all. post-idle state i r few last w ∙ sym (read-broadcast r fits all);
      none = λ state i r few last w fits named. post-idle state i r few last w ∙ sym (read_fits r fits named);
    }

-- ---- the state's

due_numbered : (state : List ℕ) (d : Due) → All Numbered (due_grounds state d)
unfolding due_grounds read_grounds
due_numbered state nobody = all_empty
due_numbered state (screen i) = also refl (also refl all_empty)

pub state_numbered : (state : List ℕ) → All Numbered (state_grounds state)
unfolding state_grounds
state_numbered state = also refl (due_numbered state (due state))

module _ (state : List ℕ) where
  pub last-refused : 7 < last_served state → first_of (state_grounds state) ≡ 27
  unfolding state_grounds no_screen first_of
  last-refused h = rw (lt-ltb 7 (last_served state) h)

  by_due : last_served state ≤ 7 → first_of (state_grounds state) ≡ first_of (due_grounds state (due state))
  unfolding state_grounds no_screen first_of
  by_due h = rw (le-ltb 7 (last_served state) h)

  pub by_nobody : last_served state ≤ 7 → due state ≡ nobody → first_of (state_grounds state) ≡ 0
  by_nobody h e = by_due h ∙ (unfold due_grounds first_of in ap (λ (d : Due). first_of (due_grounds state d)) e)

  pub by_read : (i : ℕ) → last_served state ≤ 7 → due state ≡ screen i → first_of (state_grounds state) ≡ first_of (read_grounds (read_of state i))
  by_read i h e = by_due h ∙ (unfold due_grounds in ap (λ (d : Due). first_of (due_grounds state d)) e)

  pub state_last : first_of (state_grounds state) ≡ 0 → last_served state < 8
  unfolding state_grounds no_screen
  state_last e = omega (arith, ltb-false 7 (last_served state) (first-none 26 _ _ e).0)

  -- the read due can be sent
  pub state_read : (i : ℕ) → due state ≡ screen i → first_of (state_grounds state) ≡ 0 → Readable (read_of state i)
  state_read i is e = let h = state_last e in readable (read_of state i) (sym (by_read i (omega arith) is) ∙ e)

  due-fits :
      (d : Due) → ((i : ℕ) → d ≡ screen i → ((read_of state i).file ≤ 63) × ((read_of state i).name ≢ 0)) → first_of (due_grounds state d) ≡ 0
  due-fits nobody fits = unfold due_grounds first_of in refl
  due-fits (screen i) fits = unfold due_grounds in sym (read_fits (read_of state i) (fits i refl).0 (fits i refl).1)

pub state_grounds_in_order : StateGroundsInOrder
state_grounds_in_order =
    record {
      last = last-refused;
      file = λ state i h e over. by_read state i h e ∙ sym (read-file (read_of state i) over);
      broadcast = λ state i h e fits all. by_read state i h e ∙ sym (read-broadcast (read_of state i) fits all);
      none = λ state h fits. by_due state h ∙ due-fits state (due state) fits;
    }

-- ---- a turn's

module _ (s f buffer : List ℕ) where
  lent : List Ground
  lent = file_grounds f ++ (9, short_answer buffer) ∷ []

  pub state_decides : first_of (state_grounds s) ≢ 0 → turn_ground s f buffer ≡ first_of (state_grounds s)
  unfolding turn_ground
  state_decides some = joined-here (state_grounds s) _ (state_numbered s) some

  lent_decides : first_of (state_grounds s) ≡ 0 → turn_ground s f buffer ≡ first_of lent
  unfolding turn_ground lent
  lent_decides none = joined-next (state_grounds s) _ (state_numbered s) none

  pub turn-file : first_of (state_grounds s) ≡ 0 → file_ground f ≢ 0 → turn_ground s f buffer ≡ file_ground f
  turn-file none some = lent_decides none ∙ (unfold lent in file_decides f buffer [] some)

  pub turn-buffer : first_of (state_grounds s) ≡ 0 → file_ground f ≡ 0 → length buffer < slots → turn_ground s f buffer ≡ 9
  turn-buffer none accepted short = lent_decides none ∙ (unfold lent in buffer_decides f buffer [] accepted short)

  pub turn-none : first_of (state_grounds s) ≡ 0 → file_ground f ≡ 0 → slots ≤ length buffer → turn_ground s f buffer ≡ 0
  turn-none none accepted long = lent_decides none ∙ (unfold lent first_of in others_decide f buffer [] accepted long)

  -- and what it says that none of them holds
  pub record Free : Type 0 where
    pub state : first_of (state_grounds s) ≡ 0
    pub accepted : file_ground f ≡ 0
    pub long : slots ≤ length buffer

  pub turn_free : turn_ground s f buffer ≡ 0 → Free
  unfolding turn_ground
  turn_free e =
      let none : NoGround f buffer [] = none-holds f buffer [] (joined_right (state_grounds s) _ (state_numbered s) e) in
      record { state = joined-left (state_grounds s) _ (state_numbered s) e; accepted = none.accepted; long = none.long }

  pub turn-refused : turn_ground s f buffer ≢ 0 → turn_on s f buffer ≡ (refused (turn_ground s f buffer), s, buffer, f)
  unfolding turn_on
  turn-refused some = rw (ne_eqb _ _ some)

  pub turn-made : turn_ground s f buffer ≡ 0 → turn_on s f buffer ≡ turn_made (due s) s f buffer
  unfolding turn_on
  turn-made none = rw (eq-eqb _ _ none)

pub turn_grounds_in_order : TurnGroundsInOrder
turn_grounds_in_order = record { state = state_decides; file = turn-file; buffer = turn-buffer; none = turn-none }

module _ (f g : List ℕ) (long : length f ≡ length g) (front : take 3 f ≡ take 3 g) (other : NoEdition f) where
  edition_refuses : (s t a b : List ℕ) → first_of (state_grounds s) ≡ 0 → first_of (state_grounds t) ≡ 0 → (turn_on s f a).0 ≡ (turn_on t g b).0
  edition_refuses s t a b ns nt =
      let same : file_ground f ≡ file_ground g = unknown_edition f g long front other in
      let some : file_ground f ≢ 0 = refused-edition f other in
      let by-f : turn_ground s f a ≡ file_ground f = turn-file s f a ns some in
      let by-g : turn_ground t g b ≡ file_ground f = turn-file t g b nt (λ z. some (same ∙ z)) ∙ sym same in
      rw (turn-refused s f a (λ z. some (sym by-f ∙ z)), turn-refused t g b (λ z. some (sym by-g ∙ z)), by-f, by-g)

  state_refuses : (s a b : List ℕ) → first_of (state_grounds s) ≢ 0 → (turn_on s f a).0 ≡ (turn_on s g b).0
  state_refuses s a b some =
      let by-f = state_decides s f a some in
      let by-g = state_decides s g b some in
      rw (turn-refused s f a (λ z. some (sym by-f ∙ z)), turn-refused s g b (λ z. some (sym by-g ∙ z)), by-f, by-g)

pub turn-edition : UnknownEdition
turn-edition =
    record {
      of_state =
          λ s f g a b long front other.
          by_case (eqb (first_of (state_grounds s)) 0)
          (λ t. edition_refuses f g long front other s s a b (eqb-true _ _ t) (eqb-true _ _ t))
          (λ t. state_refuses f g long front other s a b (eqb-false _ _ t));
      of_file = λ s t f g a b ns nt long front other. edition_refuses f g long front other s t a b ns nt;
    }
