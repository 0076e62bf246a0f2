-- The grounds of a post and of a turn, each both ways and in their order (document 02, job 12: "New numbers: 27, a screen above 7, also as
-- the one last served in a state handed in; 28, a screen already waiting; then 18 and 14 on the read posted or due; all before the
-- file's."), and a file of unknown edition.
use Rattle.std.specs.Prelude.{ℕ, ◌≤◌, ◌<◌, ◌≡◌, ◌≢◌, List, true, false, length, take}
use Rattle.file.specs.Rules.Order.{first_of}
use Rattle.file.specs.Rules.FileGrounds.{file_ground}
use Rattle.file.specs.Claims.Edition.{NoEdition}
use Rattle.master_slave.specs.Rules.Bus.{slots}
use Rattle.screens.specs.Rules.Screens.{last_served, is_waiting, Read, read_of, screen, due, post_ground}
use Rattle.screens.specs.Rules.Turn.{state_grounds, turn_ground, turn_on}

pub record PostGroundsInOrder : Type 0 where
  pub above : (state : List ℕ) (i : ℕ) (r : Read) → 7 < i → post_ground state i r ≡ 27
  pub last : (state : List ℕ) (i : ℕ) (r : Read) → 7 < last_served state → post_ground state i r ≡ 27
  pub waiting :
      (state : List ℕ) (i : ℕ) (r : Read) → i ≤ 7 → last_served state ≤ 7 → is_waiting state i ≡ true → post_ground state i r ≡ 28
  pub file :
      (state : List ℕ) (i : ℕ) (r : Read) → i ≤ 7 → last_served state ≤ 7 → is_waiting state i ≡ false → 63 < r.file →
      post_ground state i r ≡ 18
  pub broadcast :
      (state : List ℕ) (i : ℕ) (r : Read) → i ≤ 7 → last_served state ≤ 7 → is_waiting state i ≡ false → r.file ≤ 63 → r.name ≡ 0 →
      post_ground state i r ≡ 14
  pub none :
      (state : List ℕ) (i : ℕ) (r : Read) → i ≤ 7 → last_served state ≤ 7 → is_waiting state i ≡ false → r.file ≤ 63 → r.name ≢ 0 →
      post_ground state i r ≡ 0

-- the grounds of a state: 27, and 18 and 14 on the read due, which there are none of where nobody waits
pub record StateGroundsInOrder : Type 0 where
  pub last : (state : List ℕ) → 7 < last_served state → first_of (state_grounds state) ≡ 27
  pub file :
      (state : List ℕ) (i : ℕ) → last_served state ≤ 7 → due state ≡ screen i → 63 < (read_of state i).file → first_of (state_grounds state) ≡ 18
  pub broadcast :
      (state : List ℕ) (i : ℕ) → last_served state ≤ 7 → due state ≡ screen i → (read_of state i).file ≤ 63 → (read_of state i).name ≡ 0 →
      first_of (state_grounds state) ≡ 14
  pub none :
      (state : List ℕ) → last_served state ≤ 7 →
      ((i : ℕ) → due state ≡ screen i → ((read_of state i).file ≤ 63) × ((read_of state i).name ≢ 0)) →
      first_of (state_grounds state) ≡ 0

-- "all before the file's", and 9 last
pub record TurnGroundsInOrder : Type 0 where
  pub state :
      (s f buffer : List ℕ) → first_of (state_grounds s) ≢ 0 → turn_ground s f buffer ≡ first_of (state_grounds s)
  pub file : (s f buffer : List ℕ) → first_of (state_grounds s) ≡ 0 → file_ground f ≢ 0 → turn_ground s f buffer ≡ file_ground f
  pub buffer :
      (s f buffer : List ℕ) → first_of (state_grounds s) ≡ 0 → file_ground f ≡ 0 → length buffer < slots → turn_ground s f buffer ≡ 9
  pub none : (s f buffer : List ℕ) → first_of (state_grounds s) ≡ 0 → file_ground f ≡ 0 → slots ≤ length buffer → turn_ground s f buffer ≡ 0

-- on a file of unknown edition the answer depends on the state and the file's length and first three bytes alone, and where the state has no
-- ground not on the state either
pub record UnknownEdition : Type 0 where
  pub of_state :
      (s f g a b : List ℕ) → length f ≡ length g → take 3 f ≡ take 3 g → NoEdition f → (turn_on s f a).0 ≡ (turn_on s g b).0
  pub of_file :
      (s t f g a b : List ℕ) → first_of (state_grounds s) ≡ 0 → first_of (state_grounds t) ≡ 0 →
      length f ≡ length g → take 3 f ≡ take 3 g → NoEdition f → (turn_on s f a).0 ≡ (turn_on t g b).0
