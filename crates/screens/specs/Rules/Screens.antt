-- The screens' state, and posting a read (document 02, job 12: "Sharing diagnostic turns").
use Rattle.std.specs.Prelude.{ℕ, zero, suc, ◌+◌, ◌*◌, ◌%◌, List, [], ◌∷◌, Bool, cond, not, get_or, set, replicate, eqb, ltb}
use Rattle.file.specs.Rules.Order.{Ground, first_of, either}
use Rattle.file.specs.Rules.Results.{Result, result_of}
use Rattle.file.specs.Rules.Cluster.{read_operation}
use Rattle.frame.specs.Rules.FrameGrounds.{broadcast_read, no_file_number}

-- "Up to eight screens"
abbrev pub screens : ℕ
screens = 8

-- The state is 33 bytes of any content: the screen last served, then for each screen whether it waits (0 no, any other yes), and the name,
-- file and record of its read. The places are ours.
unfoldable pub last_served : List ℕ → ℕ
last_served state = get_or state 0 0

unfoldable pub place_of : ℕ → ℕ
place_of i = 1 + 4 * i

unfoldable pub is_waiting : List ℕ → ℕ → Bool
is_waiting state i = not (eqb (get_or state (place_of i) 0) 0)

-- "Each may post one read: name, file, record."
pub record Read : Type 0 where
  pub name : ℕ
  pub file : ℕ
  pub «record» : ℕ

abbrev pub read_by : ℕ → ℕ → ℕ → Read
read_by name file «record» = record { name = name; file = file; «record» = «record» }

unfoldable pub read_of : List ℕ → ℕ → Read
read_of state i = read_by (get_or state (place_of i + 1) 0) (get_or state (place_of i + 2) 0) (get_or state (place_of i + 3) 0)

-- "from screen 0 at the start": nobody waits, and the screen last served is the last
unfoldable pub fresh : List ℕ
fresh = 7 ∷ replicate 32 0

-- ---- who is due

pub data Due : Type 0 where
  nobody : Due
  screen : ℕ → Due

-- "in cyclic order"
unfoldable pub next_screen : ℕ → ℕ
next_screen i = (i + 1) % screens

-- "the next waiting screen after the one last served": among the n screens after the i-th
unfoldable pub due_from : List ℕ → ℕ → ℕ → Due
due_from state i zero = nobody
due_from state i (suc n) =
    let next = next_screen i in let rest = due_from state next n in cond (is_waiting state next) (screen next) rest

unfoldable pub due : List ℕ → Due
due state = due_from state (last_served state) screens

-- ---- posting

-- 27. "a screen above 7, also as the one last served in a state handed in"
unfoldable pub no_screen : ℕ → Bool
no_screen i = ltb 7 i

-- "then 18 and 14 on the read posted or due"
unfoldable pub read_grounds : Read → List Ground
read_grounds r = (18, no_file_number r.file) ∷ (14, broadcast_read read_operation r.name) ∷ []

-- "27, ..; 28, a screen already waiting; then 18 and 14 on the read posted"
unfoldable pub post_ground : List ℕ → ℕ → Read → ℕ
post_ground state i r =
    first_of ((27, either (no_screen i) (no_screen (last_served state))) ∷ (28, is_waiting state i) ∷ read_grounds r)

unfoldable pub posted : List ℕ → ℕ → Read → List ℕ
posted state i r =
    set (set (set (set state (place_of i) 1) (place_of i + 1) r.name) (place_of i + 2) r.file) (place_of i + 3) r.«record»

-- answer and state: "A refusal returns its number and alters nothing lent"
unfoldable pub post_on : List ℕ → ℕ → Read → Result (Unit {0}) × List ℕ
post_on state i r = let reason = post_ground state i r in (result_of reason tt, cond (eqb reason 0) (posted state i r) state)
