-- A turn: the read of the screen that is due, carried out on a file (document 02, job 12).
use Rattle.std.specs.Prelude.{ℕ, List, [], ◌∷◌, ◌++◌, cond, set, eqb}
use Rattle.file.specs.Rules.Order.{Ground, first_of}
use Rattle.file.specs.Rules.Results.{Result, refused, done}
use Rattle.file.specs.Rules.Cluster.{read_operation}
use Rattle.file.specs.Rules.FileGrounds.{file_grounds}
use Rattle.cluster.specs.Rules.RoundGrounds.{short_answer}
use Rattle.cluster.specs.Rules.Round.{Answer}
use Rattle.cluster.specs.Rules.MasterSlave.{Sent, round_sent}
use Rattle.screens.specs.Rules.Screens.{Read, read_of, place_of, last_served, Due, nobody, screen, due, no_screen, read_grounds}

-- "tells which", with the mask of the read's data frame; "a turn with none waiting does nothing and says so"
pub data Turn : Type 0 where
  idle : Turn
  served : ℕ → ℕ → Turn

-- by the answer to the data frame. The first case never comes, of a state and a file of bytes: a turn that no ground refuses has both its
-- frames accepted (`Claims/Turns` TurnsAreRounds), so a refusal of the turn is by its own ground alone.
unfoldable pub served_by : ℕ → Answer → Turn
served_by i (refused n) = served i 0
served_by i (done mask) = served i mask

-- "the read round, PB0 as in naming"
unfoldable pub read_sent : Read → Sent
read_sent r = record { name = r.name; file = r.file; operation = read_operation; «record» = r.«record»; content = [] }

-- a screen that is served is the one last served, and waits no more
unfoldable pub after_serving : List ℕ → ℕ → List ℕ
after_serving state i = set (set state 0 i) (place_of i) 0

-- "then 18 and 14 on the read .. due": a read that is not due is not looked at
unfoldable pub due_grounds : List ℕ → Due → List Ground
due_grounds state nobody = []
due_grounds state (screen i) = read_grounds (read_of state i)

-- 27, "also as the one last served in a state handed in", and those of the read due
unfoldable pub state_grounds : List ℕ → List Ground
state_grounds state = (27, no_screen (last_served state)) ∷ due_grounds state (due state)

-- "all before the file's"
unfoldable pub turn_ground : List ℕ → List ℕ → List ℕ → ℕ
turn_ground state file buffer = first_of (state_grounds state ++ (file_grounds file ++ (9, short_answer buffer) ∷ []))

-- answer, state, buffer and file: "Its answer and file changes are those of the read round, PB0 as in naming, sent alone on the file as it
-- then is."
unfoldable pub turn_made : Due → List ℕ → List ℕ → List ℕ → Result Turn × List ℕ × List ℕ × List ℕ
turn_made nobody state file buffer = (done idle, state, buffer, file)
turn_made (screen i) state file buffer =
    let round = round_sent file (read_sent (read_of state i)) buffer in
    (done (served_by i round.0), after_serving state i, round.1, round.2)

-- "A turn serves the next waiting screen after the one last served"; "A refusal returns its number and alters nothing lent"
unfoldable pub turn_on : List ℕ → List ℕ → List ℕ → Result Turn × List ℕ × List ℕ × List ℕ
turn_on state file buffer =
    let reason = turn_ground state file buffer in let made = turn_made (due state) state file buffer in
    cond (eqb reason 0) made (refused reason, state, buffer, file)
