-- `screens::state::due_screen` meets its contract.
-- Assumes nothing.
use Rattle.std.proofs.Common.{rules}
use Rattle.screens.specs.Inner.ScreenAnswers.{due_of}
use Rattle.screens.proofs.StateLaws.{asking_start, asking_few, next-few, asking_found, asking_none, asking_on}
use Rattle.screens.proofs.state.due_screen.Goals as goal

pub screens-init : goal.screens-init
screens-init c = search (rules, asking_start)

pub next_screen-screen-requires : goal.next_screen-screen-requires
next_screen-screen-requires c = search (rules, asking_few)

pub is_waiting-requires : goal.is_waiting-requires
is_waiting-requires c = search (rules, next-few)

pub returns-then-is_waiting : goal.returns-then-is_waiting
unfolding due_of
returns-then-is_waiting c = search (rules, asking_found)

pub returns : goal.returns
unfolding due_of
returns c = search (rules, asking_none)

pub screens-preserved : goal.screens-preserved
screens-preserved c = search (rules, asking_on)
