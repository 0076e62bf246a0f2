-- `screens::state::due_screen` meets its contract.
use Rattle.screens.proofs.StateLaws.{Asking}
use Rattle.screens.proofs.state.due_screen.Given as goal

abbrev pub invariant-screens : goal.invariant-screens
invariant-screens l = Asking l.state l.asked l.screen
