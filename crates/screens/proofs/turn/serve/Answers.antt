-- `screens::turn::serve` meets its contract.
-- Assumes nothing.
use Rattle.screens.specs.Inner.ScreenAnswers.{turned_of}
use Rattle.screens.proofs.TurnLaws.{serve-few, may-serve, serve-idle, serve-done}
use Rattle.file.specs.Inner.Refusals.{refusal_number}
use Rattle.screens.proofs.turn.serve.Goals as goal

pub posted_read-read-requires : goal.posted_read-read-requires
posted_read-read-requires c = search serve-few

pub send-senders-requires : goal.send-senders-requires
send-senders-requires c = search may-serve

pub mark_served-requires : goal.mark_served-requires
mark_served-requires c = search serve-few

pub returns-in-None : goal.returns-in-None
unfolding turned_of refusal_number
returns-in-None c = search serve-idle

pub returns-in-Some : goal.returns-in-Some
unfolding turned_of refusal_number
returns-in-Some c = search serve-done
