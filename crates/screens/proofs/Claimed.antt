-- Each claim of specs/Claims, and the theorem that has it as its type.
use Rattle.screens.specs.Claims.ScreenGrounds.{PostGroundsInOrder, StateGroundsInOrder, TurnGroundsInOrder, UnknownEdition}
use Rattle.screens.specs.Claims.Turns.{PostWaits, DueIsNext, StartsAtZero, TurnsAreRounds, IdleTurns, ServedWaitsNoMore}
use Rattle.screens.specs.Claims.Turns.{StatesLaidOut, PostBytes, ServedBytes}
use Rattle.screens.specs.Claims.Turns.{TurnRenamesNobody, TurnKeepsSummary}
use Rattle.screens.specs.Claims.Fairness.{Fair, PostedIsServed, SevenAreTooFew}
use Rattle.screens.specs.Claims.ScreenEditions.{TurnsConverted}
use Rattle.screens.proofs.ScreenGrounds.{post_grounds_in_order, state_grounds_in_order, turn_grounds_in_order, turn-edition}
use Rattle.screens.proofs.Due.{due-is-next, starts-at_zero}
use Rattle.screens.proofs.Posts.{post-waits}
use Rattle.screens.proofs.Turns.{turns-are-rounds, idle-turns, served-waits_no_more}
use Rattle.screens.proofs.Names.{turn_renames_nobody, turn_keeps_summary}
use Rattle.screens.proofs.Fairness.{fair, posted-is-served}
use Rattle.screens.proofs.Eighth.{seven_are_too_few}
use Rattle.screens.proofs.ScreenEditions.{turns-converted}
use Rattle.screens.proofs.Posts.{states_laid_out, post-bytes}
use Rattle.screens.proofs.Turns.{served-bytes}

pub held-post_grounds_in_order : PostGroundsInOrder
held-post_grounds_in_order = post_grounds_in_order

pub held_state_grounds_in_order : StateGroundsInOrder
held_state_grounds_in_order = state_grounds_in_order

pub held-turn_grounds_in_order : TurnGroundsInOrder
held-turn_grounds_in_order = turn_grounds_in_order

pub held_unknown_edition : UnknownEdition
held_unknown_edition = turn-edition

pub held-post-waits : PostWaits
held-post-waits = post-waits

pub held-due-is-next : DueIsNext
held-due-is-next = due-is-next

pub held-starts-at_zero : StartsAtZero
held-starts-at_zero = starts-at_zero

pub held-turns-are-rounds : TurnsAreRounds
held-turns-are-rounds = turns-are-rounds

pub held-idle-turns : IdleTurns
held-idle-turns = idle-turns

pub held-served-waits_no_more : ServedWaitsNoMore
held-served-waits_no_more = served-waits_no_more

pub held-turn_renames_nobody : TurnRenamesNobody
held-turn_renames_nobody = turn_renames_nobody

pub held-turn_keeps_summary : TurnKeepsSummary
held-turn_keeps_summary = turn_keeps_summary

pub held_fair : Fair
held_fair = fair

pub held-posted-is-served : PostedIsServed
held-posted-is-served = posted-is-served

pub held_seven_are_too_few : SevenAreTooFew
held_seven_are_too_few = seven_are_too_few

pub held-turns-converted : TurnsConverted
held-turns-converted = turns-converted

pub held-states_laid_out : StatesLaidOut
held-states_laid_out = states_laid_out

pub held-post-bytes : PostBytes
held-post-bytes = post-bytes

pub held-served-bytes : ServedBytes
held-served-bytes = served-bytes
