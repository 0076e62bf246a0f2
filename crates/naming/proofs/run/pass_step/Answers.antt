-- `naming::run::pass_step` meets its contract: its round is the round of its two frames, and the position moves on by the answer.
-- Assumes nothing.
use Rattle.std.proofs.Common.{◌^◌, ◌<◌, arith, length, get_or}
use Rattle.naming.specs.Rules.Pass.{bits}
use Rattle.naming.specs.Inner.StepAnswers.{position_of, GoesOn}
use Rattle.naming.proofs.RunLaws.{runs, here_goes, send-may, step_is}
use Rattle.naming.proofs.run.pass_step.Goals as goal
use Rattle.naming.proofs.run.pass_step.Goals.{After-standing_at-at}

-- where the step stands, and what it has once its round is made
stands : (at : After-standing_at-at) → GoesOn (length at.args.names.now) (position_of at.standing_at-at.result.run)
stands at = here_goes _ at.requires.0 at.requires.1 at.standing_at-at.ensures.settled

value-small : (at : After-standing_at-at) → at.standing_at-at.result.run.place.value < 2 ^ bits
value-small at = omega arith

pub standing_at-at-requires : goal.standing_at-at-requires
standing_at-at-requires c = (runs c.requires.1.accepted c.requires.1.runs).goes.counts.place

pub bounds-names-index : goal.bounds-names-index
bounds-names-index c = (stands (goal.at.bounds-names-index c).After-standing_at-at).within

pub send-senders-requires : goal.send-senders-requires
send-senders-requires c =
    let at = (goal.at.send-senders-requires c).After-standing_at-at in
    let byte : get_or c.args.names.now c.standing_at-at.result.run.place.index 0 < 256 = omega (arith, c.type_inv.names c.standing_at-at.result.run.place.index) in (
      c.requires.0,
      send-may _ c.requires.0 c.requires.1 c.standing_at-at.ensures.settled byte (value-small at) c.new-name.ensures
          c.round_at-next.ensures,
      c.requires.1.long,
    )

pub advanced-run-requires : goal.advanced-run-requires
advanced-run-requires c = stands (goal.at.advanced-run-requires c).After-standing_at-at

pub returns : goal.returns
returns c =
    let at = (goal.at.returns c).After-standing_at-at in
    let byte : get_or c.args.names.now c.standing_at-at.result.run.place.index 0 < 256 = omega (arith, c.type_inv.names c.standing_at-at.result.run.place.index) in
    step_is _ c.requires.0 c.requires.1 c.standing_at-at.ensures.settled byte (value-small at) c.new-name.ensures
    c.round_at-next.ensures c.requires.2 c.send-senders.ensures c.reply_in.ensures c.advanced-run.ensures
