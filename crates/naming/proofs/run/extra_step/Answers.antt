-- `naming::run::extra_step` meets its contract: its round is the extra read, and only the count of rounds changes.
-- Assumes nothing.
use Prim.Native.Nat.{◌<◌}
use Rattle.std.proofs.Common.{arith}
use lib.ListN.{get_or}
use Rattle.naming.specs.Inner.StepAnswers.{stepped_of, run_after}
use Rattle.naming.proofs.RunLaws.{runs, extra-may, extra-is}
use Rattle.file.specs.Inner.Refusals.{refusal_number}
use Rattle.naming.proofs.run.extra_step.Goals as goal

pub bounds-names-0 : goal.bounds-names-0
bounds-names-0 c =
    omega (arith, (runs c.requires.1.accepted c.requires.1.runs).goes.within)

pub send-senders-requires : goal.send-senders-requires
send-senders-requires c =
    let byte : get_or c.args.names.now 0 0 < 256 = omega (arith, c.type_inv.names 0) in
    search extra-may

pub count_raised-run-requires : goal.count_raised-run-requires
count_raised-run-requires c =
    (runs c.requires.1.accepted c.requires.1.runs).goes.counts

pub returns : goal.returns
unfolding stepped_of run_after refusal_number
returns c = search extra-is
