-- `cluster::msa::pend_address` meets its contract: a law for each way.
-- Assumes nothing.
use Rattle.cluster.proofs.FrameLaws.{address-refused, address-legal, address-taken}
use Rattle.std.proofs.Common.{◌≡◌, Err, rules}
use Rattle.cluster.proofs.msa.pend_address.Goals as goal
use Rattle.file.specs.Inner.Refusals.{refusal_number, outcome_of}

pub become_pending-requires : goal.become_pending-requires
become_pending-requires c = search (rules, address-legal, c.in_ok-read.was)

pub returns-in_err-read : goal.returns-in_err-read
unfolding outcome_of refusal_number
returns-in_err-read c =
    let e : c.from_residual.result ≡ Err c.in_err-read.field-0.0 = search rules in
    rw e (address-refused _ _ c.requires.0 c.requires.1 c.read_address.ensures c.in_err-read.was)

pub returns : goal.returns
unfolding outcome_of refusal_number
returns c = search (rules, address-taken, c.in_ok-read.was)
