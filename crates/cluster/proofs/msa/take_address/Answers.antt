-- `cluster::msa::take_address` meets its contract: a law for each answer.
-- Assumes nothing.
use Rattle.cluster.proofs.FrameLaws.{address_alone, address-heard}
use Rattle.std.proofs.Common.{◌≡◌, Err, rules}
use Rattle.cluster.proofs.msa.take_address.Goals as goal
use Rattle.file.specs.Inner.Refusals.{refusal_number, outcome_of}

pub returns-in_err-mask : goal.returns-in_err-mask
unfolding outcome_of refusal_number
returns-in_err-mask c =
    let e : c.from_residual.result ≡ Err c.in_err-mask.field-0.0 = search rules in
    rw e (address_alone _ _ c.pend_address.ensures _ c.in_err-mask.was)

pub returns : goal.returns
unfolding outcome_of refusal_number
returns c = search (rules, address-heard, c.in_ok-mask.was)
