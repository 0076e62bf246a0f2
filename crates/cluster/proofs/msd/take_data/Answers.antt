-- `cluster::msd::take_data` meets its contract: a law for each way.
-- Assumes nothing.
use Rattle.cluster.proofs.FrameLaws.{data-refused, data-taken}
use Rattle.std.proofs.Common.{◌≡◌, Err, rules}
use Rattle.cluster.proofs.msd.take_data.Goals as goal
use Rattle.file.specs.Inner.Refusals.{refusal_number, outcome_of}

pub returns-in_err-bytes : goal.returns-in_err-bytes
unfolding outcome_of refusal_number
returns-in_err-bytes c =
    let e : c.from_residual.result ≡ Err c.in_err-bytes.field-0.0 = search rules in
    rw e (search (rules, data-refused, c.in_err-bytes.was))

pub returns : goal.returns
unfolding outcome_of refusal_number
returns c = search (rules, data-taken, c.in_ok-bytes.was)
