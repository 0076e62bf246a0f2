-- Each claim of specs/Claims, and the theorem that has it as its type.
use Rattle.trace.specs.Claims.TraceEditions.{TracesConverted}
use Rattle.trace.specs.Claims.Encoding.{AcceptedIsEncoded, EncodedIsAccepted}
use Rattle.trace.specs.Claims.TraceGrounds.{GroundsInOrder}
use Rattle.trace.specs.Claims.Refused.{RefusedIsCounted}
use Rattle.trace.specs.Claims.TraceRun.{SumIsCount, CarriedHasRound, RunKeepsFile, UnknownEdition}
use Rattle.trace.specs.Claims.Sleep.{TraceWakes, TraceStaysAwake, AddressesWakeNobody}
use Rattle.trace.proofs.Encoded.{accepted_exactly, encoded-accepted}
use Rattle.trace.proofs.TraceEditions.{traces_converted}
use Rattle.trace.proofs.TraceGrounds.{grounds_in_order, refused-is-counted}
use Rattle.trace.proofs.Calls.{sum-is-count, run_keeps_file, trace-edition}
use Rattle.trace.proofs.Runs.{carried_has-round}
use Rattle.trace.proofs.Sleep.{trace-wakes, trace_stays_awake, addresses_wake_nobody}

pub held-accepted-is-encoded : AcceptedIsEncoded
held-accepted-is-encoded = accepted_exactly

pub held-encoded-is-accepted : EncodedIsAccepted
held-encoded-is-accepted = encoded-accepted

pub held_grounds_in_order : GroundsInOrder
held_grounds_in_order = grounds_in_order

pub held-refused-is-counted : RefusedIsCounted
held-refused-is-counted = refused-is-counted

pub held-sum-is-count : SumIsCount
held-sum-is-count = sum-is-count

pub held_carried_has-round : CarriedHasRound
held_carried_has-round = carried_has-round

pub held-run_keeps_file : RunKeepsFile
held-run_keeps_file = run_keeps_file

pub held_unknown_edition : UnknownEdition
held_unknown_edition = trace-edition

pub held-trace-wakes : TraceWakes
held-trace-wakes = trace-wakes

pub held-trace_stays_awake : TraceStaysAwake
held-trace_stays_awake = trace_stays_awake

pub held-addresses_wake_nobody : AddressesWakeNobody
held-addresses_wake_nobody = addresses_wake_nobody

pub held_traces_converted : TracesConverted
held_traces_converted = traces_converted
