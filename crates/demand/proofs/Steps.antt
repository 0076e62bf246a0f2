-- A step over the C calls is two calls of ttpa_round with the frames that the writers write.
-- Assumes nothing.
use Prim.Native.Nat.{ℕ}
use mathlib.Core.Path.{◌≡◌, sym, ◌∙◌}
use mathlib.Core.List.{List}
use lib.Dec.{eqb}
use borrow.Author.Tests.{eqb-true, eqb-false}
use Rattle.file.specs.Rules.Cluster.{write_operation}
use Rattle.file.specs.Rules.Results.{number_in}
use Rattle.file.specs.Rules.Decode.{decode}
use Rattle.file.proofs.Order.{by_case}
use Rattle.frame.specs.Rules.Frames.{data_frame}
use Rattle.frame.proofs.Written.{write-fits, address-writes, data-writes}
use Rattle.cluster.specs.Rules.MasterSlave.{Sent, address_sent, data_sent}
use Rattle.cluster.specs.Inner.Sending.{MaySend}
use Rattle.naming.specs.Rules.RunRounds.{sent}
use Rattle.naming.specs.Rules.Run.{next_round}
use Rattle.naming.specs.Rules.Step.{step_ground}
use Rattle.naming.specs.Claims.StepFrames.{TwoFrames}
use Rattle.naming.proofs.StepFrames.{next-sent, steps-are-frames}
use Rattle.ttpa.specs.Rules.Calls.{lent_after, write_address_call, write_data_call, round_call, step_call, step_senders, step_words_lem, position_in}
use Rattle.demand.specs.Claims.Steps.{WrittenAddress, WrittenData, for_write, for_other, StepsAreRounds}
use Rattle.demand.proofs.DemandCalls.{step-number, round_number}

-- ---- the frames are those that the writers write

address-written : (file : List ℕ) (s : Sent) → MaySend s → WrittenAddress file s (address_sent (decode file) s)
unfolding write_address_call address_sent number_in
address-written file s may buffer room =
    rw (address-writes buffer _ s.name s.file s.operation s.«record» (write-fits buffer s.name s.file s.operation room may.operation may.broadcast may.file))

data-written_by : (s : Sent) → WrittenData s (data_sent s)
unfolding data_sent
data-written_by s =
    by_case {P = WrittenData s (data_sent s)} (eqb s.operation write_operation)
    (λ t. rw t (for_write {frame = data_frame s.content} (eqb-true _ _ t) (λ buffer room. unfold write_data_call number_in in rw (data-writes buffer s.content room))))
    (λ f. rw f (for_other (eqb-false _ _ f)))

-- ---- the step

step-ground : (file run names answer : List ℕ) (senders : ℕ) → (step_call file run names answer senders).0 ≡ 0 → step_ground file (position_in run) names answer ≡ 0
unfolding step_call
step-ground file run names answer senders e = sym (step-number file (position_in run) names answer) ∙ e

pub steps-are-rounds : StepsAreRounds
unfolding round_call step_call lent_after step_senders step_words_lem number_in
steps-are-rounds file run names answer senders b n small returned going =
    let g = step-ground file run names answer senders returned in
    let two : TwoFrames file (position_in run) names answer = steps-are-frames file (position_in run) names answer b n small g going in
    record {
      address = address_sent (decode file) (sent (next_round names (position_in run)));
      content = data_sent (sent (next_round names (position_in run)));
      written = address-written file (sent (next_round names (position_in run))) (next-sent file (position_in run) names answer n small g going);
      data-written = data-written_by (sent (next_round names (position_in run)));
      first = round_number file _ answer ∙ two.address-accepted;
      second = rw two.data-accepted;
      step = rw (two.step, two.data-accepted);
    }
