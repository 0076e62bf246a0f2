-- What running a trace keeps.
use Rattle.std.specs.Prelude.{ℕ, ◌≡◌, ◌≢◌, List, length, take}
use Rattle.file.specs.Rules.Bytes.{Bytes}
use Rattle.file.specs.Rules.Results.{done}
use Rattle.file.specs.Rules.FileGrounds.{file_ground}
use Rattle.file.specs.Claims.Edition.{NoEdition}
use Rattle.frame.specs.Rules.Fireworks.{no_round}
use Rattle.cluster.specs.Rules.RoundGrounds.{round_by_lem}
use Rattle.trace.specs.Rules.Trace.{frame_count}
use Rattle.trace.specs.Rules.TraceRun.{sent, Report, sum_of, trace_on}

-- "and the sum is the header's frame count"
abbrev pub SumIsCount : Type 0
SumIsCount = (file t : List ℕ) (r : Report) → (trace_on file t).0 ≡ done r → sum_of r ≡ frame_count t

-- 10 refuses a frame without a firework, so that none is carried out and each count is that of its kind alone
abbrev pub CarriedHasRound : Type 0
CarriedHasRound = (file frame : List ℕ) (mask : ℕ) → (sent file frame).0 ≡ done mask → round_by_lem frame ≢ no_round

-- an accepted file stays accepted and keeps its length, whatever the trace
pub record FileKept (file : List ℕ) (after : List ℕ) : Type 0 where
  pub accepted : file_ground after ≡ 0
  pub length : length after ≡ length file

abbrev pub RunKeepsFile : Type 0
RunKeepsFile = (file t : List ℕ) → Bytes file → Bytes t → file_ground file ≡ 0 → FileKept file (trace_on file t).1

-- the answer to a file of unknown edition depends on the file's length and first three bytes alone
abbrev pub UnknownEdition : Type 0
UnknownEdition =
    (f g t u : List ℕ) → length f ≡ length g → take 3 f ≡ take 3 g → NoEdition f → (trace_on f t).0 ≡ (trace_on g u).0
