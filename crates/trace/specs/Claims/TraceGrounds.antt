-- The grounds of the call that runs a trace, each both ways (document 02, job 2: "19, a trace whose header, offsets or length break this
-- layout, after 8.").
use Rattle.std.specs.Prelude.{ℕ, ◌≡◌, ◌≢◌, List, true, false}
use Rattle.file.specs.Rules.FileGrounds.{file_ground}
use Rattle.trace.specs.Rules.Trace.{broken_trace}
use Rattle.trace.specs.Rules.TraceRun.{trace_ground}

pub record GroundsInOrder : Type 0 where
  pub file : (file t : List ℕ) → file_ground file ≢ 0 → trace_ground file t ≡ file_ground file
  pub layout : (file t : List ℕ) → file_ground file ≡ 0 → broken_trace t ≡ true → trace_ground file t ≡ 19
  pub none : (file t : List ℕ) → file_ground file ≡ 0 → broken_trace t ≡ false → trace_ground file t ≡ 0
