-- A trace on a file and on its converted form (document 02, job 10: "All calls take both editions, and rounds give equal answers on a file
-- and its converted form").
use Rattle.std.specs.Prelude.{ℕ, ◌≡◌, List}
use Rattle.file.specs.Rules.Bytes.{Bytes}
use Rattle.file.specs.Rules.Editions.{in_edition}
use Rattle.cluster.specs.Claims.RoundEditions.{Convertible}
use Rattle.trace.specs.Rules.TraceRun.{trace_on}

-- the answer, with its report, is the same, and the file that is left is the converted form of the one left by the trace on the file
-- itself, which there is room for again
abbrev pub TracesConverted : Type 0
TracesConverted =
    (f : List ℕ) (e : ℕ) (t : List ℕ) → Convertible f e → Bytes t →
    (trace_on (in_edition f e) t ≡ ((trace_on f t).0, in_edition (trace_on f t).1 e)) × Convertible (trace_on f t).1 e
