-- "A refused frame is counted, and the run goes on." (document 02, job 2): report and file after it are those of the frames that follow,
-- from one refused frame more and the file as it was.
use Rattle.std.specs.Prelude.{ℕ, ◌≡◌, List, ◌∷◌}
use Rattle.file.specs.Rules.Results.{refused}
use Rattle.trace.specs.Rules.TraceRun.{sent, after_frames, Report, one_refused, report_from}

abbrev pub RefusedIsCounted : Type 0
RefusedIsCounted =
    (r : Report) (file frame : List ℕ) (more : List (List ℕ)) (n : ℕ) → (sent file frame).0 ≡ refused n →
    (report_from r file (frame ∷ more) ≡ report_from (one_refused r) file more) × (after_frames file (frame ∷ more) ≡ after_frames file more)
