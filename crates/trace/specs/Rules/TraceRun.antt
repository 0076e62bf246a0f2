-- Running a trace on a cluster file (document 02, job 2): "Service people bring frames captured on site and want them run on a cluster
-- file."
use Rattle.std.specs.Prelude.{ℕ, ◌+◌, List, [], ◌∷◌, ◌++◌, cond, replicate, eqb}
use Rattle.file.specs.Rules.Order.{Ground, first_of}
use Rattle.file.specs.Rules.Results.{Result, refused, done}
use Rattle.file.specs.Rules.FileGrounds.{file_grounds}
use Rattle.frame.specs.Rules.Fireworks.{Round}
use Rattle.master_slave.specs.Rules.Bus.{slots}
use Rattle.cluster.specs.Rules.RoundGrounds.{round_by_lem}
use Rattle.cluster.specs.Rules.Round.{Answer, round_on}
use Rattle.trace.specs.Rules.Trace.{broken_trace, frames_of}

-- ---- the frames

-- one frame sent, as the round call answers it with a buffer of 64 bytes: answer, buffer and file
unfoldable pub sent : List ℕ → List ℕ → Answer × List ℕ × List ℕ
sent file frame = round_on file frame (replicate slots 0)

-- "A refused frame is counted, and the run goes on."; "The end state is that of the frames sent singly in order."
unfoldable pub after_frames : List ℕ → List (List ℕ) → List ℕ
after_frames file [] = file
after_frames file (x ∷ xs) = after_frames (sent file x).2 xs

-- ---- the report

-- "The report returned holds the numbers of MSA, MSD, multipartner and refused frames and their sum"
pub record Report : Type 0 where
  pub msa : ℕ
  pub msd : ℕ
  pub multipartner : ℕ
  pub refused : ℕ

abbrev pub no_frames : Report
no_frames = record { msa = 0; msd = 0; multipartner = 0; refused = 0 }

abbrev pub sum_of : Report → ℕ
sum_of r = r.msa + r.msd + r.multipartner + r.refused

-- the report in the order of its words
abbrev pub report_words : Report → List ℕ
report_words r = r.msa ∷ r.msd ∷ r.multipartner ∷ r.refused ∷ sum_of r ∷ []

-- a report with one frame more
unfoldable pub one_refused : Report → Report
one_refused r = record { msa = r.msa; msd = r.msd; multipartner = r.multipartner; refused = r.refused + 1 }

unfoldable pub one_carried : Round → Report → Report
one_carried (Round.multipartner n) r = record { msa = r.msa; msd = r.msd; multipartner = r.multipartner + 1; refused = r.refused }
one_carried Round.msd r = record { msa = r.msa; msd = r.msd + 1; multipartner = r.multipartner; refused = r.refused }
one_carried Round.msa r = record { msa = r.msa + 1; msd = r.msd; multipartner = r.multipartner; refused = r.refused }
-- 10 refuses every such frame, so that none is carried out (`Claims/TraceRun` CarriedHasRound)
one_carried Round.no_round r = one_refused r

-- "each is the count of such frames in the trace, a refused frame counting as refused only"
unfoldable pub counted : Answer → Round → Report → Report
counted (Result.refused n) round r = one_refused r
counted (Result.done mask) round r = one_carried round r

unfoldable pub report_from : Report → List ℕ → List (List ℕ) → Report
report_from r file [] = r
report_from r file (x ∷ xs) = report_from (counted (sent file x).0 (round_by_lem x) r) (sent file x).2 xs

-- ---- the call

-- "New numbers, all joining document 01's: 19, a trace whose header, offsets or length break this layout, after 8."
unfoldable pub trace_grounds : List ℕ → List ℕ → List Ground
trace_grounds file t = file_grounds file ++ (19, broken_trace t) ∷ []

unfoldable pub trace_ground : List ℕ → List ℕ → ℕ
trace_ground file t = first_of (trace_grounds file t)

-- a trace run on a file: the answer, with the report, and the file. "A refusal returns its number and alters nothing lent"
unfoldable pub trace_on : List ℕ → List ℕ → Result Report × List ℕ
trace_on file t =
    let reason = trace_ground file t in
    cond (eqb reason 0) (done (report_from no_frames file (frames_of t)), after_frames file (frames_of t)) (refused reason, file)
