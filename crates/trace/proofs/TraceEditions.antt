-- A trace on a file and on its converted form: frame by frame the same answer, and the converted form of the file that is left.
-- Assumes nothing.
use Rattle.std.proofs.Common.{ℕ, ◌≡◌, refl, List, replicate, eqb}
use Rattle.file.specs.Rules.Bytes.{Bytes, All, all_empty, all_next}
use Rattle.file.specs.Rules.Editions.{in_edition}
use Rattle.file.proofs.Order.{by_case}
use Rattle.master_slave.specs.Rules.Bus.{slots}
use Rattle.cluster.specs.Rules.RoundGrounds.{round_by_lem}
use Rattle.cluster.specs.Claims.RoundEditions.{Convertible}
use Rattle.cluster.proofs.RoundEditions.{grounds_behind, rounds-converted}
use Rattle.trace.specs.Rules.Layout.{header_size}
use Rattle.trace.specs.Rules.Trace.{frame_count, frames_of}
use Rattle.trace.specs.Rules.TraceRun.{sent, after_frames, Report, no_frames, counted, report_from, trace_grounds, trace_ground, trace_on}
use Rattle.trace.specs.Claims.TraceEditions.{TracesConverted}
use Rattle.trace.proofs.Runs.{frames-bytes}

-- one frame
pub record SentConverted (f : List ℕ) (e : ℕ) (frame : List ℕ) : Type 0 where
  pub answer : (sent (in_edition f e) frame).0 ≡ (sent f frame).0
  pub file : (sent (in_edition f e) frame).2 ≡ in_edition (sent f frame).2 e
  pub after : Convertible (sent f frame).2 e

pub sent-converted : (f : List ℕ) (e : ℕ) (frame : List ℕ) → Convertible f e → Bytes frame → SentConverted f e frame
unfolding sent
sent-converted f e frame convertible bytes =
    let (same, after) = rounds-converted f e frame (replicate slots 0) convertible bytes in
    record { answer = rw same; file = rw same; after = after }

-- the frames of a trace, from a report on
record FramesConverted (f : List ℕ) (e : ℕ) (r : Report) (xs : List (List ℕ)) : Type 0 where
  report : report_from r (in_edition f e) xs ≡ report_from r f xs
  file : after_frames (in_edition f e) xs ≡ in_edition (after_frames f xs) e
  after : Convertible (after_frames f xs) e

frames-converted : (f : List ℕ) (e : ℕ) (r : Report) {xs : List (List ℕ)} → Convertible f e → All Bytes xs → FramesConverted f e r xs
unfolding after_frames report_from
frames-converted f e r convertible all_empty = record { report = refl; file = refl; after = convertible }
frames-converted f e r convertible (all_next {a = x} b bs) =
    let one = sent-converted f e x convertible b in
    let more = frames-converted (sent f x).2 e (counted (sent f x).0 (round_by_lem x) r) one.after bs in
    record { report = rw (one.answer, one.file) more.report; file = rw one.file more.file; after = more.after }

-- the call
ground_same : (f : List ℕ) (e : ℕ) (t : List ℕ) → Convertible f e → trace_ground (in_edition f e) t ≡ trace_ground f t
unfolding trace_ground trace_grounds
ground_same f e t convertible = grounds_behind convertible refl

pub traces_converted : TracesConverted
unfolding trace_on frames_of
traces_converted f e t convertible bytes =
    let frames = frames-converted f e no_frames convertible (frames-bytes bytes header_size (frame_count t)) in
    by_case (eqb (trace_ground f t) 0)
    (λ is. (rw (ground_same f e t convertible, is, frames.report, frames.file), rw is frames.after))
    (λ is. (rw (ground_same f e t convertible, is), rw is convertible))
