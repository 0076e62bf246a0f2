-- What the functions of a run promise to one another.
use Rattle.std.specs.Prelude.{ℕ, ◌^◌, ◌<◌, ◌≡◌, List}
use Rattle.file.specs.Inner.Accepted.{Placed}
use Rattle.cluster.specs.Rules.RoundGrounds.{round_by_lem}
use Rattle.trace.specs.Rules.Layout.{count_width}
use Rattle.trace.specs.Rules.Trace.{frames_of}
use Rattle.trace.specs.Rules.TraceRun.{sent, after_frames, Report, no_frames, sum_of, counted, report_from}

-- fewer frames than 2 bytes can count
abbrev pub FewFrames : Report → Type 0
FewFrames r = sum_of r < 256 ^ count_width

-- one frame sent and counted: the report and the file, whose slaves have the same places
pub record FrameSent (file places frame : List ℕ) (old new : Report) (file' : List ℕ) : Type 0 where
  pub report : new ≡ counted (sent file frame).0 (round_by_lem frame) old
  pub after : file' ≡ (sent file frame).2
  pub placed : Placed file' places

-- all frames of a trace sent and counted
pub record TraceSent (file t : List ℕ) (new : Report) (file' : List ℕ) : Type 0 where
  pub report : new ≡ report_from no_frames file (frames_of t)
  pub after : file' ≡ after_frames file (frames_of t)
