-- `trace::run::run_frames` meets its contract. The invariant is `Running`: the frames that are left, counted into this report on this
use Rattle.std.proofs.Common.{◌+◌, ◌*◌, ◌≡◌, length}
use Rattle.file.specs.Rules.Decode.{decode}
use Rattle.cluster.specs.Inner.Unheard.{MaySleep}
use Rattle.trace.specs.Rules.Layout.{header_size, row_size}
use Rattle.trace.specs.Inner.TraceAnswers.{report_in}
use Rattle.trace.proofs.RunLaws.{Running}
use Rattle.trace.proofs.run.run_frames.Given as goal

abbrev pub invariant-loop-index : goal.invariant-loop-index
invariant-loop-index l =
    Running l.initial.file l.trace l.places (header_size + row_size * l.count) (header_size + row_size * l.index) l.start (report_in l.progress.report) l.file
    × (length l.file ≡ length l.initial.file) × MaySleep l.progress.sleepers (decode l.file)
