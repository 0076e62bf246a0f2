-- `trace::run::run_frames` meets its contract. The invariant is `Running`: the frames that are left, counted into this report on this
-- file, give the report and the file of all frames on the first file.
-- Assumes nothing.
use Rattle.std.proofs.Common.{◌+◌, ◌*◌, ◌≡◌, ◌∙◌, arith, rules}
use Rattle.file.specs.Rules.Bytes.{part}
use Rattle.trace.specs.Rules.Layout.{header_size, row_size}
use Rattle.trace.proofs.Facts.{trace_facts}
use Rattle.trace.proofs.RunLaws.{running-start, row_within, frame-within, few-frames, running-next, running-done, anyone-may}
use Rattle.trace.proofs.run.run_frames.Goals as goal

pub u16_at-count-requires : goal.u16_at-count-requires
u16_at-count-requires c = omega (arith, (trace_facts _ c.requires.1).low)

pub loop-index-init : goal.loop-index-init
loop-index-init c = search (rules, running-start, anyone-may)

pub byte_at-requires : goal.byte_at-requires
byte_at-requires c = omega (arith, row_within c.loop-index.invariant.0 (omega (arith, c.loop-index-test.true)))

pub overflow_add-end : goal.overflow_add-end
overflow_add-end c = omega (arith, frame-within c.loop-index.invariant.0 (omega (arith, c.loop-index-test.true)) c.byte_at.ensures)

pub slice_bounds-run_frame-end : goal.slice_bounds-run_frame-end
slice_bounds-run_frame-end c =
    omega (arith, frame-within c.loop-index.invariant.0 (omega (arith, c.loop-index-test.true)) c.byte_at.ensures)

pub run_frame-progress-requires : goal.run_frame-progress-requires
run_frame-progress-requires c =
    let inv = c.loop-index.invariant in
    (inv.0.placed, few-frames inv.0 (omega (arith, c.loop-index-test.true)), inv.2)

pub loop-index-preserved : goal.loop-index-preserved
unfolding part
loop-index-preserved c =
    let inv = c.loop-index.invariant in
    let next : header_size + row_size * (c.loop-index.index + 1) ≡ header_size + row_size * c.loop-index.index + row_size = omega arith in (
      rw next (running-next inv.0 (omega (arith, c.loop-index-test.true)) c.byte_at.ensures c.run_frame-progress.ensures.0),
      c.run_frame-progress.auto.file ∙ inv.1,
      c.run_frame-progress.ensures.1,
    )

pub returns : goal.returns
returns c = running-done c.loop-index.invariant.0 (omega (arith, c.loop-index-test.false))
