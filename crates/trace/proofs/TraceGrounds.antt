-- The grounds of the call in their order, and a refused frame of a trace.
-- Assumes nothing.
use Rattle.std.proofs.Common.{ℕ, arith, ◌≡◌, sym, ap, ◌∙◌, List, replicate, eqb, eqb-true}
use borrow.Author.Tests.{eqb-false}
use Rattle.file.specs.Rules.Results.{refused, done}
use Rattle.file.proofs.Order.{by_case}
use Rattle.master_slave.specs.Rules.Bus.{slots}
use Rattle.cluster.specs.Rules.Round.{Answer, round_ground}
use Rattle.cluster.proofs.Rounds.{round-refused, round-accepted}
use Rattle.trace.specs.Rules.TraceRun.{sent, after_frames, counted, report_from}
use Rattle.trace.specs.Claims.TraceGrounds.{GroundsInOrder}
use Rattle.trace.specs.Claims.Refused.{RefusedIsCounted}
use Rattle.trace.proofs.Calls.{file_decides, layout_decides, none-holds}

pub grounds_in_order : GroundsInOrder
grounds_in_order = record { file = file_decides; layout = layout_decides; none = none-holds }

-- a frame that is refused leaves the file
refused_leaves : (file frame : List ℕ) {n : ℕ} → (sent file frame).0 ≡ refused n → (sent file frame).2 ≡ file
unfolding sent
refused_leaves file frame {n} e =
    by_case (eqb (round_ground file frame (replicate slots 0)) 0)
    (λ z.
    let same : done _ ≡ refused n = sym (ap (λ (x : Answer × List ℕ × List ℕ). x.0) (round-accepted file frame (replicate slots 0) (eqb-true _ _ z))) ∙ e in
    let bad : ◌≡◌ {A = ℕ} 0 1 = cc in
    absurd (omega arith))
    (λ z. ap (λ (x : Answer × List ℕ × List ℕ). x.2) (round-refused file frame (replicate slots 0) (eqb-false _ _ z)))

pub refused-is-counted : RefusedIsCounted
unfolding report_from after_frames counted
refused-is-counted r file frame more n e = (rw (e, refused_leaves file frame e), rw (refused_leaves file frame e))
