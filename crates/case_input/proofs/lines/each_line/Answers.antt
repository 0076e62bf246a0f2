-- The lines handed on are those of the input.
use Rattle.std.proofs.Common.{Ok, OnOk, All}
use Rattle.std.specs.Fn.{FnReturnsAt}
use Rattle.case_input.specs.Inner.Lines.{lines}
use Rattle.case_input.proofs.Reading.{of_known}
use Rattle.case_input.proofs.lines.each_line.Goals as goal

pub returns : goal.returns
returns g c =
    of_known (λ bytes. OnOk c.each.result (All (λ line. FnReturnsAt g.F.Fn c.args.case line (Ok tt)) (lines bytes))) _ 262144 _ _ c.in_ok-bytes.ensures c.deref.ensures.value c.each.ensures
