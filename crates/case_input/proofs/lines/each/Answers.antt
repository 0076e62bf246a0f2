-- `try_for_each` calls at each line that `split` cuts.
use Rattle.std.proofs.Common.{rules, of_calls, ◌==◌, ◌≡◌, All, Ok, OnOk, subst}
use Rattle.std.proofs.lemmas.Iterator.Splits.{YieldsList-from_slice_split}
use Rattle.std.specs.Fn.{FnReturnsAt}
use Rattle.std.specs.List.{slice_split}
use Rattle.case_input.specs.Inner.Lines.{lines}
use Rattle.case_input.proofs.Handing.{said, handed}
use Rattle.case_input.proofs.lines.each.Goals as goal

pub returns : goal.returns
returns g c =
    let h = c.try_for_each.ensures.ran in
    let are : slice_split (λ b. b == 10) c.without_end.result.now ≡ lines c.args.bytes.now = search rules in
    subst (λ ls. OnOk c.try_for_each.result (All (λ line. FnReturnsAt g.F.Fn c.args.case line (Ok tt)) ls)) are
    (handed (λ line. FnReturnsAt g.F.Fn c.args.case line (Ok tt)) (λ x. x.now) _ _ _ _ h.0 h.1 h.2 _
    (YieldsList-from_slice_split _ (λ b. b == 10) c.without_end.result.now c.split.ensures.rest c.split.ensures.done c.split.ensures.closure (λ x b q k. search rules))
    h.3 h.4 h.5 (λ x k. search rules) (λ x q k. said g.F.Fn _ x _ q (search of_calls) (search of_calls) k))
