-- One frame more in a report: one law for each way of the code.
-- Assumes nothing.
use Rattle.std.proofs.Common.{ℕ, ◌≡◌, Bool, true, false, not, cond}
use borrow.Author.Tests.{not-true, not-false}
use Rattle.frame.specs.Rules.Fireworks.{Round}
use Rattle.frame.specs.Inner.FrameAnswers.{firework_round}
use Rattle.frame.specs.declared.firework.Firework.{Firework}
use Rattle.frame.specs.declared.firework.Firework.TheVariants as fireworks
use Rattle.trace.specs.Rules.TraceRun.{Report, one_refused, one_carried}
use Rattle.std.specs.Prelude.{Option, Some, None}

-- by the firework
module _ (w : Option Firework) (r : Report) {x : Report} where
  pub carried_none : w ≡ None → x ≡ one_refused r → x ≡ one_carried (firework_round w) r
  unfolding firework_round one_carried
  carried_none e one = rw e one

  pub carried_address : {opened : Firework} → w ≡ Some opened → opened ≡ fireworks.Address → x ≡ one_carried Round.msa r → x ≡ one_carried (firework_round w) r
  unfolding firework_round
  carried_address e k one = rw (e, k) one

  pub carried_data : {opened : Firework} → w ≡ Some opened → opened ≡ fireworks.Data → x ≡ one_carried Round.msd r → x ≡ one_carried (firework_round w) r
  unfolding firework_round
  carried_data e k one = rw (e, k) one

  pub carried_multipartner : {opened : Firework} {n : ℕ} → w ≡ Some opened → opened ≡ fireworks.Multipartner n → x ≡ one_carried (Round.multipartner n) r → x ≡ one_carried (firework_round w) r
  unfolding firework_round
  carried_multipartner e k one = rw (e, k) one

-- by whether it was carried out
pub counted-refused : (t : Bool) (one : Report) {x none : Report} → not t ≡ true → x ≡ none → x ≡ cond t one none
counted-refused t one no' is = rw (not-true t no') is

pub counted_carried : (t : Bool) (none : Report) {x one : Report} → not t ≡ false → x ≡ one → x ≡ cond t one none
counted_carried t none yes' is = rw (not-false t yes') is
