-- `join::join::join_apart` meets its contract: a law for each way.
-- Assumes nothing.
use Rattle.file.specs.Inner.Refusals.{refusal_number, outcome_of}
use Rattle.join.proofs.JoinLaws.{sum_fits, header-below, call_over, call-short, call_fits, call-written}
use Rattle.std.proofs.Common.{rules}
use Rattle.join.proofs.join.join_apart.Goals as goal

pub overflow_add-size : goal.overflow_add-size
overflow_add-size c = search (rules, sum_fits)

pub overflow_sub-size : goal.overflow_sub-size
overflow_sub-size c = search (rules, header-below)

pub returns-then-is_over : goal.returns-then-is_over
unfolding outcome_of refusal_number
returns-then-is_over c = search (rules, call_over)

pub returns-then-out-size : goal.returns-then-out-size
unfolding outcome_of refusal_number
returns-then-out-size c = search (rules, call-short)

pub write_joined-requires : goal.write_joined-requires
write_joined-requires c = (
  c.requires.0,
  c.requires.1,
  call_fits c.requires.0 c.requires.1 _ c.width_of-width.ensures c.length_in-alone.ensures c.length_in-more.ensures
      c.slave_count.ensures c.slave_count-2.ensures c.requires.2 c.is_over.ensures c.if-is_over.false c.if-out-size.false,
)

pub returns : goal.returns
unfolding outcome_of
returns c = search (rules, call-written)
