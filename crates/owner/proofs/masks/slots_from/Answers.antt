-- `owner::masks::slots_from` meets its contract.
-- Assumes nothing.
use Rattle.std.proofs.Common.{arith, pow_pos}
use Rattle.owner.proofs.MaskLaws.{one_shifted, run-from}
use Rattle.owner.proofs.masks.slots_from.Goals as goal

pub overflow_sub-result : goal.overflow_sub-result
overflow_sub-result c = omega (arith, one_shifted c.args.length (omega (arith, c.requires.1)), pow_pos c.args.length)

pub returns : goal.returns
returns c = run-from c.requires.0 c.requires.1
