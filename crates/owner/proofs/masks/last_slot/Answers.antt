-- `owner::masks::last_slot` meets its contract.
-- Assumes nothing.
use Rattle.std.proofs.Common.{rules}
use Rattle.owner.proofs.MaskLaws.{last_none, last-few, last_top}
use Rattle.owner.proofs.masks.last_slot.Goals as goal

pub returns-then-mask-eq-NO_SLOTS : goal.returns-then-mask-eq-NO_SLOTS
returns-then-mask-eq-NO_SLOTS c = search (rules, last_none)

pub overflow_sub-result : goal.overflow_sub-result
overflow_sub-result c = last-few c.args.mask c.if-mask-eq-NO_SLOTS.false c.ranges.mask.fits

pub returns : goal.returns
returns c = last_top c.args.mask c.if-mask-eq-NO_SLOTS.false c.ranges.mask.fits
