-- `master_slave::master_slave::carry_data` meets its contract: what is pending, the epoch raised, and the duty done.
-- Assumes nothing.
use Rattle.master_slave.proofs.EpochLaws.{raised_placed}
use Rattle.master_slave.proofs.DataLaws.{done-placed, raised-done}
use Rattle.std.proofs.Common.{rules}
use Rattle.master_slave.proofs.master_slave.carry_data.Goals as goal

pub do_duty-mask-requires : goal.do_duty-mask-requires
do_duty-mask-requires c = search (rules, raised_placed)

pub rest_slaves-requires : goal.rest_slaves-requires
rest_slaves-requires c =
    done-placed _ _ (search (rules, raised_placed)) c.do_duty-mask.ensures

pub returns : goal.returns
returns c = search (rules, raised-done)
