-- `master_slave::duty::do_duty` meets its contract: a law for each duty.
-- Assumes nothing.
use Rattle.master_slave.proofs.DataLaws.{nothing-done, read_done, compare-done, write_done, baptize-done, sleep_done}
use Rattle.std.proofs.Common.{rules}
use Rattle.master_slave.proofs.duty.do_duty.Goals as goal

pub returns-in-Nothing : goal.returns-in-Nothing
returns-in-Nothing c = search (rules, nothing-done)

pub returns-in-Read : goal.returns-in-Read
returns-in-Read c = search (rules, read_done)

pub returns-in-Write : goal.returns-in-Write
returns-in-Write c = search (rules, write_done)

pub returns-in-Compare : goal.returns-in-Compare
returns-in-Compare c = search (rules, compare-done)

pub returns-in-Baptize : goal.returns-in-Baptize
returns-in-Baptize c = search (rules, baptize-done)

pub returns-in-Sleep : goal.returns-in-Sleep
returns-in-Sleep c = search (rules, sleep_done)
