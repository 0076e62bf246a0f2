-- `convert::header::put_header` meets its contract: its front, the five fields of the file, zeros.
-- Assumes nothing.
use Rattle.convert.proofs.HeaderLaws.{size-offset, count-byte, header-room, fields_room, zeros-room, header-put}
use Rattle.std.proofs.Common.{arith, rules}
use Rattle.convert.proofs.header.put_header.Goals as goal

pub put_front-requires : goal.put_front-requires
put_front-requires c = search (rules, size-offset, count-byte, header-room)

pub put_run-requires : goal.put_run-requires
put_run-requires c = (omega arith, omega arith, search (rules, fields_room))

pub put_zeros-requires : goal.put_zeros-requires
put_zeros-requires c =
    zeros-room _ c.requires.1 c.put_front.ensures c.put_run.ensures

pub returns : goal.returns
returns c =
    header-put c.requires.0 c.epoch_place-epoch.ensures c.requires.1 c.slave_count.ensures c.put_front.ensures c.put_run.ensures c.put_zeros.ensures
