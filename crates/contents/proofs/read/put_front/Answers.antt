-- `contents::read::put_front` meets its contract: as many bytes as fit.
-- Assumes nothing.
use Rattle.contents.proofs.Calls.{front-end, front-put}
use Rattle.std.proofs.Common.{rules}
use Rattle.contents.proofs.read.put_front.Goals as goal

pub slice_bounds-copy-end : goal.slice_bounds-copy-end
slice_bounds-copy-end c = search (rules, front-end)

pub returns : goal.returns
returns c = search (rules, front-put)
