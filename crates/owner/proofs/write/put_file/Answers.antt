-- `owner::write::put_file` meets its contract: two parts copied one after the other.
-- Assumes nothing.
use Rattle.owner.proofs.Calls.{put-parts}
use Rattle.owner.proofs.write.put_file.Goals as goal

pub returns : goal.returns
returns c =
    put-parts _ _ _ _ _ c.copy-start.result c.requires c.copy-start.ensures.count c.copy-start.ensures.copied c.copy.ensures.copied
