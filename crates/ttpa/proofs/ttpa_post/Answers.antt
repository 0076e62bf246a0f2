-- `ttpa::ttpa_post` meets its contract: the answer of the layer below and what is told of it.
-- Assumes nothing.
use Rattle.std.proofs.Common.{rules}
use Rattle.ttpa.proofs.CallLaws.{post-told}
use Rattle.ttpa.proofs.ttpa_post.Goals as goal

pub returns : goal.returns
returns c = search (rules, post-told)
