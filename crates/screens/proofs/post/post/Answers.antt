-- `screens::post::post` meets its contract: a law for each way.
-- Assumes nothing.
use Rattle.std.proofs.Common.{◌≡◌, Err, rules}
use Rattle.file.proofs.RefusalLaws.{ground_refuses, ground_some, ground_none}
use Rattle.file.specs.Inner.Refusals.{outcome_of}
use Rattle.screens.proofs.PostLaws.{post-few, post-refused, post-done}
use Rattle.screens.proofs.post.post.Goals as goal

pub returns-in_err-post_ground : goal.returns-in_err-post_ground
unfolding outcome_of
returns-in_err-post_ground c =
    let e : c.from_residual.result ≡ Err c.in_err-post_ground.field-0.0 = search rules in
    rw (e, ← ground_refuses c.in_err-post_ground.was) (post-refused _ _ _ _ _ c.post_ground.ensures (ground_some c.in_err-post_ground.was))

pub place_of-place-requires : goal.place_of-place-requires
place_of-place-requires c = post-few c.post_ground.ensures (ground_none c.in_ok-post_ground.was)

pub returns : goal.returns
unfolding outcome_of
returns c = post-done _ _ _ _ _ c.post_ground.ensures (ground_none c.in_ok-post_ground.was) c.place_of-place.ensures.0
