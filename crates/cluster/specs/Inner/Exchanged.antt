-- One frame on a cluster: its answer, its buffer and what it leaves.
use Rattle.std.specs.Prelude.{ℕ, ◌≡◌, List, cond, get_or, eqb}
use Rattle.file.specs.Rules.Results.{refused}
use Rattle.file.specs.Rules.Cluster.{Cluster}
use Rattle.file.specs.Inner.Accepted.{Becomes}
use Rattle.cluster.specs.Inner.EachGround.{frame_ground}
use Rattle.cluster.specs.Rules.Round.{frame_on, Answer}
use Rattle.cluster.specs.Inner.Effects.{carried_by, buffer_by}

-- one frame on a cluster: its answer and the cluster that it leaves, whoever hears, and a buffer of 64 bytes or more behind it
unfoldable pub answer_to : Cluster → List ℕ → Answer
answer_to c frame = cond (eqb (frame_ground c frame) 0) (carried_by (frame_on c frame)) (refused (frame_ground c frame))

unfoldable pub left_by_lem : Cluster → List ℕ → Cluster
left_by_lem c frame = cond (eqb (frame_ground c frame) 0) (frame_on c frame).after c

unfoldable pub heard_in : Cluster → List ℕ → List ℕ → List ℕ
heard_in c frame buffer = cond (eqb (frame_ground c frame) 0) (buffer_by (frame_on c frame) (get_or frame 0 0) buffer) buffer

-- one frame of any bytes on an accepted file
pub record Exchanged (c : Cluster) (frame old new : List ℕ) (answer : Answer) (file : List ℕ) : Type 0 where
  pub answers : answer ≡ answer_to c frame
  pub buffer : new ≡ heard_in c frame old
  pub becomes : Becomes file (left_by_lem c frame)

-- the same without a buffer
pub record Taken (c : Cluster) (frame : List ℕ) (answer : Answer) (file : List ℕ) : Type 0 where
  pub answers : answer ≡ answer_to c frame
  pub becomes : Becomes file (left_by_lem c frame)
