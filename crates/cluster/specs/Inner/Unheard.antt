-- What the functions of a frame that nobody hears promise to one another: nothing of the buffer, and whether someone may be asleep.
use Rattle.std.specs.Prelude.{ℕ, ◌≡◌, List, Bool, true, false, eqb}
use Rattle.file.specs.Rules.Bytes.{All}
use Rattle.file.specs.Rules.Results.{Result}
use Rattle.file.specs.Rules.Cluster.{Slave, Cluster}
use Rattle.file.specs.Inner.Accepted.{Becomes}
use Rattle.cluster.specs.Rules.Round.{Answer}
use Rattle.cluster.specs.Inner.EachGround.{frame_ground}
use Rattle.cluster.specs.Inner.Exchanged.{left_by_lem}

-- whether an answer is no refusal
unfoldable pub is_done : Answer → Bool
is_done (Result.refused n) = false
is_done (Result.done mask) = true

-- where nobody may be asleep every slave is awake
abbrev pub MaySleep : Bool → Cluster → Type 0
MaySleep sleepers c = sleepers ≡ false → All (λ (s : Slave). s.asleep ≡ 0) c.slaves

-- the file that is left, and whether someone may be asleep in it
pub record Left (c : Cluster) (sleepers : Bool) (file : List ℕ) : Type 0 where
  pub becomes : Becomes file c
  pub awake : MaySleep sleepers c

-- one frame: whether it is carried out, and what it leaves
pub record LeftUnheard (c : Cluster) (frame : List ℕ) (carried sleepers : Bool) (file : List ℕ) : Type 0 where
  pub fits : carried ≡ eqb (frame_ground c frame) 0
  pub left : Left (left_by_lem c frame) sleepers file
