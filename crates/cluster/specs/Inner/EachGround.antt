-- The grounds of a frame on a cluster one by one, for every round: `grounds_on` of `Rules` lists those that its round can have. And the
-- first of them.
use Rattle.std.specs.Prelude.{ℕ, List, Bool, true, false, cond, get_or}
use Rattle.file.specs.Rules.Order.{first_of, both}
use Rattle.file.specs.Rules.Cluster.{Cluster, operation_of}
use Rattle.frame.specs.Rules.Fireworks.{Round, multipartner, msd, msa, no_round}
use Rattle.frame.specs.Rules.Check.{address_check, data_check}
use Rattle.frame.specs.Rules.Frames.{frame_size}
use Rattle.frame.specs.Rules.FrameGrounds.{wrong_frame_length, wrong_check, no_operation, broadcast_read}
use Rattle.cluster.specs.Rules.RoundGrounds.{round_by_lem, write_pending, grounds_on}

unfoldable pub no_firework : Round → Bool
no_firework (multipartner r) = false
no_firework msd = false
no_firework msa = false
no_firework no_round = true

abbrev pub firework_size : ℕ
firework_size = 1

unfoldable pub length_for : Cluster → Round → ℕ
length_for c (multipartner r) = firework_size
length_for c msd = cond (write_pending c) frame_size firework_size
length_for c msa = frame_size
length_for c no_round = 0

unfoldable pub wrong_length_on : Cluster → Round → List ℕ → Bool
wrong_length_on c round frame = wrong_frame_length (length_for c round) frame

unfoldable pub wrong_check_on : Cluster → Round → List ℕ → Bool
wrong_check_on c (multipartner r) frame = false
wrong_check_on c msd frame = both (write_pending c) (wrong_check data_check frame)
wrong_check_on c msa frame = wrong_check address_check frame
wrong_check_on c no_round frame = false

unfoldable pub no_operation_on : Round → List ℕ → Bool
no_operation_on (multipartner r) frame = false
no_operation_on msd frame = false
no_operation_on msa frame = no_operation (operation_of (get_or frame 3 0))
no_operation_on no_round frame = false

unfoldable pub broadcast_read_on : Round → List ℕ → Bool
broadcast_read_on (multipartner r) frame = false
broadcast_read_on msd frame = false
broadcast_read_on msa frame = broadcast_read (operation_of (get_or frame 3 0)) (get_or frame 2 0)
broadcast_read_on no_round frame = false

unfoldable pub frame_ground : Cluster → List ℕ → ℕ
frame_ground c frame = first_of (grounds_on c (round_by_lem frame) frame)
