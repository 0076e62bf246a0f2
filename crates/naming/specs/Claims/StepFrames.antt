-- "Each step that makes a round changes the file as that round's two frames in document 01 do, and goes on by their answer." (the
-- customer's third demand). A step that no ground refuses, of a running position, is the two frames of its next round, both accepted.
use Rattle.std.specs.Prelude.{ℕ, ◌/◌, ◌%◌, ◌^◌, ◌<◌, ◌≡◌, ◌≢◌, List, eqb}
use Rattle.file.specs.Rules.Bytes.{Bytes}
use Rattle.file.specs.Rules.Results.{done}
use Rattle.file.specs.Rules.Decode.{decode}
use Rattle.cluster.specs.Rules.Round.{Answer, round_ground, round_on}
use Rattle.cluster.specs.Rules.MasterSlave.{address_sent, data_sent}
use Rattle.naming.specs.Rules.RunRounds.{sent}
use Rattle.naming.specs.Rules.Position.{Position, running}
use Rattle.naming.specs.Rules.Pass.{bits}
use Rattle.naming.specs.Rules.Run.{next_round, advance}
use Rattle.naming.specs.Rules.Step.{ended, made, step_ground, step_on}

-- "that round's two frames": the MSA on the file and buffer handed in, the MSD on those that the MSA left
abbrev pub address_frame : List ℕ → Position → List ℕ → List ℕ
address_frame file p names = address_sent (decode file) (sent (next_round names p))

abbrev pub data_frame : Position → List ℕ → List ℕ
data_frame p names = data_sent (sent (next_round names p))

abbrev pub after_address : List ℕ → Position → List ℕ → List ℕ → Answer × List ℕ × List ℕ
after_address file p names buffer = round_on file (address_frame file p names) buffer

abbrev pub after_data : List ℕ → Position → List ℕ → List ℕ → Answer × List ℕ × List ℕ
after_data file p names buffer = round_on (after_address file p names buffer).2 (data_frame p names) (after_address file p names buffer).1

-- neither frame is refused, the step leaves buffer and file as they do, tells the mask of the MSD, and goes on by its slot 1
pub record TwoFrames (file : List ℕ) (p : Position) (names buffer : List ℕ) : Type 0 where
  pub mask : ℕ
  pub address-accepted : round_ground file (address_frame file p names) buffer ≡ 0
  pub data-accepted : (after_data file p names buffer).0 ≡ done mask
  pub step :
      step_on file p names buffer ≡
      (done (made mask), advance names p (eqb (mask / 2 ^ 1 % 2) 1), (after_data file p names buffer).1, (after_data file p names buffer).2)

abbrev pub StepsAreFrames : Type 0
StepsAreFrames =
    (file : List ℕ) (p : Position) (names buffer : List ℕ) → Bytes file → Bytes names → p.place.value < 2 ^ bits →
    step_ground file p names buffer ≡ 0 → p.end ≡ running → TwoFrames file p names buffer

-- "a step of an ended run alters nothing" (document 01): no round and no count, of a position that counts no round too (document 02, job 9: the
-- extra read is due "exactly while a running position counts no round")
abbrev pub EndedAltersNothing : Type 0
EndedAltersNothing =
    (file : List ℕ) (p : Position) (names buffer : List ℕ) → step_ground file p names buffer ≡ 0 → p.end ≢ running →
    step_on file p names buffer ≡ (done ended, p, buffer, file)
