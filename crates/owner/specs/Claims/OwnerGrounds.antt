-- The grounds of the call that writes the owner file, each both ways (document 02, job 4: "20, two slaves send in one slot of a round; 21,
-- the buffer is too short; in this order after 8."; job 7: "23, a multiplexed send before the end .., checked by the owner writer after 8
-- and before 20.").
use Rattle.std.specs.Prelude.{ℕ, ◌≡◌, ◌≢◌, List, true, false}
use Rattle.file.specs.Rules.Decode.{decode}
use Rattle.file.specs.Rules.FileGrounds.{file_ground}
use Rattle.owner.specs.Rules.Plan.{two_send, multiplexed_send}
use Rattle.owner.specs.Rules.OwnerWriting.{too_short, owner_ground}

pub record GroundsInOrder : Type 0 where
  pub file : (file : List ℕ) (master : ℕ) (buffer : List ℕ) → file_ground file ≢ 0 → owner_ground file master buffer ≡ file_ground file
  pub multiplexed :
      (file : List ℕ) (master : ℕ) (buffer : List ℕ) → file_ground file ≡ 0 → multiplexed_send (decode file).slaves ≡ true →
      owner_ground file master buffer ≡ 23
  pub clash :
      (file : List ℕ) (master : ℕ) (buffer : List ℕ) → file_ground file ≡ 0 → multiplexed_send (decode file).slaves ≡ false →
      two_send (decode file).slaves ≡ true → owner_ground file master buffer ≡ 20
  pub buffer :
      (file : List ℕ) (master : ℕ) (buffer : List ℕ) → file_ground file ≡ 0 → multiplexed_send (decode file).slaves ≡ false →
      two_send (decode file).slaves ≡ false → too_short buffer master (decode file).slaves ≡ true → owner_ground file master buffer ≡ 21
  pub none :
      (file : List ℕ) (master : ℕ) (buffer : List ℕ) → file_ground file ≡ 0 → multiplexed_send (decode file).slaves ≡ false →
      two_send (decode file).slaves ≡ false → too_short buffer master (decode file).slaves ≡ false → owner_ground file master buffer ≡ 0
