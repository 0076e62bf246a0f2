-- "An accepted MSA sets the epoch to PB0 and becomes pending until the next one" (document 01, "What slaves do"), over lists of round
-- calls, one after the other on a file. A naming step that makes a round sends an MSA of its own, so it is a call with one; any other
-- step leaves the file alone.
use Rattle.std.specs.Prelude.{ℕ, ◌+◌, ◌%◌, ◌≡◌, List, [], ◌∷◌, get_or}
use Rattle.file.specs.Rules.Bytes.{Bytes, All}
use Rattle.file.specs.Rules.Layout.{pending_flag}
use Rattle.file.specs.Rules.Cluster.{Cluster}
use Rattle.file.specs.Rules.Decode.{decode}
use Rattle.frame.specs.Rules.Fireworks.{Round, multipartner, msd, msa}
use Rattle.cluster.specs.Rules.RoundGrounds.{round_by_lem}
use Rattle.cluster.specs.Rules.Round.{round_ground, round_on}

-- a round call's frame and buffer
pub record FrameCall : Type 0 where
  pub frame : List ℕ
  pub buffer : List ℕ

-- the file after the calls, each on the file as the last one left it
unfoldable pub file_after : List ℕ → List FrameCall → List ℕ
file_after file [] = file
file_after file (c ∷ cs) = file_after (round_on file c.frame c.buffer).2 cs

-- an MSA that no ground refuses
pub record AcceptedMsa (file frame buffer : List ℕ) : Type 0 where
  pub is_msa : round_by_lem frame ≡ msa
  pub accepted : round_ground file frame buffer ≡ 0

-- none of the calls is an accepted MSA, each judged on the file as it then is
pub data WithoutMsa : List ℕ → List FrameCall → Type 0 where
  no_calls : {file : List ℕ} → WithoutMsa file []
  one_more_lem : {file : List ℕ} {c : FrameCall} {cs : List FrameCall} →
      (AcceptedMsa file c.frame c.buffer → ⊥) → WithoutMsa (round_on file c.frame c.buffer).2 cs → WithoutMsa file (c ∷ cs)

-- what is pending: the flag, the logical name, PB2 and PB3
pub record Pending (c : Cluster) (flag name pb2 pb3 : ℕ) : Type 0 where
  pub is_flag : c.flag ≡ flag
  pub is_name : c.pending_name ≡ name
  pub is_pb2 : c.pending_pb2 ≡ pb2
  pub is_pb3 : c.pending_pb3 ≡ pb3

-- "An accepted MSA sets the epoch to PB0 and becomes pending"
pub record Addressed (c : Cluster) (frame : List ℕ) : Type 0 where
  pub epoch : c.epoch ≡ get_or frame 1 0
  pub pending : Pending c pending_flag (get_or frame 2 0) (get_or frame 3 0) (get_or frame 4 0)

abbrev pub MsaBecomesPending : Type 0
MsaBecomesPending =
    (file frame buffer : List ℕ) → Bytes file → Bytes frame → AcceptedMsa file frame buffer → Addressed (decode (round_on file frame buffer).2) frame

-- "until the next one": what was pending, or that nothing was, stays so over every list of calls without an accepted MSA
abbrev pub StaysPending : Type 0
StaysPending =
    (file : List ℕ) (calls : List FrameCall) → Bytes file → All (λ (c : FrameCall). Bytes c.frame) calls → WithoutMsa file calls →
    Pending (decode (file_after file calls)) (decode file).flag (decode file).pending_name (decode file).pending_pb2 (decode file).pending_pb3

-- "Any other round first adds 1 to the epoch, 255 going to 0.": after every accepted MSD, and every accepted multipartner frame, whoever sleeps
pub data RaisesEpoch : Round → Type 0 where
  by_msd : RaisesEpoch msd
  by_multipartner : {r : ℕ} → RaisesEpoch (multipartner r)

abbrev pub EpochRaised : Type 0
EpochRaised =
    (file frame buffer : List ℕ) → Bytes file → Bytes frame → round_ground file frame buffer ≡ 0 → RaisesEpoch (round_by_lem frame) →
    (decode (round_on file frame buffer).2).epoch ≡ ((decode file).epoch + 1) % 256
