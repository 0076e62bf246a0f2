-- Who sleeps and who wakes (document 02, job 9), over the bytes of a file: the sleep byte is 0 of a slave that is awake and 1 of one that
-- sleeps.
use Rattle.std.specs.Prelude.{ℕ, ◌<◌, ◌≡◌, List, [], ◌∷◌, true, cond, length, get_or, eqb}
use Rattle.file.specs.Rules.Bytes.{Bytes, All}
use Rattle.file.specs.Rules.Layout.{pending_flag}
use Rattle.file.specs.Rules.Cluster.{Slave, has_record, logical_name, pb2_of, execute_operation}
use Rattle.file.specs.Rules.Decode.{decode}
use Rattle.file.specs.Rules.Changes.{with_slaves}
use Rattle.file.specs.Rules.Results.{done}
use Rattle.frame.specs.Rules.Fireworks.{multipartner, msd, msa}
use Rattle.master_slave.specs.Rules.Bus.{Senders, sender_mask, answer_bytes, answer_in, nobody}
use Rattle.master_slave.specs.Rules.Slaves.{addresses}
use Rattle.cluster.specs.Rules.RoundGrounds.{round_by_lem}
use Rattle.master_slave.specs.Rules.Effect.{Effect}
use Rattle.cluster.specs.Rules.Round.{frame_on, round_ground, round_on}
use Rattle.cluster.specs.Claims.Pending.{Pending}
use Rattle.cluster.specs.Claims.Writes.{slave_in}

-- every slave of a file is awake
abbrev pub AllAwake : List ℕ → Type 0
AllAwake file = All (λ (s : Slave). s.asleep ≡ 0) (decode file).slaves

-- an accepted MSD on a file with the execute of record 4 of 0x08 pending, at a logical name
pub record PutsToSleep (file frame buffer : List ℕ) (name : ℕ) : Type 0 where
  pub is_msd : round_by_lem frame ≡ msd
  pub accepted : round_ground file frame buffer ≡ 0
  pub pending : Pending (decode file) pending_flag name (pb2_of 0x08 execute_operation) 4

-- ---- "A sleeping slave .. is awake after the next accepted MSD or multipartner round."

-- all are awake after every accepted MSD but such a one
abbrev pub DataWakes : Type 0
DataWakes =
    (file frame buffer : List ℕ) → Bytes file → Bytes frame → round_ground file frame buffer ≡ 0 → round_by_lem frame ≡ msd →
    ((name : ℕ) → PutsToSleep file frame buffer name → ⊥) → AllAwake (round_on file frame buffer).2

-- and after every accepted multipartner round
abbrev pub MultipartnerWakes : Type 0
MultipartnerWakes =
    (file frame buffer : List ℕ) (r : ℕ) → Bytes file → Bytes frame → round_ground file frame buffer ≡ 0 → round_by_lem frame ≡ multipartner r →
    AllAwake (round_on file frame buffer).2

-- an accepted MSA wakes nobody and puts nobody to sleep (that a refused call does neither is `RefusedAltersNothing`)
abbrev pub AddressWakesNobody : Type 0
AddressWakesNobody =
    (file frame buffer : List ℕ) → Bytes file → Bytes frame → round_ground file frame buffer ≡ 0 → round_by_lem frame ≡ msa →
    (decode (round_on file frame buffer).2).slaves ≡ (decode file).slaves

-- ---- "addressed slaves that have it fall asleep after that round"

-- awake, addressed, and with record 4 of 0x08
pub record MayFallAsleep (name : ℕ) (s : Slave) : Type 0 where
  pub awake : s.asleep ≡ 0
  pub is_addressed : addresses name (logical_name s) ≡ true
  pub has : has_record s 0x08 4 ≡ true

-- who falls asleep is exactly that; everyone else is awake, who slept too; and nobody's files change
pub record Rests (name : ℕ) (before after : Slave) : Type 0 where
  pub falls : MayFallAsleep name before → after.asleep ≡ 1
  pub only : after.asleep ≡ 1 → MayFallAsleep name before
  pub wakes : (MayFallAsleep name before → ⊥) → after.asleep ≡ 0
  pub files : after.files ≡ before.files

abbrev pub SleepPutsToSleep : Type 0
SleepPutsToSleep =
    (file frame buffer : List ℕ) (name : ℕ) → Bytes file → Bytes frame → PutsToSleep file frame buffer name →
    (i : ℕ) → i < length (decode file).slaves → Rests name (slave_in file i) (slave_in (round_on file frame buffer).2 i)

-- nobody sends in that round
abbrev pub SleepSilent : Type 0
SleepSilent =
    (file frame buffer : List ℕ) (name : ℕ) → PutsToSleep file frame buffer name →
    ((round_on file frame buffer).0 ≡ done 0) × ((round_on file frame buffer).1 ≡ answer_in buffer (answer_bytes (get_or frame 0 0) nobody))

-- ---- "A sleeping slave takes no part in rounds"

-- it keeps every byte of its files, whatever the call
abbrev pub SleeperKeepsFiles : Type 0
SleeperKeepsFiles =
    (file frame buffer : List ℕ) → Bytes file → Bytes frame → (i : ℕ) → i < length (decode file).slaves → (slave_in file i).asleep ≡ 1 →
    (slave_in (round_on file frame buffer).2 i).files ≡ (slave_in file i).files

-- the slaves of a list that are awake
unfoldable pub awake_among : List Slave → List Slave
awake_among [] = []
awake_among (s ∷ ss) = let rest = awake_among ss in cond (eqb s.asleep 0) (s ∷ rest) rest

-- what the frame does to the cluster without its sleepers
unfoldable pub awake_alone : List ℕ → List ℕ → Effect
awake_alone file frame = let c = decode file in frame_on (with_slaves c (awake_among c.slaves)) frame

-- a sleeper sends nothing: mask and buffer of an accepted frame are those of that cluster
pub record AnswersFor (file frame buffer : List ℕ) (senders : Senders) : Type 0 where
  pub mask : (round_on file frame buffer).0 ≡ done (sender_mask senders)
  pub bytes : (round_on file frame buffer).1 ≡ answer_in buffer (answer_bytes (get_or frame 0 0) senders)

abbrev pub SleepersSilent : Type 0
SleepersSilent =
    (file frame buffer : List ℕ) → round_ground file frame buffer ≡ 0 → AnswersFor file frame buffer (awake_alone file frame).senders

-- of the second list, the slaves at whose places the first has one that is awake
unfoldable pub where_awake : List Slave → List Slave → List Slave
where_awake [] ts = []
where_awake (s ∷ ss) [] = []
where_awake (s ∷ ss) (t ∷ ts) = let rest = where_awake ss ts in cond (eqb s.asleep 0) (t ∷ rest) rest

-- nor does it count in any other way: who is awake before an accepted frame becomes what it becomes in that cluster
abbrev pub AwakeAsAlone : Type 0
AwakeAsAlone =
    (file frame buffer : List ℕ) → Bytes file → Bytes frame → round_ground file frame buffer ≡ 0 →
    where_awake (decode file).slaves (decode (round_on file frame buffer).2).slaves ≡ (awake_alone file frame).after.slaves
