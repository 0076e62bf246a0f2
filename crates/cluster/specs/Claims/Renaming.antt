-- Who is renamed (document 02, job 5: "The trade now treats the logical name as changed by baptizing only."): an execute of record 1 of
-- 0x08 changes the logical names that its rule says, and no other round changes one.
use Rattle.std.specs.Prelude.{ℕ, ◌≡◌, List, [], ◌∷◌, map, cond}
use Rattle.file.specs.Rules.Bytes.{Bytes, All}
use Rattle.file.specs.Rules.Layout.{pending_flag}
use Rattle.file.specs.Rules.Cluster.{Slave, logical_name, logical_names, new_logical_name, configuration, pb2_of, execute_operation}
use Rattle.file.specs.Rules.Decode.{decode}
use Rattle.frame.specs.Rules.Fireworks.{msd}
use Rattle.master_slave.specs.Rules.Slaves.{takes_name}
use Rattle.cluster.specs.Rules.RoundGrounds.{round_by_lem}
use Rattle.cluster.specs.Rules.Round.{round_ground, round_on}
use Rattle.cluster.specs.Claims.Pending.{FrameCall, file_after, Pending}

-- an accepted MSD on a file with the execute of record 1 of 0x08 pending, at a logical name
pub record Baptizes (file frame buffer : List ℕ) (name : ℕ) : Type 0 where
  pub is_msd : round_by_lem frame ≡ msd
  pub accepted : round_ground file frame buffer ≡ 0
  pub pending : Pending (decode file) pending_flag name (pb2_of configuration execute_operation) 1

-- what a slave is then called: "those with physical name equal to IDCV take the new logical name", of the slaves addressed
unfoldable pub name_after : ℕ → Slave → ℕ
name_after name s = cond (takes_name name s) (new_logical_name s) (logical_name s)

-- the logical names in a file, in table order
abbrev pub names_of : List ℕ → List ℕ
names_of file = logical_names (decode file)

-- baptizing changes exactly these
abbrev pub BaptizingRenames : Type 0
BaptizingRenames =
    (file frame buffer : List ℕ) (name : ℕ) → Bytes file → Bytes frame → Baptizes file frame buffer name →
    names_of (round_on file frame buffer).2 ≡ map (name_after name) (decode file).slaves

-- "by baptizing only": any other round call, refused or carried out, leaves every logical name
abbrev pub OnlyBaptizingRenames : Type 0
OnlyBaptizingRenames =
    (file frame buffer : List ℕ) → Bytes file → Bytes frame → ((name : ℕ) → Baptizes file frame buffer name → ⊥) →
    names_of (round_on file frame buffer).2 ≡ names_of file

-- none of the calls baptizes, each judged on the file as it then is
pub data WithoutBaptizing : List ℕ → List FrameCall → Type 0 where
  no_calls : {file : List ℕ} → WithoutBaptizing file []
  one_more_lem : {file : List ℕ} {c : FrameCall} {cs : List FrameCall} → ((name : ℕ) → Baptizes file c.frame c.buffer name → ⊥) →
      WithoutBaptizing (round_on file c.frame c.buffer).2 cs → WithoutBaptizing file (c ∷ cs)

-- and so over every list of round calls without one
abbrev pub NobodyRenamed : Type 0
NobodyRenamed =
    (file : List ℕ) (calls : List FrameCall) → Bytes file → All (λ (c : FrameCall). Bytes c.frame) calls → WithoutBaptizing file calls →
    names_of (file_after file calls) ≡ names_of file
