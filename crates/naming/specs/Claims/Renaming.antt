-- Who is renamed by a naming step (document 02, job 5: "The trade now treats the logical name as changed by baptizing only."): by its
-- execute of record 1 of 0x08 those that the rule says, by any other step nobody. And the names that a run gives are nobody's, so that
-- a file that loading accepts is accepted by it after the calls.
use Rattle.std.specs.Prelude.{ℕ, ◌^◌, ◌<◌, ◌≡◌, List, map, true}
use Rattle.file.specs.Rules.Bytes.{Bytes, All}
use Rattle.file.specs.Rules.Cluster.{unnamed}
use Rattle.file.specs.Rules.Decode.{decode}
use Rattle.file.specs.Rules.FileGrounds.{load_ground}
use Rattle.cluster.specs.Claims.Renaming.{name_after, names_of}
use Rattle.naming.specs.Rules.RunRounds.{baptize}
use Rattle.naming.specs.Rules.Position.{Position, running, fresh}
use Rattle.naming.specs.Rules.Pass.{bits}
use Rattle.naming.specs.Rules.Run.{next_round}
use Rattle.naming.specs.Rules.RunGrounds.{start_ground}
use Rattle.naming.specs.Rules.Step.{step_ground, step_on}
use Rattle.naming.specs.Rules.Account.{Call}
use Rattle.naming.specs.Claims.Demand.{start_on, permitted, after_calls, OfBytes}

-- a step that no ground refuses, of a run that has not ended, whose next round is the execute of record 1
pub record StepBaptizes (file : List ℕ) (p : Position) (names buffer : List ℕ) : Type 0 where
  pub accepted : step_ground file p names buffer ≡ 0
  pub runs : p.end ≡ running
  pub executes : next_round names p ≡ baptize

-- it changes exactly these, at 0xFF
abbrev pub BaptizingStepRenames : Type 0
BaptizingStepRenames =
    (file : List ℕ) (p : Position) (names buffer : List ℕ) → Bytes file → StepBaptizes file p names buffer →
    names_of (step_on file p names buffer).3 ≡ map (name_after unnamed) (decode file).slaves

-- "by baptizing only": any other step, of a position whose value is one of 64 bits, leaves every logical name
abbrev pub OnlyBaptizingStepsRename : Type 0
OnlyBaptizingStepsRename =
    (file : List ℕ) (p : Position) (names buffer : List ℕ) → Bytes file → Bytes names → p.place.value < 2 ^ bits →
    (StepBaptizes file p names buffer → ⊥) → names_of (step_on file p names buffer).3 ≡ names_of file

-- demand 3's calls keep 22 away: a file that loading accepts, and a fresh run
abbrev pub StaysLoadable : Type 0
StaysLoadable =
    (file : List ℕ) → Bytes file → load_ground file ≡ 0 → (names : List ℕ) → Bytes names → start_ground names ≡ 0 →
    (calls : List Call) → All OfBytes calls → permitted names (start_on file) (fresh names) calls ≡ true →
    load_ground (after_calls names (start_on file) (fresh names) calls).0.file ≡ 0
