-- Who is renamed by a naming step: by its execute of record 1 those that the rule says, by any other nobody.
-- Assumes nothing.
use Rattle.std.proofs.Common.{ℕ, ◌^◌, ◌<◌, ◌≡◌, refl, sym, ap, ◌∙◌, List, [], ◌∷◌, map, eqb, length, eqb-true, le-ltb}
use lib.ListN.{length-map}
use borrow.Author.Tests.{eqb-false}
use Rattle.file.specs.Rules.Bytes.{Bytes, All, all_empty, all_next}
use Rattle.file.specs.Rules.Cluster.{Slave, configuration, logical_name, logical_names, unnamed}
use Rattle.file.specs.Rules.Decode.{decode}
use Rattle.file.specs.Rules.Legal.{LegalSlave}
use Rattle.file.proofs.Order.{by_case}
use Rattle.file.proofs.Accepted.{accepted-legal}
use Rattle.master_slave.specs.Rules.Bus.{slots}
use Rattle.cluster.specs.Rules.RoundGrounds.{short_answer}
use Rattle.cluster.specs.Claims.Renaming.{name_after, names_of}
use Rattle.master_slave.specs.Rules.Slaves.{Duty, slave_after, rests_after}
use Rattle.master_slave.specs.Rules.Slaves as Slaves
use Rattle.master_slave.proofs.Kept.{rests_bytes}
use Rattle.cluster.proofs.Replaced.{write_keeps_name}
use Rattle.cluster.proofs.Renaming.{baptized}
use Rattle.cluster.proofs.Rounds.{NoGround, none-holds}
use Rattle.naming.specs.Rules.RunRounds.{RunRound, poll, write_name, write_high, write_low, compare, baptize, sent, at_unnamed}
use Rattle.naming.specs.Rules.Position.{Position, running}
use Rattle.naming.specs.Rules.Pass.{bits}
use Rattle.naming.specs.Rules.Run.{next_round}
use Rattle.naming.specs.Rules.RunGrounds.{run_grounds}
use Rattle.cluster.specs.Rules.MasterSlave.{round_sent}
use Rattle.naming.specs.Rules.Step.{step_ground, step_on}
use Rattle.naming.specs.Claims.Renaming.{BaptizingStepRenames, OnlyBaptizingStepsRename}
use Rattle.naming.proofs.Abstract.{Sendable, of_baptize}
use Rattle.naming.proofs.SlaveRounds.{carried_out}
use Rattle.naming.proofs.StepLaws.{step-refused, step-ended, step-made}
use Rattle.naming.proofs.StepRound.{Made, round-made}
use Rattle.naming.proofs.RunLaws.{runs, next_sendable, advanced-small}

-- ---- the names after a round of the run

-- every round but the execute of record 1 leaves a slave's name, awake or asleep afterwards
rests_name : (o : Duty) (s : Slave) → logical_name (rests_after o s) ≡ logical_name s
unfolding logical_name
rests_name o s = rw (rests_bytes o s configuration)

quiet_name : (o : RunRound) → (o ≡ baptize → ⊥) → (s : Slave) → logical_name (slave_after (carried_out o) (sent o).content s) ≡ logical_name s
unfolding carried_out sent at_unnamed
quiet_name (poll n) other s = unfold slave_after in refl
quiet_name (write_name n) other s = write_keeps_name unnamed configuration 1 _ s
quiet_name (write_high h) other s = write_keeps_name unnamed configuration 2 _ s
quiet_name (write_low l) other s = write_keeps_name unnamed configuration 3 _ s
quiet_name compare other s = unfold slave_after in refl
quiet_name baptize other s = absurd (other refl)

-- what the slaves are called after a round
abbrev called : RunRound → List Slave → List ℕ
called o ss = map logical_name (map (rests_after (carried_out o)) (map (slave_after (carried_out o) (sent o).content) ss))

all_quiet : (o : RunRound) → (o ≡ baptize → ⊥) → (ss : List Slave) → called o ss ≡ map logical_name ss
all_quiet o other [] = refl
all_quiet o other (s ∷ ss) =
    rw (rests_name (carried_out o) (slave_after (carried_out o) (sent o).content s), quiet_name o other s, all_quiet o other ss)

-- that one changes those that its rule says
all_baptized : {ss : List Slave} → All LegalSlave ss → called baptize ss ≡ map (name_after unnamed) ss
unfolding carried_out sent at_unnamed
all_baptized all_empty = refl
all_baptized (all_next {a = s} l ls) =
    rw (rests_name (Slaves.baptizing unnamed) (slave_after (Slaves.baptizing unnamed) [] s), baptized unnamed [] l, all_baptized ls)

-- ---- the step's round

module _ (file : List ℕ) (p : Position) (names buffer : List ℕ) (b : Bytes file) (g : step_ground file p names buffer ≡ 0) (going : p.end ≡ running) where
  none : NoGround file buffer (run_grounds names p)
  unfolding step_ground
  none = none-holds file buffer (run_grounds names p) g

  round : Sendable (next_round names p) → Made file (next_round names p) (round_sent file (sent (next_round names p)) buffer)
  unfolding short_answer
  round s = round-made file buffer b none.accepted (le-ltb (length buffer) slots none.long) s

  after : Sendable (next_round names p) → names_of (step_on file p names buffer).3 ≡ called (next_round names p) (decode file).slaves
  unfolding logical_names
  after s = rw (step-made file p names buffer g going) (ap (map logical_name) (round s).slaves)

  sendable : Bytes names → p.place.value < 2 ^ bits → Sendable (next_round names p)
  sendable n small = next_sendable (runs none.rest going) n small

-- ---- the claims

pub baptizing-step_renames : BaptizingStepRenames
baptizing-step_renames file p names buffer b h =
    let legal = accepted-legal file b (none file p names buffer b h.accepted h.runs).accepted in
    after file p names buffer b h.accepted h.runs (rw h.executes of_baptize) ∙ rw h.executes (all_baptized legal.slaves)

pub only-baptizing-steps_rename : OnlyBaptizingStepsRename
unfolding logical_names
only-baptizing-steps_rename file p names buffer b n small other =
    by_case (eqb (step_ground file p names buffer) 0)
    (λ z.
    let g = eqb-true (step_ground file p names buffer) 0 z in
    by_case (eqb p.end running)
    (λ e.
    let going = eqb-true p.end running e in
    after file p names buffer b g going (sendable file p names buffer b g going n small)
    ∙ all_quiet (next_round names p) (λ is. other (record { accepted = g; runs = going; executes = is })) (decode file).slaves)
    (λ e. rw (step-ended file p names buffer g (eqb-false p.end running e))))
    (λ z. rw (step-refused file p names buffer (eqb-false (step_ground file p names buffer) 0 z)))

-- ---- the file that a step leaves is of bytes

pub step-bytes : (file : List ℕ) (p : Position) (names buffer : List ℕ) → Bytes file → Bytes names → p.place.value < 2 ^ bits → Bytes (step_on file p names buffer).3
step-bytes file p names buffer b n small =
    by_case (eqb (step_ground file p names buffer) 0)
    (λ z.
    let g = eqb-true (step_ground file p names buffer) 0 z in
    by_case (eqb p.end running)
    (λ e.
    let going = eqb-true p.end running e in
    rw (step-made file p names buffer g going) (round file p names buffer b g going (sendable file p names buffer b g going n small)).bytes)
    (λ e. rw (step-ended file p names buffer g (eqb-false p.end running e)) b))
    (λ z. rw (step-refused file p names buffer (eqb-false (step_ground file p names buffer) 0 z)) b)

-- and the position it leaves has a value of 64 bits
pub step_value : (file : List ℕ) (p : Position) (names buffer : List ℕ) → p.place.value < 2 ^ bits → (step_on file p names buffer).1.place.value < 2 ^ bits
step_value file p names buffer small =
    by_case (eqb (step_ground file p names buffer) 0)
    (λ z.
    let g = eqb-true (step_ground file p names buffer) 0 z in
    by_case (eqb p.end running)
    (λ e. rw (step-made file p names buffer g (eqb-true p.end running e)) (advanced-small names p _ small))
    (λ e. rw (step-ended file p names buffer g (eqb-false p.end running e)) small))
    (λ z. rw (step-refused file p names buffer (eqb-false (step_ground file p names buffer) 0 z)) small)

-- ---- as many slaves as before

called_count : (o : RunRound) (ss : List Slave) → length (called o ss) ≡ length (map logical_name ss)
called_count o ss =
    length-map (map (rests_after (carried_out o)) (map (slave_after (carried_out o) (sent o).content) ss)) logical_name
    ∙ length-map (map (slave_after (carried_out o) (sent o).content) ss) (rests_after (carried_out o))
    ∙ length-map ss (slave_after (carried_out o) (sent o).content)
    ∙ sym (length-map ss logical_name)

pub step_count :
    (file : List ℕ) (p : Position) (names buffer : List ℕ) → Bytes file → Bytes names → p.place.value < 2 ^ bits →
    length (names_of (step_on file p names buffer).3) ≡ length (names_of file)
unfolding logical_names
step_count file p names buffer b n small =
    by_case (eqb (step_ground file p names buffer) 0)
    (λ z.
    let g = eqb-true (step_ground file p names buffer) 0 z in
    by_case (eqb p.end running)
    (λ e.
    let going = eqb-true p.end running e in
    ap (λ (l : List ℕ). length l) (after file p names buffer b g going (sendable file p names buffer b g going n small))
    ∙ called_count (next_round names p) (decode file).slaves)
    (λ e. rw (step-ended file p names buffer g (eqb-false p.end running e))))
    (λ z. rw (step-refused file p names buffer (eqb-false (step_ground file p names buffer) 0 z)))
