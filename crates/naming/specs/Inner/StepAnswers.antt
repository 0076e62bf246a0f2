-- The code's types in the terms of the rules. No two values of one type are taken to the same, but for a round's bytes that are not
-- sent (`cluster/specs/Inner/Sending` sent_for); of a step's answers, which carry the run, `stepped_of` and `run_after` together tell any
-- two apart.
use Rattle.std.specs.Prelude.{ℕ, ◌+◌, ◌≤◌, ◌<◌, ◌≡◌, List, Bool, true, false, length, Ok, Err, Option, Some, None}
use Rattle.file.specs.Rules.Order.{first_of}
use Rattle.file.specs.Rules.Results.{Result, refused, done}
use Rattle.file.specs.Inner.Refusals.{Answered, refusal_number}
use Rattle.master_slave.specs.Rules.Bus.{slots}
use Rattle.cluster.specs.Rules.MasterSlave.{Sent}
use Rattle.cluster.specs.Inner.Sending.{sent_for}
use Rattle.master_slave.specs.declared.types.MasterSlaveRound.{MasterSlaveRound}
use Rattle.naming.specs.Rules.Position.{Position, running}
use Rattle.naming.specs.Rules.Pass.{PassPlace, poll, ask, give_name, give_high, give_low, baptize, Part, high, low, reply, part_of, place_of, give_step, last_step}
use Rattle.naming.specs.Rules.Run.{tried, round_at, round_here, at_step, onto, wrote, move_on}
use Rattle.naming.specs.Rules.RunGrounds.{count_limit, run_grounds}
use Rattle.naming.specs.Rules.Step.{StepDone, ended, made}
use Rattle.naming.specs.declared.position.RunPosition.{RunPosition}
use Rattle.naming.specs.declared.advance.Reply.{Reply}
use Rattle.naming.specs.declared.advance.Reply.TheVariants as replies
use Rattle.naming.specs.declared.run.MadeStep.{MadeStep}

abbrev pub position_of : RunPosition → Position
position_of r =
    record {
      end = r.end;
      place = record { index = r.place.index; step = r.place.step; value = r.place.value };
      counts = record { rounds = r.counts.rounds; comparisons = r.counts.comparisons };
      halves = record { high = r.halves.high; low = r.halves.low };
    }

-- "If an answer is an enum, a definition gives this paper's number and values for each of its cases. The promises use this definition."
unfoldable pub started_of : Answered RunPosition → Result Position
started_of (Err why) = refused (refusal_number why)
started_of (Ok run) = done (position_of run)

-- a step's answer, and the run after it: a refused step and that of an ended run leave it
unfoldable pub stepped_of : Answered (Option MadeStep) → Result StepDone
stepped_of (Err why) = refused (refusal_number why)
stepped_of (Ok None) = done ended
stepped_of (Ok (Some step)) = done (made step.senders)

unfoldable pub run_after : Position → Answered (Option MadeStep) → Position
run_after p (Err why) = p
run_after p (Ok None) = p
run_after p (Ok (Some step)) = position_of step.run

unfoldable pub heard : Reply → Bool
heard replies.Heard = true
heard replies.Silence = false

-- a position whose step and counts no part of ground 17 refuses
pub record FitCounts (p : Position) : Type 0 where
  pub place : p.place.step ≤ last_step
  pub few : p.counts.rounds < count_limit
  pub fewer : p.counts.comparisons < count_limit

-- and whose index is one of a list of that length
pub record GoesOn (count : ℕ) (p : Position) : Type 0 where
  pub within : p.place.index < count
  pub counts : FitCounts p

-- a step that no ground but the file's refuses, of a running position
pub record StepGoes (names : List ℕ) (p : Position) (buffer : List ℕ) : Type 0 where
  pub long : slots ≤ length buffer
  pub accepted : first_of (run_grounds names p) ≡ 0
  pub runs : p.end ≡ running

-- the half that the round at a place writes, `reply` where it writes none, and the value that it is a half of
unfoldable pub part_at : PassPlace → Part
part_at poll = reply
part_at (ask q r) = r
part_at give_name = reply
part_at give_high = high
part_at give_low = low
part_at baptize = reply

unfoldable pub value_at : PassPlace → ℕ → ℕ
value_at poll value = value
value_at (ask q r) value = tried q value
value_at give_name value = value
value_at give_high value = value
value_at give_low value = value
value_at baptize value = value

-- one position is another once the round at its place is made, whatever its name
abbrev pub Wrote : Position → Position → Type 0
Wrote p q = (n : ℕ) → q ≡ wrote (round_at (place_of p.place.step) n p.place.value) p

-- what the round at a step writes, of a position with that value: the half by its number, and the value that it is a half of
pub record WritesAt (step value part whole : ℕ) : Type 0 where
  pub which : part_of part ≡ part_at (place_of step)
  pub few : part ≤ 2
  pub halved : whole ≡ value_at (place_of step) value

-- one position is another at the next round really made, whatever the names
abbrev pub Settled : Position → Position → Type 0
Settled p q = (names : List ℕ) → q ≡ onto names p

-- so many needless writes follow one another from its step on, the first of them that of a part
pub record NeedlessFrom (p : Position) (part n : ℕ) : Type 0 where
  pub settles : Settled p (at_step (p.place.step + n) p)
  pub halves : part + n ≤ 2

-- one position is another at the next round really made, which writes that
pub record Stands (p s : Position) (part whole : ℕ) : Type 0 where
  pub settled : Settled p s
  pub place : s.place.step ≤ last_step
  pub writes : WritesAt s.place.step s.place.value part whole

-- the execute of a comparison with a value, at a step of a position with that value so far
pub record Asks (step value compared : ℕ) : Type 0 where
  pub some : step ≡ 0 → ⊥
  pub before : step < give_step
  pub executes : part_at (place_of step) ≡ reply
  pub asked : compared ≡ value_at (place_of step) value

-- from the round at a position's step, really made, to the next one, by the answer, over a list of that many names
abbrev pub Advances : ℕ → Position → Bool → Position → Type 0
Advances count p answered q =
    (names : List ℕ) → length names ≡ count → q ≡ onto names (move_on (place_of p.place.step) count (wrote (round_here names p) p) answered)

-- the same of a round that writes a half: whatever the answer, and however many names
abbrev pub Writes : Position → Position → Type 0
Writes p q = (count : ℕ) (answered : Bool) → Advances count p answered q

-- the struct stands for that round
pub record Sends (r : MasterSlaveRound) (s : Sent) : Type 0 where
  pub parts : sent_for r ≡ s
