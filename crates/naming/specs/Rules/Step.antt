-- One step of a naming run on a file (document 01, "The naming run": it "moves one complete master-slave round a step").
use Rattle.std.specs.Prelude.{ℕ, ◌/◌, ◌%◌, ◌^◌, List, ◌∷◌, ◌++◌, Bool, false, cond, eqb}
use Rattle.file.specs.Rules.Order.{first_of}
use Rattle.file.specs.Rules.Results.{Result, refused, done}
use Rattle.file.specs.Rules.Cluster.{logical_names}
use Rattle.file.specs.Rules.Decode.{decode}
use Rattle.file.specs.Rules.FileGrounds.{file_grounds}
use Rattle.cluster.specs.Rules.RoundGrounds.{short_answer}
use Rattle.cluster.specs.Rules.Round.{Answer}
use Rattle.cluster.specs.Rules.MasterSlave.{round_sent}
use Rattle.cluster.specs.Rules.Summary.{Summary, wrong_summary, kept_for}
use Rattle.naming.specs.Rules.RunRounds.{sent}
use Rattle.naming.specs.Rules.Position.{Position, running}
use Rattle.naming.specs.Rules.Run.{next_round, advance}
use Rattle.naming.specs.Rules.RunGrounds.{run_grounds}

-- "a reply in slot 1": bit 1 of the mask
unfoldable pub is_reply : Answer → Bool
is_reply (refused n) = false
is_reply (done mask) = eqb (mask / 2 ^ 1 % 2) 1

-- a step that is not refused: that of an ended run, or one that made its round, with the mask of its data frame
pub data StepDone : Type 0 where
  ended : StepDone
  made : ℕ → StepDone

-- by the answer to its data frame. The first case never comes, of files and names of bytes and a value of 64 bits: a step that no
-- ground refuses has both its frames accepted (`Claims/StepFrames` StepsAreFrames), so a refusal of the step is by its own ground alone.
unfoldable pub made_by_lem : Answer → StepDone
made_by_lem (refused n) = made 0
made_by_lem (done mask) = made mask

-- "Checked in this order": the file's grounds, the buffer's, the names' and the position's
unfoldable pub step_ground : List ℕ → Position → List ℕ → List ℕ → ℕ
step_ground file p names buffer = first_of (file_grounds file ++ (9, short_answer buffer) ∷ run_grounds names p)

-- a step of a running position: answer, position, buffer and file
-- "It holds a position in the caller's list of names and moves one complete master-slave round a step"
unfoldable pub step_made : List ℕ → Position → List ℕ → List ℕ → Result StepDone × Position × List ℕ × List ℕ
step_made file p names buffer =
    let round = round_sent file (sent (next_round names p)) buffer in
    (done (made_by_lem round.0), advance names p (is_reply round.0), round.1, round.2)

-- one step: "A refusal returns its number and alters nothing lent"; "a step of an ended run alters nothing"
unfoldable pub step_on : List ℕ → Position → List ℕ → List ℕ → Result StepDone × Position × List ℕ × List ℕ
step_on file p names buffer =
    let reason = step_ground file p names buffer in
    let step = step_made file p names buffer in
    cond (eqb reason 0) (cond (eqb p.end running) step (done ended, p, buffer, file)) (refused reason, p, buffer, file)

-- a step given the summary (document 02, job 8: "Every round and naming step may be given the summary and keeps it true."): the file's
-- grounds, 24 "after 8", then those of the step
unfoldable pub step_keeping_ground : List ℕ → Position → List ℕ → Summary → List ℕ → ℕ
step_keeping_ground file p names summary buffer =
    first_of (file_grounds file ++ (24, wrong_summary summary (logical_names (decode file))) ∷ (9, short_answer buffer) ∷ run_grounds names p)

-- answer, position, buffer, file and summary: "A refusal returns its number and alters nothing lent"
unfoldable pub step_keeping : List ℕ → Position → List ℕ → Summary → List ℕ → Result StepDone × Position × List ℕ × List ℕ × Summary
step_keeping file p names summary buffer =
    let reason = step_keeping_ground file p names summary buffer in let r = step_on file p names buffer in
    cond (eqb reason 0) (r.0, r.1, r.2, r.3, kept_for summary (logical_names (decode r.3))) (refused reason, p, buffer, file, summary)
