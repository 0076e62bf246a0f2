-- `naming::advance::written` meets its contract: the next step is about the same value.
-- Assumes nothing.
use Rattle.std.proofs.Common.{◌+◌, ◌≤◌, rules}
use Rattle.naming.specs.Rules.Pass.{last_step}
use Rattle.naming.specs.Inner.StepAnswers.{WritesAt}
use Rattle.naming.proofs.WritingLaws.{fits-wrote, written-within, written_next, passes_within, settles-at, written-settled}
use Rattle.naming.proofs.advance.written.Goals as goal
use Rattle.naming.proofs.advance.written.Goals.{After-go_on-next}

-- the next step, and what its round writes
within : (on : After-go_on-next) → on.go_on-next.result.place.step ≤ last_step
within c =
    written-within _ c.args.at.writes c.requires.1 c.wrote-run.ensures c.go_on-next.ensures

next : (on : After-go_on-next) → WritesAt on.go_on-next.result.place.step on.go_on-next.result.place.value (on.args.at.writing.part + 1) on.args.at.writing.value
next c =
    written_next _ c.args.at.writes c.requires.1 c.wrote-run.ensures c.go_on-next.ensures

pub go_on-next-requires : goal.go_on-next-requires
go_on-next-requires c = search (rules, fits-wrote)

pub needless_writes-needless-requires : goal.needless_writes-needless-requires
needless_writes-needless-requires c = (within (goal.at.needless_writes-needless-requires c).After-go_on-next, next (goal.at.needless_writes-needless-requires c).After-go_on-next)

pub passed_over-requires : goal.passed_over-requires
passed_over-requires c = passes_within _ (within (goal.at.passed_over-requires c).After-go_on-next) (next (goal.at.passed_over-requires c).After-go_on-next) c.needless_writes-needless.ensures

pub returns : goal.returns
returns c =
    written-settled _ c.args.at.writes c.requires.1 c.wrote-run.ensures c.go_on-next.ensures
    (settles-at _ (within (goal.at.returns c).After-go_on-next) (next (goal.at.returns c).After-go_on-next) c.needless_writes-needless.ensures c.passed_over.ensures)
