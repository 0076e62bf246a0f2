-- `join::slaves::turn_name` meets its contract: nothing, or a store.
-- Assumes nothing.
use borrow.Author.Tests.{not-true, not-false}
use Rattle.join.proofs.TurnLaws.{stays_at, turns_at}
use Rattle.std.proofs.Common.{rules}
use Rattle.join.proofs.slaves.turn_name.Goals as goal

pub returns-then-not-is_held : goal.returns-then-not-is_held
returns-then-not-is_held c = search (rules, not-true, stays_at)

pub returns : goal.returns
returns c = search (rules, not-false, turns_at)
