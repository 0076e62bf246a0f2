-- `file::survey::walk_body` meets its contract: a law for each way.
-- Assumes nothing.
use Rattle.file.proofs.SurveyLaws.{count-within, count_fits, table_fits, body_short, body_broken, body_walked}
use Rattle.std.proofs.Common.{rules}
use Rattle.file.proofs.survey.walk_body.Goals as goal

pub byte_at-count-requires : goal.byte_at-count-requires
byte_at-count-requires c = search (rules, count-within)

pub returns-then-file-header : goal.returns-then-file-header
returns-then-file-header c = search (rules, body_short)

pub walk_slaves-requires : goal.walk_slaves-requires
walk_slaves-requires c = (search (rules, table_fits), search (rules, count_fits))

pub returns-in_default : goal.returns-in_default
returns-in_default c = search (rules, body_broken)

pub returns : goal.returns
returns c = search (rules, body_walked)
