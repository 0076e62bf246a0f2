-- `file::header::header_ground_at` meets its contract: a law for each way.
-- Assumes nothing.
use Rattle.file.proofs.HeaderLaws.{ground_1, ground_2, ground_3, ground_4, ground_5, header-passed, long_enough, long-mark}
use Rattle.file.specs.Rules.Results.{number_in}
use Rattle.file.specs.Inner.Refusals.{refusal_number, outcome_of}
use Rattle.std.proofs.Common.{rules}
use Rattle.file.proofs.header.header_ground_at.Goals as goal

pub returns-then-wrong_size : goal.returns-then-wrong_size
unfolding number_in outcome_of refusal_number
returns-then-wrong_size g c = search (rules, ground_1)

pub wrong_mark-requires : goal.wrong_mark-requires
wrong_mark-requires g c = search (rules, long-mark)

pub returns-then-wrong_mark : goal.returns-then-wrong_mark
unfolding number_in outcome_of refusal_number
returns-then-wrong_mark g c = search (rules, ground_2)

pub wrong_edition-requires : goal.wrong_edition-requires
wrong_edition-requires g c = search (rules, long_enough)

pub returns-then-wrong_edition : goal.returns-then-wrong_edition
unfolding number_in outcome_of refusal_number
returns-then-wrong_edition g c = search (rules, ground_3)

pub wrong_length-requires : goal.wrong_length-requires
wrong_length-requires g c = search (rules, long_enough)

pub returns-then-wrong_length : goal.returns-then-wrong_length
unfolding number_in outcome_of refusal_number
returns-then-wrong_length g c = search (rules, ground_4)

pub wrong_header-requires : goal.wrong_header-requires
wrong_header-requires g c = search (rules, long_enough)

pub returns-then-wrong_header : goal.returns-then-wrong_header
unfolding number_in outcome_of refusal_number
returns-then-wrong_header g c = search (rules, ground_5)

pub returns : goal.returns
unfolding number_in outcome_of refusal_number
returns g c = search (rules, header-passed)
