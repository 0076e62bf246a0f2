-- `file::survey::slaves_ground` meets its contract: a law for each way.
-- Assumes nothing.
use Rattle.std.proofs.Common.{arith}
use lib.ListN.{length-take}
use Rattle.file.proofs.SurveyLaws.{whole-count-within, whole-count-fits, lacks_file, names_stand, names_equal, slaves_good}
use Rattle.file.specs.Rules.Results.{number_in}
use Rattle.file.specs.Inner.Refusals.{refusal_number, outcome_of}
use Rattle.std.proofs.Common.{rules}
use Rattle.file.proofs.survey.slaves_ground.Goals as goal

pub byte_at-count-requires : goal.byte_at-count-requires
byte_at-count-requires c = search (rules, whole-count-within)

pub slice_bounds-stated-end : goal.slice_bounds-stated-end
slice_bounds-stated-end c =
    simp length-take (omega (arith, whole-count-fits c.requires.0 c.requires.1 c.byte_at-count.ensures))

pub returns-then-is_missing : goal.returns-then-is_missing
unfolding number_in outcome_of refusal_number
returns-then-is_missing c = search (rules, lacks_file)

pub equal_names-requires : goal.equal_names-requires
equal_names-requires c = search (rules, names_stand)

pub returns-then-equal_names : goal.returns-then-equal_names
unfolding number_in outcome_of refusal_number
returns-then-equal_names c = search (rules, names_equal)

pub returns : goal.returns
unfolding number_in outcome_of refusal_number
returns c = search (rules, slaves_good)
