-- `naming::names::names_ground` meets its contract: the marks tell, or the one name.
-- Assumes nothing.
use Rattle.std.proofs.Common.{rules}
use Rattle.file.specs.Rules.Results.{number_in}
use Rattle.file.specs.Inner.Refusals.{outcome_of, refusal_number}
use Rattle.naming.proofs.NameLaws.{one_unfit, one-fit}
use Rattle.naming.proofs.names.names_ground.Goals as goal

pub returns-then-is_unfit_name : goal.returns-then-is_unfit_name
unfolding number_in outcome_of refusal_number
returns-then-is_unfit_name c = search (rules, one_unfit)

pub returns : goal.returns
unfolding number_in outcome_of refusal_number
returns c = search (rules, one-fit)
