-- Conversions in mid-run on the file whose only slave sleeps: widened before the first step and narrowed before the second. What the claims
-- ask of file, names and of the list is met, and the run counts the two rounds.
-- Assumes nothing.
use Rattle.std.proofs.Common.{arith, ◌≡◌, refl, ap, ◌∙◌, subst, List, [], ◌∷◌, true, get_or}
use Rattle.file.specs.Rules.Bytes.{All, all_empty, all_next}
use Rattle.file.proofs.EditionOne.{edition-at}
use Rattle.cluster.specs.Claims.RoundEditions.{Convertible}
use Rattle.cluster.proofs.RoundEditions.{edition-one_widens, own_edition}
use Rattle.naming.specs.Rules.Position.{Position, fresh}
use Rattle.naming.specs.Claims.Demand.{start_on, of_step, Demand}
use Rattle.naming.specs.Claims.StepEditions.{CallOrConversion, call, convert, after_converting, permitted_converting, calls_among, Fitting, of_call, of_conversion, WithConversions}
use Rattle.naming.specs.Claims.Cases.{answer_buffer}
use Rattle.naming.proofs.Unasked.{plain_step}
use Rattle.naming.proofs.StepEditions.{converted-between, demand_converted}
use Rattle.naming.proofs.Witnesses.{sleeper, sleeper_bytes, sleeper_accepted, one_name, one-name-accepted, two_steps, steps-may, two-counted}

sleeper_edition : get_or sleeper 2 0 ≡ 1
unfolding sleeper
sleeper_edition = refl

pub sleeper_widens : Convertible sleeper 2
sleeper_widens = edition-one_widens sleeper sleeper_bytes sleeper_accepted sleeper_edition

pub sleeper_narrows : Convertible sleeper 1
sleeper_narrows =
    subst (Convertible sleeper) (edition-at sleeper sleeper_accepted ∙ sleeper_edition)
    (own_edition sleeper sleeper_bytes sleeper_accepted).0

mixed : List CallOrConversion
mixed = convert 2 ∷ call (plain_step answer_buffer) ∷ convert 1 ∷ call (plain_step answer_buffer) ∷ []

mixed_fit : All (Fitting sleeper) mixed
unfolding mixed
mixed_fit =
    all_next (of_conversion sleeper_widens.width sleeper_widens.room)
    (all_next (of_call of_step)
    (all_next (of_conversion sleeper_narrows.width sleeper_narrows.room) (all_next (of_call of_step) all_empty)))

mixed_alike : WithConversions (5 ∷ []) (start_on sleeper) (fresh (5 ∷ [])) mixed
unfolding start_on
mixed_alike =
    converted-between (5 ∷ []) (start_on sleeper) (fresh (5 ∷ [])) mixed sleeper_bytes sleeper_accepted one_name
    (unfold fresh in omega arith) mixed_fit

mixed_may : permitted_converting (5 ∷ []) (start_on sleeper) (fresh (5 ∷ [])) mixed ≡ true
unfolding mixed calls_among two_steps
mixed_may = mixed_alike.permits ∙ steps-may

sleeper_demand :
    Demand sleeper (5 ∷ []) two_steps (after_converting (5 ∷ []) (start_on sleeper) (fresh (5 ∷ [])) mixed).0.file
    (after_converting (5 ∷ []) (start_on sleeper) (fresh (5 ∷ [])) mixed).1
unfolding mixed calls_among two_steps
sleeper_demand = demand_converted sleeper sleeper_bytes sleeper_accepted (5 ∷ []) one_name one-name-accepted mixed mixed_fit mixed_may

rounds-counted : (after_converting (5 ∷ []) (start_on sleeper) (fresh (5 ∷ [])) mixed).1.counts.rounds ≡ 2
unfolding mixed calls_among two_steps
rounds-counted = ap (λ (p : Position). p.counts.rounds) mixed_alike.run ∙ two-counted
