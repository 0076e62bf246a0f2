-- Conversions between the C calls on the file whose only slave sleeps: widened before the first step and narrowed before the second. So
-- what demand 3 with conversions asks can be met.
-- Assumes nothing.
use mathlib.Core.Path.{◌≡◌, ◌∙◌}
use mathlib.Core.List.{List, [], ◌∷◌}
use mathlib.Core.Bool.{true, false}
use lib.ListN.{replicate}
use Rattle.file.specs.Rules.Bytes.{All, all_empty, all_next}
use Rattle.naming.specs.Claims.Cases.{answer_buffer}
use Rattle.naming.proofs.Witnesses.{sleeper, sleeper_bytes, sleeper_accepted, one_name, one-name-accepted}
use Rattle.naming.proofs.EditionWitnesses.{sleeper_widens, sleeper_narrows}
use Rattle.ttpa.specs.Rules.Calls.{start_call}
use Rattle.demand.specs.Claims.DemandCalls.{CCall, ttpa_step, given-step, Memory, CallsDemand, started, is-step}
use Rattle.demand.specs.Claims.DemandEditions.{CallOrConversion, call, convert, after_converting, permitted_converting, calls_among, Fitting}
use Rattle.demand.specs.Claims.DemandEditions.{of_call, of_conversion}
use Rattle.demand.proofs.DemandCalls.{accepted-runs, start-number, steps-permitted}
use Rattle.demand.proofs.DemandEditions.{converting-permitted, calls_demand_converted}

abbrev begun : Memory
begun = started sleeper (5 ∷ []) (replicate 8 0)

abbrev one_step : CCall
one_step = ttpa_step answer_buffer 0

mixed : List CallOrConversion
mixed = convert 2 ∷ call one_step ∷ convert 1 ∷ call one_step ∷ []

all_fit : All (Fitting sleeper) mixed
unfolding mixed
all_fit =
    all_next (of_conversion sleeper_widens.width sleeper_widens.room)
    (all_next (of_call given-step)
    (all_next (of_conversion sleeper_narrows.width sleeper_narrows.room) (all_next (of_call given-step) all_empty)))

begins : (start_call (5 ∷ []) (replicate 8 0)).0 ≡ 0
begins = start-number (5 ∷ []) (replicate 8 0) ∙ one-name-accepted

all-may : permitted_converting false (5 ∷ []) begun mixed ≡ true
unfolding mixed calls_among
all-may =
    converting-permitted sleeper sleeper_bytes (accepted-runs sleeper_accepted) (5 ∷ []) one_name (replicate 8 0) begins mixed all_fit
    ∙ steps-permitted (5 ∷ []) begun (one_step ∷ one_step ∷ []) (all_next is-step (all_next is-step all_empty))

sleeper_demand : CallsDemand sleeper (5 ∷ []) (one_step ∷ one_step ∷ []) (after_converting (5 ∷ []) begun mixed)
unfolding mixed calls_among
sleeper_demand =
    calls_demand_converted sleeper sleeper_bytes (accepted-runs sleeper_accepted) (5 ∷ []) one_name (replicate 8 0) begins mixed all_fit
    all-may
