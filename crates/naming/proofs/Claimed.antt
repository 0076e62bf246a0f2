-- Each claim of specs/Claims, and the theorem that has it as its type.
use Rattle.naming.specs.Claims.Cases.{MarkedCases}
use Rattle.naming.specs.Claims.Demand.{DemandThree}
use Rattle.naming.specs.Claims.Edition.{UnknownEditionStep, UnknownEditionStepKeeping}
use Rattle.naming.specs.Claims.StepEditions.{StepsConverted, StepsKeepingConverted, AllCallsConverted, ConvertedBetween, DemandConverted}
use Rattle.naming.specs.Claims.Passes.{PassesCounted, PassesMade}
use Rattle.naming.specs.Claims.Renaming.{BaptizingStepRenames, OnlyBaptizingStepsRename, StaysLoadable}
use Rattle.naming.specs.Claims.Summary.{StepWithout, StepsInOrder, StepRefusedBy24, RefusedStepKeepsSummary, KeepingIsStep, StepKeepsSummary}
use Rattle.naming.specs.Claims.Summary.{StepStillMatches, StepStillMatchesBaptized, CallsKeepSummary, FilledAndKept, GivenMakesNoDifference}
use Rattle.naming.specs.Claims.Throughout.{Throughout}
use Rattle.naming.specs.Claims.Permitted.{PermittedExactly}
use Rattle.naming.specs.Claims.PermittedRounds.{RoundsFit, EachMultipartner, MayNotAskExactly, BarredMsa, LoneMsa, LoneMsd}
use Rattle.naming.specs.Claims.StepFrames.{StepsAreFrames, EndedAltersNothing}
use Rattle.naming.specs.Claims.Steps.{StepsInARow, StepsRefused, StepsAnswered, StepsTold, NoOtherTold, StopsBy17, StopsAtFirst}
use Rattle.naming.specs.Claims.RoundsMade.{MakesExtra, MovesOn, Stands}
use Rattle.naming.specs.Claims.Sleep.{StepWakes, NoRoundWakesNobody, StaysAwake, CountedAwake}
use Rattle.naming.proofs.Cases.{marked_cases}
use Rattle.naming.proofs.OverBytes.{demand_3, throughout}
use Rattle.naming.proofs.StepLaws.{step-edition}
use Rattle.naming.proofs.Passes.{passes_counted}
use Rattle.naming.proofs.Renaming.{baptizing-step_renames, only-baptizing-steps_rename}
use Rattle.naming.proofs.Summaries.{step-without, steps_in_order, step-refused_by_24, refused-step_keeps_summary, keeping_is-step, step_keeps_summary}
use Rattle.naming.proofs.Summaries.{step_still_matches, step_still_matches_baptized, calls_keep_summary, filled_and_kept}
use Rattle.naming.proofs.StepKeeping.{step_keeping_edition}
use Rattle.naming.proofs.StepEditions.{steps-converted, steps_keeping_converted, all_calls_converted, converted-between, demand_converted}
use Rattle.naming.proofs.Unasked.{given_makes_no_difference}
use Rattle.naming.proofs.HeldOnce.{stays_loadable}
use Rattle.naming.proofs.PermittedExactly.{permitted_exactly}
use Rattle.naming.proofs.PermittedRounds.{rounds-fit, each-multipartner, may-not-ask_exactly, barred_msa, lone_msa, lone_msd}
use Rattle.naming.proofs.StepFrames.{steps-are-frames}
use Rattle.naming.proofs.StepLaws.{ended_alters_nothing}
use Rattle.naming.proofs.StepsInARow.{steps_in_a_row, steps-are-refused, steps-answered, steps-told, no_other-told, stops_by_17, stops-at-first}
use Rattle.naming.proofs.RoundsMade.{makes_extra, moves_on, stands}
use Rattle.naming.proofs.PassRounds.{passes_made}
use Rattle.naming.proofs.Sleep.{step-wakes, no_round-wakes-nobody, stays_awake, counted-awake}
use Rattle.naming.specs.Claims.TwoLists.{TwoLists, JoinedAccepted, CommonRefused, RunsEnd, EveryRunEnds, EndMark, SecondFinds, TwoRuns}
use Rattle.naming.proofs.TwoLists.{two_lists, joined-accepted, common_refused, runs-end, every_run-ends}
use Rattle.naming.proofs.TwoRuns.{end_mark, second_finds, two_runs}

pub held_marked_cases : MarkedCases
held_marked_cases = marked_cases

pub held_demand_three : DemandThree
held_demand_three = demand_3

pub held_unknown_edition-step : UnknownEditionStep
held_unknown_edition-step = step-edition

pub held_passes_counted : PassesCounted
held_passes_counted = passes_counted

pub held-baptizing-step_renames : BaptizingStepRenames
held-baptizing-step_renames = baptizing-step_renames

pub held-only-baptizing-steps_rename : OnlyBaptizingStepsRename
held-only-baptizing-steps_rename = only-baptizing-steps_rename

pub held_stays_loadable : StaysLoadable
held_stays_loadable = stays_loadable

pub held_throughout : Throughout
held_throughout = throughout

pub held-permitted_exactly : PermittedExactly
held-permitted_exactly = permitted_exactly

pub held-rounds-fit : RoundsFit
held-rounds-fit = rounds-fit

pub held-each-multipartner : EachMultipartner
held-each-multipartner = each-multipartner

pub held-may-not-ask_exactly : MayNotAskExactly
held-may-not-ask_exactly = may-not-ask_exactly

pub held_barred_msa : BarredMsa
held_barred_msa = barred_msa

pub held_lone_msa : LoneMsa
held_lone_msa = lone_msa

pub held_lone_msd : LoneMsd
held_lone_msd = lone_msd

pub held-steps-are-frames : StepsAreFrames
held-steps-are-frames = steps-are-frames

pub held-ended_alters_nothing : EndedAltersNothing
held-ended_alters_nothing = ended_alters_nothing

pub held_makes_extra : MakesExtra
held_makes_extra = makes_extra

pub held_moves_on : MovesOn
held_moves_on = moves_on

pub held-stands : Stands
held-stands = stands

pub held_passes_made : PassesMade
held_passes_made = passes_made

pub held-step-without : StepWithout
held-step-without = step-without

pub held-steps_in_order : StepsInOrder
held-steps_in_order = steps_in_order

pub held-step-refused_by_24 : StepRefusedBy24
held-step-refused_by_24 = step-refused_by_24

pub held-refused-step_keeps_summary : RefusedStepKeepsSummary
held-refused-step_keeps_summary = refused-step_keeps_summary

pub held_keeping_is-step : KeepingIsStep
held_keeping_is-step = keeping_is-step

pub held-step_keeps_summary : StepKeepsSummary
held-step_keeps_summary = step_keeps_summary

pub held-step_still_matches : StepStillMatches
held-step_still_matches = step_still_matches

pub held-step_still_matches_baptized : StepStillMatchesBaptized
held-step_still_matches_baptized = step_still_matches_baptized

pub held_calls_keep_summary : CallsKeepSummary
held_calls_keep_summary = calls_keep_summary

pub held-filled_and_kept : FilledAndKept
held-filled_and_kept = filled_and_kept

pub held_unknown_edition-step_keeping : UnknownEditionStepKeeping
held_unknown_edition-step_keeping = step_keeping_edition

pub held-given_makes_no_difference : GivenMakesNoDifference
held-given_makes_no_difference = given_makes_no_difference

pub held-step-wakes : StepWakes
held-step-wakes = step-wakes

pub held_no_round-wakes-nobody : NoRoundWakesNobody
held_no_round-wakes-nobody = no_round-wakes-nobody

pub held_stays_awake : StaysAwake
held_stays_awake = stays_awake

pub held-counted-awake : CountedAwake
held-counted-awake = counted-awake

pub held-steps-converted : StepsConverted
held-steps-converted = steps-converted

pub held-steps_keeping_converted : StepsKeepingConverted
held-steps_keeping_converted = steps_keeping_converted

pub held-all_calls_converted : AllCallsConverted
held-all_calls_converted = all_calls_converted

pub held-converted-between : ConvertedBetween
held-converted-between = converted-between

pub held_demand_converted : DemandConverted
held_demand_converted = demand_converted

pub held-two_lists : TwoLists
held-two_lists = two_lists

pub held-joined-accepted : JoinedAccepted
held-joined-accepted = joined-accepted

pub held_common_refused : CommonRefused
held_common_refused = common_refused

pub held_every_run-ends : EveryRunEnds
held_every_run-ends = every_run-ends

pub held-runs-end : RunsEnd
held-runs-end = runs-end

pub held-end-mark : EndMark
held-end-mark = end_mark

pub held-second_finds : SecondFinds
held-second_finds = second_finds

pub held-two-runs : TwoRuns
held-two-runs = two_runs

pub held-steps_in_a_row : StepsInARow
held-steps_in_a_row = steps_in_a_row

pub held-steps-refused : StepsRefused
held-steps-refused = steps-are-refused

pub held-steps-answered : StepsAnswered
held-steps-answered = steps-answered

pub held-steps-told : StepsTold
held-steps-told = steps-told

pub held_no_other-told : NoOtherTold
held_no_other-told = no_other-told

pub held-stops_by_17 : StopsBy17
held-stops_by_17 = stops_by_17

pub held-stops-at-first : StopsAtFirst
held-stops-at-first = stops-at-first
