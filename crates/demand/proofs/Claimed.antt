-- Each claim of specs/Claims, and the theorem that has it as its type.
use Rattle.demand.specs.Claims.DemandCalls.{DemandOverCalls, ThroughoutCalls, StepsPermitted, SamePermitted}
use Rattle.demand.specs.Claims.DemandEditions.{AllCallsAlike, ListsConverted, CallsDemandConverted}
use Rattle.demand.specs.Claims.Pending.{CallsStayPending, CCallsStayPending}
use Rattle.demand.specs.Claims.Renaming.{CallsRenameNobody, CCallsRenameNobody}
use Rattle.demand.specs.Claims.Traces.{TraceSentSingly, AllSentSingly, AccountTracesAside, DemandWithTraces, TraceSentInOrder}
use Rattle.demand.specs.Claims.Permitted.{CallsPermittedExactly, TraceFits, RoundsFitCalls, TraceSends}
use Rattle.demand.specs.Claims.Steps.{StepsAreRounds}
use Rattle.demand.specs.Claims.TraceCalls.{TracesAreRounds}
use Rattle.demand.specs.Claims.Summary.{KeptByCalls, FilledAndAsked, RoundsWithSummary, StepsWithSummary, GivenMakesNoDifferenceInCalls}
use Rattle.demand.specs.Claims.Sleep.{CallsStayAwake, CallsCountedAwake, CCallsWake}
use Rattle.demand.proofs.DemandCalls.{demand_over_calls, throughout_calls, steps-permitted, same-permitted}
use Rattle.demand.proofs.DemandEditions.{all_calls_alike, lists_converted, calls_demand_converted}
use Rattle.demand.proofs.Pending.{calls_stay_pending, c_calls_stay_pending}
use Rattle.demand.proofs.Renaming.{calls_rename_nobody, c_calls_rename_nobody}
use Rattle.demand.proofs.Traces.{trace-sent-singly, all-sent-singly, account_traces_aside, demand_with_traces, trace-sent_in_order}
use Rattle.demand.proofs.Permitted.{calls_permitted_exactly, trace-fits, rounds-fit_calls, trace-sends}
use Rattle.demand.proofs.Steps.{steps-are-rounds}
use Rattle.demand.proofs.TraceCalls.{traces_are-rounds}
use Rattle.demand.proofs.Summary.{kept_by_calls, filled_and_asked, rounds_with_summary, steps_with_summary, given_makes_no_difference_in_calls}
use Rattle.demand.proofs.Sleep.{calls_stay_awake, calls_counted-awake, c_calls_wake}
use Rattle.demand.specs.Claims.Turns.{TurnsFit, TurnsSendRounds, TurnsPermitted, NoTurnWithin, OtherTurns, ServedTurnsWake}
use Rattle.demand.specs.Claims.Turns.{TurnSends, TurnBaptizesNobody, TurnPutsNobodyToSleep}
use Rattle.demand.proofs.Turns.{turns_fit, turns-send-rounds, turns-permitted, no_turn-within, other-turns, served-turns_wake}
use Rattle.demand.proofs.Turns.{turn-sends, turn_baptizes_nobody, turn-puts-nobody-to_sleep}
use Rattle.demand.specs.Claims.TwoLists.{TwoListsOverCalls, JoinedStarts, CommonReturns, RunsEndOverCalls, EveryRunEndsOverCalls}
use Rattle.demand.specs.Claims.TwoLists.{EndMarkOverCalls, SecondFindsOverCalls, TwoRunsOverCalls}
use Rattle.demand.proofs.TwoLists.{two_lists_over_calls, joined-starts, common_returns, runs-end_over_calls, every_run-ends_over_calls}
use Rattle.demand.proofs.TwoLists.{end-mark_over_calls, second_finds_over_calls, two-runs_over_calls}
use Rattle.demand.specs.Claims.Join.{UnnamedAfterJoin, UnnamedAfterJoinCall, NamingAfterJoin, NamingAfterJoinCall}
use Rattle.demand.proofs.Join.{unnamed-after-join, unnamed-after-join-call, naming_after-join, naming_after-join-call}

pub held_demand_over_calls : DemandOverCalls
held_demand_over_calls = demand_over_calls

pub held_throughout_calls : ThroughoutCalls
held_throughout_calls = throughout_calls

pub held-steps-permitted : StepsPermitted
held-steps-permitted = steps-permitted

pub held-same-permitted : SamePermitted
held-same-permitted = same-permitted

pub held_calls_stay_pending : CallsStayPending
held_calls_stay_pending = calls_stay_pending

pub held_c_calls_stay_pending : CCallsStayPending
held_c_calls_stay_pending = c_calls_stay_pending

pub held_calls_rename_nobody : CallsRenameNobody
held_calls_rename_nobody = calls_rename_nobody

pub held_c_calls_rename_nobody : CCallsRenameNobody
held_c_calls_rename_nobody = c_calls_rename_nobody

pub held-trace-sent-singly : TraceSentSingly
held-trace-sent-singly = trace-sent-singly

pub held-all-sent-singly : AllSentSingly
held-all-sent-singly = all-sent-singly

pub held_account_traces_aside : AccountTracesAside
held_account_traces_aside = account_traces_aside

pub held_demand_with_traces : DemandWithTraces
held_demand_with_traces = demand_with_traces

pub held_calls_permitted_exactly : CallsPermittedExactly
held_calls_permitted_exactly = calls_permitted_exactly

pub held-trace-fits : TraceFits
held-trace-fits = trace-fits

pub held-rounds-fit_calls : RoundsFitCalls
held-rounds-fit_calls = rounds-fit_calls

pub held-trace-sends : TraceSends
held-trace-sends = trace-sends

pub held-steps-are-rounds : StepsAreRounds
held-steps-are-rounds = steps-are-rounds

pub held_traces_are-rounds : TracesAreRounds
held_traces_are-rounds = traces_are-rounds

pub held-trace-sent_in_order : TraceSentInOrder
held-trace-sent_in_order = trace-sent_in_order

pub held-kept_by_calls : KeptByCalls
held-kept_by_calls = kept_by_calls

pub held-filled_and_asked : FilledAndAsked
held-filled_and_asked = filled_and_asked

pub held-rounds_with_summary : RoundsWithSummary
held-rounds_with_summary = rounds_with_summary

pub held-steps_with_summary : StepsWithSummary
held-steps_with_summary = steps_with_summary

pub held-given_makes_no_difference_in_calls : GivenMakesNoDifferenceInCalls
held-given_makes_no_difference_in_calls = given_makes_no_difference_in_calls

pub held_calls_stay_awake : CallsStayAwake
held_calls_stay_awake = calls_stay_awake

pub held_calls_counted-awake : CallsCountedAwake
held_calls_counted-awake = calls_counted-awake

pub held_c_calls_wake : CCallsWake
held_c_calls_wake = c_calls_wake

pub held-all_calls_alike : AllCallsAlike
held-all_calls_alike = all_calls_alike

pub held_lists_converted : ListsConverted
held_lists_converted = lists_converted

pub held_calls_demand_converted : CallsDemandConverted
held_calls_demand_converted = calls_demand_converted

pub held-two_lists_over_calls : TwoListsOverCalls
held-two_lists_over_calls = two_lists_over_calls

pub held-joined-starts : JoinedStarts
held-joined-starts = joined-starts

pub held_common_returns : CommonReturns
held_common_returns = common_returns

pub held_every_run-ends_over_calls : EveryRunEndsOverCalls
held_every_run-ends_over_calls = every_run-ends_over_calls

pub held-runs-end_over_calls : RunsEndOverCalls
held-runs-end_over_calls = runs-end_over_calls

pub held-end-mark_over_calls : EndMarkOverCalls
held-end-mark_over_calls = end-mark_over_calls

pub held-second_finds_over_calls : SecondFindsOverCalls
held-second_finds_over_calls = second_finds_over_calls

pub held-two-runs_over_calls : TwoRunsOverCalls
held-two-runs_over_calls = two-runs_over_calls

pub held-turns-send-rounds : TurnsSendRounds
held-turns-send-rounds = turns-send-rounds

pub held-turn-sends : TurnSends
held-turn-sends = turn-sends

pub held-turn_baptizes_nobody : TurnBaptizesNobody
held-turn_baptizes_nobody = turn_baptizes_nobody

pub held-turn-puts-nobody-to_sleep : TurnPutsNobodyToSleep
held-turn-puts-nobody-to_sleep = turn-puts-nobody-to_sleep

pub held-turns-permitted : TurnsPermitted
held-turns-permitted = turns-permitted

pub held_no_turn-within : NoTurnWithin
held_no_turn-within = no_turn-within

pub held-other-turns : OtherTurns
held-other-turns = other-turns

pub held-served-turns_wake : ServedTurnsWake
held-served-turns_wake = served-turns_wake

pub held-turns-fit : TurnsFit
held-turns-fit = turns_fit

pub held-unnamed-after-join : UnnamedAfterJoin
held-unnamed-after-join = unnamed-after-join

pub held-unnamed-after-join-call : UnnamedAfterJoinCall
held-unnamed-after-join-call = unnamed-after-join-call

pub held_naming_after-join : NamingAfterJoin
held_naming_after-join = naming_after-join

pub held_naming_after-join-call : NamingAfterJoinCall
held_naming_after-join-call = naming_after-join-call
