-- Each claim of specs/Claims, and the theorem that has it as its type.
use Rattle.ttpa.specs.Claims.Holder.{HolderTellsFirst}
use Rattle.ttpa.specs.Claims.Numbers.{RefusedByNumbers}
use Rattle.ttpa.specs.Claims.Refusals.{RefusalsAlterNothing}
use Rattle.ttpa.specs.Claims.Conversion.{ConversionWritten, ConversionsComeBack, ConversionWidens, ConversionCopies}
use Rattle.ttpa.specs.Claims.Turns.{ScreensStart, PostNumbers, TurnNumbers, PostTaken, ServedWaitsNoMore}
use Rattle.ttpa.specs.Claims.Turns.{TurnsAreRounds, TurnKeepsSummary, FairOverCalls, PostedIsServed}
use Rattle.ttpa.specs.Claims.Join.{JoinNumbers, JoinWritten, JoinLeft, JoinsConverted}
use Rattle.ttpa.specs.Claims.Patterns.{PatternsTold, ParityTold, FlippedIsNotTold, ToldFireworksApart}
use Rattle.ttpa.specs.Claims.Contents.{ContentsNumbers, ContentsLeft, LengthAlone}
use Rattle.ttpa.proofs.HolderLaws.{holder_tells_first}
use Rattle.ttpa.proofs.Numbers.{refused_by_numbers}
use Rattle.ttpa.proofs.Refusals.{refusals_alter_nothing}
use Rattle.ttpa.proofs.Conversion.{conversion_written, conversions_come_back, conversion_widens, conversion_copies}
use Rattle.ttpa.proofs.Turns.{screens-start, post-numbers, turn-numbers, post-taken-call, served-waits_no_more_call}
use Rattle.ttpa.proofs.Turns.{turns-are-rounds, turn_keeps_summary-call, fair_over_calls, posted-is-served}
use Rattle.ttpa.proofs.Joins.{join-numbers, join-written-call, join-left-call, joins-converted}
use Rattle.ttpa.proofs.Patterns.{patterns_told, parity-told, flipped_is-not-told, told-fireworks-apart}
use Rattle.ttpa.proofs.Contents.{contents-numbers, contents-left, length_alone}

pub held-refused_by_numbers : RefusedByNumbers
held-refused_by_numbers = refused_by_numbers

pub held_refusals_alter_nothing : RefusalsAlterNothing
held_refusals_alter_nothing = refusals_alter_nothing

pub held-holder_tells_first : HolderTellsFirst
held-holder_tells_first = holder_tells_first

pub held_conversion_written : ConversionWritten
held_conversion_written = conversion_written

pub held_conversions_come_back : ConversionsComeBack
held_conversions_come_back = conversions_come_back

pub held_conversion_widens : ConversionWidens
held_conversion_widens = conversion_widens

pub held_conversion_copies : ConversionCopies
held_conversion_copies = conversion_copies

pub held-screens-start : ScreensStart
held-screens-start = screens-start

pub held-post-numbers : PostNumbers
held-post-numbers = post-numbers

pub held-turn-numbers : TurnNumbers
held-turn-numbers = turn-numbers

pub held-post-taken : PostTaken
held-post-taken = post-taken-call

pub held-served-waits_no_more : ServedWaitsNoMore
held-served-waits_no_more = served-waits_no_more_call

pub held-turns-are-rounds : TurnsAreRounds
held-turns-are-rounds = turns-are-rounds

pub held-turn_keeps_summary : TurnKeepsSummary
held-turn_keeps_summary = turn_keeps_summary-call

pub held_fair_over_calls : FairOverCalls
held_fair_over_calls = fair_over_calls

pub held-posted-is-served : PostedIsServed
held-posted-is-served = posted-is-served

pub held-join-numbers : JoinNumbers
held-join-numbers = join-numbers

pub held-join-written : JoinWritten
held-join-written = join-written-call

pub held-join-left : JoinLeft
held-join-left = join-left-call

pub held-joins-converted : JoinsConverted
held-joins-converted = joins-converted

pub held_patterns_told : PatternsTold
held_patterns_told = patterns_told

pub held-parity-told : ParityTold
held-parity-told = parity-told

pub held_flipped_is-not-told : FlippedIsNotTold
held_flipped_is-not-told = flipped_is-not-told

pub held-told-fireworks-apart : ToldFireworksApart
held-told-fireworks-apart = told-fireworks-apart

pub held-contents-numbers : ContentsNumbers
held-contents-numbers = contents-numbers

pub held-contents-left : ContentsLeft
held-contents-left = contents-left

pub held-length_alone : LengthAlone
held-length_alone = length_alone
