-- Each claim of specs/Claims, and the theorem that has it as its type.
use Rattle.cluster.specs.Claims.Cases.{RoundCases}
use Rattle.cluster.specs.Claims.Edition.{UnknownEditionRound, UnknownEditionKeeping, UnknownEditionFilling}
use Rattle.cluster.specs.Claims.RoundEditions.{RoundsAtWidth, EditionOneWidens, RoundsConverted, SummaryConverted, KeepingConverted, FillingConverted}
use Rattle.cluster.specs.Claims.Kept.{RefusedAltersNothing, RoundKeepsFile}
use Rattle.cluster.specs.Claims.Mask.{BitsAreSenders, BitZeroNeverSet}
use Rattle.cluster.specs.Claims.Pending.{MsaBecomesPending, StaysPending, EpochRaised}
use Rattle.cluster.specs.Claims.Renaming.{BaptizingRenames, OnlyBaptizingRenames, NobodyRenamed}
use Rattle.cluster.specs.Claims.Sleep.{DataWakes, MultipartnerWakes, AddressWakesNobody, SleepPutsToSleep, SleepSilent, SleeperKeepsFiles, SleepersSilent, AwakeAsAlone}
use Rattle.cluster.specs.Claims.Summary.{MatchesExactly, RoundWithout, RoundsInOrder, RoundRefusedBy24, RefusedKeepsSummary, KeepingIsRound}
use Rattle.cluster.specs.Claims.Summary.{RoundKeepsSummary, StillMatchesExactly, StillMatches, StillMatchesBaptized, NoBaptizingExactly, FillingMatches}
use Rattle.cluster.specs.Claims.Summary.{FillingsRefused, FullReadings, QuestionIsFirst, QuestionIsReading, QuestionRefused}
use Rattle.cluster.specs.Claims.Writes.{UnnamedTakeWrites, NameRecordWritten, RecordWritten, NothingWritten}
use Rattle.cluster.specs.Claims.Written.{AddressSentAsWritten, DataSentAsWritten, FireworkAlone}
use Rattle.cluster.proofs.Cases.{round-cases}
use Rattle.cluster.proofs.Rounds.{round-edition, round-refused, round_keeps_file}
use Rattle.cluster.proofs.RoundEditions.{rounds-at-width, edition-one_widens, rounds-converted, summary-converted, keeping_converted, filling_converted}
use Rattle.cluster.proofs.Mask.{bits-are-senders, bit_zero_never_set}
use Rattle.cluster.proofs.StaysPending.{msa-becomes-pending, stays_pending, epoch-raised}
use Rattle.cluster.proofs.Renaming.{baptizing_renames, only-baptizing_renames, nobody-renamed}
use Rattle.cluster.proofs.SummaryLaws.{matches_exactly}
use Rattle.cluster.proofs.Keeping.{keeping_edition, round-without, rounds_in_order, round-refused_by_24, keeping_refused, keeping_is-round}
use Rattle.cluster.proofs.Keeping.{round_keeps_summary, still_matches_exactly, still_matches, still_matches_baptized, no_baptizing_exactly}
use Rattle.cluster.proofs.Holders.{filling_edition, filling_matches, fillings_refused, full_readings, question_is-first, question_is-reading, question_refused}
use Rattle.cluster.proofs.Sleep.{data-wakes, multipartner-wakes, address-wakes-nobody, sleep_puts-to_sleep, sleep_silent, sleeper_keeps_files}
use Rattle.cluster.proofs.AwakeAlone.{sleepers_silent, awake_as_alone}
use Rattle.cluster.proofs.UnnamedWrites.{unnamed-take-writes}
use Rattle.cluster.proofs.SentAsWritten.{address-sent_as_written, data-sent_as_written, firework_alone}
use Rattle.cluster.proofs.RecordWrites.{name-record-written, record-written, nothing_written}

pub held-round-cases : RoundCases
held-round-cases = round-cases

pub held_unknown_edition-round : UnknownEditionRound
held_unknown_edition-round = round-edition

pub held-refused_alters_nothing : RefusedAltersNothing
held-refused_alters_nothing = round-refused

pub held-round_keeps_file : RoundKeepsFile
held-round_keeps_file = round_keeps_file

pub held-bits-are-senders : BitsAreSenders
held-bits-are-senders = bits-are-senders

pub held-bit_zero_never_set : BitZeroNeverSet
held-bit_zero_never_set = bit_zero_never_set

pub held-msa-becomes-pending : MsaBecomesPending
held-msa-becomes-pending = msa-becomes-pending

pub held_stays_pending : StaysPending
held_stays_pending = stays_pending

pub held-epoch_raised : EpochRaised
held-epoch_raised = epoch-raised

pub held-baptizing_renames : BaptizingRenames
held-baptizing_renames = baptizing_renames

pub held-only-baptizing_renames : OnlyBaptizingRenames
held-only-baptizing_renames = only-baptizing_renames

pub held-nobody-renamed : NobodyRenamed
held-nobody-renamed = nobody-renamed

pub held-unnamed-take-writes : UnnamedTakeWrites
held-unnamed-take-writes = unnamed-take-writes

pub held-address-sent_as_written : AddressSentAsWritten
held-address-sent_as_written = address-sent_as_written

pub held-data-sent_as_written : DataSentAsWritten
held-data-sent_as_written = data-sent_as_written

pub held-firework_alone : FireworkAlone
held-firework_alone = firework_alone

pub held-name-record-written : NameRecordWritten
held-name-record-written = name-record-written

pub held-record-written : RecordWritten
held-record-written = record-written

pub held-nothing-written : NothingWritten
held-nothing-written = nothing_written

pub held-matches_exactly : MatchesExactly
held-matches_exactly = matches_exactly

pub held-round-without : RoundWithout
held-round-without = round-without

pub held-rounds_in_order : RoundsInOrder
held-rounds_in_order = rounds_in_order

pub held-round-refused_by_24 : RoundRefusedBy24
held-round-refused_by_24 = round-refused_by_24

pub held-refused_keeps_summary : RefusedKeepsSummary
held-refused_keeps_summary = keeping_refused

pub held_keeping_is-round : KeepingIsRound
held_keeping_is-round = keeping_is-round

pub held-round_keeps_summary : RoundKeepsSummary
held-round_keeps_summary = round_keeps_summary

pub held_still_matches_exactly : StillMatchesExactly
held_still_matches_exactly = still_matches_exactly

pub held_still_matches : StillMatches
held_still_matches = still_matches

pub held_still_matches_baptized : StillMatchesBaptized
held_still_matches_baptized = still_matches_baptized

pub held_no_baptizing_exactly : NoBaptizingExactly
held_no_baptizing_exactly = no_baptizing_exactly

pub held_filling_matches : FillingMatches
held_filling_matches = filling_matches

pub held_fillings_refused : FillingsRefused
held_fillings_refused = fillings_refused

pub held-full_readings : FullReadings
held-full_readings = full_readings

pub held_question_is-first : QuestionIsFirst
held_question_is-first = question_is-first

pub held_question_is-reading : QuestionIsReading
held_question_is-reading = question_is-reading

pub held_question_refused : QuestionRefused
held_question_refused = question_refused

pub held_unknown_edition_keeping : UnknownEditionKeeping
held_unknown_edition_keeping = keeping_edition

pub held_unknown_edition_filling : UnknownEditionFilling
held_unknown_edition_filling = filling_edition

pub held-data-wakes : DataWakes
held-data-wakes = data-wakes

pub held-multipartner-wakes : MultipartnerWakes
held-multipartner-wakes = multipartner-wakes

pub held-address-wakes-nobody : AddressWakesNobody
held-address-wakes-nobody = address-wakes-nobody

pub held_sleep_puts-to_sleep : SleepPutsToSleep
held_sleep_puts-to_sleep = sleep_puts-to_sleep

pub held_sleep_silent : SleepSilent
held_sleep_silent = sleep_silent

pub held_sleeper_keeps_files : SleeperKeepsFiles
held_sleeper_keeps_files = sleeper_keeps_files

pub held_sleepers_silent : SleepersSilent
held_sleepers_silent = sleepers_silent

pub held-awake_as_alone : AwakeAsAlone
held-awake_as_alone = awake_as_alone

pub held-rounds-at-width : RoundsAtWidth
held-rounds-at-width = rounds-at-width

pub held-edition-one_widens : EditionOneWidens
held-edition-one_widens = edition-one_widens

pub held-rounds-converted : RoundsConverted
held-rounds-converted = rounds-converted

pub held-summary-converted : SummaryConverted
held-summary-converted = summary-converted

pub held_keeping_converted : KeepingConverted
held_keeping_converted = keeping_converted

pub held_filling_converted : FillingConverted
held_filling_converted = filling_converted
