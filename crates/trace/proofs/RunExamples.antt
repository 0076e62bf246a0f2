-- Traces run on the least file, the header of a cluster without slaves: what the report counts and what the file becomes, computed.
-- Assumes nothing.
use Rattle.std.proofs.Common.{ℕ, ◌≡◌, refl, List, [], ◌∷◌}
use Rattle.file.specs.Rules.Layout.{width_of}
use Rattle.file.specs.Rules.Order.{first_of, both, either}
use Rattle.file.specs.Rules.Results.{Result, refused, done}
use Rattle.file.specs.Rules.Bytes.{number_of, bytes_of, part, all_zero}
use Rattle.file.specs.Rules.Cluster.{no_operation, broadcast_read}
use Rattle.file.specs.Rules.Changes.{with_slaves, with_epoch, with_pending}
use Rattle.file.specs.Rules.Decode.{decode, decode_at, slaves_at, offset_at}
use Rattle.file.specs.Rules.Encode.{slaves_bytes, table, slaves_place, slaves_size, file_length, header, encode_at, encode}
use Rattle.file.specs.Rules.FileGrounds.{file_grounds, file_grounds_at, wrong_size, wrong_mark, wrong_edition, wrong_length, wrong_header, wrong_pending, broken_layout, lacks_needed, equal_physical_names}
use Rattle.file.specs.Rules.FileGrounds.{walk_file, table_end, walk_slaves, and_then, ends_at, all_have_needed, has_repeat}
use Rattle.frame.specs.Rules.Fireworks.{round_of, round_in}
use Rattle.frame.specs.Rules.Check.{exclusive_or, check_of, address_check}
use Rattle.frame.specs.Rules.FrameGrounds as frames
use Rattle.master_slave.specs.Rules.Bus.{anyone, mask_below_lem, sender_mask, nobody}
use Rattle.master_slave.specs.Rules.Slaves.{with_address, next_epoch, epoch_raised, execution_of, duty_by, pending_duty, sent_to, slaves_after, rested}
use Rattle.multipartner.specs.Rules.Multipartner.{sent_by, sent_during, sent_in, received_in, cluster_below}
use Rattle.cluster.specs.Rules.RoundGrounds.{short_answer, round_by_lem, write_pending, grounds_on}
use Rattle.cluster.specs.Inner.EachGround.{no_firework, length_for, wrong_length_on, wrong_check_on, no_operation_on, broadcast_read_on}
use Rattle.cluster.specs.Rules.Round.{effect_of, frame_on, round_ground, round_on}
use Rattle.trace.specs.Rules.Trace.{frame_count, data_length, offset_in, length_in, data_place_lem, whole_rows, broken_trace, frames_from, frames_of}
use Rattle.trace.specs.Rules.TraceRun.{sent, after_frames, Report, one_refused, one_carried, counted, report_from, trace_grounds, trace_ground, trace_on}

-- by its epoch, flag and pending bytes
abbrev pub file_with : ℕ → ℕ → ℕ → ℕ → ℕ → List ℕ
file_with epoch flag name pb2 pb3 =
    0x54 ∷ 0x41 ∷ 0x01 ∷ 0x00 ∷ 0x00 ∷ 0x10 ∷ 0x00 ∷ 0x10 ∷ epoch ∷ flag ∷ name ∷ pb2 ∷ pb3 ∷ 0 ∷ 0 ∷ 0 ∷ []

abbrev pub least : List ℕ
least = file_with 0 0 0 0 0

-- a report of so many MSA, MSD, multipartner and refused frames
abbrev pub reported : ℕ → ℕ → ℕ → ℕ → Result Report
reported a d m r = done (record { msa = a; msd = d; multipartner = m; refused = r })

pub record RunExamples : Type 0 where
  -- no frames and no data
  pub none : trace_on least (0 ∷ 0 ∷ 0 ∷ 0 ∷ []) ≡ (reported 0 0 0 0, least)
  -- an empty frame alone
  pub empty_frame : trace_on least (0 ∷ 1 ∷ 0 ∷ 0 ∷ 0 ∷ 0 ∷ 0 ∷ []) ≡ (reported 0 0 0 1, least)
  -- a refused frame between an MSA and its MSD: the run goes on, and the MSD finds the execute pending
  pub refused_between :
      trace_on least (0 ∷ 3 ∷ 0 ∷ 8 ∷ 0 ∷ 0 ∷ 6 ∷ 0 ∷ 6 ∷ 1 ∷ 0 ∷ 7 ∷ 1 ∷ 0x55 ∷ 0x05 ∷ 0xFF ∷ 0x22 ∷ 0x02 ∷ 0x8F ∷ 0x55 ∷ 0x49 ∷ []) ≡
      (reported 1 1 0 1, file_with 6 1 0xFF 0x22 0x02)
  -- an MSD of 6 bytes with nothing pending, and a multipartner frame
  pub multipartner :
      trace_on least (0 ∷ 2 ∷ 0 ∷ 7 ∷ 0 ∷ 0 ∷ 6 ∷ 0 ∷ 6 ∷ 1 ∷ 0x49 ∷ 0x00 ∷ 0x00 ∷ 0x01 ∷ 0xFF ∷ 0xB7 ∷ 0x78 ∷ []) ≡ (reported 0 0 1 1, file_with 1 0 0 0 0)
  -- a data length of 1 and no data; the same on what is no file
  pub broken : trace_on least (0 ∷ 0 ∷ 0 ∷ 1 ∷ []) ≡ (refused 19, least)
  pub broken_file : trace_on [] (0 ∷ 0 ∷ 0 ∷ 1 ∷ []) ≡ (refused 1, [])

-- The definitions are unfolded in steps: what a step names, and what it unfolds, the next unfolds with it.

least-accepted : first_of (file_grounds least) ≡ 0
unfolding file_grounds file_grounds_at first_of both either wrong_size wrong_mark wrong_edition wrong_length wrong_header wrong_pending all_zero broken_layout walk_file
    table_end walk_slaves and_then ends_at part number_of offset_at lacks_needed all_have_needed width_of decode_at slaves_at equal_physical_names has_repeat
least-accepted = refl

encoded_again : encode (decode least) ≡ least
unfolding least-accepted decode encode encode_at header file_length slaves_place slaves_size table slaves_bytes bytes_of
encoded_again = refl

-- an empty frame is refused by 10
empty_refused : (sent least []).0 ≡ refused 10
unfolding encoded_again sent round_on round_ground short_answer grounds_on round_by_lem no_firework wrong_length_on wrong_check_on no_operation_on broadcast_read_on
empty_refused = refl

-- an MSA, execute 0x08 record 2 at 0xFF
address_carried : (sent least (0x55 ∷ 0x05 ∷ 0xFF ∷ 0x22 ∷ 0x02 ∷ 0x8F ∷ [])).0 ≡ done 0
unfolding empty_refused length_for round_of round_in frames.wrong_frame_length frames.wrong_check address_check check_of exclusive_or no_operation broadcast_read frame_on
    effect_of with_address with_epoch with_pending sender_mask mask_below_lem nobody anyone
address_carried = refl

-- an MSD with nothing pending, a multipartner frame
data_carried : (sent least (0x49 ∷ [])).0 ≡ done 0
unfolding address_carried write_pending sent_to pending_duty duty_by execution_of slaves_after rested epoch_raised next_epoch with_slaves
data_carried = refl

multipartner_carried : (sent least (0x78 ∷ [])).0 ≡ done 0
unfolding data_carried sent_during sent_in sent_by received_in cluster_below
multipartner_carried = refl

pub run_examples : RunExamples
unfolding multipartner_carried frame_count data_length offset_in length_in data_place_lem whole_rows broken_trace frames_from frames_of after_frames one_refused one_carried
    counted report_from trace_grounds trace_ground trace_on
run_examples = record { none = refl; empty_frame = refl; refused_between = refl; multipartner = refl; broken = refl; broken_file = refl }
