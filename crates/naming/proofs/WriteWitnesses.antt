-- Frames and files that meet what the claims of `cluster` about frames sent and records written ask: M1 on the file of M10; M3 and a write
-- of record 2 on files with that write pending at 0xFF; the data frame without data on that of M6.
-- Assumes nothing.
use Rattle.std.proofs.Common.{ℕ, arith, ◌≡◌, refl, ap, List, [], ◌∷◌, false, take}
use Rattle.file.specs.Rules.Layout.{width_of}
use Rattle.file.specs.Rules.Order.{first_of, both, either}
use Rattle.file.specs.Rules.Results.{Result, done}
use Rattle.file.specs.Rules.Bytes.{Bytes, number_of, part, all_zero}
use Rattle.file.specs.Rules.Cluster.{is_awake, no_operation, broadcast_read, bytes_among, bytes_in, last_record, has_record, record_of, physical_name, logical_name, pb2_of, execute_operation}
use Rattle.file.specs.Rules.Decode.{decode, decode_at, slaves_at, slave_at, files_at, file_at, file_size, offset_at}
use Rattle.file.specs.Rules.FileGrounds.{is_among, has_repeat, file_ground, file_ground_at, file_grounds_at, wrong_size, wrong_mark, wrong_edition, wrong_length}
use Rattle.file.specs.Rules.FileGrounds.{wrong_header, wrong_pending, broken_layout, walk_file, table_end, walk_slaves, and_then, walk_slave, good_table_entry}
use Rattle.file.specs.Rules.FileGrounds.{walk_directory, good_entry, ends_at, lacks_needed, all_have_needed, has_needed, equal_physical_names}
use Rattle.frame.specs.Rules.Check.{data_check, check_of, exclusive_or}
use Rattle.frame.specs.Rules.Frames.{frame_size, frame_of, data_frame}
use Rattle.frame.specs.Rules.Writing.{write_address, write_data}
use Rattle.frame.specs.Claims.Cases.{six_zeros}
use Rattle.frame.proofs.RoundTrip.{frame-cases}
use Rattle.master_slave.specs.Rules.Slaves.{writing, duty_by, pending_duty, addresses, addressed}
use Rattle.cluster.specs.Rules.RoundGrounds.{write_pending}
use Rattle.cluster.specs.Rules.Round.{round_on}
use Rattle.cluster.specs.Claims.Written.{SameAddress}
use Rattle.cluster.specs.Claims.Writes.{slave_in, WriteReaches, Holds}
use Rattle.cluster.proofs.Sent.{round-fits, data-round, frame-fits}
use Rattle.cluster.proofs.SentAsWritten.{address-sent_as_written, data-sent_as_written}
use Rattle.cluster.proofs.RecordWrites.{name-record-written, record-written}
use Rattle.naming.specs.Claims.Files.{one_slave, m6_file_lem, m10_file}
use Rattle.naming.specs.Claims.Cases.{answer_buffer}
use Rattle.file.proofs.BytesBelow.{all_below, bytes_below}
use Rattle.naming.proofs.Examples.{m10_accepted}

-- ---- M1, which the address writer wrote

m1-sent : SameAddress m10_file (take frame_size (write_address six_zeros 5 0xFF 0x08 execute_operation 2).1) answer_buffer 5 0xFF 0x08 execute_operation 2
m1-sent =
    address-sent_as_written m10_file six_zeros answer_buffer 5 0xFF 0x08 execute_operation 2 m10_accepted (omega arith)
    (ap (λ (w : Result (Unit {0}) × List ℕ). w.0) frame-cases.m1.writes)

-- ---- files with a write of record 1 or 2 of 0x08 pending at 0xFF

name_write : List ℕ
name_write = one_slave 0x21 1 0x10

half_write : List ℕ
half_write = one_slave 0x21 2 0x10

name-accepted : file_ground name_write ≡ 0
unfolding name_write one_slave file_ground file_ground_at file_grounds_at first_of both either wrong_size wrong_mark wrong_edition wrong_length
    wrong_header wrong_pending no_operation broadcast_read all_zero part number_of offset_at broken_layout walk_file table_end walk_slaves and_then
    walk_slave good_table_entry walk_directory good_entry file_size ends_at lacks_needed all_have_needed has_needed last_record decode width_of decode_at
    slaves_at slave_at files_at file_at equal_physical_names has_repeat is_among physical_name bytes_in bytes_among
name-accepted = refl

half-accepted : file_ground half_write ≡ 0
unfolding name-accepted half_write
half-accepted = refl

name-pending : pending_duty (decode name_write) ≡ writing 0xFF 0x08 1
unfolding name-accepted pending_duty duty_by
name-pending = refl

-- ---- M3, which the data writer wrote: 00 00 01 FF for record 1

m3 : List ℕ
m3 = data_frame (0x00 ∷ 0x00 ∷ 0x01 ∷ 0xFF ∷ [])

m3-written : (write_data six_zeros (0x00 ∷ 0x00 ∷ 0x01 ∷ 0xFF ∷ [])).0 ≡ done tt
m3-written = ap (λ (w : Result (Unit {0}) × List ℕ). w.0) frame-cases.m3

m3-answered : (round_on name_write (take frame_size (write_data six_zeros (0x00 ∷ 0x00 ∷ 0x01 ∷ 0xFF ∷ [])).1) answer_buffer).0 ≡ done 0
m3-answered =
    ap (λ (r : Result ℕ × List ℕ × List ℕ). r.0)
    (data-sent_as_written name_write six_zeros answer_buffer 0x00 0x00 0x01 0xFF 0xFF 0x08 1 name-accepted (omega arith) name-pending m3-written)

m3-bytes : Bytes m3
m3-bytes = bytes_below m3 (unfold m3 data_frame frame_of data_check check_of exclusive_or all_below both in refl)

-- a frame that is accepted, and the one slave reached, whose logical name is 0xFF
name_reached : WriteReaches name_write m3 answer_buffer 0xFF 0x08 1 0
unfolding name-accepted m3 pb2_of write_pending slave_in addressed addresses is_awake logical_name has_record
name_reached =
    record {
      is_msd = data-round 0x00 0x00 0x01 0xFF;
      accepted = round-fits name_write m3 answer_buffer name-accepted (omega arith) (frame-fits 0x00 0x00 0x01 0xFF (decode name_write) refl);
      pending = record { is_flag = refl; is_name = refl; is_pb2 = refl; is_pb3 = refl };
      in_table = omega arith;
      is_addressed = refl;
      has = refl;
    }

-- of record 1 byte 3 stays, here 0xFF
name-held : Holds name_write (round_on name_write m3 answer_buffer).2 0 0x08 1 (0x00 ∷ 0x00 ∷ 0x01 ∷ 0xFF ∷ [])
unfolding name_reached record_of data_frame frame_of
name-held = name-record-written name_write m3 answer_buffer 0xFF 0x08 1 0 (bytes_below name_write (unfold all_below in refl)) m3-bytes name_reached refl refl

-- ---- 01 02 03 04 for record 2

half_reached : WriteReaches half_write (data_frame (0x01 ∷ 0x02 ∷ 0x03 ∷ 0x04 ∷ [])) answer_buffer 0xFF 0x08 2 0
unfolding half-accepted pb2_of write_pending slave_in addressed addresses is_awake logical_name has_record
half_reached =
    record {
      is_msd = data-round 0x01 0x02 0x03 0x04;
      accepted =
          round-fits half_write (data_frame (0x01 ∷ 0x02 ∷ 0x03 ∷ 0x04 ∷ [])) answer_buffer half-accepted (omega arith)
          (frame-fits 0x01 0x02 0x03 0x04 (decode half_write) refl);
      pending = record { is_flag = refl; is_name = refl; is_pb2 = refl; is_pb3 = refl };
      in_table = omega arith;
      is_addressed = refl;
      has = refl;
    }

half-held : Holds half_write (round_on half_write (data_frame (0x01 ∷ 0x02 ∷ 0x03 ∷ 0x04 ∷ [])) answer_buffer).2 0 0x08 2 (0x01 ∷ 0x02 ∷ 0x03 ∷ 0x04 ∷ [])
unfolding half_reached data_frame frame_of
half-held =
    record-written half_write (data_frame (0x01 ∷ 0x02 ∷ 0x03 ∷ 0x04 ∷ [])) answer_buffer 0xFF 0x08 2 0
    (bytes_below half_write (unfold all_below in refl)) (bytes_below _ (unfold all_below data_check check_of exclusive_or in refl)) half_reached
    (λ e f. omega arith) (λ e. omega arith) (λ e. omega arith)

-- ---- the firework alone, with an execute pending

m6_idle : write_pending (decode m6_file_lem) ≡ false
unfolding name-accepted m6_file_lem write_pending
m6_idle = refl

m6_accepted : file_ground m6_file_lem ≡ 0
unfolding name-accepted m6_file_lem
m6_accepted = refl
