-- Reader and writer of address frames undo one another, and the document's cases M1 to M5.
-- Assumes nothing.
use Prim.Native.Nat.{ℕ}
use mathlib.Core.Path.{◌≡◌, refl, ap, ◌∙◌}
use mathlib.Core.List.{List, ◌++◌}
use native.Mathlib.Omega.{arith}
use lib.ListN.{get_or, drop}
use lib.Seq.{take_at}
use Rattle.file.specs.Rules.Cluster.{file_number_of, operation_of, pb2_of}
use Rattle.file.specs.Rules.Order.{first_of, both, either}
use Rattle.file.specs.Rules.Results.{done, result_of}
use Rattle.frame.specs.Rules.Check.{exclusive_or, check_of, address_check, data_check}
use Rattle.frame.specs.Rules.Frames.{frame_size, frame_of, address_bytes, address_frame, data_frame}
use Rattle.frame.specs.Rules.FrameGrounds.{short_frame_buffer, no_address, wrong_frame_length, wrong_check, no_operation, broadcast_read, no_file_number}
use Rattle.frame.specs.Rules.Reading.{Parts, parts_of, read_ground, read_address}
use Rattle.frame.specs.Rules.Writing.{write_frame, write_ground, data_ground, write_address, write_data}
use Rattle.frame.specs.Claims.RoundTrip.{WrittenReads, ReadWrites}
use Rattle.frame.specs.Claims.Cases.{FrameCases}
use Rattle.frame.proofs.Tests.{long, file-fits}
use Rattle.frame.proofs.Accepted.{read-accepted, read_same, Write, write-accepted}
use Rattle.frame.proofs.Written.{address-places, address-writes, address-reads, frame_of_parts, byte_at}

-- What the writer writes, the reader reads as the same parts.
pub written-reads : WrittenReads
written-reads buffer epoch name file operation «record» accepted =
    let w = write-accepted buffer epoch name file operation «record» accepted in
    rw (
      address-writes buffer epoch name file operation «record» w,
      take_at (address_frame epoch name file operation «record») (drop frame_size buffer) frame_size
          (address-places epoch name file operation «record»).size,
    )
    (address-reads epoch name file operation «record» w.operation-known w.name-fits)

-- What the reader accepts, the writer writes again byte for byte, and past it keeps the buffer.
pub read-writes : ReadWrites
unfolding parts_of
read-writes frame buffer epoch name file operation «record» bytes accepted room =
    let a = read-accepted frame accepted in
    let same = read_same frame accepted in
    let e : get_or frame 1 0 ≡ epoch = ap (λ (p : Parts). p.epoch) same in
    let n : get_or frame 2 0 ≡ name = ap (λ (p : Parts). p.name) same in
    let f : file_number_of (get_or frame 3 0) ≡ file = ap (λ (p : Parts). p.file) same in
    let o : operation_of (get_or frame 3 0) ≡ operation = ap (λ (p : Parts). p.operation) same in
    let r : get_or frame 4 0 ≡ «record» = ap (λ (p : Parts). p.«record») same in
    let w : Write buffer (get_or frame 2 0) (file_number_of (get_or frame 3 0)) (operation_of (get_or frame 3 0)) =
    record {
      fits = long buffer room;
      operation-known = a.operation;
      name-fits = a.name;
      file-known = file-fits _ (omega (arith, byte_at bytes 3));
    }
    in
    rw (← e, ← n, ← f, ← o, ← r)
    (address-writes buffer _ _ _ _ _ w ∙
    ap (λ (l : List ℕ). (done tt, l ++ drop frame_size buffer)) (frame_of_parts frame a))

-- The cases M1 to M5.
pub frame-cases : FrameCases
unfolding result_of read_address read_ground parts_of write_address write_data write_ground data_ground write_frame address_frame data_frame
    address_bytes pb2_of frame_of address_check data_check check_of exclusive_or first_of short_frame_buffer no_address wrong_frame_length wrong_check no_operation broadcast_read no_file_number either both
frame-cases = record {
  m1 = record { reads = refl; writes = refl };
  m2 = record { reads = refl; writes = refl };
  m3 = refl;
  m4 = record { reads = refl; writes = refl };
  m5 = refl;
}
