-- What stands in a written frame, for those who send it: its places, its bytes, and that the writers write it.
-- Assumes nothing.
use Prim.Native.Nat.{ℕ, zero, suc, ◌+◌, ◌*◌, ◌≤◌, ◌<◌}
use mathlib.Core.Path.{◌≡◌, refl, sym, ◌∙◌}
use mathlib.Core.List.{List, [], ◌∷◌, ◌++◌, append-nil}
use mathlib.Core.Bool.{false}
use native.Mathlib.Omega.{arith}
use lib.ListN.{length, get_or, drop, drop_of_length-le}
use lib.Seq.{set-get_or}
use lib.Bits.{xor_lt}
use Rattle.file.specs.Rules.Cluster.{file_number_of, operation_of, pb2_of}
use Rattle.file.specs.Rules.Bytes.{all_empty, all_next, Byte, Bytes}
use Rattle.frame.specs.Rules.Fireworks.{address_firework}
use Rattle.frame.specs.Rules.Check.{exclusive_or, check_of, address_check, data_check}
use Rattle.frame.specs.Rules.Frames.{frame_size, frame_of, between, address_bytes, address_frame, data_frame}
use Rattle.frame.specs.Rules.FrameGrounds.{no_operation, broadcast_read}
use Rattle.frame.specs.Rules.Reading.{parts, read_address}
use Rattle.file.specs.Rules.Results.{done}
use Rattle.frame.specs.Rules.Writing.{write_address, write_data}
use Rattle.frame.proofs.Tests.{operation-fits, file-fits, long, operation-low, address-first, length-is, check-is}
use Rattle.frame.proofs.Reading.{formed, accept}
use Rattle.frame.proofs.Writing.{stored, address-written, data-written}
use Rattle.frame.proofs.Accepted.{Read, Write}

-- the six places of a frame
pub record Places (firework b0 b1 b2 b3 check : ℕ) (frame : List ℕ) : Type 0 where
  pub size : length frame ≡ frame_size
  pub at_0 : get_or frame 0 0 ≡ firework
  pub at_1 : get_or frame 1 0 ≡ b0
  pub at_2 : get_or frame 2 0 ≡ b1
  pub at_3 : get_or frame 3 0 ≡ b2
  pub at_4 : get_or frame 4 0 ≡ b3
  pub at_5 : get_or frame 5 0 ≡ check

places : (firework b0 b1 b2 b3 check : ℕ) → Places firework b0 b1 b2 b3 check (frame_of firework (b0 ∷ b1 ∷ b2 ∷ b3 ∷ []) check)
unfolding frame_of
places f a b c d e = record { size = refl; at_0 = refl; at_1 = refl; at_2 = refl; at_3 = refl; at_4 = refl; at_5 = refl }

pub address-places : (epoch name file operation «record» : ℕ)
    → Places address_firework epoch name (pb2_of file operation) «record»
    (address_check (epoch ∷ name ∷ pb2_of file operation ∷ «record» ∷ []))
    (address_frame epoch name file operation «record»)
unfolding address_frame address_bytes
address-places epoch name file operation «record» = places _ _ _ _ _ _

-- every check is a byte, and so is every byte of a frame of bytes
exclusive_or_byte : {bytes : List ℕ} → Bytes bytes → Byte (exclusive_or bytes)
unfolding exclusive_or
exclusive_or_byte all_empty = omega arith
exclusive_or_byte (all_next b bs) = xor_lt 8 _ _ b (exclusive_or_byte bs)

-- with a firework folded in
check-byte : {firework : ℕ} {bytes : List ℕ} → Byte firework → Bytes bytes → Byte (check_of firework bytes)
unfolding check_of
check-byte f bs = exclusive_or_byte (all_next f bs)

pub address-check-byte : {bytes : List ℕ} → Bytes bytes → Byte (address_check bytes)
unfolding address_check
address-check-byte bs = check-byte (omega arith) bs

pub data-check-byte : {bytes : List ℕ} → Bytes bytes → Byte (data_check bytes)
unfolding data_check
data-check-byte bs = check-byte (omega arith) bs

frame-bytes : {firework check : ℕ} {bytes : List ℕ} → Byte firework → Bytes bytes → Byte check → Bytes (frame_of firework bytes check)
unfolding frame_of
frame-bytes {check = check} f bs e = all_next f (ended bs)
  where
    ended : {l : List ℕ} → Bytes l → Bytes (l ++ (check ∷ []))
    ended all_empty = all_next e all_empty
    ended (all_next b l) = all_next b (ended l)

pub address-bytes : (epoch name file operation «record» : ℕ) → Byte epoch → Byte name → file ≤ 63 → operation ≤ 3 → Byte «record»
    → Bytes (address_frame epoch name file operation «record»)
unfolding address_frame address_bytes pb2_of
address-bytes epoch name file operation «record» e n f o r =
    let p : Byte (4 * file + operation) = omega arith in
    let bytes : Bytes (epoch ∷ name ∷ (4 * file + operation) ∷ «record» ∷ []) = all_next e (all_next n (all_next p (all_next r all_empty))) in
    frame-bytes (omega arith) bytes (address-check-byte bytes)

pub data-bytes : {bytes : List ℕ} → Bytes bytes → Bytes (data_frame bytes)
unfolding data_frame
data-bytes bs = frame-bytes (omega arith) bs (data-check-byte bs)

-- the writers write these frames
pub write-fits : (buffer : List ℕ) (name file operation : ℕ) → frame_size ≤ length buffer → operation ≤ 2
    → broadcast_read operation name ≡ false → file ≤ 63 → Write buffer name file operation
write-fits buffer name file operation room known named fits =
    record {
      fits = long buffer room;
      operation-known = operation-fits operation known;
      name-fits = named;
      file-known = file-fits file fits;
    }

-- past a frame in a buffer of six bytes there is nothing
pub nothing_past : (frame buffer : List ℕ) → length buffer ≡ frame_size → frame ++ drop frame_size buffer ≡ frame
nothing_past frame buffer h = rw (drop_of_length-le buffer {i = frame_size} (omega arith)) (append-nil frame)

pub address-writes : (buffer : List ℕ) (epoch name file operation «record» : ℕ) → Write buffer name file operation
    → write_address buffer epoch name file operation «record»
    ≡ (done tt, address_frame epoch name file operation «record» ++ drop frame_size buffer)
unfolding address_frame address_bytes pb2_of
address-writes buffer epoch name file operation «record» w =
    sym
    (address-written buffer epoch name file operation «record» w.fits refl w.operation-known refl w.name-fits w.file-known
    refl
    refl
    refl)

pub data-writes : (buffer bytes : List ℕ) → frame_size ≤ length buffer
    → write_data buffer bytes ≡ (done tt, data_frame bytes ++ drop frame_size buffer)
unfolding data_frame
data-writes buffer bytes h = sym (data-written buffer bytes (long buffer h) refl refl)

-- the reader reads an address frame as its parts
pub address-reads : (epoch name file operation «record» : ℕ) → no_operation operation ≡ false → broadcast_read operation name ≡ false
    → read_address (address_frame epoch name file operation «record») ≡ done (parts epoch name file operation «record»)
unfolding address_frame address_bytes pb2_of frame_of
address-reads epoch name file operation «record» known named =
    let low = operation-low operation refl known in
    let f : file_number_of (4 * file + operation) ≡ file = omega arith in
    let o : operation_of (4 * file + operation) ≡ operation = omega arith in
    sym
    (accept (address_frame epoch name file operation «record») (formed _ (λ (z : frame_size ≡ 0). omega arith) refl refl refl refl) refl (sym o)
    refl known refl (sym f) named)

-- a list of six bytes by its places: storing there what stands there changes nothing
by_places : (frame : List ℕ) → length frame ≡ frame_size
    → frame_of (get_or frame 0 0) (between frame) (get_or frame 5 0) ≡ frame
by_places frame h =
    let at : ℕ → ℕ = λ k. get_or frame k 0 in
    sym (nothing_past _ frame h) ∙
    sym (simp set-get_or at (stored frame (at 0) (at 1) (at 2) (at 3) (at 4) (at 5) (omega arith)))

-- an accepted frame is the frame of its parts
pub frame_of_parts : (frame : List ℕ) → Read frame
    → address_frame (get_or frame 1 0) (get_or frame 2 0) (file_number_of (get_or frame 3 0)) (operation_of (get_or frame 3 0)) (get_or frame 4 0) ≡ frame
unfolding address_frame address_bytes pb2_of
frame_of_parts frame a =
    let pb2 : 4 * file_number_of (get_or frame 3 0) + operation_of (get_or frame 3 0) ≡ get_or frame 3 0 = omega arith in
    rw (pb2, ← check-is frame address_check a.formed.check, ← address-first frame a.formed.firework)
    (by_places frame (length-is frame frame_size a.formed.size))

pub byte_at : {bytes : List ℕ} → Bytes bytes → (k : ℕ) → get_or bytes k 0 < 256
byte_at all_empty k = omega arith
byte_at (all_next b bs) zero = b
byte_at (all_next b bs) (suc k) = byte_at bs k
