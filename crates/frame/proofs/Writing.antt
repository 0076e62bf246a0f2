-- The writers' answer and buffer, ground by ground: one law for each way that a writer can end.
-- Assumes nothing.
use Prim.Native.Nat.{ℕ, ◌≤◌}
use mathlib.Core.Path.{◌≡◌, refl}
use mathlib.Core.List.{List, [], ◌∷◌, ◌++◌}
use mathlib.Core.Bool.{Bool, true, false}
use lib.ListN.{length, get_or, drop, set}
use lib.Seq.{sets-eq}
use lib.Dec.{eqb}
use native.Mathlib.Omega.{arith}
use Rattle.file.specs.Rules.Order.{first_of}
use Rattle.file.specs.Rules.Bytes.{Byte}
use Rattle.file.specs.Rules.Cluster.{pb2_of}
use Rattle.frame.specs.Rules.Fireworks.{address_firework, data_firework}
use Rattle.frame.specs.Rules.Check.{address_check, data_check}
use Rattle.frame.specs.Rules.Frames.{frame_size, frame_of, address_bytes, address_frame, data_frame}
use Rattle.frame.specs.Rules.FrameGrounds.{short_frame_buffer, no_operation, broadcast_read, no_file_number}
use Rattle.file.specs.Rules.Results.{refused, done, result_of}
use Rattle.frame.proofs.Tests.{operation-low}
use Rattle.frame.specs.Rules.Writing.{write_frame, write_ground, data_ground, write_address, write_data}

-- six stores from the start are the frame, and past it the buffer
pub stored : (buffer : List ℕ) (firework b0 b1 b2 b3 check : ℕ) → frame_size ≤ length buffer
    → set (set (set (set (set (set buffer 0 firework) 1 b0) 2 b1) 3 b2) 4 b3) 5 check
    ≡ frame_of firework (b0 ∷ b1 ∷ b2 ∷ b3 ∷ []) check ++ drop frame_size buffer
unfolding frame_of
stored buffer f a b c d e h = sets-eq (f ∷ a ∷ b ∷ c ∷ d ∷ e ∷ []) buffer 0 h

-- the same of four bytes that are an array
pub bytes_stored : (buffer : List ℕ) (firework : ℕ) (bytes : List ℕ) (check : ℕ) → length bytes ≡ 4 → frame_size ≤ length buffer
    → set (set (set (set (set (set buffer 0 firework) 1 (get_or bytes 0 0)) 2 (get_or bytes 1 0)) 3 (get_or bytes 2 0)) 4 (get_or bytes 3 0)) 5 check
    ≡ frame_of firework bytes check ++ drop frame_size buffer
bytes_stored buffer f (a ∷ b ∷ c ∷ d ∷ []) e size h = stored buffer f a b c d e h
bytes_stored buffer f [] e size h = absurd (omega arith)
bytes_stored buffer f (a ∷ []) e size h = absurd (omega arith)
bytes_stored buffer f (a ∷ b ∷ []) e size h = absurd (omega arith)
bytes_stored buffer f (a ∷ b ∷ c ∷ []) e size h = absurd (omega arith)
bytes_stored buffer f (a ∷ b ∷ c ∷ d ∷ x ∷ l) e size h = absurd (omega arith)

-- file number and operation join to a byte
pub joined-byte : (file operation : ℕ) {t : Bool} → file ≤ 63 → t ≡ no_operation operation → t ≡ false → Byte (pb2_of file operation)
unfolding pb2_of
joined-byte file operation fits known Known-so = omega (arith, operation-low operation known Known-so)

module _ (frame buffer : List ℕ) where
  refuse : {g : ℕ} → eqb g 0 ≡ false → (reason : ℕ) → reason ≡ g → (refused g, buffer) ≡ write_frame reason frame buffer
  unfolding write_frame result_of
  refuse {g} n reason e = rw (e, n)

  accept : (reason : ℕ) → reason ≡ 0 → (done tt, frame ++ drop frame_size buffer) ≡ write_frame reason frame buffer
  unfolding write_frame result_of
  accept reason e = rw e

-- The writer of address frames, ground by ground. The code's tests, check byte and buffer are values of its own, with their equations.
module _ (buffer : List ℕ) (epoch name file operation «record» : ℕ) where
  pub address_9 : short_frame_buffer buffer ≡ true → (refused 9, buffer) ≡ write_address buffer epoch name file operation «record»
  unfolding write_address write_ground first_of
  address_9 p = refuse _ buffer refl _ (rw p)

  module _ {t : Bool} (fits : short_frame_buffer buffer ≡ false) (known : t ≡ no_operation operation) where
    pub address_13 : t ≡ true → (refused 13, buffer) ≡ write_address buffer epoch name file operation «record»
    unfolding write_address write_ground first_of
    address_13 p = refuse _ buffer refl _ (rw (fits, ← known, p))

    module _ {u : Bool} (Known-so : t ≡ false) (reads : u ≡ broadcast_read operation name) where
      pub address_14 : u ≡ true → (refused 14, buffer) ≡ write_address buffer epoch name file operation «record»
      unfolding write_address write_ground first_of
      address_14 p = refuse _ buffer refl _ (rw (fits, ← known, Known-so, ← reads, p))

      pub address_18 : u ≡ false → no_file_number file ≡ true
          → (refused 18, buffer) ≡ write_address buffer epoch name file operation «record»
      unfolding write_address write_ground first_of
      address_18 p q = refuse _ buffer refl _ (rw (fits, ← known, Known-so, ← reads, p, q))

      pub address-written : {byte check : ℕ} {after : List ℕ} → u ≡ false → no_file_number file ≡ false
          → byte ≡ pb2_of file operation → check ≡ address_check (epoch ∷ name ∷ byte ∷ «record» ∷ [])
          → after ≡ frame_of address_firework (epoch ∷ name ∷ byte ∷ «record» ∷ []) check ++ drop frame_size buffer
          → (done tt, after) ≡ write_address buffer epoch name file operation «record»
      unfolding write_address write_ground first_of address_frame address_bytes
      address-written p q joined e left = rw (left, e, joined) (accept _ buffer _ (rw (fits, ← known, Known-so, ← reads, p, q)))

-- the writer of data frames
module _ (buffer bytes : List ℕ) where
  pub data_9 : short_frame_buffer buffer ≡ true → (refused 9, buffer) ≡ write_data buffer bytes
  unfolding write_data data_ground first_of
  data_9 p = refuse _ buffer refl _ (rw p)

  pub data-written : {check : ℕ} {after : List ℕ} → short_frame_buffer buffer ≡ false → check ≡ data_check bytes
      → after ≡ frame_of data_firework bytes check ++ drop frame_size buffer → (done tt, after) ≡ write_data buffer bytes
  unfolding write_data data_ground first_of data_frame
  data-written p e left = rw (left, e) (accept _ buffer _ (rw p))
