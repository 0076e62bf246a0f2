-- Back from an answer: what the reader or a writer accepted has no ground.
-- Assumes nothing.
use Prim.Native.Nat.{ℕ}
use mathlib.Core.Path.{◌≡◌, sym}
use mathlib.Core.List.{List}
use mathlib.Core.Bool.{false}
use lib.ListN.{get_or}
use Rattle.file.specs.Rules.Cluster.{operation_of}
use Rattle.file.specs.Rules.Results.{done}
use Rattle.file.proofs.Order.{first-none}
use Rattle.file.proofs.Results.{no_ground, same-value}
use Rattle.frame.specs.Rules.FrameGrounds.{short_frame_buffer, no_operation, broadcast_read, no_file_number}
use Rattle.frame.specs.Rules.Reading.{parts, parts_of, read_ground, read_address}
use Rattle.frame.specs.Rules.Writing.{write_frame, write_ground, write_address}
use Rattle.frame.proofs.Reading.{Formed}

-- what the reader accepted
pub record Read (frame : List ℕ) : Type 0 where
  pub formed : Formed frame
  pub operation : no_operation (operation_of (get_or frame 3 0)) ≡ false
  pub name : broadcast_read (operation_of (get_or frame 3 0)) (get_or frame 2 0) ≡ false

module _ (frame : List ℕ) where
  read_clear : read_ground frame ≡ 0 → Read frame
  unfolding read_ground
  read_clear p =
      let a = first-none 9 _ _ p in
      let b = first-none 10 _ _ a.1 in
      let c = first-none 11 _ _ b.1 in
      let d = first-none 12 _ _ c.1 in
      let e = first-none 13 _ _ d.1 in
      record { formed = record { firework = a.0; size = b.0; check = c.0 }; operation = d.0; name = e.0 }

  module _ {epoch name file operation «record» : ℕ} (accepted : read_address frame ≡ done (parts epoch name file operation «record»)) where
    pub read-accepted : Read frame
    unfolding read_address
    read-accepted = read_clear (no_ground (parts_of frame) (read_ground frame) (sym accepted))

    pub read_same : parts_of frame ≡ parts epoch name file operation «record»
    unfolding read_address
    read_same = sym (same-value (parts_of frame) (read_ground frame) (sym accepted))

-- what the writer of address frames accepted
pub record Write (buffer : List ℕ) (name file operation : ℕ) : Type 0 where
  pub fits : short_frame_buffer buffer ≡ false
  pub operation-known : no_operation operation ≡ false
  pub name-fits : broadcast_read operation name ≡ false
  pub file-known : no_file_number file ≡ false

module _ (buffer : List ℕ) (epoch name file operation «record» : ℕ) where
  write_clear : write_ground buffer name file operation ≡ 0 → Write buffer name file operation
  unfolding write_ground
  write_clear p =
      let a = first-none 8 _ _ p in
      let b = first-none 12 _ _ a.1 in
      let c = first-none 13 _ _ b.1 in
      let d = first-none 17 _ _ c.1 in
      record { fits = a.0; operation-known = b.0; name-fits = c.0; file-known = d.0 }

  pub write-accepted : (write_address buffer epoch name file operation «record»).0 ≡ done tt → Write buffer name file operation
  unfolding write_address write_frame
  write-accepted accepted = write_clear (no_ground tt (write_ground buffer name file operation) (sym accepted))
