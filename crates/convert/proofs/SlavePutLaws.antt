-- A slave's directory and the run of its files behind it.
-- Assumes nothing.
use Rattle.std.proofs.Common.{ℕ, ◌+◌, ◌*◌, ◌-◌, ◌≤◌, arith, ◌≡◌, sym, ap, ◌∙◌, List, w64, Fits, length}
use Rattle.file.specs.Rules.Bytes.{part}
use Rattle.file.specs.Rules.Layout.{entry_size_lem}
use Rattle.file.specs.Rules.Encode.{directory, contents, slave_size, slave_bytes}
use Rattle.file.specs.Rules.Decode.{decode}
use Rattle.file.specs.Inner.Places.{slave_of}
use Rattle.file.proofs.Sizes.{directory-length}
use Rattle.file.proofs.AtWidth.{becomes-at}
use Rattle.file.proofs.ReaderLaws.{length_limit}
use Rattle.convert.specs.Inner.Putting.{Put}
use Rattle.convert.specs.Inner.Slaves.{slave_start, SlaveRead, SlaveFits, DirectoryDone, SlaveDone}
use Rattle.convert.proofs.Putting.{put-room, put_same, put_then}
use Rattle.convert.proofs.SlaveLaws.{contents-there}
use Rattle.convert.proofs.ReadLaws.{start_is, run_is, run-within, next-starts}

module _ {f : List ℕ} {w s a n : ℕ} (r : SlaveRead f w s a) (files : n ≡ length (slave_of (decode f) s).files) where
  module _ {v at : ℕ} {old new : List ℕ} {end : ℕ} (d : DirectoryDone v at (slave_of (decode f) s) old new end) where
    end_is : end ≡ at + 2 * v * n + length (contents (slave_of (decode f) s).files)
    unfolding slave_size
    end_is = rw files (omega (arith, d.ends))

    pub files_order : at + 2 * v * n ≤ end
    files_order = omega (arith, end_is)

    behind-is : a + 2 * w * n + (end - (at + 2 * v * n)) ≡ slave_start w (decode f) (s + 1)
    behind-is = omega (arith, end_is, run_is r files)

    pub behind-fits : Fits w64 (a + 2 * w * n + (end - (at + 2 * v * n)))
    behind-fits = record { fits = omega (arith, behind-is, run-within r, length_limit r.file) }

    pub run_inside : a + 2 * w * n + (end - (at + 2 * v * n)) ≤ length f
    run_inside = omega (arith, behind-is, run-within r)

    run_length : a + 2 * w * n + (end - (at + 2 * v * n)) - (a + 2 * w * n) ≡ length (contents (slave_of (decode f) s).files)
    run_length = omega (arith, end_is)

    run-contents : part f (a + 2 * w * n) (a + 2 * w * n + (end - (at + 2 * v * n)) - (a + 2 * w * n)) ≡ contents (slave_of (decode f) s).files
    run-contents = rw (run_length, start_is r, files) (contents-there (becomes-at r.width r.file) s r.there)

    pub run_room : SlaveFits v old at (slave_of (decode f) s) → at + 2 * v * n + (a + 2 * w * n + (end - (at + 2 * v * n)) - (a + 2 * w * n)) ≤ length new
    run_room fits = omega (arith, run_length, end_is, d.ends, fits.room, put-room d.put)

    pub slave-done : {out : List ℕ} → SlaveFits v old at (slave_of (decode f) s)
        → Put new (at + 2 * v * n) (part f (a + 2 * w * n) (a + 2 * w * n + (end - (at + 2 * v * n)) - (a + 2 * w * n))) out
        → SlaveDone v f s at old out (a + 2 * w * n + (end - (at + 2 * v * n))) end
    unfolding slave_bytes
    slave-done fits run =
        let xs = (slave_of (decode f) s).files in
        let there : at + 2 * v * n ≡ at + length (directory v (at + entry_size_lem v * length xs) xs) =
        ap (λ (k : ℕ). at + k) (ap (λ (k : ℕ). 2 * v * k) files ∙ sym (directory-length fits.width.least (at + entry_size_lem v * length xs) xs))
        in
        record {
          put = put_then d.put there (put_same run-contents run);
          ends = d.ends;
          starts = next-starts r behind-is;
        }
