-- Files of edition 2 that 25 refuses to narrow: one by its 33 slaves, one by its edition-1 form, which is above 32,768 bytes.
-- Assumes nothing.
use Rattle.std.proofs.Common.{ℕ, arith, ◌≡◌, ap, List, [], true, length, lt-ltb, le-ltb}
use Rattle.file.specs.Rules.Order.{either}
use Rattle.file.specs.Rules.Cluster.{Cluster}
use Rattle.file.specs.Rules.Encode.{file_length}
use Rattle.file.specs.Rules.Decode.{decode}
use Rattle.file.specs.Rules.Editions.{exceeds}
use Rattle.file.proofs.Width.{two_widths}
use Rattle.convert.specs.Rules.Convert.{convert_ground}
use Rattle.convert.specs.Claims.ConversionGrounds.{Narrowed}
use Rattle.convert.proofs.ConversionGrounds.{grounds_in_order, only_narrowing}
use Rattle.convert.proofs.Numbered.{slaves_below, count-below, long-below, file_of, Fits, file-bytes, file-accepted, file-decoded, wide_fits}

over_refused : (r n : ℕ) → Fits 2 r 0 n → exceeds 2 (slaves_below r 0 n) ≡ true → (out : List ℕ) → convert_ground (file_of 2 r 0 n) 1 out ≡ 25
over_refused r n h over out =
    let slaves : (decode (file_of 2 r 0 n)).slaves ≡ slaves_below r 0 n = ap (λ (c : Cluster). c.slaves) (file-decoded 2 r 0 n h) in
    grounds_in_order.limits (file_of 2 r 0 n) 1 out (file-accepted 2 r 0 n h) (rw slaves over)

-- more than 32 slaves
many_fits : Fits 2 3 0 33
many_fits = wide_fits 3 0 33 (omega arith) (omega arith) (omega arith) (omega arith) (omega arith)

many_over : exceeds 2 (slaves_below 3 0 33) ≡ true
unfolding exceeds either
many_over = rw (lt-ltb 32 (length (slaves_below 3 0 33)) (omega (arith, count-below 3 0 33)))

pub many_refused : (out : List ℕ) → convert_ground (file_of 2 3 0 33) 1 out ≡ 25
many_refused = over_refused 3 33 many_fits many_over

-- so that what is claimed of 25 has its premises
pub many_narrowed : Narrowed (file_of 2 3 0 33) 1
many_narrowed = only_narrowing (file_of 2 3 0 33) 1 [] (file-bytes 2 3 0 33 many_fits) two_widths.0 (many_refused [])

-- no more, but each with a file 0x08 of 1,024 bytes
long_over : exceeds 2 (slaves_below 255 0 32) ≡ true
unfolding exceeds either
long_over =
    rw (
      le-ltb 32 (length (slaves_below 255 0 32)) (omega (arith, count-below 255 0 32)),
      lt-ltb 32768 (file_length 2 (slaves_below 255 0 32)) (omega (arith, long-below 255 0 2 32)),
    )

pub long-refused : (out : List ℕ) → convert_ground (file_of 2 255 0 32) 1 out ≡ 25
long-refused = over_refused 255 32 (wide_fits 255 0 32 (omega arith) (omega arith) (omega arith) (omega arith) (omega arith)) long_over
