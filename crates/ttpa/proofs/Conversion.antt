-- The two calls that convert: the file's form, there and back, and copies.
-- Assumes nothing.
use Prim.Native.Nat.{ℕ}
use mathlib.Core.Path.{◌≡◌, sym, ap, ◌∙◌}
use mathlib.Core.List.{List}
use lib.ListN.{length, get_or, take}
use Rattle.file.specs.Rules.Results.{Result, done, written_in, number_in}
use Rattle.file.specs.Rules.Editions.{in_edition}
use Rattle.convert.specs.Rules.Convert.{convert_on}
use Rattle.convert.proofs.Calls.{convert-written}
use Rattle.convert.proofs.Forms.{calls_come_back, call_widens, call_copies}
use Rattle.ttpa.specs.Rules.Calls.{convert_call, lent_after}
use Rattle.ttpa.specs.Claims.Conversion.{ConversionWritten, ConversionsComeBack, ConversionWidens, ConversionCopies}
use Rattle.ttpa.proofs.Numbers.{convert_number}

-- a conversion that wrote, as a call
call-done :
    (e : ℕ) (file out : List ℕ) (size : ℕ) {n : ℕ} {new : List ℕ} → convert_on file e out ≡ (done n, new) →
    convert_call e file out size ≡ (0, n, new)
unfolding convert_call number_in lent_after
call-done e file out size is = rw is

-- what a call that returned 0 wrote
form-left :
    (e : ℕ) (file out : List ℕ) (size : ℕ) → (convert_call e file out size).0 ≡ 0 →
    convert_on file e out ≡ (done (length (in_edition file e)), written_in out (in_edition file e))
form-left e file out size none = convert-written file e out (sym (convert_number e file out size) ∙ none)

pub conversion_written : ConversionWritten
conversion_written e file out size none = call-done e file out size (form-left e file out size none)

pub conversions_come_back : ConversionsComeBack
conversions_come_back e file out size back again b width none fits =
    let left = form-left e file out size none in
    let there : (convert_on file e out).0 ≡ done (length (in_edition file e)) = ap (λ (r : Result ℕ × List ℕ). r.0) left in
    let returned = calls_come_back file e out back (length (in_edition file e)) b width there fits in
    ap (λ (r : ℕ × ℕ × List ℕ). convert_call (get_or file 2 0) (take r.1 r.2) back again) (conversion_written e file out size none)
    ∙ call-done (get_or file 2 0) (take (length (in_edition file e)) (written_in out (in_edition file e))) back again (rw left at returned)

pub conversion_widens : ConversionWidens
unfolding convert_call number_in
conversion_widens file out size b accepted one room = let (n, is) = call_widens file out b accepted one room in rw is

pub conversion_copies : ConversionCopies
conversion_copies file out size b accepted fits = call-done (get_or file 2 0) file out size (call_copies file out b accepted fits)
