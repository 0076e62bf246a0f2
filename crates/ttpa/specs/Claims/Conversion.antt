-- What the two calls that convert leave in lent memory, the edition being 1 or 2 (document 02, job 10: "Widening and then narrowing
-- restores the same bytes. Converting to the edition a file already has copies it.").
use Rattle.std.specs.Prelude.{ℕ, ◌*◌, ◌≤◌, ◌≡◌, List, length, get_or, take}
use Rattle.file.specs.Rules.Bytes.{Bytes}
use Rattle.file.specs.Rules.Layout.{OffsetWidth, width_in}
use Rattle.file.specs.Rules.Results.{written_in}
use Rattle.file.specs.Rules.Editions.{in_edition}
use Rattle.file.specs.Rules.FileGrounds.{file_ground}
use Rattle.ttpa.specs.Rules.Calls.{convert_call}

-- a call that returns 0 leaves the file's form in that edition, and its length: from there on the program may go on with the form, of which
-- the other claims on both editions speak
abbrev pub ConversionWritten : Type 0
ConversionWritten =
    (e : ℕ) (file out : List ℕ) (size : ℕ) → (convert_call e file out size).0 ≡ 0 →
    convert_call e file out size ≡ (0, length (in_edition file e), written_in out (in_edition file e))

-- there and back, by the length that the first call leaves: the second refuses no buffer that has room for the file
abbrev pub ConversionsComeBack : Type 0
ConversionsComeBack =
    (e : ℕ) (file out : List ℕ) (size : ℕ) (back : List ℕ) (again : ℕ) → Bytes file → OffsetWidth (width_in e) →
    (convert_call e file out size).0 ≡ 0 → length file ≤ length back →
    convert_call (get_or file 2 0) (take (convert_call e file out size).1 (convert_call e file out size).2) back again
    ≡ (0, length file, written_in back file)

-- a file of edition 1 is widened into every buffer that is twice as long
abbrev pub ConversionWidens : Type 0
ConversionWidens =
    (file out : List ℕ) (size : ℕ) → Bytes file → file_ground file ≡ 0 → get_or file 2 0 ≡ 1 → 2 * length file ≤ length out →
    (convert_call 2 file out size).0 ≡ 0

abbrev pub ConversionCopies : Type 0
ConversionCopies =
    (file out : List ℕ) (size : ℕ) → Bytes file → file_ground file ≡ 0 → length file ≤ length out →
    convert_call (get_or file 2 0) file out size ≡ (0, length file, written_in out file)
