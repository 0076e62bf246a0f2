-- What a conversion leaves in the buffer (document 02, job 10: "Widening and then narrowing restores the same bytes. Converting to the
-- edition a file already has copies it.").
use Rattle.std.specs.Prelude.{ℕ, ◌*◌, ◌≤◌, ◌≡◌, ◌↔◌, List, false, length, get_or, take}
use Rattle.file.specs.Rules.Bytes.{Bytes}
use Rattle.file.specs.Rules.Layout.{OffsetWidth, width_in}
use Rattle.file.specs.Rules.Results.{done, written_in}
use Rattle.file.specs.Rules.Decode.{decode}
use Rattle.file.specs.Rules.Changes.{with_edition}
use Rattle.file.specs.Rules.Editions.{in_edition, exceeds}
use Rattle.file.specs.Rules.FileGrounds.{file_ground, load_ground}
use Rattle.convert.specs.Rules.Convert.{convert_on}

-- where the call writes, and how many bytes: the file is accepted, the edition's limits and the buffer have room for its form
pub record Writable (f : List ℕ) (e : ℕ) (out : List ℕ) (n : ℕ) : Type 0 where
  pub accepted : file_ground f ≡ 0
  pub within : exceeds (width_in e) (decode f).slaves ≡ false
  pub room : length (in_edition f e) ≤ length out
  pub count : n ≡ length (in_edition f e)

abbrev pub WrittenExactly : Type 0
WrittenExactly =
    (f : List ℕ) (e : ℕ) (out : List ℕ) (n : ℕ) → OffsetWidth (width_in e) → ((convert_on f e out).0 ≡ done n) ↔ Writable f e out n

-- the bytes that a call wrote: the form of which the claims on rounds and calls speak, an accepted file of that edition with the same
-- cluster, which loads where the file did
pub record Written (f : List ℕ) (e : ℕ) (bytes : List ℕ) : Type 0 where
  pub form : bytes ≡ in_edition f e
  pub accepted : file_ground bytes ≡ 0
  pub edition : get_or bytes 2 0 ≡ e
  pub cluster : decode bytes ≡ with_edition (decode f) e
  pub loads : load_ground bytes ≡ load_ground f

abbrev pub CallConverts : Type 0
CallConverts =
    (f : List ℕ) (e : ℕ) (out : List ℕ) (n : ℕ) → Bytes f → OffsetWidth (width_in e) → (convert_on f e out).0 ≡ done n →
    Written f e (take n (convert_on f e out).1)

-- "Widening and then narrowing restores the same bytes.", and narrowing and then widening: the second call refuses no buffer that has room
-- for the file
abbrev pub CallsComeBack : Type 0
CallsComeBack =
    (f : List ℕ) (e : ℕ) (out back : List ℕ) (n : ℕ) → Bytes f → OffsetWidth (width_in e) → (convert_on f e out).0 ≡ done n →
    length f ≤ length back → convert_on (take n (convert_on f e out).1) (get_or f 2 0) back ≡ (done (length f), written_in back f)

-- a file of edition 1 is widened into every buffer that is twice as long
abbrev pub CallWidens : Type 0
CallWidens =
    (f out : List ℕ) → Bytes f → file_ground f ≡ 0 → get_or f 2 0 ≡ 1 → 2 * length f ≤ length out → (n : ℕ) × ((convert_on f 2 out).0 ≡ done n)

-- "Converting to the edition a file already has copies it."
abbrev pub CallCopies : Type 0
CallCopies =
    (f out : List ℕ) → Bytes f → file_ground f ≡ 0 → length f ≤ length out →
    convert_on f (get_or f 2 0) out ≡ (done (length f), written_in out f)
