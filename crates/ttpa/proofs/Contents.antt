-- The call that reads a slave's file: its number, and what it tells and leaves.
-- Assumes nothing.
use Prim.Native.Nat.{ℕ, ◌≤◌}
use mathlib.Core.Path.{◌≡◌, refl, sym, ◌∙◌, subst}
use mathlib.Core.List.{List, [], ◌∷◌}
use mathlib.Core.Bool.{true, false}
use lib.ListN.{length, take, replicate}
use lib.Dec.{eqb}
use borrow.Author.Tests.{eqb-true}
use Rattle.file.specs.Rules.Bytes.{Bytes}
use Rattle.file.specs.Rules.Results.{written_in, number_in}
use Rattle.file.specs.Rules.FileGrounds.{file_ground}
use Rattle.file.proofs.Order.{by_case}
use Rattle.file.proofs.BytesBelow.{bytes_below}
use Rattle.contents.specs.Rules.Contents.{contents_in, contents_on}
use Rattle.contents.proofs.Calls.{contents-read}
use Rattle.contents.proofs.ContentsRead.{none_exactly, most_bytes, left_by}
use Rattle.contents.proofs.Examples.{narrow, wide, of_narrow, of_wide}
use Rattle.ttpa.specs.Rules.Calls.{lent_after, contents_call}
use Rattle.ttpa.specs.Claims.Contents.{ContentsNumbers, ContentsOf, ContentsLeft, LengthAlone}
use Rattle.ttpa.proofs.Numbers.{contents-number}

pub contents-numbers : ContentsNumbers
contents-numbers = contents-number

-- a call on an accepted file
contents-told :
    (file : List ℕ) (slave number : ℕ) (buffer : List ℕ) (size : ℕ) → file_ground file ≡ 0 →
    contents_call file slave number buffer size ≡
    (0, length (contents_in file slave number), written_in buffer (take (length buffer) (contents_in file slave number)))
unfolding contents_call number_in lent_after
contents-told file slave number buffer size accepted = rw (contents-read file slave number buffer accepted)

pub contents-left : ContentsLeft
contents-left file slave number buffer size b none =
    let accepted : file_ground file ≡ 0 = sym (contents-number file slave number buffer size) ∙ none in
    let bytes = contents_in file slave number in
    subst (λ (r : ℕ × ℕ × List ℕ). ContentsOf file slave number buffer r.1 r.2) (sym (contents-told file slave number buffer size accepted))
    (record {
      size = refl;
      bytes = left_by bytes buffer;
      none = none_exactly file b accepted slave number;
      most = most_bytes file b accepted slave number;
    })

pub length_alone : LengthAlone
unfolding contents_call contents_on number_in lent_after written_in
length_alone file slave number buffer size = by_case (eqb (file_ground file) 0) (λ t. rw t) (λ t. rw t)

-- ---- a call that returns 0, computed

abbrev room : List ℕ
room = replicate 10 0xEE

call_returns : (contents_call narrow 0 0x02 room 5).0 ≡ 0
call_returns = contents-number narrow 0 0x02 room 5 ∙ of_narrow.accepted

pub called_left : ContentsOf narrow 0 0x02 room (contents_call narrow 0 0x02 room 5).1 (contents_call narrow 0 0x02 room 5).2
called_left = contents-left narrow 0 0x02 room 5 (bytes_below narrow of_narrow.bytes) call_returns

pub called_told : contents_call narrow 0 0x02 room 5 ≡ (0, 8, 0xE0 ∷ 0xE1 ∷ 0xE2 ∷ 0xE3 ∷ 0x40 ∷ 0x01 ∷ 0x11 ∷ 0x01 ∷ 0xEE ∷ 0xEE ∷ [])
unfolding contents_call number_in lent_after
called_told = rw of_narrow.room_left

pub wide_told : contents_call wide 0 0x02 room 5 ≡ (0, 8, 0xE0 ∷ 0xE1 ∷ 0xE2 ∷ 0xE3 ∷ 0x40 ∷ 0x01 ∷ 0x11 ∷ 0x01 ∷ 0xEE ∷ 0xEE ∷ [])
unfolding contents_call number_in lent_after
wide_told = rw of_wide.room_left

-- the length without a buffer, and that of a slave that is not there: in each the length's word is written
pub length-told : contents_call narrow 0 0x02 [] 5 ≡ (0, 8, [])
unfolding contents_call number_in lent_after
length-told = rw of_narrow.no_room

pub none_told : contents_call narrow 2 0x08 (replicate 8 0xEE) 5 ≡ (0, 0, replicate 8 0xEE)
unfolding contents_call number_in lent_after
none_told = rw of_narrow.behind

-- a byte less of the file: nothing is told
pub cut_told : contents_call (take 119 narrow) 0 0x02 (replicate 8 0xEE) 5 ≡ (4, 5, replicate 8 0xEE)
unfolding contents_call number_in lent_after
cut_told = rw of_narrow.cut
