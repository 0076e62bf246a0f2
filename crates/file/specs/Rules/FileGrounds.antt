-- Grounds 1 to 8 (document 01, "Grounds for turning something away") and 22 (document 02, job 5), each by its own name, and the first
-- of them that holds. Those of the file's bytes are by w, the bytes of an offset, with the numbers of the edition of that width
-- (document 02, job 10): at the width of the file's own edition they are the file's.
use Rattle.std.specs.Prelude.{ℕ, zero, suc, ◌+◌, ◌*◌, List, [], ◌∷◌, ◌++◌, map, Bool, true, false, cond, not, length, get_or, eqb, leb, ltb}
use Rattle.file.specs.Rules.Bytes.{part, all_zero}
use Rattle.file.specs.Rules.Order.{Ground, first_of, both, either}
use Rattle.file.specs.Rules.Layout.{width_of, edition_of, pending_flag, zeros_length}
use Rattle.file.specs.Rules.Layout.{header_size, entry_size_lem, fill_length, max_slaves, max_length}
use Rattle.file.specs.Rules.Layout.{mark_place, edition_place, count_place, table_place, length_place, zeros_place}
use Rattle.file.specs.Rules.Layout.{flag_place, pending_name_place, pending_pb2_place}
use Rattle.file.specs.Rules.Cluster.{Slave, bytes_in, last_record, configuration, documentation, physical_name, logical_names, unnamed, operation_of, no_operation, broadcast_read}
use Rattle.file.specs.Rules.Decode.{offset_at, file_size, decode_at}
use Rattle.file.specs.Rules.Results.{Result, result_of}

-- ---- 1 to 5: the header

-- 1. "The file is shorter than 16 or longer than 32,768 bytes."; "The length limits of number 1 are edition 2's (24 and 65,536) if byte 2
-- is present and is 2, otherwise those of edition 1" (document 02, job 10)
unfoldable pub wrong_size : ℕ → List ℕ → Bool
wrong_size w f = either (ltb (length f) (header_size w)) (ltb (max_length w) (length f))

-- 2. "The mark is wrong."
unfoldable pub wrong_mark : List ℕ → Bool
wrong_mark f = not (both (eqb (get_or f mark_place 0) 0x54) (eqb (get_or f (mark_place + 1) 0) 0x41))

-- 3. "The edition is not 1."; "numbers 3 to 5 use the edition's own values" (document 02, job 10): at the file's own width it is that the
-- edition is neither 1 nor 2
unfoldable pub wrong_edition : ℕ → List ℕ → Bool
wrong_edition w f = not (eqb (get_or f edition_place 0) (edition_of w))

-- 4. "The length field is not the file's length.": it begins at byte 6 in edition 1, at byte 8 in edition 2
unfoldable pub wrong_length : ℕ → List ℕ → Bool
wrong_length w f = not (eqb (offset_at w f (length_place w)) (length f))

-- "the flag is above 1, or the flag is 1 with operation 3 or with a broadcast read"
unfoldable pub wrong_pending : ℕ → ℕ → ℕ → Bool
wrong_pending flag name pb2 =
    either (ltb pending_flag flag)
    (both (eqb flag pending_flag) (either (no_operation (operation_of pb2)) (broadcast_read (operation_of pb2) name)))

-- 5. "The count is above 32, the table offset is not 16, a header zero is not zero, the flag ..": the count is byte 3, the offset begins
-- at byte 4; in edition 1 the zeros begin at byte 13, and the flag, the pending logical name and PB2 are bytes 9, 10 and 11; in edition
-- 2 the count may be 64, the table offset is 24, the zeros begin at byte 17, and the flag, the pending logical name and PB2 are bytes 13,
-- 14 and 15
unfoldable pub wrong_header : ℕ → List ℕ → Bool
wrong_header w f =
    either (ltb (max_slaves w) (get_or f count_place 0))
    (either (not (eqb (offset_at w f table_place) (header_size w)))
    (either (not (all_zero (part f (zeros_place w) (zeros_length w))))
    (wrong_pending (get_or f (flag_place w) 0) (get_or f (pending_name_place w) 0) (get_or f (pending_pb2_place w) 0))))

-- ---- 6: the layout, walked entry by entry along the running place, the one legal value of the next offset

-- a walk broke the layout, or came to a place
pub data Walk : Type 0 where
  broken : Walk
  to : ℕ → Walk

-- on from where a walk came to
unfoldable pub and_then : Walk → (ℕ → Walk) → Walk
and_then broken k = broken
and_then (to place) k = k place

-- the directory entry at d is good: its file number is low or more and at most 63, its r is 1 or more (and, a byte, at most 255),
-- its offset is the place, and its file ends within the bytes
unfoldable pub good_entry : ℕ → List ℕ → ℕ → ℕ → ℕ → Bool
good_entry w f d low place =
    both (leb low (get_or f d 0))
    (both (leb (get_or f d 0) 63)
    (both (leb 1 (get_or f (d + 1) 0))
    (both (all_zero (part f (d + 2) (fill_length w)))
    (both (eqb (offset_at w f (d + w)) place) (leb (place + file_size (get_or f (d + 1) 0)) (length f))))))

-- k directory entries from d on, file numbers from low on, the next file at the place
unfoldable pub walk_directory : ℕ → List ℕ → ℕ → ℕ → ℕ → ℕ → Walk
walk_directory w f d low place zero = to place
walk_directory w f d low place (suc k) =
    let rest = walk_directory w f (d + entry_size_lem w) (suc (get_or f d 0)) (place + file_size (get_or f (d + 1) 0)) k in
    cond (good_entry w f d low place) rest broken

-- the table entry at t is good: its offset is the place, its sleep byte is 0 or 1, its zeros are zero, and its directory ends within
-- the bytes
unfoldable pub good_table_entry : ℕ → List ℕ → ℕ → ℕ → Bool
good_table_entry w f t place =
    both (eqb (offset_at w f t) place)
    (both (leb (get_or f (t + w + 1) 0) 1)
    (both (all_zero (part f (t + w + 2) (fill_length w)))
    (leb (place + entry_size_lem w * get_or f (t + w) 0) (length f))))

-- the slave of the table entry at t, its directory at the place
unfoldable pub walk_slave : ℕ → List ℕ → ℕ → ℕ → Walk
walk_slave w f t place =
    let files = walk_directory w f place 0 (place + entry_size_lem w * get_or f (t + w) 0) (get_or f (t + w) 0) in
    cond (good_table_entry w f t place) files broken

-- n slaves from the table entry at t on
unfoldable pub walk_slaves : ℕ → List ℕ → ℕ → ℕ → ℕ → Walk
walk_slaves w f t place zero = to place
walk_slaves w f t place (suc n) = and_then (walk_slave w f t place) (λ next. walk_slaves w f (t + entry_size_lem w) next n)

-- the whole file: the table ends within the bytes, and the slaves end with the last byte
unfoldable pub table_end : ℕ → List ℕ → ℕ
table_end w f = header_size w + entry_size_lem w * get_or f count_place 0

unfoldable pub walk_file : ℕ → List ℕ → Walk
walk_file w f =
    let slaves = walk_slaves w f (header_size w) (table_end w f) (get_or f count_place 0) in
    cond (leb (table_end w f) (length f)) slaves broken

unfoldable pub ends_at : Walk → ℕ → Bool
ends_at broken n = false
ends_at (to place) n = eqb place n

-- 6. "An entry's zero, an offset, a file number, a record count or the end breaks the layout."; "Number 6 now refuses a sleep byte above
-- 1." (document 02, job 9)
unfoldable pub broken_layout : ℕ → List ℕ → Bool
broken_layout w f = not (ends_at (walk_file w f) (length f))

-- ---- 7 and 8: the slaves

-- "Every slave has file 0x08 (configuration) with r at least 3 and file 0x3D (documentation, 000) with r at least 2."
unfoldable pub has_needed : Slave → Bool
has_needed s = both (leb 3 (last_record (bytes_in s configuration))) (leb 2 (last_record (bytes_in s documentation)))

unfoldable pub all_have_needed : List Slave → Bool
all_have_needed [] = true
all_have_needed (s ∷ ss) = both (has_needed s) (all_have_needed ss)

-- 7. "A slave lacks 0x08 or 0x3D in the needed size."
unfoldable pub lacks_needed : ℕ → List ℕ → Bool
lacks_needed w f = not (all_have_needed (decode_at w f).slaves)

unfoldable pub is_among : ℕ → List ℕ → Bool
is_among n [] = false
is_among n (m ∷ ms) = either (eqb n m) (is_among n ms)

unfoldable pub has_repeat : List ℕ → Bool
has_repeat [] = false
has_repeat (n ∷ ns) = either (is_among n ns) (has_repeat ns)

-- 8. "Two slaves have equal physical names."
unfoldable pub equal_physical_names : ℕ → List ℕ → Bool
equal_physical_names w f = has_repeat (map physical_name (decode_at w f).slaves)

-- ---- "Checked in this order"

-- "Equal logical names do not refuse a file.": none of these grounds is about a logical name; "rounds may still run on a file that came
-- to hold them" (document 02, job 5)
unfoldable pub file_grounds_at : ℕ → List ℕ → List Ground
file_grounds_at w f =
    (1, wrong_size w f) ∷ (2, wrong_mark f) ∷ (3, wrong_edition w f) ∷ (4, wrong_length w f) ∷ (5, wrong_header w f) ∷
    (6, broken_layout w f) ∷ (7, lacks_needed w f) ∷ (8, equal_physical_names w f) ∷ []

-- the number by which a file is refused, 0 where it is accepted
unfoldable pub file_ground_at : ℕ → List ℕ → ℕ
file_ground_at w f = first_of (file_grounds_at w f)

-- at the width of the file's edition
unfoldable pub file_grounds : List ℕ → List Ground
file_grounds f = file_grounds_at (width_of f) f

unfoldable pub file_ground : List ℕ → ℕ
file_ground f = file_ground_at (width_of f) f

-- ---- 22: "Loading a file from outside (the checker's call and the listing program, nothing else)"

-- the names other than 0xFF, those that a slave holds: 0x00 is one of them
unfoldable pub held_names : List ℕ → List ℕ
held_names [] = []
held_names (n ∷ ns) = cond (eqb n unnamed) (held_names ns) (n ∷ held_names ns)

-- 22. "equal logical names on loading": "two slaves with one logical name other than 0xFF"
unfoldable pub equal_logical_names : ℕ → List ℕ → Bool
equal_logical_names w f = has_repeat (held_names (logical_names (decode_at w f)))

-- "after 8"
unfoldable pub load_ground : List ℕ → ℕ
load_ground f = first_of (file_grounds f ++ (22, equal_logical_names (width_of f) f) ∷ [])

-- what the checker's call answers
unfoldable pub load_verdict : List ℕ → Result (Unit {0})
load_verdict f = result_of (load_ground f) tt
