-- The call on two of the files of Examples: one that 23, 20 and 21 are all about is refused by 23 and its buffer stays as it was; one is
-- written whole, and past what is written the buffer keeps its content; and the same with its slave asleep.
-- Assumes nothing.
use Rattle.std.proofs.Common.{ℕ, ◌<◌, ◌≡◌, refl, sym, ap, ◌∙◌, List, [], ◌∷◌, map, true, false, length, replicate, set, ltb, arith, lt-ltb}
use Rattle.file.specs.Rules.Layout.{width_of}
use Rattle.file.specs.Rules.Order.{first_of, both, either}
use Rattle.file.specs.Rules.Results.{Result, refused, done, written_in}
use Rattle.file.specs.Rules.Bytes.{number_of, part, all_zero}
use Rattle.file.specs.Rules.Cluster.{is_awake, bytes_among, bytes_in, last_record, physical_name}
use Rattle.file.specs.Rules.Decode.{decode, decode_at, slaves_at, slave_at, files_at, file_at, file_size, offset_at}
use Rattle.file.specs.Rules.FileGrounds.{is_among, has_repeat, file_ground, file_ground_at, file_grounds_at, wrong_size, wrong_mark, wrong_edition, wrong_length}
use Rattle.file.specs.Rules.FileGrounds.{wrong_header, wrong_pending, broken_layout, walk_file, table_end, walk_slaves, and_then, walk_slave, good_table_entry}
use Rattle.file.specs.Rules.FileGrounds.{walk_directory, good_entry, ends_at, lacks_needed, all_have_needed, has_needed, equal_physical_names}
use Rattle.owner.specs.Rules.OwnerFile.{owner_file}
use Rattle.owner.specs.Rules.OwnerWriting.{too_short, owner_ground, owner_on}
use Rattle.owner.specs.Claims.Call.{files_of}
use Rattle.owner.proofs.Examples.{eight, outranked, examples}
use Rattle.owner.proofs.Calls.{multiplexed_decides, none-holds, owner-refused, owner-written}
use Rattle.owner.proofs.Asleep.{planned-awake}

eight-accepted : file_ground eight ≡ 0
unfolding file_ground file_ground_at file_grounds_at first_of both either wrong_size wrong_mark wrong_edition wrong_length wrong_header wrong_pending all_zero part
    number_of offset_at broken_layout walk_file table_end walk_slaves and_then walk_slave good_table_entry walk_directory good_entry file_size ends_at lacks_needed
    all_have_needed has_needed last_record width_of decode_at slaves_at slave_at files_at file_at equal_physical_names has_repeat is_among physical_name bytes_in
    bytes_among
eight-accepted = refl

outranked_accepted : file_ground outranked ≡ 0
unfolding eight-accepted
outranked_accepted = refl

-- ---- refused by 23

module _ (master : ℕ) where
  outranked_short : too_short [] master (decode outranked).slaves ≡ true
  unfolding too_short owner_file
  outranked_short =
      let some : 0 < length (owner_file master (decode outranked).slaves) = omega arith in
      lt-ltb 0 (length (owner_file master (decode outranked).slaves)) some

  outranked_refused : owner_on outranked master [] ≡ (refused 23, [])
  outranked_refused =
      let first : owner_ground outranked master [] ≡ 23 = multiplexed_decides outranked master [] outranked_accepted examples.outranked_send in
      owner-refused outranked master [] (λ z. omega (arith, first, z)) ∙ rw first

-- ---- written

-- six bytes more than the owner file has
buffer : List ℕ
buffer = replicate 50 0xEE

eight_fits : too_short buffer 1 (decode eight).slaves ≡ false
unfolding too_short buffer
eight_fits = ap (λ (l : List ℕ). ltb (length buffer) (length l)) examples.eight_owners

-- the answer, and the buffer with these bytes in front
answer_with : List ℕ → Result ℕ × List ℕ
answer_with bytes = (done (length bytes), written_in buffer bytes)

eight-written :
    owner_on eight 1 buffer ≡ (
      done 44,
      0x00 ∷ 0x00 ∷ 0x00 ∷ 0x00 ∷ 0x03 ∷ 0x00 ∷ 0x06 ∷ 0x07 ∷ 0x08 ∷ 0x00 ∷ 0x09 ∷ 0x0A ∷ 0x01 ∷ 0x02 ∷ 0x02 ∷ 0x02 ∷ 0x02 ∷ 0x02 ∷ 0x02 ∷ 0x02 ∷ 0x02 ∷
          0x00 ∷ 0x00 ∷ 0x00 ∷ 0x01 ∷ 0x00 ∷ 0x00 ∷ 0x00 ∷ 0x01 ∷ 0x00 ∷ 0x00 ∷ 0x00 ∷ 0x01 ∷ 0x00 ∷ 0x00 ∷ 0x00 ∷ 0x01 ∷ 0x00 ∷ 0x00 ∷ 0x00 ∷ 0x01 ∷ 0x00 ∷
          0x00 ∷ 0x00 ∷ 0xEE ∷ 0xEE ∷ 0xEE ∷ 0xEE ∷ 0xEE ∷ 0xEE ∷ [],
    )
unfolding written_in buffer answer_with
eight-written =
    let none : owner_ground eight 1 buffer ≡ 0 = none-holds eight 1 buffer eight-accepted examples.eight_none examples.eight_once eight_fits in
    owner-written eight 1 buffer none
    ∙ ap answer_with examples.eight_owners

-- ---- written as if it were awake

abbrev eight_asleep : List ℕ
eight_asleep = set eight 19 1

eight-asleep-accepted : file_ground eight_asleep ≡ 0
unfolding eight-accepted
eight-asleep-accepted = refl

eight-asleep : map is_awake (decode eight_asleep).slaves ≡ false ∷ []
unfolding eight-accepted decode is_awake
eight-asleep = refl

eight-same : files_of (decode eight_asleep) ≡ files_of (decode eight)
unfolding eight-accepted decode
eight-same = refl

eight-planned-awake : owner_on eight_asleep 1 buffer ≡ owner_on eight 1 buffer
eight-planned-awake = planned-awake eight eight_asleep (eight-asleep-accepted ∙ sym eight-accepted) eight-same 1 buffer
