-- What the claims ask can be met: files that 30 refuses to join, by the slaves and by the bytes of either edition; small files that are
-- joined, load, hold a name on both sides, and have both forms.
-- Assumes nothing.
use Rattle.std.proofs.Common.{ℕ, ◌+◌, ◌*◌, arith, ◌≡◌, refl, sym, ap, ap₂, ◌∙◌, subst, List, true, false, length, take}
use Rattle.file.specs.Rules.Layout.{width_in}
use Rattle.file.specs.Rules.Cluster.{Cluster, no_slave_lem, logical_name}
use Rattle.file.specs.Rules.Encode.{file_length}
use Rattle.file.specs.Rules.Decode.{decode}
use Rattle.file.specs.Rules.Changes.{with_edition}
use Rattle.file.specs.Rules.Legal.{Legal}
use Rattle.file.specs.Rules.Results.{Result, done, written_in}
use Rattle.file.specs.Rules.Editions.{in_edition, exceeds}
use Rattle.file.specs.Rules.FileGrounds.{load_ground}
use Rattle.file.specs.Claims.Edition.{NoEdition}
use Rattle.file.proofs.Bytes.{all-at}
use Rattle.file.proofs.BytesBelow.{all_below, bytes_below}
use Rattle.file.proofs.Width.{two_widths}
use Rattle.file.proofs.Appended.{file_length-append}
use Rattle.file.proofs.Shape.{shape_file_length}
use Rattle.convert.proofs.Numbered.{slaves_below, count-below, size_below, long-below, cluster_of, file_of, Fits, file-accepted, file-decoded, file-count}
use Rattle.convert.proofs.Numbered.{file-edition, file_series, narrow_fits, wide_fits}
use Rattle.join.specs.Rules.Joined.{joined, joined_file}
use Rattle.join.specs.Rules.Join.{join_ground, join_on}
use Rattle.join.specs.Claims.JoinGrounds.{count_in, slave_in, SharedName, TooLarge}
use Rattle.join.specs.Claims.Result.{Writable, HeldIn, Turned, JoinOf, Written}
use Rattle.join.specs.Claims.JoinEditions.{HasForm}
use Rattle.join.proofs.Joining.{joined_shape}
use Rattle.join.proofs.JoinGrounds.{joined-long, grounds_in_order}
use Rattle.join.proofs.Result.{no_ground, joins-legal, joined-accepted, joined_bytes, written_exactly, call-joins, names_apart, join-loads}
use Rattle.join.proofs.JoinEditions.{joined_forms}
use Rattle.join.proofs.Examples.{pending, nothing, one, two, other_edition, room, joins, loading}

-- ---- two files of so many slaves, of series 0 and 1

module _ (e r n : ℕ) (h : Fits e r 0 n) (k : Fits e r 1 n) where
  abbrev first : List ℕ
  first = file_of e r 0 n

  abbrev second : List ℕ
  second = file_of e r 1 n

  series_apart : SharedName first second → ⊥
  series_apart s =
      omega (
        arith,
        s.same,
        (all-at no_slave_lem (file_series e r 0 n h) s.first).1,
        (all-at no_slave_lem (file_series e r 1 n k) s.second).0,
      )

  both-count : count_in first + count_in second ≡ n + n
  both-count = omega (arith, file-count e r 0 n h, file-count e r 1 n k)

  both_long : length (joined_file first second) ≡ 8 + 4 * width_in e + 2 * width_in e * n + n * (4 * width_in e + 4 * r + 16) + 2 * width_in e * n + n * (4 * width_in e + 4 * r + 16)
  both_long =
      joined-long first second
      ∙ ap₂ (λ (c d : Cluster). file_length (width_in c.edition) (joined c d).slaves) (file-decoded e r 0 n h) (file-decoded e r 1 n k)
      ∙ sym (shape_file_length (width_in e) (joined_shape (cluster_of e r 0 n) (cluster_of e r 1 n)))
      ∙ file_length-append (width_in e) (slaves_below r 0 n) (slaves_below r 1 n)
      ∙ rw (long-below r 0 (width_in e) n, count-below r 1 n, size_below r 1 (width_in e) n)

  refused_by : (out : List ℕ) → TooLarge first second out → join_ground first second out ≡ 30
  refused_by out large =
      grounds_in_order.large first second out (file-accepted e r 0 n h) (file-accepted e r 1 n k) series_apart large

-- whatever the buffer: 34 slaves in edition 1, 66 in edition 2; 33,552 bytes in edition 1, 67,864 in edition 2
module _ (out : List ℕ) where
  pub many_in_one : join_ground (file_of 1 3 0 17) (file_of 1 3 1 17) out ≡ 30
  many_in_one =
      let h : Fits 1 3 0 17 = narrow_fits 3 0 17 (omega arith) (omega arith) (omega arith) (omega arith) (omega arith) in
      let k : Fits 1 3 1 17 = narrow_fits 3 1 17 (omega arith) (omega arith) (omega arith) (omega arith) (omega arith) in
      refused_by 1 3 17 h k out (TooLarge.slaves_of_one (file-edition 1 3 0 17 h) (omega (arith, both-count 1 3 17 h k)))

  pub many_in_two : join_ground (file_of 2 3 0 33) (file_of 2 3 1 33) out ≡ 30
  many_in_two =
      let h : Fits 2 3 0 33 = wide_fits 3 0 33 (omega arith) (omega arith) (omega arith) (omega arith) (omega arith) in
      let k : Fits 2 3 1 33 = wide_fits 3 1 33 (omega arith) (omega arith) (omega arith) (omega arith) (omega arith) in
      refused_by 2 3 33 h k out (TooLarge.slaves_of_two (file-edition 2 3 0 33 h) (omega (arith, both-count 2 3 33 h k)))

  pub long_in_one : join_ground (file_of 1 255 0 16) (file_of 1 255 1 16) out ≡ 30
  long_in_one =
      let h : Fits 1 255 0 16 = narrow_fits 255 0 16 (omega arith) (omega arith) (omega arith) (omega arith) (omega arith) in
      let k : Fits 1 255 1 16 = narrow_fits 255 1 16 (omega arith) (omega arith) (omega arith) (omega arith) (omega arith) in
      refused_by 1 255 16 h k out (TooLarge.bytes_of_one (file-edition 1 255 0 16 h) (omega (arith, both_long 1 255 16 h k)))

  pub long_in_two : join_ground (file_of 2 255 0 32) (file_of 2 255 1 32) out ≡ 30
  long_in_two =
      let h : Fits 2 255 0 32 = wide_fits 255 0 32 (omega arith) (omega arith) (omega arith) (omega arith) (omega arith) in
      let k : Fits 2 255 1 32 = wide_fits 255 1 32 (omega arith) (omega arith) (omega arith) (omega arith) (omega arith) in
      refused_by 2 255 32 h k out (TooLarge.bytes_of_two (file-edition 2 255 0 32 h) (omega (arith, both_long 2 255 32 h k)))

-- ---- small files

-- the second has the first's name; both unnamed
abbrev f : List ℕ
f = one pending 0 0x04 0x10

abbrev g : List ℕ
g = one nothing 1 0x04 0x11

abbrev unnamed_one : List ℕ
unnamed_one = one nothing 0 0xFF 0x10

abbrev unnamed_other : List ℕ
unnamed_other = one nothing 0 0xFF 0x11

-- what is computed of them
pub record Computed : Type 0 where
  pub bytes : all_below f ≡ true
  pub bytes_second : all_below g ≡ true
  pub bytes_unnamed : all_below unnamed_one ≡ true
  pub bytes_other : all_below unnamed_other ≡ true
  pub count : count_in f ≡ 1
  pub count_second : count_in g ≡ 1
  pub count_unnamed : count_in unnamed_one ≡ 1
  pub count_other : count_in unnamed_other ≡ 1
  pub loads : load_ground f ≡ 0
  pub loads_second : load_ground g ≡ 0
  pub same : logical_name (slave_in f 0) ≡ logical_name (slave_in g 0)
  pub same_after : logical_name (slave_in (two 0xFF 0x10 0xFF 0x11) 0) ≡ logical_name (slave_in (two 0xFF 0x10 0xFF 0x11) (count_in unnamed_one + 0))
  pub room : exceeds 4 (decode g).slaves ≡ false
  pub room_joined : exceeds 4 (decode (joined_file f g)).slaves ≡ false
  pub long_joined : length (in_edition (joined_file f g) 2) ≡ 128

computed : Computed
unfolding loading all_below in_edition with_edition
computed =
    record {
      bytes = refl;
      bytes_second = refl;
      bytes_unnamed = refl;
      bytes_other = refl;
      count = refl;
      count_second = refl;
      count_unnamed = refl;
      count_other = refl;
      loads = refl;
      loads_second = refl;
      same = refl;
      same_after = refl;
      room = refl;
      room_joined = refl;
      long_joined = refl;
    }

written : (join_on f g (room 96)).0 ≡ done 96
written = ap (λ (r : Result ℕ × List ℕ). r.0) joins.held

-- they are accepted, share no physical name and are not too large
pub is_writable : Writable f g (room 96) 96
is_writable = (written_exactly f g (room 96) 96).0 written

-- a slave is turned
pub is-written : Written f g (room 96) (take 96 (join_on f g (room 96)).1) (join_on f g (room 96)).1
is-written = call-joins f g (room 96) 96 (bytes_below f computed.bytes) (bytes_below g computed.bytes_second) written

pub is_held : HeldIn f (logical_name (slave_in g 0))
is_held = record { k = 0; within = omega (arith, computed.count); is = computed.same }

pub is_turned : Turned (slave_in g 0) (slave_in (take 96 (join_on f g (room 96)).1) (count_in f + 0))
is_turned = is-written.joins.turned 0 (omega (arith, computed.count_second)) is_held

-- both load, and so does the joined file
pub joined-loads : load_ground (take 96 (join_on f g (room 96)).1) ≡ 0
joined-loads =
    join-loads f g (room 96) 96 (bytes_below f computed.bytes) (bytes_below g computed.bytes_second) computed.loads computed.loads_second written

-- 0xFF on both sides
both-written : (join_on unnamed_one unnamed_other (room 96)).0 ≡ done 96
both-written = ap (λ (r : Result ℕ × List ℕ). r.0) joins.unnamed_both

both-joined : JoinOf unnamed_one unnamed_other (two 0xFF 0x10 0xFF 0x11)
both-joined =
    subst (λ (j : List ℕ). JoinOf unnamed_one unnamed_other j) (ap (λ (r : Result ℕ × List ℕ). take 96 r.1) joins.unnamed_both)
    (call-joins unnamed_one unnamed_other (room 96) 96 (bytes_below unnamed_one computed.bytes_unnamed)
    (bytes_below unnamed_other computed.bytes_other) both-written).joins

pub both-unnamed : logical_name (slave_in (two 0xFF 0x10 0xFF 0x11) 0) ≡ 0xFF
both-unnamed =
    let w : Writable unnamed_one unnamed_other (room 96) 96 =
    (written_exactly unnamed_one unnamed_other (room 96) 96).0 both-written
    in
    names_apart unnamed_one unnamed_other (two 0xFF 0x10 0xFF 0x11) (bytes_below unnamed_one computed.bytes_unnamed)
    (bytes_below unnamed_other computed.bytes_other) w.first w.second both-joined 0 0
    (omega (arith, computed.count_unnamed)) (omega (arith, computed.count_other)) computed.same_after

-- the second and the joined file have forms in edition 2
pub has-form : HasForm g 2
has-form =
    record { bytes = bytes_below g computed.bytes_second; accepted = is_writable.second; width = two_widths.1; room = computed.room }

pub joined-has-form : HasForm (joined_file f g) 2
joined-has-form =
    let legal : Legal (joined (decode f) (decode g)) =
    joins-legal f g (room 96) (no_ground f g (room 96) 96 written) (bytes_below f computed.bytes) (bytes_below g computed.bytes_second)
    in
    record { bytes = joined_bytes f g legal; accepted = joined-accepted f g legal; width = two_widths.1; room = computed.room_joined }

pub forms-joined :
    join_on (in_edition f 2) (in_edition g 2) (room 128) ≡ (done (length (in_edition (joined_file f g) 2)), written_in (room 128) (in_edition (joined_file f g) 2))
forms-joined =
    joined_forms f g 2 2 (room 96) (room 128) 96 (bytes_below f computed.bytes) has-form written joined-has-form (omega (arith, computed.long_joined))

-- a file of unknown edition
pub no_edition : NoEdition other_edition
no_edition = record { one = λ z. omega (arith, z); two = λ z. omega (arith, z) }
