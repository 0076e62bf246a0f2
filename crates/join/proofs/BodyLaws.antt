-- The parts of a joined file: its header, the table and the slaves of both files.
-- Assumes nothing.
use Rattle.std.proofs.Common.{ℕ, ◌+◌, ◌*◌, ◌-◌, arith, ◌≡◌, refl, sym, ap, ap₂, ◌∙◌, subst, List, [], ◌∷◌, ◌++◌, append_assoc, false, w64, Fits, length, replicate, length-append}
use mathlib.Core.List.{map-append}
use lib.ListN.{length-map}
use lib.Seq.{sets}
use Rattle.file.specs.Rules.Layout.{zeros_length}
use Rattle.file.specs.Rules.Cluster.{Slave}
use Rattle.file.specs.Rules.Encode.{slaves_size, slaves_bytes, table, slaves_place, file_length}
use Rattle.file.specs.Inner.Places.{SameShape, no_slaves, same_slave}
use Rattle.file.specs.Inner.Accepted.{WidthOf}
use Rattle.file.proofs.Sizes.{table-length, slaves_bytes-length}
use Rattle.file.proofs.Shape.{files_refl, SameSleep, no_sleep, same_sleep, shape_table, shape_slaves_place}
use Rattle.file.proofs.Appended.{slaves_size-append, table-append, slaves_bytes-append}
use Rattle.convert.specs.Inner.Putting.{Put, OffsetFits, header_front}
use Rattle.convert.specs.Inner.Slaves.{listed_as, listed, SlavesFit, BodyFits, BodyDone}
use Rattle.convert.proofs.Putting.{put-room, put_same, put_then, put-between, put_both, put_split, both-room}
use Rattle.convert.proofs.HeaderLaws.{front_length}
use Rattle.convert.proofs.TableLaws.{listed-size}
use Rattle.join.specs.Inner.Turned.{Turned}
use Rattle.join.specs.Inner.Form.{joined_header, joined_table, joined_slaves, joined_body, JoinFits}

-- ---- the header

pub header-zeros : {v size : ℕ} (n : ℕ) → OffsetFits v size → {l m k : List ℕ} → Put l 0 (header_front v n size) m
    → Put m (4 + 2 * v) (replicate (5 + 2 * v - 1) 0) k → Put l 0 (joined_header v n size) k
unfolding joined_header
header-zeros {v} {size} n fits front zeros =
    let same : 5 + 2 * v - 1 ≡ 5 + zeros_length v = omega (arith, fits.width.least) in
    put_then front (omega (arith, front_length v n size)) (put_same (ap (λ (i : ℕ). replicate i 0) same) zeros)

-- ---- slaves of one shape, listed awake

pub shape_behind : (ss : List Slave) {us ts : List Slave} → SameShape us ts → SameShape (ss ++ us) (ss ++ ts)
shape_behind [] same = same
shape_behind (s ∷ ss) same = same_slave (files_refl s.files) (shape_behind ss same)

listed_shape : {us ts : List Slave} → SameShape us ts → SameShape (listed false us) (listed false ts)
unfolding listed_as
listed_shape no_slaves = no_slaves
listed_shape (same_slave same rest) = same_slave same (listed_shape rest)

listed_sleep : {us ts : List Slave} → SameShape us ts → SameSleep (listed false us) (listed false ts)
unfolding listed_as
listed_sleep no_slaves = no_sleep
listed_sleep (same_slave same rest) = same_sleep refl (listed_sleep rest)

-- ---- both files, one behind the other

module _ (ss us : List Slave) {v alone m : ℕ} {old : List ℕ} (fits : JoinFits v old alone ss us) (second : m ≡ length us) where
  behind-is : alone + 2 * v * m ≡ slaves_place v (ss ++ us) + slaves_size v ss
  unfolding file_length slaves_place
  behind-is = rw (second, length-append ss us) (omega (arith, fits.first))

  whole_is : file_length v (ss ++ us) ≡ alone + 2 * v * m + slaves_size v us
  unfolding file_length
  whole_is = omega (arith, behind-is, slaves_size-append v ss us)

  pub second_fits : Fits w64 (alone + 2 * v * m)
  second_fits = record { fits = omega (arith, whole_is, fits.short, fits.width.most) }

  pub second-slaves : {mid bs : List ℕ} {at : ℕ} → Put old at bs mid → SlavesFit v mid (alone + 2 * v * m) us
  second-slaves p =
      record { width = fits.width; room = omega (arith, whole_is, fits.room, put-room p); short = omega (arith, whole_is, fits.short) }

  module _ {n : ℕ} (first : n ≡ length ss) where
    place_is : 8 + 4 * v + 2 * v * n + 2 * v * m ≡ slaves_place v (ss ++ us)
    unfolding slaves_place
    place_is = rw (first, second, length-append ss us) (omega arith)

    pub place-fits : Fits w64 (8 + 4 * v + 2 * v * n + 2 * v * m)
    place-fits = record { fits = omega (arith, place_is, behind-is, whole_is, fits.short, fits.width.most) }

    -- the first file's slaves and their entries, then the second's
    pub first_body : BodyFits v old (8 + 4 * v) (8 + 4 * v + 2 * v * n + 2 * v * m) ss
    first_body =
        record {
          before = rw (sym first) (omega arith);
          slaves =
              record {
                width = fits.width;
                room = omega (arith, place_is, behind-is, whole_is, fits.room);
                short = omega (arith, place_is, behind-is, whole_is, fits.short);
              };
        }

    module _ {mid : List ℕ} (p : BodyDone false v (8 + 4 * v) (8 + 4 * v + 2 * v * n + 2 * v * m) ss old mid) where
      pub second_body : BodyFits v mid (8 + 4 * v + 2 * v * n) (alone + 2 * v * m) us
      second_body =
          record {
            before = rw (sym second) (omega (arith, place_is, behind-is));
            slaves =
                record {
                  width = fits.width;
                  room = omega (arith, whole_is, fits.room, both-room old (table v (8 + 4 * v + 2 * v * n + 2 * v * m) (listed false ss)) (8 + 4 * v) p.put);
                  short = omega (arith, whole_is, fits.short);
                };
          }

      pub both-put : {new : List ℕ} → BodyDone false v (8 + 4 * v + 2 * v * n) (alone + 2 * v * m) us mid new → Put old (8 + 4 * v) (joined_body v (ss ++ us)) new
      unfolding joined_body joined_table joined_slaves
      both-put {new} q =
          let two = fits.width.least in
          let at : ℕ = 8 + 4 * v + 2 * v * n + 2 * v * m in
          let to : ℕ = alone + 2 * v * m in
          let place : ℕ = slaves_place v (ss ++ us) in
          let ones : List ℕ = table v at (listed false ss) in
          let others : List ℕ = table v to (listed false us) in
          let bodies : List ℕ = slaves_bytes v at ss in
          let entries : length ones ≡ 2 * v * n = table-length two at (listed false ss) ∙ ap (λ (k : ℕ). 2 * v * k) (length-map ss (listed_as false) ∙ sym first) in
          let more : length others ≡ 2 * v * m = table-length two to (listed false us) ∙ ap (λ (k : ℕ). 2 * v * k) (length-map us (listed_as false) ∙ sym second) in
          let tables : Put (sets old (8 + 4 * v) (ones ++ others)) at bodies (sets mid (8 + 4 * v + 2 * v * n) others) =
          put-between old ones (8 + 4 * v) p.put (omega (arith, entries)) (omega (arith, more)) (record { is = refl })
          in
          let there : to ≡ at + length bodies = omega (arith, behind-is, place_is, slaves_bytes-length two at ss) in
          let whole = put_both old (ones ++ others) (8 + 4 * v) (put_then tables there q.put) (omega (arith, entries, more, length-append ones others)) in
          let begins : to ≡ place + slaves_size v (listed false ss) = omega (arith, behind-is, listed-size false v ss) in
          let listing : ones ++ others ≡ table v place (listed false (ss ++ us)) =
          ap₂ (λ (x y : List ℕ). x ++ y) (ap (λ (k : ℕ). table v k (listed false ss)) place_is) (ap (λ (k : ℕ). table v k (listed false us)) begins)
          ∙ sym (ap (table v place) (map-append (listed_as false) ss us) ∙ table-append v place (listed false ss) (listed false us))
          in
          let laid : bodies ++ slaves_bytes v to us ≡ slaves_bytes v place (ss ++ us) =
          ap₂ (λ (x y : List ℕ). x ++ y) (ap (λ (k : ℕ). slaves_bytes v k ss) place_is) (ap (λ (k : ℕ). slaves_bytes v k us) behind-is)
          ∙ sym (slaves_bytes-append v place ss us)
          in
          put_same (ap₂ (λ (x y : List ℕ). x ++ y) listing laid) whole

  -- the second's with other bytes
  pub body_turned : {ts : List Slave} → SameShape us ts → {mid new : List ℕ} → Put old (8 + 4 * v) (joined_body v (ss ++ us)) mid
      → Turned v (alone + 2 * v * m) us ts mid new → Put old (8 + 4 * v) (joined_body v (ss ++ ts)) new
  unfolding joined_body joined_table joined_slaves slaves_place
  body_turned {ts} same {mid} {new} p t =
      let two = fits.width.least in
      let shape : SameShape (ss ++ us) (ss ++ ts) = shape_behind ss same in
      let place : ℕ = slaves_place v (ss ++ us) in
      let to : ℕ = alone + 2 * v * m in
      let entries : List ℕ = table v place (listed false (ss ++ us)) in
      let bodies : List ℕ = slaves_bytes v place ss in
      let apart : (xs : List Slave) → entries ++ slaves_bytes v place (ss ++ xs) ≡ (entries ++ bodies) ++ slaves_bytes v to xs =
      λ (xs : List Slave).
      ap (λ (x : List ℕ). entries ++ x) (slaves_bytes-append v place ss xs ∙ ap (λ (k : ℕ). bodies ++ slaves_bytes v k xs) (sym behind-is))
      ∙ sym (append_assoc entries bodies (slaves_bytes v to xs))
      in
      let there : to ≡ 8 + 4 * v + length (entries ++ bodies) =
      let count : 2 * v * length (listed false (ss ++ us)) ≡ 2 * v * length (ss ++ us) = ap (λ (k : ℕ). 2 * v * k) (length-map (ss ++ us) (listed_as false)) in
      omega (arith, behind-is, length-append entries bodies, table-length two place (listed false (ss ++ us)), count, slaves_bytes-length two place ss)
      in
      let listing : entries ≡ table v (slaves_place v (ss ++ ts)) (listed false (ss ++ ts)) =
      shape_table v place (listed_shape shape) (listed_sleep shape) ∙ ap (λ (k : ℕ). table v k (listed false (ss ++ ts))) (shape_slaves_place v shape)
      in
      put_same
      (sym (apart ts) ∙ ap₂ (λ (x y : List ℕ). x ++ y) listing (ap (λ (k : ℕ). slaves_bytes v k (ss ++ ts)) (shape_slaves_place v shape)))
      (put_both old (entries ++ bodies) (8 + 4 * v)
      (t.turns (sets old (8 + 4 * v) (entries ++ bodies)) (put_split old (entries ++ bodies) (8 + 4 * v) (put_same (apart us) p) there)) there)

-- the width asked for is the file's own
pub own_width : {f : List ℕ} {v w : ℕ} → WidthOf f w → v ≡ w → WidthOf f v
own_width {f} o same = subst (WidthOf f) (sym same) o

-- the room stays
pub fits_kept : {v alone : ℕ} {ss us : List Slave} {old new bs : List ℕ} {at : ℕ} → JoinFits v old alone ss us → Put old at bs new → JoinFits v new alone ss us
fits_kept fits p =
    record { width = fits.width; first = fits.first; room = omega (arith, fits.room, put-room p); short = fits.short; few = fits.few }
