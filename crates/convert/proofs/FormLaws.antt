-- A whole form: the header, the slave table, the slaves.
-- Assumes nothing.
use Rattle.std.proofs.Common.{ℕ, ◌+◌, ◌*◌, ◌-◌, ◌≤◌, arith, ◌≡◌, sym, ap, ap₂, ◌∙◌, List, ◌++◌, true, length, take}
use lib.Seq.{take-length}
use Rattle.file.specs.Rules.Bytes.{part}
use Rattle.file.specs.Rules.Encode.{slaves_bytes, table, slaves_place, file_length, header, encode_at}
use Rattle.file.specs.Rules.Decode.{decode}
use Rattle.file.specs.Inner.Accepted.{AcceptedFile, WidthOf, slave_count}
use Rattle.file.proofs.Sizes.{header-length, table-length}
use Rattle.file.proofs.AtWidth.{becomes-at}
use Rattle.convert.specs.Inner.Putting.{Put}
use Rattle.convert.specs.Inner.Slaves.{listed, BodyFits, FormFits, BodyDone}
use Rattle.convert.proofs.Putting.{put-room, put_same, put_then, put_both}
use Rattle.convert.proofs.ReadLaws.{own_form}
use Rattle.convert.proofs.TableLaws.{listed_kept}

module _ (f : List ℕ) {old : List ℕ} {v n size : ℕ} (fits : FormFits v old size (decode f).slaves) (count : n ≡ slave_count f) where
  place_is : 8 + 4 * v + 2 * v * n ≡ slaves_place v (decode f).slaves
  unfolding slaves_place
  place_is = ap (λ (k : ℕ). 8 + 4 * v + 2 * v * k) count

  -- behind the header
  pub form_body : {new bs : List ℕ} {at : ℕ} → Put old at bs new → BodyFits v new (8 + 4 * v) (8 + 4 * v + 2 * v * n) (decode f).slaves
  unfolding file_length
  form_body p =
      record {
        before = rw count (omega arith);
        slaves = record { width = fits.width; room = rw place_is (omega (arith, fits.room, put-room p)); short = rw place_is fits.short };
      }

  pub form-put : {new out : List ℕ} → Put old 0 (header v (decode f)) new
      → BodyDone true v (8 + 4 * v) (8 + 4 * v + 2 * v * n) (decode f).slaves new out → Put old 0 (encode_at v (decode f)) out
  unfolding encode_at
  form-put {new} {out} first body =
      let c = decode f in
      let place = slaves_place v c.slaves in
      let two = fits.width.least in
      let entries : table v (8 + 4 * v + 2 * v * n) (listed true c.slaves) ≡ table v place c.slaves =
      ap (table v (8 + 4 * v + 2 * v * n)) (listed_kept c.slaves) ∙ ap (λ (k : ℕ). table v k c.slaves) place_is
      in
      let behind : 8 + 4 * v ≡ 0 + length (header v c) = omega (arith, header-length two c) in
      let there : 8 + 4 * v + 2 * v * n ≡ 8 + 4 * v + length (table v (8 + 4 * v + 2 * v * n) (listed true c.slaves)) =
      omega (arith, ap (λ (k : ℕ). 2 * v * k) count, table-length two place c.slaves, ap length entries)
      in
      put_then first behind
      (put_same (ap₂ (λ (x y : List ℕ). x ++ y) entries (ap (λ (k : ℕ). slaves_bytes v k c.slaves) place_is))
      (put_both new (table v (8 + 4 * v + 2 * v * n) (listed true c.slaves)) (8 + 4 * v) body.put there))

-- the file's own form is the file
module _ {f : List ℕ} {v w size : ℕ} {old : List ℕ} (h : AcceptedFile f) (o : WidthOf f w) (fits : FormFits v old size (decode f).slaves) (same : v ≡ w) where
  own_size : size ≡ length f
  own_size = fits.is ∙ sym (own_form h o same)

  pub copy_inside : size ≤ length f
  copy_inside = omega (arith, own_size)

  pub copy_fits : 0 + (size - 0) ≤ length old
  copy_fits = omega (arith, fits.is, fits.room)

  pub copy_put : {new : List ℕ} → Put old 0 (part f 0 (size - 0)) new → Put old 0 (encode_at v (decode f)) new
  unfolding part
  copy_put p =
      let whole : size - 0 ≡ length f = omega (arith, own_size) in
      let form : f ≡ encode_at v (decode f) = (becomes-at o h).encoded ∙ ap (λ (k : ℕ). encode_at k (decode f)) (sym same) in
      put_same (ap (λ (k : ℕ). take k f) whole ∙ take-length f ∙ form) p
