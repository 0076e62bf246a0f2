-- The readers of sizes: one law for each return and for each number that must fit the machine's.
-- Assumes nothing.
use Rattle.std.proofs.Common.{ℕ, suc, ◌+◌, ◌*◌, ◌-◌, ◌≤◌, ◌<◌, arith, ◌≡◌, refl, sym, ap, ◌∙◌, subst, List, w8, w64, Fits, length, get_or, take, take_all}
use Rattle.file.specs.Rules.Layout.{OffsetWidth, header_size}
use Rattle.file.specs.Rules.Encode.{contents, slave_size, slaves_size, slaves_place, file_length}
use Rattle.file.specs.Rules.Decode.{decode}
use Rattle.file.specs.Inner.Numbers.{ByteAt}
use Rattle.file.specs.Inner.Places.{slave_of}
use Rattle.file.specs.Inner.Accepted.{AcceptedFile, WidthOf, slave_count}
use Rattle.file.proofs.Width.{Which, narrow, wide, which}
use Rattle.file.proofs.AtWidth.{BecomesAt, at-edition, becomes-at}
use Rattle.file.proofs.ReaderLaws.{length_limit, entry-within, entry-count}
use Rattle.file.proofs.Slaves.{slave-end}
use Rattle.convert.specs.Inner.Slaves.{slave_start, files_in, StartsAt, SlaveRead}
use Rattle.convert.proofs.SlaveLaws.{own_length, slave-stands, count-stated, sleep_stated, few-files, start-next}
use Rattle.convert.proofs.SizeLaws.{form_double, contents_in, files_in-next, files-first, form-parts, files-size}

-- ---- numbers that fit the machine's

few-entries : {v : ℕ} → Which v → (k : ℕ) → k ≤ 64 → 2 * v * k ≤ 512
few-entries narrow k few = omega arith
few-entries wide k few = omega arith

pub entries-most : {v : ℕ} → OffsetWidth v → (k : ℕ) → k ≤ 64 → 2 * v * k ≤ 512
entries-most width k few = few-entries (which width) k few

module _ {f : List ℕ} (h : AcceptedFile f) where
  pub count-few : slave_count f ≤ 64
  count-few = let b = at-edition h in omega (arith, b.legal.count, b.legal.width.most)

  pub form-most : {v : ℕ} → OffsetWidth v → file_length v (decode f).slaves ≤ 131072
  form-most width =
      let b = at-edition h in
      omega (arith, form_double width b.legal.width (decode f).slaves, own_length b, length_limit h)

  pub files-few : files_in (decode f).slaves ≤ 65536
  unfolding file_length
  files-few = let b = at-edition h in omega (arith, files-size b.legal.width (decode f).slaves, own_length b, length_limit h)

  module _ {v n : ℕ} (width : OffsetWidth v) (count : n ≡ slave_count f) where
    table-most : 2 * v * n ≤ 512
    table-most = entries-most width n (omega (arith, count-few))

    pub table_fits : Fits w64 (2 * v * n)
    table_fits = record { fits = omega (arith, table-most) }

    pub front_fits : Fits w64 (8 + 4 * v + 2 * v * n)
    front_fits = record { fits = omega (arith, table-most, width.most) }

-- there is a slave of that number: by the count that was read
pub below-count : (f : List ℕ) {s n : ℕ} → n ≡ slave_count f → s < n → s < slave_count f
below-count f count less = omega (arith, count)

-- ---- the file count and the sleep byte of a slave

module _ {f : List ℕ} {w : ℕ} (h : AcceptedFile f) (v : WidthOf f w) (s : ℕ) (l : s < slave_count f) where
  here : BecomesAt w f (decode f)
  here = becomes-at v h

  pub count-read : {r : ℕ} → ByteAt f (header_size w + 2 * w * s + w) r → r ≡ length (slave_of (decode f) s).files
  count-read r = r.is ∙ count-stated here s l

  pub sleep_read : get_or f (header_size w + 2 * w * s + w + 1) 0 ≡ (slave_of (decode f) s).asleep
  sleep_read = sleep_stated here s l

  pub sleep_inside : header_size w + 2 * w * s + w + 1 < length f
  sleep_inside = omega (arith, entry-within h v s l, v.width.least)

  pub sleep_fits : Fits w64 (header_size w + 2 * w * s + w + 1)
  sleep_fits = record { fits = omega (arith, sleep_inside, length_limit h) }

module _ {f : List ℕ} (h : AcceptedFile f) (s : ℕ) (l : s < slave_count f) where
  pub files-byte : {n : ℕ} → n ≡ length (slave_of (decode f) s).files → Fits w8 n
  files-byte is = record { fits = omega (arith, is, few-files (at-edition h) s l) }

  pub files-fit : {v n : ℕ} → OffsetWidth v → n ≡ length (slave_of (decode f) s).files → Fits w64 (2 * v * n)
  files-fit {n = n} width is = record { fits = omega (arith, entries-most width n (omega (arith, is, few-files (at-edition h) s l))) }

-- ---- where a slave starts, and what is read of it

pub first-start : {f : List ℕ} {w n : ℕ} → AcceptedFile f → WidthOf f w → n ≡ slave_count f → StartsAt f 0 (8 + 4 * w + 2 * w * n)
unfolding slave_start slaves_place slaves_size file_length
first-start {f} {w} {n} h o count =
    let c = decode f in
    let here : 8 + 4 * w + 2 * w * n ≡ slave_start w c 0 = rw count (omega arith) in
    record {
      is = here ∙ ap (λ (m : ℕ). slave_start m c 0) o.is;
      within = rw count (omega (arith, own_length (becomes-at o h)));
    }

module _ {f : List ℕ} {w s a : ℕ} (r : SlaveRead f w s a) where
  pub start_is : a ≡ slave_start w (decode f) s
  start_is = r.starts.is ∙ ap (λ (m : ℕ). slave_start m (decode f) s) (sym r.width.is)

  next-is : slave_start w (decode f) (s + 1) ≡ a + slave_size w (slave_of (decode f) s)
  next-is = let one : s + 1 ≡ suc s = omega arith in rw one (omega (arith, start_is, start-next (becomes-at r.width r.file) s r.there))

  pub run-within : slave_start w (decode f) (s + 1) ≤ length f
  run-within = omega (arith, next-is, start_is, slave-end (slave-stands (becomes-at r.width r.file) s r.there))

  pub next-starts : {b : ℕ} → b ≡ slave_start w (decode f) (s + 1) → StartsAt f (s + 1) b
  next-starts is =
      record { is = is ∙ ap (λ (m : ℕ). slave_start m (decode f) (s + 1)) r.width.is; within = omega (arith, is, run-within) }

  module _ {k : ℕ} (files : k ≡ length (slave_of (decode f) s).files) where
    -- the next slave starts behind its directory and its files
    pub run_is : slave_start w (decode f) (s + 1) ≡ a + 2 * w * k + length (contents (slave_of (decode f) s).files)
    unfolding slave_size
    run_is = rw files (omega (arith, next-is))

    pub files-start-fits : Fits w64 (a + 2 * w * k)
    files-start-fits = record { fits = omega (arith, run_is, run-within, length_limit r.file) }

-- ---- how many files the slaves so far have, by the place of the next one's file count

entries_less : {w : ℕ} → Which w → (i n : ℕ) → 2 * w * i < 2 * w * n → i < n
entries_less narrow i n less = omega arith
entries_less wide i n less = omega arith

entries-all : {w : ℕ} → Which w → (i n : ℕ) → 2 * w * n ≤ 2 * w * i → n ≤ i
entries-all narrow i n all = omega arith
entries-all wide i n all = omega arith

pub record Counting (f : List ℕ) (w place total : ℕ) : Type 0 where
  pub slave : ℕ
  pub few : slave ≤ slave_count f
  pub there : place ≡ 8 + 4 * w + w + 2 * w * slave
  pub is : total ≡ files_in (take slave (decode f).slaves)

pub counting_start : (f : List ℕ) (w : ℕ) → Counting f w (8 + 4 * w + w) 0
unfolding files_in
counting_start f w = record { slave = 0; few = omega arith; there = omega arith; is = refl }

pub counts-end-fits : {f : List ℕ} {w n : ℕ} → AcceptedFile f → WidthOf f w → n ≡ slave_count f → Fits w64 (8 + 4 * w + w + 2 * w * n)
counts-end-fits h o count = record { fits = omega (arith, table-most h o.width count, o.width.most) }

module _ {f : List ℕ} {w place total n : ℕ} (t : Counting f w place total) (h : AcceptedFile f) (o : WidthOf f w) (count : n ≡ slave_count f) where
  pub counting_done : 8 + 4 * w + w + 2 * w * n ≤ place → total ≡ files_in (decode f).slaves
  counting_done done =
      let all : n ≤ t.slave = entries-all (which o.width) t.slave n (omega (arith, t.there)) in
      t.is ∙ ap files_in (take_all t.slave (decode f).slaves (omega (arith, count)))

  module _ (less : place < 8 + 4 * w + w + 2 * w * n) where
    more : t.slave < slave_count f
    more = omega (arith, count, entries_less (which o.width) t.slave n (omega (arith, t.there)))

    pub counting_inside : place < length f
    counting_inside = omega (arith, t.there, entry-count h o t.slave more)

    pub place-fits : Fits w64 (place + 2 * w)
    place-fits = record { fits = omega (arith, counting_inside, length_limit h, o.width.most) }

    module _ {k : ℕ} (byte : ByteAt f place k) where
      files-are : k ≡ length (slave_of (decode f) t.slave).files
      files-are =
          let here : place ≡ header_size w + 2 * w * t.slave + w = omega (arith, t.there) in
          count-read h o t.slave more (subst (λ (p : ℕ). ByteAt f p k) here byte)

      sum_is : total + k ≡ files_in (take (suc t.slave) (decode f).slaves)
      unfolding slave_of
      sum_is = omega (arith, t.is, files-are, files_in-next (decode f).slaves t.slave more)

      pub counting_fits : Fits w64 (total + k)
      counting_fits = record { fits = omega (arith, sum_is, files-first (decode f).slaves (suc t.slave), files-few h) }

      pub counting_next : Counting f w (place + 2 * w) (total + k)
      counting_next = record { slave = suc t.slave; few = omega (arith, more); there = omega (arith, t.there); is = sum_is }

-- ---- the length of a form, by the slaves and their files

pub own_form : {f : List ℕ} {v w : ℕ} → AcceptedFile f → WidthOf f w → v ≡ w → length f ≡ file_length v (decode f).slaves
own_form {f} h o same = sym (own_length (becomes-at o h)) ∙ ap (λ (m : ℕ). file_length m (decode f).slaves) (sym same)

module _ {f : List ℕ} {v w n m : ℕ} (h : AcceptedFile f) (o : WidthOf f w) (width : OffsetWidth v) (count : n ≡ slave_count f) (files : m ≡ files_in (decode f).slaves) where
  own_parts : length f ≡ 8 + 4 * w + 2 * w * (n + m) + contents_in (decode f).slaves
  own_parts = rw (count, files) (sym (own_length (becomes-at o h)) ∙ form-parts o.width (decode f).slaves)

  parts : file_length v (decode f).slaves ≡ 8 + 4 * v + 2 * v * (n + m) + contents_in (decode f).slaves
  parts = rw (count, files) (form-parts width (decode f).slaves)

  pub entries_fit : Fits w64 (n + m)
  entries_fit = record { fits = omega (arith, count, files, count-few h, files-few h) }

  pub own_table-fits : Fits w64 (2 * w * (n + m))
  own_table-fits = record { fits = omega (arith, own_parts, length_limit h) }

  pub own_front-fits : Fits w64 (8 + 4 * w + 2 * w * (n + m))
  own_front-fits = record { fits = omega (arith, own_parts, length_limit h) }

  pub front-inside : 8 + 4 * w + 2 * w * (n + m) ≤ length f
  front-inside = omega (arith, own_parts)

  pub other-table-fits : Fits w64 (2 * v * (n + m))
  other-table-fits = record { fits = omega (arith, parts, form-most h width) }

  pub other-front-fits : Fits w64 (8 + 4 * v + 2 * v * (n + m))
  other-front-fits = record { fits = omega (arith, parts, form-most h width) }

  pub other-form-fits : Fits w64 (length f - (8 + 4 * w + 2 * w * (n + m)) + (8 + 4 * v + 2 * v * (n + m)))
  other-form-fits = record { fits = omega (arith, own_parts, parts, form-most h width) }

  pub other-form : length f - (8 + 4 * w + 2 * w * (n + m)) + (8 + 4 * v + 2 * v * (n + m)) ≡ file_length v (decode f).slaves
  other-form = omega (arith, own_parts, parts)
