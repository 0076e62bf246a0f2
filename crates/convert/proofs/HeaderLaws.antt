-- The header of a form, part by part.
-- Assumes nothing.
use Rattle.std.proofs.Common.{ℕ, suc, ◌+◌, ◌*◌, ◌-◌, ◌/◌, ◌≤◌, ◌<◌, arith, ◌≡◌, refl, ap, ◌∙◌, List, [], ◌∷◌, ◌++◌, append_assoc, length, get_or, take, drop, set, replicate, length-append, length-set, drop-cons}
use Rattle.file.specs.Rules.Bytes.{bytes_of, part}
use Rattle.file.specs.Rules.Layout.{edition_of, flag_place, pending_name_place, pending_pb2_place, pending_pb3_place, header_size, zeros_length}
use Rattle.file.specs.Rules.Cluster.{Cluster}
use Rattle.file.specs.Rules.Encode.{slaves_place, file_length, header}
use Rattle.file.specs.Rules.Decode.{decode_at, decode}
use Rattle.file.specs.Inner.Accepted.{AcceptedFile, EpochAt, slave_count}
use Rattle.file.proofs.Sizes.{bytes_of-length}
use Rattle.file.proofs.AtWidth.{at-edition}
use Rattle.convert.specs.Inner.Putting.{Put, OffsetFits, header_front}
use Rattle.convert.specs.Inner.Slaves.{FormFits}
use Rattle.convert.proofs.Putting.{put-room, put_same, put_then}

-- the table's offset is one of a file
pub table-offset : {v n : ℕ} → OffsetFits v n → OffsetFits v (8 + 4 * v)
table-offset o = record { width = o.width; most = omega (arith, o.width.least) }

-- ---- the front

pub front_length : (v n size : ℕ) → length (header_front v n size) ≡ 4 + 2 * v
unfolding header_front
front_length v n size = simp (length-append, bytes_of-length) (omega arith)

pub front-put : {l m k : List ℕ} (v n size : ℕ)
    → Put (set (set (set (set l 0 0x54) 1 0x41) 2 (v / 2)) 3 n) 4 (bytes_of v (8 + 4 * v)) m
    → Put m (4 + v) (bytes_of v size) k
    → Put l 0 (header_front v n size) k
unfolding header_front
front-put {l} v n size table stated =
    let first : Put l 0 (0x54 ∷ 0x41 ∷ edition_of v ∷ n ∷ []) (set (set (set (set l 0 0x54) 1 0x41) 2 (v / 2)) 3 n) = record { is = refl } in
    let second = put_then first refl table in
    let there : 4 + v ≡ 0 + length ((0x54 ∷ 0x41 ∷ edition_of v ∷ n ∷ []) ++ bytes_of v (header_size v)) = simp bytes_of-length (omega arith) in
    put_same (append_assoc (0x54 ∷ 0x41 ∷ edition_of v ∷ n ∷ []) (bytes_of v (header_size v)) (bytes_of v size)) (put_then second there stated)

-- the buffer keeps its length
module _ (l : List ℕ) (a b d e : ℕ) {m bs : List ℕ} {at : ℕ} (first : Put (set (set (set (set l 0 a) 1 b) 2 d) 3 e) at bs m) where
  front-room : length m ≡ length l
  front-room = put-room first ∙ simp length-set

  pub front-second : (v : ℕ) → 8 + 4 * v ≤ length l → 4 + v + v ≤ length m
  front-second v room = omega (arith, front-room)

  pub front_kept : {k cs : List ℕ} {next : ℕ} → Put m next cs k → length k ≡ length l
  front_kept second = put-room second ∙ front-room

-- a form's header fits
module _ (f : List ℕ) {l : List ℕ} {v size : ℕ} (fits : FormFits v l size (decode f).slaves) where
  pub size-offset : OffsetFits v size
  size-offset = record { width = fits.width; most = omega (arith, fits.is, fits.short) }

  pub count-byte : {n : ℕ} → n ≡ slave_count f → n < 256
  count-byte count = omega (arith, count, fits.few, fits.width.most)

  pub header-room : 8 + 4 * v ≤ length l
  unfolding file_length slaves_place
  header-room = omega (arith, fits.room)

  -- and so do the fields and the zeros behind its front
  pub fields_room : (at : ℕ) {m bs : List ℕ} → Put l 0 bs m → 4 + 2 * v + (at + 5 - at) ≤ length m
  fields_room at p = omega (arith, header-room, put-room p, fits.width.least)

  pub zeros-room : {m k bs cs : List ℕ} {next : ℕ} → Put l 0 bs m → Put m next cs k → 4 + 2 * v + 5 + (2 * v - 1) ≤ length k
  zeros-room p q = omega (arith, header-room, put-room p, put-room q, fits.width.least)

-- ---- the five fields behind it

part-next : (l : List ℕ) (at n : ℕ) {next : ℕ} → at < length l → next ≡ at + 1 → part l at (suc n) ≡ get_or l at 0 ∷ part l next n
unfolding part
part-next l at n {next} inside is =
    let one : suc at ≡ next = omega (arith, is) in
    ap (take (suc n)) (drop-cons l at 0 inside) ∙ ap (λ (k : ℕ). get_or l at 0 ∷ take n (drop k l)) one

part_none : (l : List ℕ) (at : ℕ) → part l at 0 ≡ []
unfolding part
part_none l at = refl

five : (l : List ℕ) (at : ℕ) → at + 5 ≤ length l
    → part l at 5 ≡ get_or l at 0 ∷ get_or l (at + 1) 0 ∷ get_or l (at + 2) 0 ∷ get_or l (at + 3) 0 ∷ get_or l (at + 4) 0 ∷ []
five l at fits =
    rw (
      part-next l at 4 (omega arith) refl,
      part-next l (at + 1) 3 {next = at + 2} (omega arith) (omega arith),
      part-next l (at + 2) 2 {next = at + 3} (omega arith) (omega arith),
      part-next l (at + 3) 1 {next = at + 4} (omega arith) (omega arith),
      part-next l (at + 4) 0 {next = at + 5} (omega arith) (omega arith),
      part_none l (at + 5),
    )

-- those of an accepted file
module _ {f : List ℕ} {at : ℕ} (h : AcceptedFile f) (e : EpochAt f at) where
  fields_there : part f at 5 ≡ (decode f).epoch ∷ (decode f).flag ∷ (decode f).pending_name ∷ (decode f).pending_pb2 ∷ (decode f).pending_pb3 ∷ []
  unfolding decode_at
  fields_there =
      let b = at-edition h in
      let w = Rattle.file.specs.Rules.Layout.width_in (decode f).edition in
      let a₁ : at + 1 ≡ flag_place w = omega (arith, e.is) in
      let a₂ : at + 2 ≡ pending_name_place w = omega (arith, e.is) in
      let a₃ : at + 3 ≡ pending_pb2_place w = omega (arith, e.is) in
      let a₄ : at + 4 ≡ pending_pb3_place w = omega (arith, e.is) in
      let d = b.decoded in
      five f at (omega (arith, e.room))
      ∙ rw (
        ap (λ (k : ℕ). get_or f k 0) e.is ∙ ap (λ (c : Cluster). c.epoch) d,
        ap (λ (k : ℕ). get_or f k 0) a₁ ∙ ap (λ (c : Cluster). c.flag) d,
        ap (λ (k : ℕ). get_or f k 0) a₂ ∙ ap (λ (c : Cluster). c.pending_name) d,
        ap (λ (k : ℕ). get_or f k 0) a₃ ∙ ap (λ (c : Cluster). c.pending_pb2) d,
        ap (λ (k : ℕ). get_or f k 0) a₄ ∙ ap (λ (c : Cluster). c.pending_pb3) d,
      )

  pub header-put : {l m k o : List ℕ} {v n size : ℕ} → FormFits v l size (decode f).slaves → n ≡ slave_count f
      → Put l 0 (header_front v n size) m
      → Put m (4 + 2 * v) (part f at (at + 5 - at)) k
      → Put k (4 + 2 * v + 5) (replicate (2 * v - 1) 0) o
      → Put l 0 (header v (decode f)) o
  unfolding header header_front
  header-put {l} {k = k} {v = v} {n = n} {size = size} fits count front fields zeros =
      let c = decode f in
      let own = c.epoch ∷ c.flag ∷ c.pending_name ∷ c.pending_pb2 ∷ c.pending_pb3 ∷ [] in
      let some : at + 5 - at ≡ 5 = omega arith in
      let same : part f at (at + 5 - at) ≡ own = ap (part f at) some ∙ fields_there in
      let there : 4 + 2 * v ≡ 0 + length (header_front v n size) = omega (arith, front_length v n size) in
      let second : Put l 0 (header_front v n size ++ own) k = put_then front there (put_same same fields) in
      let behind : 4 + 2 * v + 5 ≡ 0 + length (header_front v n size ++ own) = omega (arith, front_length v n size, length-append (header_front v n size) own) in
      let mark : List ℕ = 0x54 ∷ 0x41 ∷ edition_of v ∷ n ∷ [] in
      let table : List ℕ = bytes_of v (header_size v) in
      let stated : List ℕ = bytes_of v size in
      let filled : List ℕ = replicate (zeros_length v) 0 in
      let joined : ((mark ++ (table ++ stated)) ++ own) ++ filled ≡ mark ++ (table ++ (stated ++ (own ++ filled))) = simp append_assoc in
      put_same (joined ∙ rw (count, fits.is)) (put_then second behind zeros)
