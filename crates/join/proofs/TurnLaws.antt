-- The second file's slaves: where their logical names lie in any form, and the slaves that become 0xFF.
-- Assumes nothing.
use Rattle.std.proofs.Common.{ℕ, zero, suc, ◌+◌, ◌*◌, ◌-◌, ◌≤◌, ◌<◌, arith, add-zero, ◌≡◌, refl, sym, ap, ◌∙◌, List, [], ◌∷◌, ◌++◌, map, append_assoc, append-nil, Bool, true, false, w64, Fits, length, get_or, take, drop, set, length-append, length-set, drop_of_length-le, take-append-drop, length-take-le, take_all, take-suc, drop-cons, eqb}
use mathlib.Core.List.{map-append}
use lib.Seq.{sets, sets-eq, set-append_left}
use Rattle.file.specs.Rules.Layout.{OffsetWidth, width_in, entry_size_lem, record_size}
use Rattle.file.specs.Rules.Cluster.{File, Slave, Cluster, bytes_among, bytes_in, configuration, unnamed, logical_name}
use Rattle.file.specs.Rules.Encode.{contents, slave_size, slaves_size, slaves_place, slave_bytes, slaves_bytes}
use Rattle.file.specs.Rules.Decode.{decode}
use Rattle.file.specs.Rules.Changes.{put_in_slave, with_slaves}
use Rattle.file.specs.Inner.Places.{no_slave_lem, slave_of, place_among, file_place_from, file_place_at, file_place, configuration_index, SameFiles, SameShape, no_slaves, same_slave}
use Rattle.file.specs.Inner.Accepted.{AcceptedFile, WidthOf, slave_count, Placed}
use Rattle.file.proofs.Order.{by_case}
use Rattle.file.proofs.Sizes.{slaves_bytes-length}
use Rattle.file.proofs.Shape.{files_refl, slave-size, slave-put, shape_size}
use Rattle.file.proofs.Stores.{Replaced, before, after, slave-replaced, replaced-fits, replaced-store, set-append-add}
use Rattle.file.proofs.ReaderLaws.{configuration-room}
use Rattle.file.proofs.PlaceLaws.{configuration-byte-fits}
use Rattle.file.proofs.Appended.{slaves_size-append, slaves_size-next, slaves_bytes-append}
use Rattle.convert.specs.Inner.Putting.{Put}
use Rattle.convert.specs.Inner.Slaves.{slave_start, files_in, SlavesFit}
use Rattle.convert.proofs.Putting.{put-room, put_same}
use Rattle.convert.proofs.SizeLaws.{first-slaves, contents_in, size-parts, files_in-next}
use Rattle.convert.proofs.ReadLaws.{first-start}
use Rattle.join.specs.Inner.Turned.{turned_by, turned_in, turned_at, Turned}

-- ---- a file's place among the files of a slave, and where it ends

module _ (n : ℕ) where
  place_shift : (place : ℕ) (xs : List File) → 0 < length (bytes_among xs n) → place_among place xs n ≡ place + place_among 0 xs n
  unfolding place_among bytes_among
  place_shift place [] some = absurd (omega arith)
  place_shift place (x ∷ xs) some =
      by_case (eqb x.number n)
      (λ e. rw e (omega arith))
      (λ e.
      let rest : 0 < length (bytes_among xs n) = rw e at some in
      rw e (omega (arith, place_shift (place + length x.bytes) xs rest, place_shift (0 + length x.bytes) xs rest)))

  place_inside : (xs : List File) → 0 < length (bytes_among xs n) → place_among 0 xs n + length (bytes_among xs n) ≤ length (contents xs)
  unfolding place_among bytes_among contents
  place_inside [] some = absurd (omega arith)
  place_inside (x ∷ xs) some =
      by_case (eqb x.number n)
      (λ e. rw e (omega (arith, length-append x.bytes (contents xs))))
      (λ e.
      let rest : 0 < length (bytes_among xs n) = rw e at some in
      rw e (omega (arith, place_shift (0 + length x.bytes) xs rest, place_inside xs rest, length-append x.bytes (contents xs))))

  file-place : (w place : ℕ) (ss : List Slave) (s : ℕ) → s < length ss
      → file_place_from w place ss s n ≡ place_among (place + slaves_size w (take s ss) + entry_size_lem w * length (get_or ss s no_slave_lem).files) (get_or ss s no_slave_lem).files n
  unfolding file_place_from slaves_size
  file-place w place [] s l = absurd (omega arith)
  file-place w place (x ∷ xs) zero l = rw (add-zero place)
  file-place w place (x ∷ xs) (suc s) l =
      let there : place + slave_size w x + slaves_size w (take s xs) ≡ place + (slave_size w x + slaves_size w (take s xs)) = omega arith in
      file-place w (place + slave_size w x) xs s (omega arith)
      ∙ ap (λ (k : ℕ). place_among (k + entry_size_lem w * length (get_or xs s no_slave_lem).files) (get_or xs s no_slave_lem).files n) there

-- where a slave's file 0x08 lies in the file, by its directory and its files
module _ {f places : List ℕ} (h : Placed f places) (s : ℕ) (l : s < slave_count f) where
  abbrev x : Slave
  x = slave_of (decode f) s

  abbrev w : ℕ
  w = width_in (decode f).edition

  long : 16 ≤ length (bytes_among x.files configuration)
  unfolding bytes_in
  long = configuration-room h.file s l

  place_is : get_or places (configuration_index s) 0 ≡ slave_start w (decode f) s + entry_size_lem w * length x.files + place_among 0 x.files configuration
  unfolding file_place file_place_at slave_start slave_of
  place_is =
      let ss : List Slave = (decode f).slaves in
      h.at.config s l ∙ file-place configuration w (slaves_place w ss) ss s l
      ∙ place_shift configuration (slaves_place w ss + slaves_size w (take s ss) + entry_size_lem w * length x.files) x.files (omega (arith, long))

-- ---- a byte stored among bytes that are put

set_in_put : (l : List ℕ) (at : ℕ) (bs : List ℕ) (j b : ℕ) → at + length bs ≤ length l → j < length bs → set (sets l at bs) (at + j) b ≡ sets l at (set bs j b)
set_in_put l at bs j b fits inside =
    let front : List ℕ = take at l in
    let behind : List ℕ = drop (at + length bs) l in
    let there : at + j ≡ length front + j = omega (arith, length-take-le at l (omega arith)) in
    let new : sets l at (set bs j b) ≡ (front ++ set bs j b) ++ behind =
    sets-eq (set bs j b) l at (omega (arith, length-set bs j b)) ∙ ap (λ (k : ℕ). (front ++ set bs j b) ++ drop (at + k) l) (length-set bs j b)
    in
    ap (λ (m : List ℕ). set m (at + j) b) (sets-eq bs l at fits ∙ append_assoc front bs behind)
    ∙ ap (λ (k : ℕ). set (front ++ (bs ++ behind)) k b) there
    ∙ set-append-add front (bs ++ behind) j b
    ∙ ap (λ (m : List ℕ). front ++ m) (set-append_left bs behind j b inside)
    ∙ sym (new ∙ append_assoc front (set bs j b) behind)

-- one byte of it
pub stays_at : (at : ℕ) (l : List ℕ) {is_held : Bool} → is_held ≡ false → l ≡ turned_at is_held at l
unfolding turned_at
stays_at at l is = rw is

pub turns_at : (at : ℕ) (l : List ℕ) {is_held : Bool} → is_held ≡ true → set l at unnamed ≡ turned_at is_held at l
unfolding turned_at
turns_at at l is = rw is

-- ---- the slaves by the marks

pub turned-files : (held : List Bool) (s : Slave) → SameFiles s.files (turned_by held s).files
unfolding turned_by
turned-files held s =
    by_case (get_or held (logical_name s) false)
    (λ e. rw e (slave-put s configuration (record_size + 3) unnamed))
    (λ e. rw e (files_refl s.files))

pub turned_shape : (held : List Bool) (ss : List Slave) → SameShape ss (map (turned_by held) ss)
turned_shape held [] = no_slaves
turned_shape held (s ∷ ss) = same_slave (turned-files held s) (turned_shape held ss)

module _ (held : List Bool) (d : Cluster) where
  pub turned-slaves : (turned_in held d).slaves ≡ map (turned_by held) d.slaves
  unfolding turned_in with_slaves
  turned-slaves = refl

  pub shape_turned : SameShape d.slaves (turned_in held d).slaves
  unfolding turned_in with_slaves
  shape_turned = turned_shape held d.slaves

-- ---- the slaves below i are turned

-- those of the marks up to i, then the others as they are
pub mixed : List Bool → Cluster → ℕ → List Slave
mixed held d i = map (turned_by held) (take i d.slaves) ++ drop i d.slaves

-- the next slave in the buffer, as it is and with its logical name turned
module _ {v : ℕ} (width : OffsetWidth v) (at : ℕ) (first rest : List Slave) (s : Slave) (there : 16 ≤ length (bytes_among s.files configuration)) where
  abbrev s' : Slave
  s' = put_in_slave s configuration (record_size + 3) unnamed

  abbrev near : ℕ
  near = slaves_size v first + (2 * v * length s.files + place_among 0 s.files configuration)

  among : Replaced (slaves_bytes v at (first ++ (s ∷ rest))) (slaves_bytes v at (first ++ (s' ∷ rest))) 0 near (bytes_in s configuration) (set (bytes_in s configuration) (record_size + 3) unnamed)
  unfolding bytes_in slaves_bytes
  among =
      let q : ℕ = at + slaves_size v first in
      let two = width.least in
      let some : 0 < length (bytes_in s configuration) = omega (arith, there) in
      let bs : List ℕ = bytes_in s configuration in
      let behind : List ℕ = slaves_bytes v (q + slave_size v s) rest in
      let place : ℕ = place_among (q + entry_size_lem v * length s.files) s.files configuration in
      let own : Replaced (slave_bytes v q s ++ behind) (slave_bytes v q s' ++ behind) q place bs (set bs (record_size + 3) unnamed) =
      before behind (slave-replaced configuration (record_size + 3) unnamed two q s some)
      in
      let whole : Replaced (slaves_bytes v at first ++ (slave_bytes v q s ++ behind)) (slaves_bytes v at first ++ (slave_bytes v q s' ++ behind)) at place bs (set bs (record_size + 3) unnamed) =
      after (slaves_bytes v at first) (rw (slaves_bytes-length two at first) own)
      in
      let size : slave_size v s ≡ slave_size v s' = slave-size s s' v (slave-put s configuration (record_size + 3) unnamed) in
      record {
        front = whole.front;
        behind = whole.behind;
        old = slaves_bytes-append v at first (s ∷ rest) ∙ whole.old;
        new = slaves_bytes-append v at first (s' ∷ rest) ∙ ap (λ (n : ℕ). slaves_bytes v at first ++ (slave_bytes v q s' ++ slaves_bytes v (q + n) rest)) (sym size) ∙ whole.new;
        starts = omega (arith, whole.starts, place_shift configuration (q + 2 * v * length s.files) s.files some);
      }

  turn-put : {l new : List ℕ} → at + length (slaves_bytes v at (first ++ (s ∷ rest))) ≤ length l → Put l at (slaves_bytes v at (first ++ (s ∷ rest))) new
      → Put l at (slaves_bytes v at (first ++ (s' ∷ rest))) (set new (at + (near + 7)) unnamed)
  unfolding bytes_in
  turn-put {l} {new} room p =
      let bs : List ℕ = slaves_bytes v at (first ++ (s ∷ rest)) in
      let inside : near + 7 < length bs = omega (arith, replaced-fits among, there) in
      record {
        is = ap (λ (m : List ℕ). set m (at + (near + 7)) unnamed) p.is
            ∙ set_in_put l at bs (near + 7) unnamed room inside
            ∙ ap (sets l at) (replaced-store among 7 unnamed (omega (arith, there)) refl);
      }

module _ (held : List Bool) (d : Cluster) (i : ℕ) (more : i < length d.slaves) {v at : ℕ} (width : OffsetWidth v)
    (there : 16 ≤ length (bytes_among (slave_of d i).files configuration)) {old new : List ℕ} (room : at + slaves_size v d.slaves ≤ length old)
    (t : Turned v at d.slaves (mixed held d i) old new) where
  abbrev before' : List Slave
  before' = map (turned_by held) (take i d.slaves)

  abbrev behind' : List Slave
  behind' = drop (suc i) d.slaves

  mixed_here : mixed held d i ≡ before' ++ (slave_of d i ∷ behind')
  unfolding mixed slave_of
  mixed_here = ap (λ (xs : List Slave). before' ++ xs) (drop-cons d.slaves i no_slave_lem more)

  mixed_next : mixed held d (i + 1) ≡ before' ++ (turned_by held (slave_of d i) ∷ behind')
  unfolding mixed slave_of
  mixed_next =
      let one : i + 1 ≡ suc i = omega arith in
      let s : Slave = get_or d.slaves i no_slave_lem in
      rw (one, take-suc d.slaves i no_slave_lem more, map-append (turned_by held) (take i d.slaves) (s ∷ []))
      (append_assoc before' (turned_by held s ∷ []) behind')

  mixed_size : slaves_size v (mixed held d i) ≡ slaves_size v d.slaves
  unfolding mixed
  mixed_size =
      slaves_size-append v before' (drop i d.slaves)
      ∙ ap (λ (n : ℕ). n + slaves_size v (drop i d.slaves)) (sym (shape_size v (turned_shape held (take i d.slaves))))
      ∙ sym (slaves_size-append v (take i d.slaves) (drop i d.slaves))
      ∙ ap (slaves_size v) (take-append-drop i d.slaves)

  pub turned-next : {name : ℕ} {is_held : Bool} {mid : List ℕ} → name ≡ logical_name (slave_of d i) → is_held ≡ get_or held name false
      → mid ≡ turned_at is_held (at + (slaves_size v (take i d.slaves) + (2 * v * length (slave_of d i).files + place_among 0 (slave_of d i).files configuration) + 7)) new
      → Turned v at d.slaves (mixed held d (i + 1)) old mid
  unfolding turned_at turned_by
  turned-next {name} {is_held} {mid} named asked is =
      let mark : get_or held (logical_name (slave_of d i)) false ≡ is_held = ap (λ (n : ℕ). get_or held n false) (sym named) ∙ sym asked in
      let size : slaves_size v (take i d.slaves) ≡ slaves_size v before' = shape_size v (turned_shape held (take i d.slaves)) in
      by_case is_held
      (λ e.
      let yes : get_or held (logical_name (slave_of d i)) false ≡ true = mark ∙ e in
      record {
        long = ap length is ∙ rw e (length-set new _ unnamed) ∙ t.long;
        turns =
            λ l p.
            let was : Put l at (slaves_bytes v at (before' ++ (slave_of d i ∷ behind'))) new = put_same (ap (slaves_bytes v at) mixed_here) (t.turns l p) in
            let fits : at + length (slaves_bytes v at (before' ++ (slave_of d i ∷ behind'))) ≤ length l =
            omega (arith, room, put-room p, slaves_bytes-length width.least at (before' ++ (slave_of d i ∷ behind')), ap (slaves_size v) mixed_here, mixed_size)
            in
            let done = turn-put width at before' behind' (slave_of d i) there fits was in
            rw (is, e, mixed_next, yes, size) done;
      })
      (λ e.
      let no' : get_or held (logical_name (slave_of d i)) false ≡ false = mark ∙ e in
      record {
        long = ap length is ∙ rw e refl ∙ t.long;
        turns = λ l p. rw (is, e, mixed_next, no') (put_same (ap (slaves_bytes v at) mixed_here) (t.turns l p));
      })

pub record Turning (v at : ℕ) (f : List ℕ) (held : List Bool) (old new : List ℕ) (lost gained i : ℕ) : Type 0 where
  pub few : i ≤ slave_count f
  pub less : lost ≡ slave_start (width_in (decode f).edition) (decode f) 0 + 2 * width_in (decode f).edition * files_in (take i (decode f).slaves)
  pub more : gained ≡ at + 2 * v * files_in (take i (decode f).slaves)
  pub turned : Turned v at (decode f).slaves (mixed held (decode f) i) old new

pub turning_start : {f : List ℕ} {w n : ℕ} (v at : ℕ) (held : List Bool) (old : List ℕ) → AcceptedFile f → WidthOf f w → n ≡ slave_count f
    → Turning v at f held old old (8 + 4 * w + 2 * w * n) at 0
unfolding mixed files_in
turning_start v at held old h o count =
    record {
      few = omega arith;
      less = omega (arith, (first-start h o count).is);
      more = omega arith;
      turned = record { long = refl; turns = λ l p. p };
    }

module _ {v at : ℕ} {f : List ℕ} {held : List Bool} {old new : List ℕ} {lost gained i : ℕ} (t : Turning v at f held old new lost gained i) where
  abbrev ss : List Slave
  ss = (decode f).slaves

  pub turning_kept : length new ≡ length old
  turning_kept = t.turned.long

  pub turning_done : {n : ℕ} → n ≡ slave_count f → n ≤ i → Turned v at (decode f).slaves (turned_in held (decode f)).slaves old new
  unfolding mixed
  turning_done count done =
      let all : take i ss ≡ ss = take_all i ss (omega (arith, count)) in
      let none : drop i ss ≡ [] = drop_of_length-le ss {i = i} (omega (arith, count)) in
      let same : mixed held (decode f) i ≡ (turned_in held (decode f)).slaves =
      ap (λ (xs : List Slave). map (turned_by held) xs ++ drop i ss) all ∙ ap (λ (xs : List Slave). map (turned_by held) ss ++ xs) none
      ∙ append-nil (map (turned_by held) ss) ∙ sym (turned-slaves held (decode f))
      in
      record { long = t.turned.long; turns = λ l p. put_same (ap (slaves_bytes v at) same) (t.turned.turns l p) }

  module _ {places : List ℕ} (h : Placed f places) (fits : SlavesFit v old at (decode f).slaves) (more : i < slave_count f) {w k : ℕ} (o : WidthOf f w)
      (files : k ≡ length (slave_of (decode f) i).files) where
    -- the directories of the slaves up to this one
    files-next : files_in (take (i + 1) ss) ≡ files_in (take i ss) + k
    unfolding slave_of
    files-next = let one : i + 1 ≡ suc i = omega arith in rw one (omega (arith, files_in-next ss i more, files))

    lost_now : lost ≡ slave_start w (decode f) 0 + 2 * w * files_in (take i ss)
    lost_now = rw o.is t.less

    lost_is : lost + 2 * w * k ≡ slave_start w (decode f) 0 + 2 * w * files_in (take (i + 1) ss)
    lost_is = rw files-next (omega (arith, lost_now))

    gained_is : gained + 2 * v * k ≡ at + 2 * v * files_in (take (i + 1) ss)
    gained_is = rw files-next (omega (arith, t.more))

    abbrev s : Slave
    s = slave_of (decode f) i

    -- where its logical name lies in the buffer
    abbrev distance : ℕ
    distance = slaves_size v (take i ss) + (2 * v * length s.files + place_among 0 s.files configuration)

    place_own : get_or places (configuration_index i) 0 ≡ slave_start w (decode f) 0 + slaves_size w (take i ss) + 2 * w * k + place_among 0 s.files configuration
    unfolding slave_start slaves_size
    place_own = rw (files, o.is) (omega (arith, place_is h i more))

    own_parts : slaves_size w (take i ss) ≡ 2 * w * files_in (take i ss) + contents_in (take i ss)
    own_parts = size-parts o.width (take i ss)

    pub lost_order : lost + 2 * w * k ≤ get_or places (configuration_index i) 0 + 7
    lost_order = omega (arith, place_own, own_parts, lost_now)

    pub name-there : get_or places (configuration_index i) 0 + 7 - (lost + 2 * w * k) + (gained + 2 * v * k) ≡ at + (distance + 7)
    name-there = rw (sym files) (omega (arith, place_own, own_parts, size-parts fits.width (take i ss), lost_now, t.more))

    name-inside : distance + 7 < slaves_size v ss
    unfolding slave_size slave_of bytes_in
    name-inside =
        let one : i + 1 ≡ suc i = omega arith in
        let up : slaves_size v (take (i + 1) ss) ≡ slaves_size v (take i ss) + slave_size v s = rw one (slaves_size-next v ss i more) in
        omega (arith, up, first-slaves v ss (i + 1), place_inside configuration s.files (omega (arith, long h i more)), long h i more)

    pub name-fits : Fits w64 (get_or places (configuration_index i) 0 + 7 - (lost + 2 * w * k) + (gained + 2 * v * k))
    name-fits = record { fits = omega (arith, name-there, name-inside, fits.short, fits.width.most) }

    pub name-room : get_or places (configuration_index i) 0 + 7 - (lost + 2 * w * k) + (gained + 2 * v * k) < length new
    name-room = omega (arith, name-there, name-inside, fits.room, t.turned.long)

    pub lost_fits : Fits w64 (lost + 2 * w * k)
    lost_fits = record { fits = omega (arith, lost_order, (configuration-byte-fits h i more 7 (omega arith)).fits) }

    pub gained_fits : Fits w64 (gained + 2 * v * k)
    gained_fits = record { fits = omega (arith, name-there, name-inside, lost_order, fits.short, fits.width.most) }

    -- this slave is turned too
    pub turning_next : {name : ℕ} {is_held : Bool} {mid : List ℕ} → name ≡ logical_name (slave_of (decode f) i) → is_held ≡ get_or held name false
        → mid ≡ turned_at is_held (get_or places (configuration_index i) 0 + 7 - (lost + 2 * w * k) + (gained + 2 * v * k)) new
        → Turning v at f held old mid (lost + 2 * w * k) (gained + 2 * v * k) (i + 1)
    turning_next {is_held = is_held} named asked is =
        record {
          few = omega arith;
          less = lost_is ∙ ap (λ (m : ℕ). slave_start m (decode f) 0 + 2 * m * files_in (take (i + 1) ss)) o.is;
          more = gained_is;
          turned = turned-next held (decode f) i more fits.width (long h i more) fits.room t.turned named asked (is ∙ ap (λ (j : ℕ). turned_at is_held j new) name-there);
        }
