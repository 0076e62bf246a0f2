-- The call that joins: its grounds in their order, what it answers, and what it leaves in the buffer.
-- Assumes nothing.
use Rattle.std.proofs.Common.{ℕ, suc, ◌+◌, ◌*◌, ◌-◌, ◌≤◌, ◌<◌, arith, ◌≡◌, refl, sym, ap, ap₂, ◌∙◌, subst, List, [], ◌∷◌, ◌++◌, map, append_assoc, Bool, true, false, cond, w64, Fits, length, replicate, length-append, eqb, ltb, lt-ltb, le-ltb}
use lib.ListN.{length-map}
use Rattle.file.specs.Rules.Bytes.{Byte, Bytes, All, bytes_of}
use Rattle.file.specs.Rules.Layout.{width_in, edition_of, header_size, zeros_length, record_size}
use Rattle.file.specs.Rules.Results.{refused, done, written_in}
use Rattle.file.specs.Rules.Cluster.{File, Slave, Cluster, bytes_among, bytes_in, configuration, logical_name, logical_names}
use Rattle.file.specs.Rules.Encode.{slave_size, slave_bytes, slaves_bytes, table, slaves_place, file_length, header, encode_at, encode}
use Rattle.file.specs.Rules.Decode.{decode}
use Rattle.file.specs.Rules.Legal.{LegalFile, LegalSlave}
use Rattle.file.specs.Rules.Changes.{with_sleep}
use Rattle.file.specs.Rules.Editions.{exceeds}
use Rattle.file.specs.Inner.Accepted.{WidthOf, slave_count, Placed}
use Rattle.file.specs.Inner.Surveyed.{Surveyed}
use Rattle.file.specs.declared.types.Refusal.{Refusal}
use Rattle.file.proofs.Order.{by_case, either_left, either_right, either_false}
use Rattle.file.proofs.Bytes.{byte_at}
use Rattle.file.proofs.Surveyed.{survey-refused}
use Rattle.file.proofs.Sizes.{header-length, encode_at-length}
use Rattle.file.proofs.Shape.{shape_file_length}
use Rattle.file.proofs.Appended.{file_length-append}
use Rattle.convert.specs.Inner.Putting.{Put, header_front}
use Rattle.convert.specs.Inner.Slaves.{listed_as, listed, is_over}
use Rattle.convert.proofs.Putting.{put_same, put_then, put_written}
use Rattle.convert.proofs.ReadLaws.{count-few, form-most}
use Rattle.convert.proofs.Calls.{within, over_slaves}
use Rattle.join.specs.Rules.Joined.{turned, slaves_joined, awake, joined, joined_file, shares_name}
use Rattle.join.specs.Rules.Join.{join_on}
use Rattle.join.specs.Inner.Names.{MarksOf}
use Rattle.join.specs.Inner.Turned.{turned_by, turned_in}
use Rattle.join.specs.Inner.Form.{joined_header, joined_table, joined_slaves, joined_body, HeaderFits, JoinFits, JoinedFits}
use Rattle.join.proofs.Joining.{joined_shape, joined-count}
use Rattle.join.proofs.Order.{over as too_large_lem, first_decides, second_decides, names_decide, size_decides, none-holds, join-refused, join_written}
use Rattle.join.proofs.TurnLaws.{turned-slaves}
use Rattle.join.proofs.BodyLaws.{fits_kept}
use Rattle.file.specs.Inner.Refusals.{Answered, refusal_number, outcome_of}
use Rattle.std.specs.Prelude.{Err}

-- ---- the joined slaves take what both files' do

module _ (c d : Cluster) where
  pub joined_length : (v : ℕ) → file_length v (joined c d).slaves ≡ file_length v (c.slaves ++ d.slaves)
  joined_length v = sym (shape_file_length v (joined_shape c d))

-- ---- the marks say which become 0xFF

bytes-among : {xs : List File} (n : ℕ) → All LegalFile xs → Bytes (bytes_among xs n)
unfolding bytes_among
bytes-among n All.all_empty = All.all_empty
bytes-among n (All.all_next {a = x} {l = xs} p r) =
    by_case {P = Bytes (cond (eqb x.number n) x.bytes (bytes_among xs n))} (eqb x.number n) (λ e. rw e p.bytes) (λ e. rw e (bytes-among n r))

name-byte : {s : Slave} → LegalSlave s → Byte (logical_name s)
unfolding logical_name bytes_in
name-byte l = byte_at (bytes-among configuration l.files) (record_size + 3)

module _ {held : List Bool} {names : List ℕ} (marks : MarksOf 256 held names) where
  marked_turned : {us : List Slave} → All LegalSlave us → map (turned_by held) us ≡ map (turned names) us
  unfolding turned_by turned
  marked_turned All.all_empty = refl
  marked_turned (All.all_next {a = s} l ls) =
      rw (marks.are.are (logical_name s) (omega (arith, marks.long, name-byte l)), marked_turned ls)

-- ---- the form

listed-bytes : (v place : ℕ) (ss : List Slave) → slaves_bytes v place (map awake ss) ≡ slaves_bytes v place ss
unfolding slaves_bytes slave_bytes slave_size awake with_sleep
listed-bytes v place [] = refl
listed-bytes v place (s ∷ ss) = rw (listed-bytes v (place + slave_size v s) ss)

awake-listed : (ss : List Slave) → listed false ss ≡ map awake ss
unfolding listed_as awake with_sleep
awake-listed [] = refl
awake-listed (s ∷ ss) = ap (λ (x : List Slave). awake s ∷ x) (awake-listed ss)

zeros_five : (n : ℕ) → replicate (5 + n) 0 ≡ ◌++◌ {A = ℕ} (0 ∷ 0 ∷ 0 ∷ 0 ∷ 0 ∷ []) (replicate n 0)
zeros_five n = let five : 5 + n ≡ suc (suc (suc (suc (suc n)))) = omega arith in ap (λ (k : ℕ). replicate k 0) five

module _ (c d : Cluster) (v : ℕ) where
  header_is : {k size : ℕ} → k ≡ length (joined c d).slaves → size ≡ file_length v (joined c d).slaves → joined_header v k size ≡ header v (joined c d)
  unfolding joined_header header_front header joined
  header_is {k} {size} count long =
      let mark : ℕ → List ℕ = λ (n : ℕ). 0x54 ∷ 0x41 ∷ edition_of v ∷ n ∷ [] in
      let offset : List ℕ = bytes_of v (header_size v) in
      let five : List ℕ = (0 ∷ 0 ∷ 0 ∷ 0 ∷ 0 ∷ []) ++ replicate (zeros_length v) 0 in
      let apart : (mark k ++ (offset ++ bytes_of v size)) ++ replicate (5 + zeros_length v) 0 ≡ mark k ++ (offset ++ (bytes_of v size ++ replicate (5 + zeros_length v) 0)) = simp append_assoc in
      apart
      ∙ ap (λ (z : List ℕ). mark k ++ (offset ++ (bytes_of v size ++ z))) (zeros_five (zeros_length v))
      ∙ ap (λ (n : ℕ). mark n ++ (offset ++ (bytes_of v size ++ five))) count
      ∙ ap (λ (n : ℕ). mark (length (joined c d).slaves) ++ (offset ++ (bytes_of v n ++ five))) long

  body_is : joined_body v (slaves_joined c d)
      ≡ table v (slaves_place v (joined c d).slaves) (joined c d).slaves ++ slaves_bytes v (slaves_place v (joined c d).slaves) (joined c d).slaves
  unfolding joined_body joined_table joined_slaves joined slaves_place
  body_is =
      let all : List Slave = slaves_joined c d in
      let same : length (map awake all) ≡ length all = length-map all awake in
      rw (same, listed-bytes v (8 + 4 * v + 2 * v * length all) all, awake-listed all)

  form-is : {k size : ℕ} → k ≡ length (joined c d).slaves → size ≡ file_length v (joined c d).slaves
      → joined_header v k size ++ joined_body v (slaves_joined c d) ≡ encode_at v (joined c d)
  unfolding encode_at
  form-is count long = ap₂ (λ (x y : List ℕ). x ++ y) (header_is count long) body_is

  pub form-put : {k size : ℕ} {l m n : List ℕ} → 2 ≤ v → k ≡ length (joined c d).slaves → size ≡ file_length v (joined c d).slaves
      → Put l 0 (joined_header v k size) m → Put m (8 + 4 * v) (joined_body v (slaves_joined c d)) n → Put l 0 (encode_at v (joined c d)) n
  form-put {k} {size} two count long p q =
      let there : 8 + 4 * v ≡ 0 + length (joined_header v k size) = omega (arith, ap length (header_is count long), header-length two (joined c d)) in
      put_same (form-is count long) (put_then p there q)

-- ---- the join is written

joined-file : (f g : List ℕ) {v : ℕ} → v ≡ width_in (decode f).edition → encode_at v (joined (decode f) (decode g)) ≡ joined_file f g
unfolding joined_file encode
joined-file f g is = ap (λ (k : ℕ). encode_at k (joined (decode f) (decode g))) is ∙ (unfold joined in refl)

file-length : (f g : List ℕ) {v : ℕ} → v ≡ width_in (decode f).edition → 2 ≤ v
    → length (joined_file f g) ≡ file_length (width_in (decode f).edition) (joined (decode f) (decode g)).slaves
file-length f g {v} is two =
    ap length (sym (joined-file f g is)) ∙ encode_at-length two (joined (decode f) (decode g)) ∙ ap (λ (k : ℕ). file_length k (joined (decode f) (decode g)).slaves) is

module _ {f g places others out : List ℕ} (p : Placed f places) (q : Placed g others) {alone size : ℕ}
    (room : JoinedFits (width_in (decode f).edition) out alone size (decode f).slaves (decode g).slaves) {v n m : ℕ} (w : WidthOf f v)
    (first : n ≡ slave_count f) (second : m ≡ slave_count g) where
  here : JoinedFits v out alone size (decode f).slaves (decode g).slaves
  here = subst (λ (k : ℕ). JoinedFits k out alone size (decode f).slaves (decode g).slaves) (sym w.is) room

  pub form-header : HeaderFits v out (n + m) size
  unfolding file_length slaves_place
  form-header =
      record {
        offset = record { width = w.width; most = omega (arith, here.whole, here.fits.short) };
        byte = omega (arith, first, second, count-few p.file, count-few q.file);
        room = omega (arith, here.fits.room);
      }

  module _ {mid : List ℕ} (head : Put out 0 (joined_header v (n + m) size) mid) where
    pub form_body : JoinFits v mid alone (decode f).slaves (decode g).slaves
    form_body = fits_kept here.fits head

    pub form-written : {held : List Bool} {new : List ℕ} → MarksOf 256 held (logical_names (decode f))
        → Put mid (8 + 4 * v) (joined_body v ((decode f).slaves ++ (turned_in held (decode g)).slaves)) new
        → new ≡ written_in out (joined_file f g)
    form-written {held} {new} marks body =
        let c = decode f in
        let d = decode g in
        let listing : c.slaves ++ (turned_in held d).slaves ≡ slaves_joined c d =
        unfold slaves_joined in ap (λ (x : List Slave). c.slaves ++ x) (turned-slaves held d ∙ marked_turned marks q.file.legal.slaves)
        in
        let count : n + m ≡ length (joined c d).slaves = omega (arith, first, second, joined-count c d) in
        let long : size ≡ file_length v (joined c d).slaves = here.whole ∙ sym (joined_length c d v) in
        let file : encode_at v (joined c d) ≡ joined_file f g = joined-file f g w.is in
        let form : Put out 0 (joined_file f g) new =
        put_same file (form-put c d v w.width.least count long head (put_same (ap (joined_body v) listing) body))
        in
        put_written form (omega (arith, here.fits.room, joined_length c d v, ap length (sym file), encode_at-length w.width.least (joined c d)))

-- ---- the ways of the call, by the answers of the surveys

module _ (f g out : List ℕ) where
  abbrev width : ℕ
  width = width_in (decode f).edition

  abbrev slaves : List Slave
  slaves = (joined (decode f) (decode g)).slaves

pub call-first : {f places : List ℕ} {a : Answered (Unit {0})} (g out : List ℕ) → Surveyed f (outcome_of a) places → {why : Refusal} → a ≡ Err why
    → (refused (refusal_number why), out) ≡ join_on f g out
call-first {f} g out s is =
    let reason = survey-refused s is in
    sym (join-refused f g out (first_decides f g out (λ z. reason.1 (reason.0 ∙ z)) ∙ sym reason.0) reason.1)

pub call-second : {f g places others : List ℕ} {a : Answered (Unit {0})} (out : List ℕ) → Placed f places → Surveyed g (outcome_of a) others → {why : Refusal}
    → a ≡ Err why → (refused (refusal_number why), out) ≡ join_on f g out
call-second {f} {g} out p s is =
    let reason = survey-refused s is in
    sym (join-refused f g out (second_decides f g out p.file.accepted (λ z. reason.1 (reason.0 ∙ z)) ∙ sym reason.0) reason.1)

-- the test of the names
pub names_apart : (c d : Cluster) {t : Bool} → t ≡ shares_name c d → t ≡ false → shares_name c d ≡ false
names_apart c d is no' = sym is ∙ no'

module _ {f g places others : List ℕ} (p : Placed f places) (q : Placed g others) (out : List ℕ) where
  pub call-shared : {t : Bool} → t ≡ shares_name (decode f) (decode g) → t ≡ true → (refused 29, out) ≡ join_on f g out
  call-shared is shared =
      sym (join-refused f g out (names_decide f g out p.file.accepted q.file.accepted (sym is ∙ shared)) (λ z. omega arith))

  -- two files that share none, by the lengths of their forms in the first's edition
  module _ {v alone more : ℕ} (w : WidthOf f v) (long : alone ≡ file_length v (decode f).slaves) (longer : more ≡ file_length v (decode g).slaves) where
    pub sum_fits : Fits w64 (alone + more)
    sum_fits = record { fits = omega (arith, long, longer, form-most p.file w.width, form-most q.file w.width) }

    pub header-below : 8 + 4 * v ≤ alone + more
    unfolding file_length slaves_place
    header-below = omega (arith, long)

    size_plain : alone + more - (8 + 4 * v) ≡ file_length v ((decode f).slaves ++ (decode g).slaves)
    unfolding file_length slaves_place
    size_plain = omega (arith, long, longer, file_length-append v (decode f).slaves (decode g).slaves)

    size_is : alone + more - (8 + 4 * v) ≡ file_length v (joined (decode f) (decode g)).slaves
    size_is = size_plain ∙ sym (joined_length (decode f) (decode g) v)

    module _ {n m : ℕ} (first : n ≡ slave_count f) (second : m ≡ slave_count g) where
      count-is : n + m ≡ length (joined (decode f) (decode g)).slaves
      count-is = omega (arith, first, second, joined-count (decode f) (decode g))

      module _ (apart : shares_name (decode f) (decode g) ≡ false) {over : Bool} (test : over ≡ is_over v (n + m) (alone + more - (8 + 4 * v))) where
        over_here : {b : Bool} → over ≡ b → exceeds v (joined (decode f) (decode g)).slaves ≡ b
        over_here b = sym (over_slaves v (joined (decode f) (decode g)).slaves count-is size_is) ∙ sym test ∙ b

        over_is : {b : Bool} → over ≡ b → exceeds (width f g out) (slaves f g out) ≡ b
        over_is b = ap (λ (k : ℕ). exceeds k (slaves f g out)) (sym w.is) ∙ over_here b

        length-is : alone + more - (8 + 4 * v) ≡ file_length (width f g out) (slaves f g out)
        length-is = size_is ∙ ap (λ (k : ℕ). file_length k (slaves f g out)) w.is

        large : too_large_lem f g out ≡ true → (refused 30, out) ≡ join_on f g out
        large holds = sym (join-refused f g out (size_decides f g out p.file.accepted q.file.accepted apart holds) (λ z. omega arith))

        pub call_over : over ≡ true → (refused 30, out) ≡ join_on f g out
        call_over holds = large (either_left (ltb (length out) (file_length (width f g out) (slaves f g out))) (over_is holds))

        pub call-short : length out < alone + more - (8 + 4 * v) → (refused 30, out) ≡ join_on f g out
        call-short short =
            large (either_right (exceeds (width f g out) (slaves f g out)) (lt-ltb (length out) (file_length (width f g out) (slaves f g out)) (omega (arith, length-is))))

        module _ (no' : over ≡ false) (room : alone + more - (8 + 4 * v) ≤ length out) where
          pub call_fits : JoinedFits (width_in (decode f).edition) out alone (alone + more - (8 + 4 * v)) (decode f).slaves (decode g).slaves
          call_fits =
              let inside = within (over_here no') in
              let fits : JoinFits v out alone (decode f).slaves (decode g).slaves =
              record {
                width = w.width;
                first = long;
                room = omega (arith, size_plain);
                short = omega (arith, inside.short, joined_length (decode f) (decode g) v);
                few = omega (arith, inside.few, joined-count (decode f) (decode g), length-append (decode f).slaves (decode g).slaves);
              }
              in
              subst (λ (k : ℕ). JoinedFits k out alone (alone + more - (8 + 4 * v)) (decode f).slaves (decode g).slaves) w.is (record { fits = fits; whole = size_plain })

          pub call-written : {new : List ℕ} → new ≡ written_in out (joined_file f g) → (done (alone + more - (8 + 4 * v)), new) ≡ join_on f g out
          call-written {new} left =
              let bytes : alone + more - (8 + 4 * v) ≡ length (joined_file f g) = length-is ∙ sym (file-length f g w.is w.width.least) in
              rw (bytes, left)
              (sym
              (join_written f g out
              (none-holds f g out p.file.accepted q.file.accepted apart
              (either_false (over_is no') (le-ltb (length out) (file_length (width f g out) (slaves f g out)) (omega (arith, length-is)))))))
