-- Reading and storing in an encoding: the bytes from a file's place on are the file's, and a byte stored there gives the encoding
-- of the cluster with that byte put. One induction, over files and over slaves, finds the file in the encoding before and after
-- the store at once; reading and storing are laws of lists from there.
-- Assumes nothing.
use Rattle.std.proofs.Common.{ℕ, zero, suc, ◌+◌, ◌*◌, ◌≤◌, ◌<◌, arith, zero-add, suc-add, add-zero, ◌≡◌, refl, ap, ◌∙◌, List, [], ◌∷◌, ◌++◌}
use Rattle.std.proofs.Common.{append_assoc, length, get_or, set, drop, length-drop, length-append, get_or-append-add, eqb}
use lib.ListN.{get_or-append}
use lib.Seq.{drop-append-add, drop-append-le, take-append-le, set-append_left, sets}
use Rattle.file.specs.Rules.Bytes.{part}
use Rattle.file.specs.Rules.Layout.{entry_size_lem}
use Rattle.file.specs.Rules.Cluster.{File, Slave, Cluster, bytes_among, bytes_in}
use Rattle.file.specs.Rules.Encode.{directory, contents, slave_size, slave_bytes, slaves_bytes, table, slaves_place, header, encode_at}
use Rattle.file.specs.Inner.Places.{no_slave_lem, slave_of, place_among, file_place_from, file_place_at, put_byte, put_bytes, SameShape}
use Rattle.file.specs.Rules.Changes.{put_among, put_in_slave, with_slaves}
use Rattle.file.proofs.Order.{by_case}
use Rattle.file.proofs.Sizes.{directory-length, slave_bytes-length, table-length, header-length}
use Rattle.file.proofs.Shape.{files-put, slave-put, files-count, files-directory, slave-size, shape_table, shape_count, shape_slaves_place, shape_file_length, shape_put_byte, sleep_put_byte}
use Rattle.file.proofs.Puts.{put_byte-file_place_at, put_byte-bytes-length}

-- ---- bytes that are replaced in a list

-- bs stands in l at a place, where l begins at another, and l' is l with bs' instead
pub record Replaced (l l' : List ℕ) (begin place : ℕ) (bs bs' : List ℕ) : Type 0 where
  pub front : List ℕ
  pub behind : List ℕ
  pub old : l ≡ front ++ (bs ++ behind)
  pub new : l' ≡ front ++ (bs' ++ behind)
  pub starts : begin + length front ≡ place

pub after : (p : List ℕ) {l l' : List ℕ} {begin place : ℕ} {bs bs' : List ℕ} → Replaced l l' (begin + length p) place bs bs' → Replaced (p ++ l) (p ++ l') begin place bs bs'
after p r =
    record {
      front = p ++ r.front;
      behind = r.behind;
      old = simp append_assoc (ap (λ (x : List ℕ). p ++ x) r.old);
      new = simp append_assoc (ap (λ (x : List ℕ). p ++ x) r.new);
      starts = simp length-append (omega arith);
    }

pub before : (q : List ℕ) {l l' : List ℕ} {begin place : ℕ} {bs bs' : List ℕ} → Replaced l l' begin place bs bs' → Replaced (l ++ q) (l' ++ q) begin place bs bs'
before q r =
    record {
      front = r.front;
      behind = r.behind ++ q;
      old = ap (λ (x : List ℕ). x ++ q) r.old ∙ simp append_assoc;
      new = ap (λ (x : List ℕ). x ++ q) r.new ∙ simp append_assoc;
      starts = r.starts;
    }

-- an element behind the first list is stored in the second
pub set-append-add : (xs ys : List ℕ) (i b : ℕ) → set (xs ++ ys) (length xs + i) b ≡ xs ++ set ys i b
set-append-add [] ys i b = rw zero-add
set-append-add (x ∷ xs) ys i b = rw (suc-add, set-append-add xs ys i b)

module _ {l l' : List ℕ} {place : ℕ} {bs bs' : List ℕ} (r : Replaced l l' 0 place bs bs') where
  pub replaced-fits : place + length bs ≤ length l
  replaced-fits = rw r.old (simp length-append (omega (arith, r.starts)))

  replaced-part : (a m : ℕ) → a + m ≤ length bs → part l (place + a) m ≡ part bs a m
  unfolding part
  replaced-part a m h =
      let inside : m ≤ length (drop a bs) = simp length-drop (omega arith) in
      let below : a ≤ length bs = omega arith in
      let e : place + a ≡ length r.front + a = omega (arith, r.starts) in
      rw (e, r.old, drop-append-add r.front (bs ++ r.behind) a, drop-append-le a bs r.behind below, take-append-le m (drop a bs) r.behind inside)

  pub replaced-read : (k : ℕ) → k < length bs → get_or l (place + k) 0 ≡ get_or bs k 0
  replaced-read k h =
      let e : place + k ≡ length r.front + k = omega (arith, r.starts) in
      rw (e, r.old, get_or-append-add r.front (bs ++ r.behind) k 0, get_or-append bs r.behind 0 k h)

  pub replaced-store : (k b : ℕ) → k < length bs → bs' ≡ set bs k b → set l (place + k) b ≡ l'
  replaced-store k b h stored =
      let e : place + k ≡ length r.front + k = omega (arith, r.starts) in
      rw (e, r.old, r.new, stored, set-append-add r.front (bs ++ r.behind) k b, set-append_left bs r.behind k b h)

-- the header states the slaves' number and sizes, and no byte of a file
pub header_shape : (w : ℕ) (c : Cluster) (ss : List Slave) → SameShape c.slaves ss → header w (with_slaves c ss) ≡ header w c
unfolding header with_slaves
header_shape w c ss same = rw (shape_count same, shape_file_length w same)

-- ---- the file in the encoding, before and after a byte is put

module _ (n k b : ℕ) where
  files-replaced : (begin : ℕ) (xs : List File) → 0 < length (bytes_among xs n)
      → Replaced (contents xs) (contents (put_among xs n k b)) begin (place_among begin xs n) (bytes_among xs n) (set (bytes_among xs n) k b)
  unfolding contents put_among place_among bytes_among
  files-replaced begin [] some = absurd (omega arith)
  files-replaced begin (x ∷ xs) some =
      by_case (eqb x.number n)
      (λ e. rw e record { front = []; behind = contents xs; old = refl; new = refl; starts = add-zero begin })
      (λ e.
      let rest : 0 < length (bytes_among xs n) = rw e at some in
      rw e (after x.bytes (files-replaced (begin + length x.bytes) xs rest)))

  module _ {w : ℕ} (wide : 2 ≤ w) where
    pub slave-replaced : (begin : ℕ) (x : Slave) → 0 < length (bytes_in x n)
        → Replaced (slave_bytes w begin x) (slave_bytes w begin (put_in_slave x n k b)) begin
        (place_among (begin + entry_size_lem w * length x.files) x.files n) (bytes_in x n) (set (bytes_in x n) k b)
    unfolding slave_bytes put_in_slave bytes_in
    slave-replaced begin x some =
        let xs : List File = x.files in
        let there : ℕ = begin + entry_size_lem w * length xs in
        rw (← files-count (files-put xs n k b), ← files-directory w there (files-put xs n k b))
        (after (directory w there xs) (rw (directory-length wide there xs) (files-replaced there xs some)))

    slaves-replaced : (begin : ℕ) (ss : List Slave) (s : ℕ) → 0 < length (bytes_in (get_or ss s no_slave_lem) n)
        → Replaced (slaves_bytes w begin ss) (slaves_bytes w begin (set ss s (put_in_slave (get_or ss s no_slave_lem) n k b))) begin
        (file_place_from w begin ss s n) (bytes_in (get_or ss s no_slave_lem) n) (set (bytes_in (get_or ss s no_slave_lem) n) k b)
    unfolding slaves_bytes file_place_from bytes_in bytes_among
    slaves-replaced begin [] s some = absurd (omega arith)
    slaves-replaced begin (x ∷ xs) zero some =
        rw (← slave-size x (put_in_slave x n k b) w (slave-put x n k b)) (before (slaves_bytes w (begin + slave_size w x) xs) (slave-replaced begin x some))
    slaves-replaced begin (x ∷ xs) (suc s) some =
        after (slave_bytes w begin x) (rw (slave_bytes-length wide begin x) (slaves-replaced (begin + slave_size w x) xs s some))

    behind-table : (c : Cluster) → 0 + length (header w c) + length (table w (slaves_place w c.slaves) c.slaves) ≡ slaves_place w c.slaves
    unfolding slaves_place
    behind-table c = rw (header-length wide, table-length wide) (omega arith)

    encoding-replaced : (c : Cluster) (s : ℕ) → 0 < length (bytes_in (slave_of c s) n)
        → Replaced (encode_at w c) (encode_at w (put_byte c s n k b)) 0 (file_place_at w c s n) (bytes_in (slave_of c s) n) (set (bytes_in (slave_of c s) n) k b)
    unfolding encode_at file_place_at put_byte with_slaves slave_of
    encoding-replaced c s some =
        let ss : List Slave = c.slaves in
        let ts : List Slave = set ss s (put_in_slave (get_or ss s no_slave_lem) n k b) in
        let same : SameShape ss ts = shape_put_byte c s n k b in
        let begin : ℕ = slaves_place w ss in
        rw (header_shape w c ts same, ← shape_slaves_place w same, ← shape_table w begin same (sleep_put_byte c s n k b))
        (after (header w c) (after (table w begin ss) (rw (behind-table c) (slaves-replaced begin ss s some))))

-- ---- reading and storing a file's bytes

module _ {w : ℕ} (wide : 2 ≤ w) (s n : ℕ) where
  -- a file that has bytes lies within the encoding
  pub file-fits : (c : Cluster) → 0 < length (bytes_in (slave_of c s) n) → file_place_at w c s n + length (bytes_in (slave_of c s) n) ≤ length (encode_at w c)
  file-fits c some = replaced-fits (encoding-replaced n 0 0 wide c s some)

  -- byte k of the file stands k bytes behind the file's place
  pub read_byte : (c : Cluster) (k : ℕ) → k < length (bytes_in (slave_of c s) n) → get_or (encode_at w c) (file_place_at w c s n + k) 0 ≡ get_or (bytes_in (slave_of c s) n) k 0
  read_byte c k h = replaced-read (encoding-replaced n 0 0 wide c s (omega arith)) k h

  -- the same of a part of the file, as a record or a name of several bytes
  pub read-part : (c : Cluster) (a m : ℕ) → a + m ≤ length (bytes_in (slave_of c s) n) → part (encode_at w c) (file_place_at w c s n + a) m ≡ part (bytes_in (slave_of c s) n) a m
  unfolding part
  read-part c a zero h = refl
  read-part c a (suc m) h = replaced-part (encoding-replaced n 0 0 wide c s (omega arith)) a (suc m) h

  -- a byte stored there gives the encoding of the cluster with that byte put
  pub store_byte : (c : Cluster) (k b : ℕ) → k < length (bytes_in (slave_of c s) n) → set (encode_at w c) (file_place_at w c s n + k) b ≡ encode_at w (put_byte c s n k b)
  store_byte c k b h = replaced-store (encoding-replaced n k b wide c s (omega arith)) k b h refl

  -- the same of several, stored one after the other
  pub store_bytes : (c : Cluster) (k : ℕ) (bs : List ℕ) → k + length bs ≤ length (bytes_in (slave_of c s) n)
      → sets (encode_at w c) (file_place_at w c s n + k) bs ≡ encode_at w (put_bytes c s n k bs)
  unfolding put_bytes
  store_bytes c k [] h = refl
  store_bytes c k (b ∷ bs) h =
      let e : suc (file_place_at w c s n + k) ≡ file_place_at w c s n + suc k = omega arith in
      let here : k < length (bytes_in (slave_of c s) n) = omega arith in
      let rest : suc k + length bs ≤ length (bytes_in (slave_of (put_byte c s n k b) s) n) = rw (put_byte-bytes-length c s n k b s n) (omega arith) in
      rw (e, store_byte c k b here, ← put_byte-file_place_at c s n k b w s n) (store_bytes (put_byte c s n k b) (suc k) bs rest)
