-- Stores in a list of bytes; and a byte put in a file: what the slave then holds, and what of the cluster stays as it was.
-- Assumes nothing.
use Rattle.std.proofs.Common.{ℕ, suc, ◌+◌, ◌*◌, ◌-◌, ◌≤◌, ◌<◌, arith, ◌≡◌, refl, sym, ◌∙◌, ◌≢◌, List, [], ◌∷◌, ◌++◌, map, append_assoc, true, false}
use Rattle.std.proofs.Common.{length, get_or, set, take, drop, get_or-set_same, get_or-set_other, drop-set-lt, length-take-le, drop_at, eqb, ltb}
use Rattle.std.proofs.Common.{eqb-true, ne_eqb, ltb-true, ltb-false, leb-true}
use lib.Seq.{drop-set-add, take-set-le, map-set_same, sets, sets-eq, set-get_or, take-append_seam}
use Rattle.file.specs.Rules.Bytes.{part}
use Rattle.file.specs.Rules.Layout.{record_size}
use Rattle.file.specs.Rules.Cluster.{File, Slave, Cluster, bytes_among, bytes_in, documentation, physical_name, has_record}
use Rattle.file.specs.Inner.Places.{no_slave_lem, slave_of, file_place_at, put_byte}
use Rattle.file.specs.Rules.Changes.{put_among, put_in_slave, with_slaves}
use Rattle.file.proofs.Order.{by_case}
use Rattle.file.proofs.Shape.{shape_count, shape_file_place_at, shape_bytes-length, shape_put_byte}

-- ---- parts of a list after a store, and after a run of stores, elsewhere

pub part-set : (l : List ℕ) (k b a m : ℕ) → (a ≤ k → a + m ≤ k) → part (set l k b) a m ≡ part l a m
unfolding part
part-set l k b a m outside =
    by_case (ltb k a)
    (λ e. rw (drop-set-lt a l k b (ltb-true k a e)))
    (λ e.
    let below : a ≤ k = ltb-false k a e in
    let i : ℕ = k - a in
    let past : m ≤ i = omega (arith, outside below) in
    let q : k ≡ a + i = omega arith in
    rw (q, drop-set-add a l i b, take-set-le m (drop a l) i b past))

-- what no store of the run changes
sets_keep : {A : Type 0} (f : List ℕ → A) (l : List ℕ) (k : ℕ) (bs : List ℕ)
    → ((x : List ℕ) (j b : ℕ) → k ≤ j → j < k + length bs → f (set x j b) ≡ f x) → f (sets l k bs) ≡ f l
sets_keep f l k [] keeps = refl
sets_keep f l k (b ∷ bs) keeps =
    sets_keep f (set l k b) (suc k) bs (λ x j b' low high. keeps x j b' (omega arith) (omega arith))
    ∙ keeps l k b (omega arith) (omega arith)

pub part_sets : (l : List ℕ) (k : ℕ) (bs : List ℕ) (a m : ℕ) → (a < k + length bs → a + m ≤ k) → part (sets l k bs) a m ≡ part l a m
part_sets l k bs a m outside =
    sets_keep (λ (x : List ℕ). part x a m) l k bs (λ x j b low high. part-set x j b a m (λ h. omega (arith, outside (omega arith))))

pub get_d_sets : (l : List ℕ) (k : ℕ) (bs : List ℕ) (i : ℕ) → (i < k + length bs → i < k) → get_or (sets l k bs) i 0 ≡ get_or l i 0
get_d_sets l k bs i outside =
    sets_keep (λ (x : List ℕ). get_or x i 0) l k bs
    (λ x j b low high. get_or-set_other x j i b 0 (λ q. let h : i < k = outside (omega arith) in omega arith))

-- the bytes stored are read again
pub sets_part : (l : List ℕ) (k : ℕ) (bs : List ℕ) → k + length bs ≤ length l → part (sets l k bs) k (length bs) ≡ bs
unfolding part
sets_part l k bs fits =
    let e : length (take k l) ≡ k = length-take-le k l (omega arith) in
    rw (sets-eq bs l k fits, append_assoc, drop_at (take k l) (bs ++ drop (k + length bs) l) k e, take-append_seam)

-- one that is stored as it was changes nothing
pub sets_again : (l : List ℕ) (k : ℕ) (bs : List ℕ) → sets l k (bs ++ (get_or l (k + length bs) 0 ∷ [])) ≡ sets l k bs
sets_again l k bs =
    rw (sets_append l k bs (get_or l (k + length bs) 0 ∷ []), ← get_d_sets l k bs (k + length bs) (omega arith)) (set-get_or (sets l k bs) (k + length bs) 0)
  where
    sets_append : (l : List ℕ) (k : ℕ) (bs cs : List ℕ) → sets l k (bs ++ cs) ≡ sets (sets l k bs) (k + length bs) cs
    sets_append l k [] cs = let e : k + 0 ≡ k = omega arith in rw e
    sets_append l k (b ∷ bs) cs =
        let e : suc k + length bs ≡ k + length (b ∷ bs) = omega arith in
        rw (sets_append (set l k b) (suc k) bs cs, e)

-- ---- one byte, among a slave's files

module _ (n k b : ℕ) where
  among_same : (xs : List File) → bytes_among (put_among xs n k b) n ≡ set (bytes_among xs n) k b
  unfolding bytes_among put_among
  among_same [] = refl
  among_same (x ∷ xs) =
      by_case (eqb x.number n) (λ e. simp e) (λ e. simp (e, among_same xs))

  among_other : (xs : List File) (n' : ℕ) → n' ≢ n → bytes_among (put_among xs n k b) n' ≡ bytes_among xs n'
  unfolding bytes_among put_among
  among_other [] n' differ = refl
  among_other (x ∷ xs) n' differ =
      by_case (eqb x.number n)
      (λ e. let f : eqb x.number n' ≡ false = ne_eqb x.number n' (λ q. differ (sym q ∙ eqb-true x.number n e)) in simp (e, f))
      (λ e. simp (e, among_other xs n' differ))

  -- the file's bytes are those with the byte put; a file that is not there stays so
  pub in_slave_same : (x : Slave) → bytes_in (put_in_slave x n k b) n ≡ set (bytes_in x n) k b
  unfolding bytes_in put_in_slave
  in_slave_same x = among_same x.files

  pub in_slave_other : (x : Slave) (n' : ℕ) → n' ≢ n → bytes_in (put_in_slave x n k b) n' ≡ bytes_in x n'
  unfolding bytes_in put_in_slave
  in_slave_other x n' differ = among_other x.files n' differ

  -- a physical name stands in the documentation file
  pub in_slave_physical_name : (x : Slave) → n ≢ documentation → physical_name (put_in_slave x n k b) ≡ physical_name x
  unfolding physical_name
  in_slave_physical_name x differ = rw (in_slave_other x documentation (λ e. differ (sym e)))

-- ---- one byte, in a cluster

module _ (c : Cluster) (s n k b : ℕ) where
  pub put_byte-count : length (put_byte c s n k b).slaves ≡ length c.slaves
  put_byte-count = sym (shape_count (shape_put_byte c s n k b))

  pub put_byte-slave-same : s < length c.slaves → slave_of (put_byte c s n k b) s ≡ put_in_slave (slave_of c s) n k b
  unfolding put_byte with_slaves slave_of
  put_byte-slave-same h = get_or-set_same c.slaves s (put_in_slave (get_or c.slaves s no_slave_lem) n k b) no_slave_lem h

  -- every place of the encoding, and every file's length, stay
  pub put_byte-file_place_at : (w s' n' : ℕ) → file_place_at w (put_byte c s n k b) s' n' ≡ file_place_at w c s' n'
  put_byte-file_place_at w s' n' = sym (shape_file_place_at c (put_byte c s n k b) (shape_put_byte c s n k b) w s' n')

  pub put_byte-bytes-length : (s' n' : ℕ) → length (bytes_in (slave_of (put_byte c s n k b) s') n') ≡ length (bytes_in (slave_of c s') n')
  put_byte-bytes-length s' n' = sym (shape_bytes-length c (put_byte c s n k b) (shape_put_byte c s n k b) s' n')

  pub put_byte-names : n ≢ documentation → map physical_name (put_byte c s n k b).slaves ≡ map physical_name c.slaves
  unfolding put_byte with_slaves slave_of
  put_byte-names differ =
      map-set_same physical_name c.slaves s (put_in_slave (get_or c.slaves s no_slave_lem) n k b) no_slave_lem
      (in_slave_physical_name n k b (get_or c.slaves s no_slave_lem) differ)

-- ---- a record

-- a record that is there lies within the file
pub has_record-fits : (x : Slave) (n r : ℕ) → has_record x n r ≡ true → record_size * r + record_size ≤ length (bytes_in x n)
unfolding has_record
has_record-fits x n r has = leb-true (record_size * r + record_size) (length (bytes_in x n)) has
