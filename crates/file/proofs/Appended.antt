-- The parts of an encoding over lists that are joined: those of the first list, then those of the second from where the first ends. A
-- conversion writes slave by slave, a join the slaves of one file behind those of another; both go by these laws.
-- Assumes nothing.
use Rattle.std.proofs.Common.{ℕ, suc, ◌+◌, ◌*◌, ◌<◌, arith, add-zero, ◌≡◌, refl, sym, List, [], ◌∷◌, ◌++◌, append_assoc, append-nil, length}
use Rattle.std.proofs.Common.{length-append, get_or, take, take-suc}
use Rattle.file.specs.Rules.Layout.{entry_size_lem}
use Rattle.file.specs.Rules.Cluster.{File, Slave}
use Rattle.file.specs.Rules.Encode.{directory_entry, directory, contents, slave_size, slave_bytes, slaves_bytes, slaves_size, table_entry, table, slaves_place, file_length}
use Rattle.file.specs.Inner.Places.{no_slave_lem}

-- ---- the files of a slave

pub contents-append : (xs ys : List File) → contents (xs ++ ys) ≡ contents xs ++ contents ys
unfolding contents
contents-append [] ys = refl
contents-append (x ∷ xs) ys = rw (contents-append xs ys) (sym (append_assoc x.bytes (contents xs) (contents ys)))

pub directory-append : (w place : ℕ) (xs ys : List File) → directory w place (xs ++ ys) ≡ directory w place xs ++ directory w (place + length (contents xs)) ys
unfolding directory contents
directory-append w place [] ys = rw (add-zero place)
directory-append w place (x ∷ xs) ys =
    let there : place + length x.bytes + length (contents xs) ≡ place + length (x.bytes ++ contents xs) = simp length-append (omega arith) in
    rw (directory-append w (place + length x.bytes) xs ys, there)
    (sym (append_assoc (directory_entry w place x) (directory w (place + length x.bytes) xs) (directory w (place + length (x.bytes ++ contents xs)) ys)))

-- ---- slaves

module _ (w : ℕ) where
  pub slaves_size-append : (ss ts : List Slave) → slaves_size w (ss ++ ts) ≡ slaves_size w ss + slaves_size w ts
  unfolding slaves_size
  slaves_size-append [] ts = omega arith
  slaves_size-append (s ∷ ss) ts = rw (slaves_size-append ss ts) (omega arith)

  pub table-append : (place : ℕ) (ss ts : List Slave) → table w place (ss ++ ts) ≡ table w place ss ++ table w (place + slaves_size w ss) ts
  unfolding table slaves_size
  table-append place [] ts = rw (add-zero place)
  table-append place (s ∷ ss) ts =
      let there : place + slave_size w s + slaves_size w ss ≡ place + (slave_size w s + slaves_size w ss) = omega arith in
      rw (table-append (place + slave_size w s) ss ts, there)
      (sym (append_assoc (table_entry w place s) (table w (place + slave_size w s) ss) (table w (place + (slave_size w s + slaves_size w ss)) ts)))

  pub slaves_bytes-append : (place : ℕ) (ss ts : List Slave) → slaves_bytes w place (ss ++ ts) ≡ slaves_bytes w place ss ++ slaves_bytes w (place + slaves_size w ss) ts
  unfolding slaves_bytes slaves_size
  slaves_bytes-append place [] ts = rw (add-zero place)
  slaves_bytes-append place (s ∷ ss) ts =
      let there : place + slave_size w s + slaves_size w ss ≡ place + (slave_size w s + slaves_size w ss) = omega arith in
      rw (slaves_bytes-append (place + slave_size w s) ss ts, there)
      (sym (append_assoc (slave_bytes w place s) (slaves_bytes w (place + slave_size w s) ss) (slaves_bytes w (place + (slave_size w s + slaves_size w ss)) ts)))

  pub file_length-append : (ss ts : List Slave) → file_length w (ss ++ ts) ≡ file_length w ss + entry_size_lem w * length ts + slaves_size w ts
  unfolding file_length slaves_place
  file_length-append ss ts = rw (slaves_size-append ss ts, length-append ss ts) (omega arith)

  -- ---- one slave more: what a loop along the slaves adds

  module _ (ss : List Slave) (i : ℕ) (more : i < length ss) where
    next-slave : take (suc i) ss ≡ take i ss ++ (get_or ss i no_slave_lem ∷ [])
    next-slave = take-suc ss i no_slave_lem more

    pub slaves_size-next : slaves_size w (take (suc i) ss) ≡ slaves_size w (take i ss) + slave_size w (get_or ss i no_slave_lem)
    unfolding slaves_size
    slaves_size-next = rw (next-slave, slaves_size-append (take i ss) (get_or ss i no_slave_lem ∷ [])) (omega arith)

    pub slaves_bytes-next : (place : ℕ) → slaves_bytes w place (take (suc i) ss) ≡ slaves_bytes w place (take i ss) ++ slave_bytes w (place + slaves_size w (take i ss)) (get_or ss i no_slave_lem)
    unfolding slaves_bytes
    slaves_bytes-next place =
        rw (next-slave, slaves_bytes-append place (take i ss) (get_or ss i no_slave_lem ∷ []), append-nil (slave_bytes w (place + slaves_size w (take i ss)) (get_or ss i no_slave_lem)))
