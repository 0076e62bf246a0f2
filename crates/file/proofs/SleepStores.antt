-- The sleep bytes in an encoding: each stands in its slave's table entry, and one stored there gives the encoding of the cluster with
-- that slave awake or asleep. Nobody's files move by it. Over the offset width w.
-- Assumes nothing.
use Rattle.std.proofs.Common.{ℕ, zero, suc, ◌+◌, ◌*◌, ◌≤◌, ◌<◌, add-zero, arith, ◌≡◌, refl, sym, ap, ◌∙◌, List, [], ◌∷◌, map, length, get_or, set}
use Rattle.std.proofs.Common.{replicate}
use Rattle.file.specs.Rules.Bytes.{bytes_of}
use Rattle.file.specs.Rules.Layout.{entry_size_lem, fill_length}
use Rattle.file.specs.Rules.Cluster.{Slave, Cluster, bytes_in, physical_name}
use Rattle.file.specs.Rules.Encode.{slave_size, slave_bytes, slaves_bytes, table_entry, table, slaves_place, header, encode_at}
use Rattle.file.specs.Rules.Legal.{LegalSlave, LegalAt, LegalPending}
use Rattle.file.specs.Rules.Changes.{with_sleep, with_slaves}
use Rattle.file.specs.Inner.Places.{no_slave_lem, slave_of, sleep_place, put_sleep, SameShape}
use Rattle.file.proofs.Sizes.{bytes_of-length, table_entry-length, header-length}
use Rattle.file.proofs.Shape.{files_refl, shape_set, shape_count, shape_slaves_place, shape_file_length}
use Rattle.file.proofs.Stores.{Replaced, after, before, replaced-read, replaced-store, header_shape}
use Rattle.file.proofs.Kept.{all-change}

pub shape_put_sleep : (c : Cluster) (s b : ℕ) → SameShape c.slaves (put_sleep c s b).slaves
unfolding put_sleep with_slaves slave_of with_sleep
shape_put_sleep c s b = shape_set c.slaves s (with_sleep (get_or c.slaves s no_slave_lem) b) (files_refl (get_or c.slaves s no_slave_lem).files)

-- a slave's size
size_slept : (w : ℕ) (x : Slave) (b : ℕ) → slave_size w (with_sleep x b) ≡ slave_size w x
unfolding slave_size with_sleep
size_slept w x b = refl

module _ (b : ℕ) where
  -- the slaves' directories and files
  slaves-same : (w place : ℕ) (ss : List Slave) (s : ℕ) → slaves_bytes w place (set ss s (with_sleep (get_or ss s no_slave_lem) b)) ≡ slaves_bytes w place ss
  unfolding slaves_bytes slave_bytes slave_size with_sleep
  slaves-same w place [] s = refl
  slaves-same w place (x ∷ xs) zero = refl
  slaves-same w place (x ∷ xs) (suc s) = rw (slaves-same w (place + slave_size w x) xs s)

  module _ {w : ℕ} (wide : 2 ≤ w) where
    entry-replaced : (begin place : ℕ) (x : Slave)
        → Replaced (table_entry w place x) (table_entry w place (with_sleep x b)) begin (begin + w + 1) (x.asleep ∷ []) (b ∷ [])
    unfolding table_entry with_sleep
    entry-replaced begin place x =
        after (bytes_of w place)
        (record {
          front = length x.files ∷ [];
          behind = replicate (fill_length w) 0;
          old = refl;
          new = refl;
          starts = rw (bytes_of-length w place);
        })

    table-replaced : (begin place : ℕ) (ss : List Slave) (s at : ℕ) → s < length ss → at ≡ begin + entry_size_lem w * s + w + 1
        → Replaced (table w place ss) (table w place (set ss s (with_sleep (get_or ss s no_slave_lem) b))) begin at
        ((get_or ss s no_slave_lem).asleep ∷ []) (b ∷ [])
    unfolding table
    table-replaced begin place [] s at h e = absurd (omega arith)
    table-replaced begin place (x ∷ xs) zero at h e =
        let here : at ≡ begin + w + 1 = omega arith in
        rw (size_slept w x b, here) (before (table w (place + slave_size w x) xs) (entry-replaced begin place x))
    table-replaced begin place (x ∷ xs) (suc s) at h e =
        let there : at ≡ begin + length (table_entry w place x) + entry_size_lem w * s + w + 1 = omega (arith, table_entry-length wide place x) in
        after (table_entry w place x) (table-replaced (begin + length (table_entry w place x)) (place + slave_size w x) xs s at (omega arith) there)

    sleep_replaced : (c : Cluster) (s : ℕ) → s < length c.slaves
        → Replaced (encode_at w c) (encode_at w (put_sleep c s b)) 0 (sleep_place w s) ((slave_of c s).asleep ∷ []) (b ∷ [])
    unfolding encode_at put_sleep with_slaves slave_of
    sleep_replaced c s h =
        let ss : List Slave = c.slaves in
        let ts : List Slave = set ss s (with_sleep (get_or ss s no_slave_lem) b) in
        let same : SameShape ss ts = shape_put_sleep c s b in
        let begin : ℕ = slaves_place w ss in
        let at : sleep_place w s ≡ 0 + length (header w c) + entry_size_lem w * s + w + 1 = omega (arith, header-length wide c) in
        let entries : Replaced (table w begin ss) (table w begin ts) (0 + length (header w c)) (sleep_place w s) ((get_or ss s no_slave_lem).asleep ∷ []) (b ∷ []) =
        table-replaced (0 + length (header w c)) begin ss s (sleep_place w s) h at
        in
        rw (header_shape w c ts same, ← shape_slaves_place w same, slaves-same w begin ss s)
        (after (header w c) (before (slaves_bytes w begin ss) entries))

-- ---- reading and storing

module _ {w : ℕ} (wide : 2 ≤ w) (c : Cluster) (s : ℕ) (h : s < length c.slaves) where
  pub read_sleep : get_or (encode_at w c) (sleep_place w s) 0 ≡ (slave_of c s).asleep
  read_sleep = ap (λ (k : ℕ). get_or (encode_at w c) k 0) (sym (add-zero (sleep_place w s))) ∙ replaced-read (sleep_replaced 0 wide c s h) 0 (omega arith)

  pub store_sleep : (b : ℕ) → set (encode_at w c) (sleep_place w s) b ≡ encode_at w (put_sleep c s b)
  store_sleep b =
      ap (λ (k : ℕ). set (encode_at w c) k b) (sym (add-zero (sleep_place w s))) ∙ replaced-store (sleep_replaced b wide c s h) 0 b (omega arith) refl

-- ---- what it keeps

pub slave_slept : (x : Slave) (b : ℕ) → b ≤ 1 → LegalSlave x → LegalSlave (with_sleep x b)
unfolding with_sleep bytes_in
slave_slept x b few l =
    record { sleeps = few; rising = l.rising; files = l.files; configured = l.configured; documented = l.documented }

names_slept : (ss : List Slave) (s b : ℕ) → map physical_name (set ss s (with_sleep (get_or ss s no_slave_lem) b)) ≡ map physical_name ss
unfolding physical_name bytes_in with_sleep
names_slept [] s b = refl
names_slept (x ∷ xs) zero b = refl
names_slept (x ∷ xs) (suc s) b = rw (names_slept xs s b)

pub legal-put_sleep : {w : ℕ} (c : Cluster) (s b : ℕ) → b ≤ 1 → LegalAt w c → LegalAt w (put_sleep c s b)
unfolding put_sleep with_slaves slave_of
legal-put_sleep {w} c s b few legal =
    let pending : LegalPending (put_sleep c s b) = record {
      epoch = legal.pending.epoch;
      flag = legal.pending.flag;
      name = legal.pending.name;
      pb2 = legal.pending.pb2;
      pb3 = legal.pending.pb3;
      operation = legal.pending.operation;
      broadcast_read = legal.pending.broadcast_read;
    } in
    record {
      width = legal.width;
      edition = legal.edition;
      count = rw (← shape_count (shape_put_sleep c s b)) legal.count;
      pending = pending;
      slaves = all-change (λ (x : Slave). with_sleep x b) no_slave_lem s (λ x l. slave_slept x b few l) legal.slaves;
      names = rw (names_slept c.slaves s b) legal.names;
      size = rw (← shape_file_length w (shape_put_sleep c s b)) legal.size;
    }
