-- Files of so many slaves of one series, in either edition: what holds of them by their number, since they are too long to be computed.
-- Assumes nothing.
use Rattle.std.proofs.Common.{ℕ, zero, suc, ◌+◌, ◌*◌, ◌^◌, ◌≤◌, ◌<◌, arith, ◌≡◌, refl, sym, ap, ◌∙◌, subst, List, [], ◌∷◌, ◌++◌, map, length, get_or, replicate, length-append}
use lib.ListN.{length-replicate}
use Rattle.file.specs.Rules.Bytes.{Bytes, All, all_empty, all_next, number_of, part}
use Rattle.file.specs.Rules.Layout.{OffsetWidth, width_in, max_slaves, max_length}
use Rattle.file.specs.Rules.Cluster.{File, Slave, Cluster, bytes_among, bytes_in, last_record, physical_name}
use Rattle.file.specs.Rules.Encode.{contents, slave_size, slaves_size, slaves_place, file_length, encode}
use Rattle.file.specs.Rules.Decode.{decode}
use Rattle.file.specs.Rules.Legal.{LegalFile, LegalSlave, Legal, Rising, Distinct}
use Rattle.file.specs.Rules.FileGrounds.{file_ground}
use Rattle.file.proofs.Bytes.{all_append, all_replicate}
use Rattle.file.proofs.Width.{two_widths}
use Rattle.file.proofs.Accepted.{decode-encode, encode-accepted, encode-bytes}
use Rattle.file.proofs.EditionOne.{edition-at}

-- ---- slaves by series and serial number, each with the two files that it needs; r is the last record of file 0x08

abbrev configuration_file : ℕ → File
configuration_file r = record { number = 0x08; bytes = replicate (4 * r + 4) 0 }

configuration-long : (r : ℕ) → length (configuration_file r).bytes ≡ 4 * r + 4
configuration-long r = length-replicate {A = ℕ} (4 * r + 4) 0

abbrev documentation_file : ℕ → ℕ → File
documentation_file a n = record { number = 0x3D; bytes = replicate 7 0 ++ (a ∷ 0 ∷ 0 ∷ 0 ∷ n ∷ []) }

abbrev numbered : ℕ → ℕ → ℕ → Slave
numbered r a n = record { asleep = 0; files = configuration_file r ∷ documentation_file a n ∷ [] }

-- so many of them of one series, the serial numbers falling
pub slaves_below : ℕ → ℕ → ℕ → List Slave
slaves_below r a zero = []
slaves_below r a (suc n) = numbered r a n ∷ slaves_below r a n

module _ (r a : ℕ) where
  numbered_name : (n : ℕ) → physical_name (numbered r a n) ≡ a * 2 ^ 32 + n
  unfolding physical_name bytes_in bytes_among part number_of
  numbered_name n = omega arith

  contents-long : (n : ℕ) → length (contents (numbered r a n).files) ≡ 4 * r + 16
  unfolding contents
  contents-long n = omega (arith, length-append (configuration_file r).bytes (documentation_file a n).bytes, configuration-long r)

  numbered_size : (w n : ℕ) → slave_size w (numbered r a n) ≡ 4 * w + 4 * r + 16
  unfolding slave_size
  numbered_size w n = omega (arith, contents-long n)

  configuration-legal : 3 ≤ r → r ≤ 255 → LegalFile (configuration_file r)
  unfolding last_record
  configuration-legal least most =
      record {
        number = omega arith;
        some = omega (arith, configuration-long r);
        most = omega (arith, configuration-long r);
        whole = omega (arith, configuration-long r);
        bytes = all_replicate (4 * r + 4) 0 (omega arith);
      }

  documentation-legal : (n : ℕ) → a < 256 → n < 256 → LegalFile (documentation_file a n)
  unfolding last_record
  documentation-legal n series small =
      record {
        number = omega arith;
        some = omega arith;
        most = omega arith;
        whole = refl;
        bytes =
            all_append (all_replicate 7 0 (omega arith))
            (all_next series (all_next (omega arith) (all_next (omega arith) (all_next (omega arith) (all_next small all_empty)))));
      }

  numbered_legal : 3 ≤ r → r ≤ 255 → a < 256 → (n : ℕ) → n < 256 → LegalSlave (numbered r a n)
  unfolding bytes_in bytes_among last_record
  numbered_legal least most series n small =
      record {
        sleeps = omega arith;
        rising =
            Rising.next {low = 0} {x = configuration_file r} (omega arith)
            (Rising.next {low = 9} {x = documentation_file a n} (omega arith) Rising.end);
        files = all_next (configuration-legal least most) (all_next (documentation-legal n series small) all_empty);
        configured = omega (arith, configuration-long r);
        documented = omega arith;
      }

  pub count-below : (n : ℕ) → length (slaves_below r a n) ≡ n
  unfolding slaves_below
  count-below zero = refl
  count-below (suc n) = ap suc (count-below n)

  pub size_below : (w n : ℕ) → slaves_size w (slaves_below r a n) ≡ n * (4 * w + 4 * r + 16)
  unfolding slaves_below slaves_size
  size_below w zero = omega arith
  size_below w (suc n) = rw (size_below w n, numbered_size w n) (omega arith)

  pub long-below : (w n : ℕ) → file_length w (slaves_below r a n) ≡ 8 + 4 * w + 2 * w * n + n * (4 * w + 4 * r + 16)
  unfolding file_length slaves_place
  long-below w n = rw (count-below n, size_below w n)

  legal-below : 3 ≤ r → r ≤ 255 → a < 256 → (n : ℕ) → n ≤ 256 → All LegalSlave (slaves_below r a n)
  unfolding slaves_below
  legal-below least most series zero few = all_empty
  legal-below least most series (suc n) few =
      all_next (numbered_legal least most series n (omega arith)) (legal-below least most series n (omega arith))

  others_below : (m n : ℕ) → n ≤ m → All (λ k. physical_name (numbered r a m) ≡ k → ⊥) (map physical_name (slaves_below r a n))
  unfolding slaves_below
  others_below m zero few = all_empty
  others_below m (suc n) few =
      all_next {a = physical_name (numbered r a n)} (λ same. omega (arith, same, numbered_name m, numbered_name n))
      (others_below m n (omega arith))

  distinct_below : (n : ℕ) → Distinct (map physical_name (slaves_below r a n))
  unfolding slaves_below
  distinct_below zero = Distinct.end
  distinct_below (suc n) = Distinct.next {n = physical_name (numbered r a n)} (others_below n n (omega arith)) (distinct_below n)

  -- their physical names are those of the series
  series_below : (n : ℕ) → n ≤ 256 → All (λ s. (a * 2 ^ 32 ≤ physical_name s) × (physical_name s < a * 2 ^ 32 + 256)) (slaves_below r a n)
  unfolding slaves_below
  series_below zero few = all_empty
  series_below (suc n) few =
      all_next {a = numbered r a n} (omega (arith, numbered_name n), omega (arith, numbered_name n)) (series_below n (omega arith))

-- ---- a file of so many of them

abbrev pub cluster_of : ℕ → ℕ → ℕ → ℕ → Cluster
cluster_of e r a n =
    record { edition = e; epoch = 0; flag = 0; pending_name = 0; pending_pb2 = 0; pending_pb3 = 0; slaves = slaves_below r a n }

pub file_of : ℕ → ℕ → ℕ → ℕ → List ℕ
file_of e r a n = encode (cluster_of e r a n)

-- what makes it a legal file
pub record Fits (e r a n : ℕ) : Type 0 where
  pub width : OffsetWidth (width_in e)
  pub least : 3 ≤ r
  pub most : r ≤ 255
  pub series : a < 256
  pub few : n ≤ max_slaves (width_in e)
  pub short : 8 + 4 * width_in e + 2 * width_in e * n + n * (4 * width_in e + 4 * r + 16) ≤ max_length (width_in e)

module _ (e r a n : ℕ) (h : Fits e r a n) where
  few_enough : n ≤ 256
  few_enough = omega (arith, h.few, h.width.most)

  cluster-legal : Legal (cluster_of e r a n)
  cluster-legal =
      record {
        width = h.width;
        edition = omega arith;
        count = rw (count-below r a n) h.few;
        pending =
            record {
              epoch = omega arith;
              flag = omega arith;
              name = omega arith;
              pb2 = omega arith;
              pb3 = omega arith;
              operation = λ z. absurd (omega (arith, z));
              broadcast_read = λ z. absurd (omega (arith, z));
            };
        slaves = legal-below r a h.least h.most h.series n few_enough;
        names = distinct_below r a n;
        size = rw (long-below r a (width_in e) n) h.short;
      }

  pub file-bytes : Bytes (file_of e r a n)
  unfolding file_of
  file-bytes = encode-bytes (cluster_of e r a n) cluster-legal

  pub file-accepted : file_ground (file_of e r a n) ≡ 0
  unfolding file_of
  file-accepted = encode-accepted (cluster_of e r a n) cluster-legal

  pub file-decoded : decode (file_of e r a n) ≡ cluster_of e r a n
  unfolding file_of
  file-decoded = decode-encode (cluster_of e r a n) cluster-legal

  pub file-count : length (decode (file_of e r a n)).slaves ≡ n
  file-count = ap (λ (c : Cluster). length c.slaves) file-decoded ∙ count-below r a n

  pub file-edition : get_or (file_of e r a n) 2 0 ≡ e
  file-edition = sym (edition-at (file_of e r a n) file-accepted) ∙ ap (λ (c : Cluster). c.edition) file-decoded

  pub file_series : All (λ s. (a * 2 ^ 32 ≤ physical_name s) × (physical_name s < a * 2 ^ 32 + 256)) (decode (file_of e r a n)).slaves
  file_series =
      subst (λ (c : Cluster). All (λ s. (a * 2 ^ 32 ≤ physical_name s) × (physical_name s < a * 2 ^ 32 + 256)) c.slaves) (sym file-decoded)
      (series_below r a n few_enough)

pub narrow_fits : (r a n : ℕ) → 3 ≤ r → r ≤ 255 → a < 256 → n ≤ 32 → 16 + 4 * n + n * (4 * 2 + 4 * r + 16) ≤ 32768 → Fits 1 r a n
narrow_fits r a n least most series few short =
    record { width = two_widths.0; least = least; most = most; series = series; few = omega arith; short = omega arith }

pub wide_fits : (r a n : ℕ) → 3 ≤ r → r ≤ 255 → a < 256 → n ≤ 64 → 24 + 8 * n + n * (4 * 4 + 4 * r + 16) ≤ 65536 → Fits 2 r a n
wide_fits r a n least most series few short =
    record { width = two_widths.1; least = least; most = most; series = series; few = omega arith; short = omega arith }
