-- Stores in an accepted file: what it becomes. One law for each store, from the laws of encodings and of legality.
-- Assumes nothing.
use Rattle.std.proofs.Common.{ℕ, ◌+◌, ◌*◌, ◌≤◌, ◌<◌, arith, ◌≡◌, ap, ◌∙◌, ◌≢◌, true, List, length, get_or, set}
use lib.Seq.{sets}
use Rattle.file.specs.Rules.Bytes.{Byte, Bytes}
use Rattle.file.specs.Rules.Layout.{width_in, record_size}
use Rattle.file.specs.Rules.Layout.{epoch_place, flag_place, pending_name_place, pending_pb2_place, pending_pb3_place}
use Rattle.file.specs.Inner.Layout.{logical_name_place}
use Rattle.file.specs.Rules.Cluster.{Cluster, file_number_of, operation_of, bytes_in, configuration, documentation, new_logical_name, has_record}
use Rattle.file.specs.Rules.Decode.{decode, decode_at}
use Rattle.file.specs.Rules.Legal.{LegalPending}
use Rattle.file.specs.Inner.Places.{slave_of, file_place, configuration_index, put_byte, put_bytes}
use Rattle.file.specs.Rules.Changes.{with_epoch, with_pending}
use Rattle.file.specs.Inner.Accepted.{Becomes, AcceptedFile, EpochAt, slave_count, Placed, PendingIs}
use Rattle.file.proofs.Stores.{store_byte, store_bytes}
use Rattle.file.proofs.Puts.{has_record-fits}
use Rattle.file.proofs.AtWidth.{BecomesAt, at-edition, becomes_as}
use Rattle.file.proofs.HeaderStores.{store-epoch, store-pending}
use Rattle.file.proofs.Kept.{legal-put_byte, legal-put_bytes, legal-with_epoch, legal-with_pending}
use Rattle.file.proofs.Accepted.{encode-bytes}
use Rattle.file.proofs.ReaderLaws.{configuration-room, byte-there}
use Rattle.file.proofs.Bytes.{byte_at}

-- an accepted file holds bytes
pub becomes-bytes : {f : List ℕ} {c : Cluster} → Becomes f c → Bytes f
becomes-bytes {f} {c} h = rw h.encoded (encode-bytes c h.legal)

pub pending-byte : (c : Cluster) (flag name pb2 pb3 : ℕ) → LegalPending (with_pending c flag name pb2 pb3) → Byte pb2
unfolding with_pending
pending-byte c flag name pb2 pb3 p = p.pb2

-- ---- the header: the epoch and, behind it, the pending operation

module _ {f : List ℕ} {at : ℕ} (h : AcceptedFile f) (e : EpochAt f at) where
  abbrev w : ℕ
  w = width_in (decode f).edition

  here : BecomesAt w f (decode f)
  here = at-edition h

  pub epoch-read : get_or f at 0 ≡ (decode f).epoch
  unfolding decode_at
  epoch-read = rw e.is (ap (λ (c : Cluster). c.epoch) here.decoded)

  flag_at : at + 1 ≡ flag_place w
  flag_at = omega (arith, e.is)

  name-at : at + 2 ≡ pending_name_place w
  name-at = omega (arith, e.is)

  pb2-at : at + 3 ≡ pending_pb2_place w
  pb2-at = omega (arith, e.is)

  pb3-at : at + 4 ≡ pending_pb3_place w
  pb3-at = omega (arith, e.is)

  pub pending-read : {name file operation : ℕ} → name ≡ get_or f (at + 2) 0 → file ≡ file_number_of (get_or f (at + 3) 0) →
      operation ≡ operation_of (get_or f (at + 3) 0) → PendingIs (decode f) (get_or f (at + 1) 0) name file operation (get_or f (at + 4) 0)
  unfolding decode_at
  pending-read named number does =
      record {
        flag_is = rw flag_at (ap (λ (c : Cluster). c.flag) here.decoded);
        name_is = (rw name-at at named) ∙ ap (λ (c : Cluster). c.pending_name) here.decoded;
        file_is = (rw pb2-at at number) ∙ ap (λ (c : Cluster). file_number_of c.pending_pb2) here.decoded;
        operation_is = (rw pb2-at at does) ∙ ap (λ (c : Cluster). operation_of c.pending_pb2) here.decoded;
        record_is = rw pb3-at (ap (λ (c : Cluster). c.pending_pb3) here.decoded);
      }

  pub becomes-epoch : {b : ℕ} → Byte b → Becomes (set f at b) (with_epoch (decode f) b)
  unfolding with_epoch
  becomes-epoch {b} byte =
      rw e.is
      (becomes_as (ap (λ (l : List ℕ). set l (epoch_place w) b) here.encoded ∙ store-epoch w (decode f) b) (legal-with_epoch (decode f) b byte h.legal))

  pub becomes-pending : (flag name pb2 pb3 : ℕ) {byte : ℕ} → byte ≡ pb2 → LegalPending (with_pending (decode f) flag name pb2 pb3) →
      Becomes (set (set (set (set f (at + 1) flag) (at + 2) name) (at + 3) byte) (at + 4) pb3) (with_pending (decode f) flag name pb2 pb3)
  unfolding with_pending
  becomes-pending flag name pb2 pb3 same p =
      rw (flag_at, name-at, pb2-at, pb3-at, same)
      (becomes_as
      (ap (λ (l : List ℕ). set (set (set (set l (flag_place w) flag) (pending_name_place w) name) (pending_pb2_place w) pb2) (pending_pb3_place w) pb3) here.encoded
      ∙ store-pending w (decode f) flag name pb2 pb3)
      (legal-with_pending (decode f) flag name pb2 pb3 p h.legal))

-- ---- the bytes of files

module _ {f : List ℕ} {c : Cluster} (h : Becomes f c) where
  wide : 2 ≤ width_in c.edition
  wide = (at-edition h).legal.width.least

  pub becomes-byte : (s n k b : ℕ) → n ≢ documentation → Byte b → k < length (bytes_in (slave_of c s) n) → Becomes (set f (file_place c s n + k) b) (put_byte c s n k b)
  unfolding file_place
  becomes-byte s n k b differ byte inside =
      becomes_as
      (ap (λ (l : List ℕ). set l (file_place c s n + k) b) (at-edition h).encoded ∙ store_byte wide s n c k b inside) (legal-put_byte c s n k b differ byte h.legal)

  pub becomes-record : (s n r : ℕ) {bs : List ℕ} → n ≢ documentation → Bytes bs → length bs ≤ record_size → has_record (slave_of c s) n r ≡ true →
      Becomes (sets f (file_place c s n + record_size * r) bs) (put_bytes c s n (record_size * r) bs)
  unfolding file_place
  becomes-record s n r {bs} differ bytes most has =
      becomes_as
      (ap (λ (l : List ℕ). sets l (file_place c s n + record_size * r) bs) (at-edition h).encoded
      ∙ store_bytes wide s n c (record_size * r) bs (omega (arith, has_record-fits (slave_of c s) n r has)))
      (legal-put_bytes c s n (record_size * r) differ bytes h.legal)

-- a slave's new logical name, stored as its logical name
pub becomes-named : {f places : List ℕ} → Placed f places → (s : ℕ) → s < slave_count f →
    Becomes (set f (get_or places (configuration_index s) 0 + 7) (get_or f (get_or places (configuration_index s) 0 + 6) 0))
    (put_byte (decode f) s configuration logical_name_place (new_logical_name (slave_of (decode f) s)))
unfolding new_logical_name
becomes-named {f} {places} p s l =
    let h = p.file in
    let c = decode f in
    let room : 16 ≤ length (bytes_in (slave_of c s) configuration) = configuration-room h s l in
    let old : get_or f (file_place c s configuration + 6) 0 ≡ get_or (bytes_in (slave_of c s) configuration) 6 0 = byte-there h s configuration 6 (omega arith) in
    let byte : Byte (get_or (bytes_in (slave_of c s) configuration) 6 0) = rw old at (byte_at (becomes-bytes h) (file_place c s configuration + 6)) in
    rw (p.at.config s l, old) (becomes-byte h s configuration 7 (get_or (bytes_in (slave_of c s) configuration) 6 0) (λ e. omega (arith, e)) byte (omega arith))
