-- A list of bytes that is the encoding of a cluster, by what stands where: the header's fields, and the slaves behind it. Accepted bytes
-- are the encoding of what they decode to, which is legal; the encoding of a legal cluster is accepted and decodes to it. Over the
-- offset width w.
-- Assumes nothing.
use Rattle.std.proofs.Common.{ℕ, ◌+◌, ◌*◌, ◌^◌, ◌≤◌, ◌<◌, zero-add, arith, ◌≡◌, refl, sym, ap, ◌∙◌, subst, List, ◌++◌, length, get_or, leb, leb-true}
use Rattle.std.proofs.Common.{le-leb}
use Rattle.file.specs.Rules.Bytes.{All, Bytes}
use Rattle.file.specs.Rules.Layout.{OffsetWidth, edition_of, zeros_length, header_size, entry_size_lem, max_slaves, max_length}
use Rattle.file.specs.Rules.Layout.{epoch_place, flag_place, pending_name_place, pending_pb2_place, pending_pb3_place}
use Rattle.file.specs.Rules.Cluster.{Slave, Cluster}
use Rattle.file.specs.Rules.Encode.{slaves_bytes, table, slaves_place, file_length, header, encode_at}
use Rattle.file.specs.Rules.Decode.{offset_at, slaves_at, decode_at}
use Rattle.file.specs.Rules.Legal.{LegalSlave, LegalAt}
use Rattle.file.specs.Rules.FileGrounds.{Walk, table_end, walk_file}
use Rattle.file.proofs.Width.{Width, place-fits}
use Rattle.file.proofs.Sizes.{header-length, table-length, encode_at-length}
use Rattle.file.proofs.Bytes.{all_map, byte_at}
use Rattle.file.proofs.Stands.{Stands, stands_at, stands-left, stands_right, stands-append, stands-zeros, zeros_stand, stands-number, number-stands, stands-whole, whole-stands}
use Rattle.file.proofs.Arrivals.{tested_arrives, length-slaves_at}
use Rattle.file.proofs.Slaves.{LaidOut, SlavesStand, slaves-found, slaves-walk, slaves-read}
use Rattle.file.proofs.AcceptedFacts.{PendingFits, pending-fits, Needed, Accepted}
use Rattle.file.proofs.HeaderFields.{HeaderBytes, header-bytes, bytes-header}

-- f is the encoding of c, whose slaves have legal files
pub record Encoded (w : ℕ) (f : List ℕ) (c : Cluster) : Type 0 where
  pub header : HeaderBytes w f c
  pub slaves : SlavesStand w f (header_size w) (slaves_place w c.slaves) c.slaves
  pub whole : file_length w c.slaves ≡ length f

-- a legal slave: what the layout asks of it, and the files that every slave needs
pub legal_laid : (s : Slave) → LegalSlave s → LaidOut s
legal_laid s l = record { sleeps = l.sleeps; rising = l.rising; legal = l.files }

pub legal-needed : (s : Slave) → LegalSlave s → Needed s
legal-needed s l = record { configured = l.configured; documented = l.documented }

pub laid_legal : {ss : List Slave} → All LaidOut ss → All Needed ss → All LegalSlave ss
laid_legal All.all_empty All.all_empty = All.all_empty
laid_legal (All.all_next l ls) (All.all_next n ns) =
    All.all_next
    (record { sleeps = l.sleeps; rising = l.rising; files = l.legal; configured = n.configured; documented = n.documented })
    (laid_legal ls ns)

module _ {w : ℕ} (wide : Width w) where
  -- the encoding of a cluster is one, and it is the only one
  pub encoded : (c : Cluster) → All LaidOut c.slaves → Encoded w (encode_at w c) c
  unfolding encode_at slaves_place
  encoded c l =
      let place : ℕ = slaves_place w c.slaves in
      let entries : List ℕ = table w place c.slaves in
      let bytes : List ℕ = slaves_bytes w place c.slaves in
      let whole : Stands (encode_at w c) 0 (header w c ++ (entries ++ bytes)) = stands-whole (encode_at w c) in
      let behind : Stands (encode_at w c) (header_size w) (entries ++ bytes) =
      stands_at (zero-add (length (header w c)) ∙ header-length wide.two c) (stands_right (header w c) (entries ++ bytes) whole)
      in
      record {
        header = header-bytes (stands-left (header w c) (entries ++ bytes) whole);
        slaves =
            record {
              legal = l;
              entries = stands-left entries bytes behind;
              bytes = stands_at (ap (λ (n : ℕ). header_size w + n) (table-length wide.two place c.slaves)) (stands_right entries bytes behind);
            };
        whole = sym (encode_at-length wide.two c);
      }

  pub encoded-only : {f : List ℕ} {c : Cluster} → Encoded w f c → encode_at w c ≡ f
  unfolding encode_at slaves_place
  encoded-only {f} {c} e =
      let place : ℕ = slaves_place w c.slaves in
      let table-end : slaves_place w c.slaves ≡ header_size w + length (table w place c.slaves) =
      ap (λ (n : ℕ). header_size w + n) (sym (table-length wide.two place c.slaves))
      in
      let behind : Stands f (header_size w) (table w place c.slaves ++ slaves_bytes w place c.slaves) =
      stands-append e.slaves.entries (stands_at table-end e.slaves.bytes)
      in
      whole-stands (encode_at-length wide.two c ∙ e.whole)
      (stands-append (bytes-header e.header)
      (stands_at (sym (zero-add (length (header w c)) ∙ header-length wide.two c)) behind))

  module _ {f : List ℕ} where
    -- ---- accepted bytes

    pub accepted-encoded : Bytes f → Accepted w f → Encoded w f (decode_at w f)
    unfolding walk_file table_end decode_at slaves_place file_length offset_at
    accepted-encoded b a =
        let n : ℕ = get_or f 3 0 in
        let came = tested_arrives (leb (table_end w f) (length f)) _ a.layout in
        let fits : table_end w f ≤ length f = leb-true _ _ came.0 in
        let count : length (slaves_at w f (header_size w) n) ≡ n = length-slaves_at w f (header_size w) n in
        let found =
        slaves-found wide.two (place-fits wide a.size.high) (header_size w) (table_end w f) n b fits fits came.1
        in
        let whole : file_length w (slaves_at w f (header_size w) n) ≡ length f = rw count (sym found.1) in
        let long : header_size w ≤ length f = a.size.low in
        record {
          header =
              record {
                first = a.mark.first;
                second = a.mark.second;
                edition = a.edition;
                count = sym count;
                table = stands-number w b (omega arith) a.header.table;
                stated = stands-number w b (omega arith) (a.stated ∙ sym whole);
                epoch = refl;
                flag = refl;
                name = refl;
                pb2 = refl;
                pb3 = refl;
                zeros = stands-zeros (zeros_length w) (omega (arith, wide.two)) a.header.zeros;
              };
          slaves = rw count found.0;
          whole = whole;
        }

    pub accepted-legal : OffsetWidth w → Bytes f → Accepted w f → LegalAt w (decode_at w f)
    unfolding decode_at
    accepted-legal width b a =
        let e : Encoded w f (decode_at w f) = accepted-encoded b a in
        let pending : PendingFits (get_or f (flag_place w) 0) (get_or f (pending_name_place w) 0) (get_or f (pending_pb2_place w) 0) =
        (pending-fits _ _ _).0 a.header.pending
        in
        record {
          width = width;
          edition = refl;
          count = subst (λ (n : ℕ). n ≤ max_slaves w) e.header.count a.header.count;
          pending =
              record {
                epoch = byte_at b (epoch_place w);
                flag = pending.most;
                name = byte_at b (pending_name_place w);
                pb2 = byte_at b (pending_pb2_place w);
                pb3 = byte_at b (pending_pb3_place w);
                operation = pending.operation;
                broadcast_read = pending.broadcast_read;
              };
          slaves = laid_legal e.slaves.legal a.needed;
          names = a.names;
          size = subst (λ (n : ℕ). n ≤ max_length w) (sym e.whole) a.size.high;
        }

    -- ---- encoded clusters

    pub encoded-decode : {c : Cluster} → c.edition ≡ edition_of w → length f < 256 ^ w → Encoded w f c → decode_at w f ≡ c
    unfolding decode_at
    encoded-decode {c} edition short e =
        let h : HeaderBytes w f c = e.header in
        let read : slaves_at w f (header_size w) (get_or f 3 0) ≡ c.slaves =
        ap (λ (n : ℕ). slaves_at w f (header_size w) n) h.count ∙ slaves-read wide.two short c.slaves e.slaves
        in
        rw (h.epoch, h.flag, h.name, h.pb2, h.pb3, read, edition)

    pub encoded-accepted : {c : Cluster} → LegalAt w c → Encoded w f c → Accepted w f
    unfolding walk_file table_end slaves_place file_length offset_at
    encoded-accepted {c} l e =
        let h : HeaderBytes w f c = e.header in
        let most : length f ≤ max_length w = subst (λ (n : ℕ). n ≤ max_length w) e.whole l.size in
        let short : length f < 256 ^ w = place-fits wide most in
        let long : header_size w + entry_size_lem w * length c.slaves ≤ length f = omega (arith, e.whole) in
        let slaves : (decode_at w f).slaves ≡ c.slaves = ap (λ (d : Cluster). d.slaves) (encoded-decode l.edition short e) in
        record {
          size = record { low = omega arith; high = most };
          mark = record { first = h.first; second = h.second };
          edition = h.edition;
          stated = number-stands w (omega (arith, e.whole)) h.stated ∙ e.whole;
          header =
              record {
                count = rw h.count l.count;
                table = number-stands w (omega arith) h.table;
                zeros = zeros_stand (zeros_length w) h.zeros;
                pending =
                    rw (h.flag, h.name, h.pb2)
                    ((pending-fits c.flag c.pending_name c.pending_pb2).1
                    (record { most = l.pending.flag; operation = l.pending.operation; broadcast_read = l.pending.broadcast_read }));
              };
          layout =
              rw (h.count, le-leb _ _ long) (slaves-walk wide.two short c.slaves e.slaves ∙ ap Walk.to e.whole);
          needed = rw slaves (all_map legal-needed l.slaves);
          names = rw slaves l.names;
        }
