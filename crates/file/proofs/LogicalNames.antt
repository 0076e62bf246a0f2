-- Other logical names in an accepted file: the cluster stays legal, and holds them.
-- Assumes nothing.
use Rattle.std.proofs.Common.{ℕ, ◌<◌, arith, ◌≡◌, refl, ap, ◌∙◌, List, [], ◌∷◌, map, cond, length, get_or-set_same}
use Rattle.file.specs.Rules.Bytes.{Bytes, All, all_empty, all_next}
use Rattle.file.specs.Inner.Layout.{logical_name_place}
use Rattle.file.specs.Rules.Cluster.{Slave, Cluster, bytes_in, last_record, configuration, physical_name, logical_name, logical_names}
use Rattle.file.specs.Rules.Encode.{encode}
use Rattle.file.specs.Rules.Decode.{decode}
use Rattle.file.specs.Rules.Changes.{put_in_slave, with_slaves}
use Rattle.file.specs.Rules.Legal.{LegalSlave, LegalPending, Legal}
use Rattle.file.specs.Claims.LogicalNames.{renamed, with_names, AnyNamesAccepted}
use Rattle.file.specs.Inner.Places.{SameShape, no_slaves, same_slave}
use Rattle.file.specs.Inner.Accepted.{Becomes}
use Rattle.file.proofs.Bytes.{all_map}
use Rattle.file.proofs.Shape.{shape_refl, slave-put}
use Rattle.file.proofs.Puts.{in_slave_same, in_slave_physical_name}
use Rattle.file.proofs.Kept.{slave-legal}
use Rattle.file.proofs.KeptShape.{Keeps, legal-bytes, kept-legal}
use Rattle.file.specs.Rules.FileGrounds.{has_repeat, held_names}
use Rattle.file.proofs.Results.{load_twice}
use Rattle.file.proofs.Accepted.{accepted-legal}

-- ---- the slaves: their shape and physical names stay, and they stay legal

renamed_shape : (ss : List Slave) (names : List ℕ) → SameShape ss (renamed ss names)
unfolding renamed
renamed_shape [] names = no_slaves
renamed_shape (s ∷ ss) [] = shape_refl (s ∷ ss)
renamed_shape (s ∷ ss) (n ∷ ns) = same_slave (slave-put s configuration logical_name_place n) (renamed_shape ss ns)

renamed-physical : (ss : List Slave) (names : List ℕ) → map physical_name (renamed ss names) ≡ map physical_name ss
unfolding renamed
renamed-physical [] names = refl
renamed-physical (s ∷ ss) [] = refl
renamed-physical (s ∷ ss) (n ∷ ns) =
    rw (in_slave_physical_name configuration logical_name_place n s (λ e. omega (arith, e)), renamed-physical ss ns)

renamed-legal : {ss : List Slave} {names : List ℕ} → All LegalSlave ss → Bytes names → All LegalSlave (renamed ss names)
unfolding renamed
renamed-legal all_empty bs = all_empty
renamed-legal (all_next l ls) all_empty = all_next l ls
renamed-legal (all_next {a = s} l ls) (all_next {a = n} b bs) =
    all_next (slave-legal configuration logical_name_place n b s l) (renamed-legal ls bs)

-- and they hold the names
configuration-long : {s : Slave} → LegalSlave s → logical_name_place < length (bytes_in s configuration)
unfolding last_record
configuration-long l = omega (arith, l.configured)

pub name-held : (s : Slave) (n : ℕ) → LegalSlave s → logical_name (put_in_slave s configuration logical_name_place n) ≡ n
unfolding logical_name
name-held s n l =
    rw (in_slave_same configuration logical_name_place n s) (get_or-set_same (bytes_in s configuration) logical_name_place n 0 (configuration-long l))

renamed-logical : {ss : List Slave} (names : List ℕ) → All LegalSlave ss → length names ≡ length ss → map logical_name (renamed ss names) ≡ names
unfolding renamed
renamed-logical [] all_empty e = refl
renamed-logical (n ∷ ns) all_empty e = absurd (omega (arith, e))
renamed-logical [] (all_next l ls) e = absurd (omega (arith, e))
renamed-logical (n ∷ ns) (all_next {a = s} {l = ss} l ls) e = rw (name-held s n l, renamed-logical ns ls (omega (arith, e)))

-- ---- the cluster

pending-kept : (c : Cluster) (ss : List Slave) → LegalPending c → LegalPending (with_slaves c ss)
unfolding with_slaves
pending-kept c ss p =
    record {
      epoch = p.epoch;
      flag = p.flag;
      name = p.name;
      pb2 = p.pb2;
      pb3 = p.pb3;
      operation = p.operation;
      broadcast_read = p.broadcast_read;
    }

renamed_keeps : (c : Cluster) {names : List ℕ} → Bytes names → Legal c → Keeps c (with_slaves c (renamed c.slaves names))
unfolding with_slaves
renamed_keeps c {names} bs l =
    record {
      edition = refl;
      pending = pending-kept c (renamed c.slaves names) l.pending;
      shape = renamed_shape c.slaves names;
      bytes = all_map legal-bytes (renamed-legal l.slaves bs);
      names = renamed-physical c.slaves names;
    }

-- "Equal logical names do not refuse a file."
pub any_names-accepted : AnyNamesAccepted
unfolding with_names with_slaves
any_names-accepted file names b accepted bs each =
    record {
      accepted = new.accepted;
      held = held;
      loaded = load_twice (encode d) new.accepted ∙ ap (λ (ns : List ℕ). cond (has_repeat (held_names ns)) 22 0) held;
    }
  where
    d : Cluster
    d = with_slaves (decode file) (renamed (decode file).slaves names)

    l : Legal (decode file)
    l = accepted-legal file b accepted

    new : Becomes (encode d) d
    new = kept-legal (decode file) d l (renamed_keeps (decode file) bs l)

    held : logical_names (decode (encode d)) ≡ names
    held = unfold logical_names in (ap (λ (c : Cluster). map logical_name c.slaves) new.decoded ∙ renamed-logical names l.slaves each)
