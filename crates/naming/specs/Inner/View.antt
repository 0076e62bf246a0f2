-- What the naming run sees of a cluster, and what its rounds do there (document 01, "What slaves do", restricted to the six
-- rounds that the run sends).
use Rattle.std.specs.Prelude.{ℕ, ◌+◌, ◌*◌, List, [], ◌∷◌, map, Bool, false, cond, not, eqb, leb}
use Rattle.file.specs.Rules.Bytes.{number_of}
use Rattle.file.specs.Rules.Order.{both, either}
use Rattle.file.specs.Rules.Cluster.{Slave, Cluster, record_of, physical_name, logical_name, new_logical_name, configuration, unnamed}
use Rattle.naming.specs.Rules.RunRounds.{RunRound, poll, write_name, write_high, write_low, compare, baptize, half}

-- a slave's physical name, logical name, new logical name, and the two halves of its comparison value, records 2 and 3 of 0x08
pub record SlaveView : Type 0 where
  pub physical : ℕ
  pub logical : ℕ
  pub new_name : ℕ
  pub high : ℕ
  pub low : ℕ

unfoldable pub view_of : Slave → SlaveView
view_of s =
    record {
      physical = physical_name s;
      logical = logical_name s;
      new_name = new_logical_name s;
      high = number_of (record_of s configuration 2);
      low = number_of (record_of s configuration 3);
    }

unfoldable pub view : Cluster → List SlaveView
view c = map view_of c.slaves

-- the comparison value IDCV
unfoldable pub comparison_of : SlaveView → ℕ
comparison_of v = v.high * half + v.low

-- "Logical name 0xFF is "unnamed""
unfoldable pub view_unnamed : SlaveView → Bool
view_unnamed v = eqb v.logical unnamed

-- an unnamed slave with parts replaced: by record 1, by record 2, by record 3, and by an execute of record 1, in which "those
-- with physical name equal to IDCV take the new logical name"
unfoldable pub unnamed_change : RunRound → SlaveView → SlaveView
unnamed_change (poll n) v = v
unnamed_change (write_name n) v =
    record { physical = v.physical; logical = v.logical; new_name = n; high = v.high; low = v.low }
unnamed_change (write_high h) v =
    record { physical = v.physical; logical = v.logical; new_name = v.new_name; high = h; low = v.low }
unnamed_change (write_low l) v =
    record { physical = v.physical; logical = v.logical; new_name = v.new_name; high = v.high; low = l }
unnamed_change compare v = v
unnamed_change baptize v =
    record {
      physical = v.physical;
      logical = cond (eqb v.physical (comparison_of v)) v.new_name v.logical;
      new_name = v.new_name;
      high = v.high;
      low = v.low;
    }

-- "Addressed are: at 0xFF the unnamed": what a round does to a slave
unfoldable pub change : RunRound → SlaveView → SlaveView
change o v = cond (view_unnamed v) (unnamed_change o v) v

-- whether a slave sends in slot 1. "Read: addressed slaves, never unnamed ones, .. send"; "Execute 0x08 record 2: addressed
-- slaves with physical name at least IDCV send"
unfoldable pub replies : RunRound → SlaveView → Bool
replies (poll n) v = both (not (view_unnamed v)) (eqb v.logical n)
replies (write_name n) v = false
replies (write_high h) v = false
replies (write_low l) v = false
replies compare v = both (view_unnamed v) (leb (comparison_of v) v.physical)
replies baptize v = false

-- someone of the list does
unfoldable pub someone : (SlaveView → Bool) → List SlaveView → Bool
someone f [] = false
someone f (v ∷ vs) = either (f v) (someone f vs)

-- a round on the cluster as the run sees it: what it becomes, and whether someone sends in slot 1
unfoldable pub change_all : RunRound → List SlaveView → List SlaveView
change_all o vs = map (change o) vs

unfoldable pub answers : RunRound → List SlaveView → Bool
answers o vs = someone (replies o) vs
