-- `multipartner::multipartner::run_slots` meets its contract. The invariants: of the slots `Running`, the round so far; of a slot's
use Prim.Native.Nat.{◌-◌}
use Rattle.multipartner.specs.Rules.Entries.{out_of_turn}
use Rattle.multipartner.proofs.SlotLaws.{SlotHeard, Looking}
use Rattle.multipartner.proofs.SlotLaws.{Running}
use Rattle.multipartner.proofs.multipartner.run_slots.Given as goal

abbrev pub invariant-entries : goal.invariant-entries
invariant-entries l =
    Looking (out_of_turn l.epoch) l.file l.round l.count l.slot l.slave l.bus l.heard l.lists l.stores l.stored l.kept l.at l.next l.end

abbrev pub decreases-entries : goal.decreases-entries
decreases-entries l =
    l.end - l.at

abbrev pub invariant-slaves : goal.invariant-slaves
invariant-slaves l =
    SlotHeard (out_of_turn l.epoch) l.file l.round l.count l.slot l.slave l.bus l.heard l.lists l.stores l.stored l.kept

abbrev pub invariant-slots : goal.invariant-slots
invariant-slots l =
    Running (out_of_turn l.epoch) l.initial.file l.round l.firework l.count l.lists l.stores l.kept l.initial.buffer l.slot l.mask l.buffer l.file
