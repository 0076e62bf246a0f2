-- `multipartner::multipartner::run_slots` meets its contract. The invariants: of the slots `Running`, the round so far; of a slot's
-- slaves `SlotHeard`, what was sent, who stores where, and that no slave's acting entry was passed over; of a slave's entries
-- `Looking`, that the entry that acts is yet to come.
-- Assumes nothing.
use Rattle.std.proofs.Common.{arith}
use mathlib.Core.Path.{◌∙◌}
use lib.ListN.{length-set}
use Rattle.std.proofs.Common.{rules}
use Rattle.master_slave.proofs.Bus.{filled-length}
use Rattle.multipartner.proofs.SearchLaws.{entry-within, entry-low, begun}
use Rattle.multipartner.proofs.SlotLaws.{heard-none, ends_low, starts-low, stores-within}
use Rattle.multipartner.proofs.SlotLaws.{looking_start, looking_done, looking_end, looking_wait, looking_over, looking_stores}
use Rattle.multipartner.proofs.SlotLaws.{looking_acts, heard-same, next_low, after-low, running-start, mask-small, slot_fits, running_silent, running-heard, running-done}
use Rattle.multipartner.proofs.multipartner.run_slots.Goals as goal
use Rattle.multipartner.proofs.multipartner.run_slots.Goals.{then-not-waits_at+else-acts_at, else-not-waits_at, then-heard, else-heard}
use Rattle.multipartner.proofs.multipartner.run_slots.Goals.{else-entries-test, then-entries-test+then-ends_at, then-entries-test+else-ends_at+then-not-waits_at+then-acts_at}

pub slots-init : goal.slots-init
slots-init c = search (rules, running-start)

pub slaves-init : goal.slaves-init
slaves-init c = search (rules, heard-none)

pub overflow_cast-end : goal.overflow_cast-end
overflow_cast-end c = omega (arith, ends_low c.slaves.invariant c.slaves-test.true)

pub overflow_cast-at : goal.overflow_cast-at
overflow_cast-at c = omega (arith, starts-low c.slaves.invariant c.slaves-test.true)

pub entries-init : goal.entries-init
entries-init c = looking_start c.slaves.invariant c.slaves-test.true

pub ends_at-requires : goal.ends_at-requires
ends_at-requires c = entry-within c.entries.invariant.search c.entries-test.true

pub waits_at-requires : goal.waits_at-requires
waits_at-requires c = entry-within c.entries.invariant.search c.entries-test.true

pub acts_at-requires : goal.acts_at-requires
acts_at-requires c = entry-within c.entries.invariant.search c.entries-test.true

pub act_at-act-requires : goal.act_at-act-requires
act_at-act-requires c =
    let looking = c.entries.invariant in (
      looking.search.becomes,
      looking.search.slave,
      entry-within looking.search c.entries-test.true,
      begun c.waits_at.ensures c.if-not-waits_at.true,
      search rules,
      looking.before.ready.kept,
    )

pub put_store-stored-requires : goal.put_store-stored-requires
put_store-stored-requires c =
    looking_stores c.entries.invariant c.entries-test.true c.ends_at.ensures c.if-ends_at.false
    (begun c.waits_at.ensures c.if-not-waits_at.true) c.acts_at.ensures
    c.if-acts_at.true c.act_at-act.ensures.does

pub next_after-next-requires : goal.next_after-next-requires
next_after-next-requires c =
    let looking = c.entries.invariant in (
      entry-low looking.search c.entries-test.true,
      entry-within looking.search c.entries-test.true,
      begun c.waits_at.ensures c.if-not-waits_at.true,
    )

pub next_past-next-requires : goal.next_past-next-requires
next_past-next-requires c = entry-low c.entries.invariant.search c.entries-test.true

pub overflow_add-at : goal.overflow_add-at
overflow_add-at c = omega (arith, entry-low c.entries.invariant.search c.entries-test.true)

pub entries-preserved : goal.entries-preserved
entries-preserved c =
    let looking = c.entries.invariant in
    elim c.if-not-waits_at.branch [
      | then-not-waits_at+else-acts_at w ↦
          looking_over looking c.entries-test.true c.ends_at.ensures c.if-ends_at.false (begun c.waits_at.ensures w.if-not-waits_at.true)
          w.acts_at.ensures w.if-acts_at.false (w.next-is ∙ w.next_past-next.ensures)
      | else-not-waits_at w ↦
          looking_wait looking c.entries-test.true c.ends_at.ensures c.if-ends_at.false c.waits_at.ensures w.if-not-waits_at.false w.next-is
    ]

pub slaves-preserved : goal.slaves-preserved
slaves-preserved c =
    let looking = c.entries.invariant in
    -- the three ways out of the search meet here
    elim c.entries-test.branch [
      | else-entries-test w ↦
          heard-same looking w.kept-is w.stores-is w.bus-is w.heard-is w.stored-is w.next-is
          (looking_done looking w.entries-test.false)
      | then-entries-test+then-ends_at w ↦
          heard-same looking w.kept-is w.stores-is w.bus-is w.heard-is w.stored-is w.next-is
          (looking_end looking w.entries-test.true w.ends_at.ensures w.if-ends_at.true)
      | then-entries-test+else-ends_at+then-not-waits_at+then-acts_at w ↦
          heard-same looking w.kept-is w.stores-is w.bus-is w.heard-is w.stored-is w.next-is
          (looking_acts looking w.entries-test.true w.ends_at.ensures w.if-ends_at.false (begun w.waits_at.ensures w.if-not-waits_at.true)
          w.acts_at.ensures w.if-acts_at.true w.act_at-act.ensures w.bus_with-bus.ensures w.heard_with-heard.ensures
          w.put_store-stored.ensures w.next_after-next.ensures)
    ]

pub overflow_cast-lists : goal.overflow_cast-lists
overflow_cast-lists c =
    let looking = c.entries.invariant in
    elim c.entries-test.branch [
      | else-entries-test w ↦ omega (arith, w.next-is, next_low looking)
      | then-entries-test+then-ends_at w ↦ omega (arith, w.next-is, next_low looking)
      | then-entries-test+else-ends_at+then-not-waits_at+then-acts_at w ↦
          omega (
            arith,
            w.next-is,
            after-low looking w.entries-test.true w.ends_at.ensures w.if-ends_at.false
                (begun w.waits_at.ensures w.if-not-waits_at.true) w.acts_at.ensures w.next_after-next.ensures,
          )
    ]

pub with_sender-mask-requires : goal.with_sender-mask-requires
with_sender-mask-requires c = search (rules, mask-small)

pub store-requires : goal.store-requires
store-requires c = stores-within c.slaves.invariant c.slaves-test.false

pub bounds-buffer-slot : goal.bounds-buffer-slot
bounds-buffer-slot c = slot_fits c.slots.invariant c.slots-test.true

pub slots-preserved : goal.slots-preserved
slots-preserved c =
    let run = c.slots.invariant in
    elim c.if-heard.branch [
      | then-heard w ↦
          running-heard run c.slots-test.true c.slaves.invariant c.slaves-test.false w.if-heard.true (w.mask-is ∙ w.with_sender-mask.ensures)
          (w.file-is ∙ w.store.ensures)
      | else-heard w ↦ running_silent run c.slots-test.true c.slaves.invariant c.slaves-test.false w.if-heard.false w.mask-is w.file-is
    ]

pub shape_of-file : goal.shape_of-file
shape_of-file c = c.slots.invariant.size

pub shape_of-buffer : goal.shape_of-buffer
shape_of-buffer c = filled-length c.slots.invariant.filled ∙ simp length-set

pub returns : goal.returns
returns c = running-done _ c.slots.invariant c.slots-test.false
