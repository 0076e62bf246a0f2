-- The entries that a slave still has to look at: those in front of them can be passed over in every slot to come.
-- Assumes nothing.
use Prim.Native.Nat.{ℕ, zero, suc, ◌+◌, ◌*◌, ◌-◌, ◌≤◌, ◌<◌}
use native.Mathlib.Omega.{arith}
use mathlib.Core.Path.{◌≡◌, refl, sym, ◌∙◌}
use mathlib.Core.List.{List}
use mathlib.Core.Bool.{Bool, true, false}
use lib.ListN.{length, get_or, set, length-set}
use lib.Seq.{get_or-set_same, get_or-set_other}
use lib.Dec.{eqb}
use borrow.Author.Tests.{eq-eqb, ne_eqb, eqb-true, eqb-false}
use mir.Val.{Fits}
use mir.Syntax.{w32}
use Rattle.file.specs.Rules.Layout.{record_size}
use Rattle.file.specs.Rules.Cluster.{Slave, Cluster, is_awake, bytes_in, last_record}
use Rattle.file.specs.Inner.Places.{slaves_room, slave_of, file_place}
use Rattle.file.specs.Inner.Accepted.{Becomes}
use Rattle.file.proofs.Order.{by_case}
use Rattle.file.proofs.ReaderLaws.{byte-there, place-within, length_limit, becomes-decoded}
use Rattle.master_slave.specs.Rules.Slaves.{is_unnamed}
use Rattle.multipartner.specs.Rules.Entries.{Entry, entry_there, entry_at, ends, eligible, Acting, no_entry, acts, acting_from}
use Rattle.multipartner.specs.Inner.Slots.{no_entries, planned_entries, entries_in, EntriesLie, RoundFileIs, RoundFilesAre, EntriesWithin, next_past, next_after}
use Rattle.multipartner.specs.declared.round_files.OpenEntries.{OpenEntries}
use Rattle.multipartner.proofs.EntryLaws.{past_last}

-- ---- the first entry before the end that is eligible in the slot, record by record

module _ (passed : Entry → Bool) (rodl : List ℕ) (slot k : ℕ) where
  pub acting-end : (n : ℕ) → 0 < n → ends (entry_at rodl k).operation ≡ true → acting_from passed rodl slot k n ≡ no_entry
  unfolding acting_from
  acting-end zero l e = absurd (omega arith)
  acting-end (suc n) l e = rw e

  pub acting-here : (n : ℕ) → 0 < n → ends (entry_at rodl k).operation ≡ false → eligible passed (entry_at rodl k) slot ≡ true → acting_from passed rodl slot k n ≡ acts (entry_at rodl k)
  unfolding acting_from
  acting-here zero l e q = absurd (omega arith)
  acting-here (suc n) l e q = rw (e, q)

  pub acting-next :
      {n m : ℕ} → n ≡ suc m → ends (entry_at rodl k).operation ≡ false → eligible passed (entry_at rodl k) slot ≡ false →
      acting_from passed rodl slot k n ≡ acting_from passed rodl slot (suc k) m
  unfolding acting_from
  acting-next more e q = rw (more, e, q)

pub acting-none : (passed : Entry → Bool) (rodl : List ℕ) (slot k n : ℕ) → n ≡ 0 → acting_from passed rodl slot k n ≡ no_entry
unfolding acting_from
acting-none passed rodl slot k n e = rw e

-- ---- the entries that a slave runs lie in its round file

pub planned-few : (round : ℕ) (s : Slave) → planned_entries round s ≤ last_record (bytes_in s round)
unfolding planned_entries
planned-few round s = by_case (is_unnamed s) (λ t. rw t (omega arith)) (λ t. rw t (omega arith))

entries-few : (round : ℕ) (s : Slave) → entries_in round s ≤ last_record (bytes_in s round)
unfolding entries_in
entries-few round s = by_case (is_awake s) (λ a. rw a (planned-few round s)) (λ a. rw a (omega arith))

entries-room : (round : ℕ) (s : Slave) (k : ℕ) → 1 ≤ k → k ≤ last_record (bytes_in s round) → record_size * k + record_size ≤ length (bytes_in s round)
unfolding last_record
entries-room round s k some l = omega arith

-- the entry that acts, by the entries that the slave runs
unfoldable pub actor : (Entry → Bool) → ℕ → ℕ → Slave → Acting
actor passed round slot s = acting_from passed (bytes_in s round) slot 1 (entries_in round s)

-- ---- the entries from one on

-- of so many entries of the slave at index s those from record k on lie from at to end
pub record RestOf (c : Cluster) (round s many k left at end : ℕ) : Type 0 where
  pub few : many ≤ last_record (bytes_in (slave_of c s) round)
  pub some : 1 ≤ k
  pub count : k + left ≡ suc many
  pub span : end ≡ at + record_size * left
  pub lies : 0 < many → at ≡ file_place c s round + record_size * k
  pub runs_none : many ≡ 0 → at ≡ 0

-- of those that it runs
abbrev pub Rest : Cluster → ℕ → ℕ → ℕ → ℕ → ℕ → ℕ → Type 0
Rest c round s k left at end = RestOf c round s (entries_in round (slave_of c s)) k left at end

pub rest-start : {c : Cluster} {round s many start end : ℕ} → many ≤ last_record (bytes_in (slave_of c s) round) → EntriesLie c round s many start end → RestOf c round s many 1 many start end
rest-start {c} {round} {s} {many} {start} few is =
    record {
      few = few;
      some = omega arith;
      count = omega arith;
      span = is.span;
      lies = λ l.
          let more : eqb many 0 ≡ false = ne_eqb many 0 (λ e. omega arith) in
          let here : start ≡ file_place c s round + record_size = rw more at is.begins in
          omega arith;
      runs_none = λ e. rw (eq-eqb many 0 e) at is.begins;
    }

module _ {f : List ℕ} {c : Cluster} {round s many k left at end : ℕ} (h : Becomes f c) (q : RestOf c round s many k left at end) where
  rest_end : end ≤ length f
  rest_end =
      by_case (eqb many 0)
      (λ e. omega (arith, q.span, q.count, q.some, q.runs_none (eqb-true many 0 e), eqb-true many 0 e))
      (λ e.
      let more = positive (eqb-false many 0 e) in
      let room = entries-room round (slave_of c s) many more q.few in
      omega (arith, q.span, q.count, q.lies more, place-within h s round (omega arith)))
    where
      positive : {m : ℕ} → (m ≡ 0 → ⊥) → 1 ≤ m
      positive {m} other = omega arith

  pub rest-within : EntriesWithin f at end
  rest-within =
      record {
        rising = omega (arith, q.span);
        whole = omega (arith, q.span);
        within = rest_end;
      }

  pub rest-next : {less : ℕ} → left ≡ suc less → RestOf c round s many (suc k) less (at + 4) end
  rest-next more =
      record {
        few = q.few;
        some = omega arith;
        count = omega (arith, q.count);
        span = omega (arith, q.span);
        lies = λ l. omega (arith, q.lies l);
        runs_none = λ e. absurd (omega (arith, q.count, q.some));
      }

  module _ (more : 0 < left) where
    record-room : record_size * k + record_size ≤ length (bytes_in (slave_of c s) round)
    record-room = entries-room round (slave_of c s) k q.some (omega (arith, q.count, q.few))

    place_here : at ≡ file_place c s round + record_size * k
    place_here = q.lies (omega (arith, q.count, q.some))

    byte-here : (j : ℕ) → j < 4 → {p : ℕ} → p ≡ at + j → get_or f p 0 ≡ get_or (bytes_in (slave_of c s) round) (record_size * k + j) 0
    byte-here j l {p} e =
        let room = record-room in
        let there : p ≡ file_place c s round + (record_size * k + j) = omega (arith, place_here) in
        rw there (byte-there h s round (record_size * k + j) (omega arith))

    -- the entry that begins there is record k of the round file
    pub rest-entry : entry_there f at ≡ entry_at (bytes_in (slave_of c s) round) k
    unfolding entry_there entry_at
    rest-entry =
        let zeroth : get_or f at 0 ≡ get_or (bytes_in (slave_of c s) round) (record_size * k) 0 =
        rw (← first (record_size * k)) (byte-here 0 (omega arith) (omega arith))
        in
        rw (zeroth, byte-here 1 (omega arith) refl, byte-here 2 (omega arith) refl, byte-here 3 (omega arith) refl)
      where
        first : (m : ℕ) → m + 0 ≡ m
        first m = omega arith

-- where its entries begin and end is no large number
module _ {f : List ℕ} {c : Cluster} {round s start end : ℕ} (h : Becomes f c) (is : RoundFileIs c round s start end) where
  within-file : EntriesWithin f start end
  within-file = rest-within h (rest-start (entries-few round (slave_of c s)) is)

  pub end_low : Fits w32 end
  end_low = omega (arith, within-file.within, length_limit (becomes-decoded h))

  pub start-low : Fits w32 start
  start-low = omega (arith, within-file.rising, within-file.within, length_limit (becomes-decoded h))

-- ---- what the slave's entries that are left say of the slots to come

-- from the slot on the entry that acts is among those that lie from at to end
pub record OpenAt (passed : Entry → Bool) (c : Cluster) (round slot s at end : ℕ) : Type 0 where
  pub k : ℕ
  pub left : ℕ
  pub rest : Rest c round s k left at end
  pub same : (later : ℕ) → slot ≤ later → acting_from passed (bytes_in (slave_of c s) round) later k left ≡ actor passed round later (slave_of c s)

module _ {passed : Entry → Bool} {c : Cluster} {round slot s at end : ℕ} (o : OpenAt passed c round slot s at end) where
  pub open_next : OpenAt passed c round (slot + 1) s at end
  open_next = record { k = o.k; left = o.left; rest = o.rest; same = λ later l. o.same later (omega arith) }

  module _ {f : List ℕ} (h : Becomes f c) where
    pub open_within : EntriesWithin f at end
    open_within = rest-within h o.rest

    -- the first of them is over
    open_over : at < end → ends (entry_there f at).operation ≡ false → ((later : ℕ) → slot ≤ later → eligible passed (entry_there f at) later ≡ false) → OpenAt passed c round slot s (at + 4) end
    open_over more goes never =
        let some : 0 < o.left = omega (arith, o.rest.span) in
        let fewer : o.left ≡ suc (o.left - 1) = omega arith in
        let here = rest-entry h o.rest some in
        record {
          k = suc o.k;
          left = o.left - 1;
          rest = rest-next h o.rest fewer;
          same = λ later l.
              sym (acting-next passed (bytes_in (slave_of c s) round) later o.k fewer (rw here at goes) (rw here at (never later l))) ∙ o.same later l;
        }

-- an entry of the slave is over, or acts in a slot: the search of the next slot begins past it, if it began there
module _ {passed : Entry → Bool} {f : List ℕ} {c : Cluster} {round s at next end : ℕ} (slot : ℕ) (h : Becomes f c) (o : OpenAt passed c round (slot + 1) s next end) (more : at < end)
    (goes : ends (entry_there f at).operation ≡ false) where
  pub open_past : ((later : ℕ) → slot + 1 ≤ later → eligible passed (entry_there f at) later ≡ false) → OpenAt passed c round (slot + 1) s (next_past next at) end
  unfolding next_past
  open_past never =
      by_case (eqb next at)
      (λ t. let here : next ≡ at = eqb-true next at t in rw t (open_over (rw here at o) h more goes never))
      (λ t. rw t o)

  pub open_after : (entry_there f at).start ≤ slot → OpenAt passed c round (slot + 1) s (next_after (entry_there f at) next at slot) end
  unfolding next_after
  open_after begun =
      let e : Entry = entry_there f at in
      by_case (eqb (slot - e.start + 1) e.length)
      (λ t. rw t (open_past (past_last passed e slot begun (eqb-true (slot - e.start + 1) e.length t))))
      (λ t. rw t o)

-- a slave's entries begin elsewhere
abbrev pub moved : List OpenEntries → ℕ → ℕ → List OpenEntries
moved lists n at = set lists n (record { start = at; end = (get_or lists n no_entries).end })

-- the same of every slave; in a slot the first n are through with it
pub record OpenAll (passed : Entry → Bool) (c : Cluster) (round slot n : ℕ) (lists : List OpenEntries) : Type 0 where
  pub room : length lists ≡ slaves_room
  pub through : (s : ℕ) → s < n → s < length c.slaves → OpenAt passed c round (slot + 1) s (get_or lists s no_entries).start (get_or lists s no_entries).end
  pub ahead : (s : ℕ) → n ≤ s → s < length c.slaves → OpenAt passed c round slot s (get_or lists s no_entries).start (get_or lists s no_entries).end

pub open_start : {passed : Entry → Bool} {c : Cluster} {round : ℕ} (slot : ℕ) {lists : List OpenEntries} → RoundFilesAre c round lists → OpenAll passed c round slot 0 lists
unfolding actor
open_start {c} {round} slot are =
    record {
      room = are.room;
      through = λ s m l. absurd (omega arith);
      ahead = λ s m l.
          record {
            k = 1;
            left = entries_in round (slave_of c s);
            rest = rest-start (entries-few round (slave_of c s)) (are.file s l);
            same = λ later q. refl;
          };
    }

module _ {passed : Entry → Bool} {c : Cluster} {round slot n : ℕ} {lists : List OpenEntries} (o : OpenAll passed c round slot n lists) where
  -- one more slave is through
  pub open_set : {at : ℕ} → n < slaves_room → OpenAt passed c round (slot + 1) n at (get_or lists n no_entries).end → OpenAll passed c round slot (n + 1) (moved lists n at)
  open_set {at} few now =
      let new : OpenEntries = record { start = at; end = (get_or lists n no_entries).end } in
      record {
        room = length-set lists n new ∙ o.room;
        through = λ s m l. by_case (eqb s n)
            (λ e. let same : s ≡ n = eqb-true s n e in rw (same, get_or-set_same lists n new no_entries (omega (arith, o.room))) now)
            (λ e. let other = eqb-false s n e in rw (get_or-set_other lists n s new no_entries other) (o.through s (below s m other) l));
        ahead = λ s m l. rw (get_or-set_other lists n s new no_entries (above s m)) (o.ahead s (omega arith) l);
      }
    where
      below : (s : ℕ) → s < n + 1 → (s ≡ n → ⊥) → s < n
      below s l other = omega arith

      above : (s : ℕ) → n + 1 ≤ s → s ≡ n → ⊥
      above s l e = omega arith

  -- all are
  pub open_later : length c.slaves ≤ n → OpenAll passed c round (slot + 1) 0 lists
  open_later over =
      record {
        room = o.room;
        through = λ s m l. absurd (omega arith);
        ahead = λ s m l. o.through s (omega arith) l;
      }
