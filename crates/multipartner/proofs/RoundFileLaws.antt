-- Where each slave keeps its round file: one law for each way of finding it, and the loop over the slaves.
-- Assumes nothing.
use Prim.Native.Nat.{ℕ, ◌+◌, ◌*◌, ◌≤◌, ◌<◌}
use native.Mathlib.Omega.{arith}
use mathlib.Core.Path.{◌≡◌, ap, ◌∙◌}
use mathlib.Core.List.{List}
use mathlib.Core.Bool.{Bool, true, false}
use lib.ListN.{length, get_or, set, length-set}
use lib.Seq.{get_or-set_same, get_or-set_other}
use lib.Dec.{eqb}
use borrow.Author.Tests.{ne_eqb, eqb-true, eqb-false}
use Rattle.file.specs.Rules.Bytes.{All, all_empty, all_next}
use Rattle.file.specs.Rules.Layout.{record_size}
use Rattle.file.specs.Rules.Cluster.{File, Cluster, bytes_among, bytes_in, last_record, logical_name, unnamed}
use Rattle.file.specs.Rules.Legal.{LegalFile}
use Rattle.file.specs.Inner.Places.{slaves_room, slave_of}
use Rattle.file.specs.Rules.Decode.{decode}
use Rattle.file.specs.Inner.Accepted.{Becomes, AcceptedFile, slave_count, find_file}
use Rattle.file.specs.Inner.FileAnswers.{found_file}
use mir.Val.{Fits}
use mir.Syntax.{w64}
use Rattle.file.specs.declared.records.FileBytes.{FileBytes}
use Rattle.file.proofs.Order.{by_case}
use Rattle.file.proofs.ReaderLaws.{slave-legal, length_limit, place-within, becomes-decoded}
use Rattle.master_slave.specs.Rules.Slaves.{is_unnamed}
use Rattle.multipartner.specs.Inner.Slots.{no_entries, planned_entries, EntriesLie, PlannedFileIs, RoundFileIs, RoundFilesAre}
use Rattle.multipartner.specs.declared.round_files.OpenEntries.{OpenEntries}
use Rattle.multipartner.proofs.SlotActLaws.{Found, found_facts, missing_empty}
use Rattle.std.specs.Prelude.{Option, Some, None}

-- ---- one slave

-- whole records, one at least besides 0x00
pub record Records (bs : List ℕ) : Type 0 where
  pub some : 1 ≤ last_record bs
  pub whole : length bs ≡ record_size * (last_record bs + 1)

among_records : {xs : List File} (n : ℕ) → All LegalFile xs → 0 < length (bytes_among xs n) → Records (bytes_among xs n)
unfolding bytes_among
among_records n all_empty some = absurd (omega arith)
among_records n (all_next {a = x} p r) some =
    by_case (eqb x.number n)
    (λ e. rw e (record { some = p.some; whole = p.whole }))
    (λ e. rw e (among_records n r (rw e at some)))

file_records : {f : List ℕ} {c : Cluster} (s n : ℕ) → Becomes f c → s < length c.slaves → 0 < length (bytes_in (slave_of c s) n) → Records (bytes_in (slave_of c s) n)
unfolding bytes_in
file_records s n h l some = among_records n (slave-legal h s l).files some

none_lie : {c : Cluster} {round s many : ℕ} → many ≡ 0 → EntriesLie c round s many 0 0
none_lie e = record { begins = rw e; span = rw e }

module _ (c : Cluster) (round s : ℕ) where
  module _ {name : ℕ} {t : Bool} (own : name ≡ logical_name (slave_of c s)) (tests : t ≡ eqb name unnamed) where
    pub round-unnamed : t ≡ true → PlannedFileIs c round s 0 0
    unfolding planned_entries is_unnamed
    round-unnamed yes' = none_lie (rw (← own, ← tests, yes'))

    named-runs : t ≡ false → planned_entries round (slave_of c s) ≡ last_record (bytes_in (slave_of c s) round)
    unfolding planned_entries is_unnamed
    named-runs no' = rw (← own, ← tests, no')

  module _ {r : Option FileBytes} (is : found_file r ≡ find_file c s round) where
    pub round_missing : r ≡ None → PlannedFileIs c round s 0 0
    unfolding found_file planned_entries last_record
    round_missing q =
        let empty = missing_empty c s round (rw q at is) in
        none_lie (by_case (is_unnamed (slave_of c s)) (λ t. rw t) (λ t. rw (t, empty)))

    module _ {b : FileBytes} (q : r ≡ Some b) where
      round_facts : Found c s round b.place b.size
      unfolding found_file
      round_facts = found_facts c s round (rw q at is)

      module _ {f : List ℕ} (h : Becomes f c) where
        round-within : b.place + b.size ≤ length f
        round-within =
            let fact = round_facts in
            omega (arith, fact.lies, fact.has, place-within h s round (rw fact.has at fact.some))

        pub end_fits : Fits w64 (b.place + b.size)
        end_fits = omega (arith, round-within, length_limit (becomes-decoded h))

        module _ (there : s < length c.slaves) where
          round_records : Records (bytes_in (slave_of c s) round)
          round_records = file_records s round h there (rw round_facts.has at round_facts.some)

          pub start_fits : Fits w64 (b.place + record_size)
          start_fits =
              let records = round_records in
              omega (arith, records.some, records.whole, round_facts.has, round-within, length_limit (becomes-decoded h))

          pub round_found : {name : ℕ} {t : Bool} → name ≡ logical_name (slave_of c s) → t ≡ eqb name unnamed → t ≡ false → PlannedFileIs c round s (b.place + record_size) (b.place + b.size)
          round_found own tests no' =
              let fact = round_facts in
              let records = round_records in
              let runs = named-runs own tests no' in
              let some : eqb (planned_entries round (slave_of c s)) 0 ≡ false = ne_eqb (planned_entries round (slave_of c s)) 0 (λ e. omega (arith, records.some)) in
              record {
                begins = rw some (ap (λ (x : ℕ). x + record_size) fact.lies);
                span = omega (arith, records.whole, fact.has, runs);
              }

-- ---- every slave

-- what the loop over the slaves keeps
pub record Finding (f : List ℕ) (round : ℕ) (lists : List OpenEntries) (n : ℕ) : Type 0 where
  pub becomes : AcceptedFile f
  pub most : n ≤ slave_count f
  pub room : length lists ≡ slaves_room
  pub file : (s : ℕ) → s < n → RoundFileIs (decode f) round s (get_or lists s no_entries).start (get_or lists s no_entries).end

pub finding_start : {f : List ℕ} (round : ℕ) {lists : List OpenEntries} → AcceptedFile f → length lists ≡ slaves_room → Finding f round lists 0
finding_start round h room =
    record { becomes = h; most = omega arith; room = room; file = λ s l. absurd (omega arith) }

module _ {f : List ℕ} {round : ℕ} {lists : List OpenEntries} {n : ℕ} (h : Finding f round lists n) {count : ℕ} (all : count ≡ slave_count f) where
  pub finding_next : {start end : ℕ} → n < count → RoundFileIs (decode f) round n start end → Finding f round (set lists n (record { start = start; end = end })) (n + 1)
  finding_next {start} {end} more is =
      let new : OpenEntries = record { start = start; end = end } in
      let few : n < slaves_room = omega (arith, h.becomes.legal.count) in
      record {
        becomes = h.becomes;
        most = omega arith;
        room = length-set lists n new ∙ h.room;
        file = λ s l. by_case (eqb s n)
            (λ e. let same : s ≡ n = eqb-true s n e in rw (same, get_or-set_same lists n new no_entries (omega (arith, h.room))) is)
            (λ e. let other = eqb-false s n e in rw (get_or-set_other lists n s new no_entries other) (h.file s (below s l other)));
      }
    where
      below : (s : ℕ) → s < n + 1 → (s ≡ n → ⊥) → s < n
      below s l other = omega arith

  pub finding_done : count ≤ n → RoundFilesAre (decode f) round lists
  finding_done over = record { room = h.room; file = λ s l. h.file s (omega arith) }
