-- Slots 1 to 63, one after the other: what the loop over them keeps, and the round that it makes.
-- Assumes nothing.
use Prim.Native.Nat.{ℕ, zero, suc, ◌+◌, ◌^◌, ◌≤◌, ◌<◌}
use native.Mathlib.Omega.{arith}
use native.Mathlib.Numerals.{add-one}
use mathlib.Core.Path.{◌≡◌, refl, sym, ap, ◌∙◌}
use mathlib.Core.List.{List, [], ◌∷◌}
use mathlib.Core.Bool.{Bool, true, false, not}
use lib.ListN.{length, get_or, set, take, replicate}
use lib.Dec.{ltb}
use Rattle.file.specs.Rules.Order.{either}
use Rattle.file.specs.Rules.Cluster.{Cluster, is_awake, bytes_in, logical_name, configuration}
use Rattle.file.specs.Rules.Decode.{decode}
use Rattle.file.specs.Inner.Places.{slaves_room, slave_of, file_place, SameShape}
use Rattle.file.specs.Inner.Accepted.{Becomes, AcceptedFile}
use Rattle.file.proofs.Shape.{shape_count}
use Rattle.file.proofs.AtWidth.{shape_file_place, length-kept}
use Rattle.file.proofs.ReaderLaws.{becomes-decoded, length_limit}
use Rattle.master_slave.specs.Rules.Bus.{Senders, joined, bus_byte, anyone, mask_below_lem, slots, sender_mask}
use Rattle.master_slave.specs.Rules.Slaves.{is_unnamed, epoch_raised, nothing, rested}
use Rattle.multipartner.specs.Rules.Entries as Entries
use Rattle.multipartner.specs.Rules.Entries.{Entry, entry_there, eligible, no_entry, acts, out_of_turn}
use Rattle.multipartner.specs.Rules.Multipartner.{sent_by, sent_in, received_in, cluster_below, sent_during}
use Rattle.master_slave.specs.Rules.Effect.{Effect}
use Rattle.multipartner.specs.Rules.Multipartner.{passed_over_lem}
use Rattle.multipartner.specs.Inner.Slots.{multipartner_effect}
use Rattle.master_slave.specs.Inner.Carried.{Carried}
use Rattle.multipartner.specs.Inner.Slots.{no_entries, no_file, slots_effect, planned_entries, entries_in, RoundFilesAre, next_past, next_after, FilesKept, act_sends}
use Rattle.multipartner.specs.Inner.Slots.{is_sender, SlotActIs, ActedAt, StoresLow, put_store, stored_at, StoresWithin}
use Rattle.multipartner.specs.declared.kept_files.KeptFile.{KeptFile}
use Rattle.multipartner.specs.declared.round_files.OpenEntries.{OpenEntries}
use Rattle.multipartner.specs.declared.slot_act.SlotAct.{SlotAct}
use Rattle.multipartner.proofs.SlotActLaws.{either-none, kept_stay}
use Rattle.master_slave.proofs.Bus.{bus_byte-byte, mask_below, mask_next, mask_silent, Filled, filled-length, filled-start, filled_next, filled-done}
use Rattle.multipartner.proofs.StoresKept.{kept_received}
use Rattle.master_slave.proofs.Untouched.{files_of-slave}
use Rattle.multipartner.proofs.Unstored.{received_other, received_awake, awake-slave}
use Rattle.multipartner.proofs.StoreLaws.{stored-length, stored-first, stored_by, aim, received_by, received-all, stored-becomes}
use Rattle.multipartner.proofs.OpenLaws.{actor, Rest, OpenAt, OpenAll, moved, open_start, open_within, open_after, open_set, open_later}
use Rattle.multipartner.proofs.SearchLaws.{RoundActIs, round_act, round_rests, Searching, searching_start, searching_done, searching_end, searching_wait, searching_here, searching_over}
use Rattle.multipartner.proofs.HearLaws.{someone, someone_yes, someone_no, act_within, SlotHearing, slot_hearing_start, slot_hearing_next, heard-byte, heard_any, heard-stored, stored-few, heard-within}

-- ---- the round files stay where and what they are

-- whether a slave takes part in the round, and by which entries, is as it was
record PartKept (c d : Cluster) (round s : ℕ) : Type 0 where
  files : bytes_in (slave_of d s) round ≡ bytes_in (slave_of c s) round
  names : bytes_in (slave_of d s) configuration ≡ bytes_in (slave_of c s) configuration
  awake : is_awake (slave_of d s) ≡ is_awake (slave_of c s)

module _ (c d : Cluster) (edition : d.edition ≡ c.edition) (same : SameShape c.slaves d.slaves) (round : ℕ) where
  module _ (s : ℕ) (kept : PartKept c d round s) where
    entries-kept : entries_in round (slave_of d s) ≡ entries_in round (slave_of c s)
    unfolding entries_in planned_entries is_unnamed logical_name
    entries-kept = rw (kept.awake, kept.files, kept.names)

    place_kept : file_place d s round ≡ file_place c s round
    place_kept = sym (shape_file_place c d (sym edition) same s round)

    rest-kept : {k left at end : ℕ} → Rest c round s k left at end → Rest d round s k left at end
    rest-kept q =
        record {
          few = rw (entries-kept, kept.files) q.few;
          some = q.some;
          count = rw entries-kept q.count;
          span = q.span;
          lies = rw (entries-kept, place_kept) q.lies;
          runs_none = rw entries-kept q.runs_none;
        }

    open_kept : {passed : Entry → Bool} {slot at end : ℕ} → OpenAt passed c round slot s at end → OpenAt passed d round slot s at end
    unfolding actor
    open_kept o =
        record {
          k = o.k;
          left = o.left;
          rest = rest-kept o.rest;
          same = λ later l. rw (kept.files, entries-kept) (o.same later l);
        }

  files-kept : {passed : Entry → Bool} {slot n : ℕ} {lists : List OpenEntries} → ((s : ℕ) → PartKept c d round s)
      → OpenAll passed c round slot n lists → OpenAll passed d round slot n lists
  files-kept kept are =
      record {
        room = are.room;
        through = λ s m l. open_kept s (kept s) (are.through s m (omega (arith, shape_count same)));
        ahead = λ s m l. open_kept s (kept s) (are.ahead s m (omega (arith, shape_count same)));
      }

-- the file, the number of its slaves, the entries that they still have to look at, the first n being through with the slot, and the
-- files that are kept
pub record Ready (passed : Entry → Bool) (f : List ℕ) (round count slot n : ℕ) (lists : List OpenEntries) (known : List KeptFile) : Type 0 where
  pub becomes : Becomes f (decode f)
  pub low : round < 0x10
  pub all : count ≡ length (decode f).slaves
  pub files : OpenAll passed (decode f) round slot n lists
  pub kept : FilesKept f known

-- in the next slot, with nothing stored, and with what the slaves stored
module _ {passed : Entry → Bool} {f : List ℕ} {round count slot n : ℕ} {lists : List OpenEntries} {known : List KeptFile} (r : Ready passed f round count slot n lists known)
    (over : count ≤ n) where
  later : OpenAll passed (decode f) round (slot + 1) 0 lists
  later = open_later r.files (omega (arith, r.all))

  ready_same : Ready passed f round count (slot + 1) 0 lists known
  ready_same = record { becomes = r.becomes; low = r.low; all = r.all; files = later; kept = r.kept }

  ready_next : {g : List ℕ} (sent : List ℕ) → Becomes g (received_in passed round slot (decode f) sent) → Ready passed g round count (slot + 1) 0 lists known
  ready_next {g} sent h =
      let c : Cluster = decode f in
      let d : Cluster = received_in passed round slot c sent in
      let edition : d.edition ≡ c.edition = (kept_received passed round slot c sent).edition in
      let shape : SameShape c.slaves d.slaves = (kept_received passed round slot c sent).shape in
      let files = files_of-slave round c d (received_other passed round slot c sent round (λ l. absurd (above r.low l))) in
      let names = files_of-slave configuration c d (received_other passed round slot c sent configuration (λ l. omega (arith, l))) in
      let awake = awake-slave c d (received_awake passed round slot c sent) in
      let are : OpenAll passed d round (slot + 1) 0 lists = files-kept c d edition shape round (λ s. record { files = files s; names = names s; awake = awake s }) later in
      record {
        becomes = becomes-decoded h;
        low = r.low;
        all = rw h.decoded (r.all ∙ shape_count shape);
        files = rw h.decoded are;
        kept = kept_stay (rw h.decoded edition) (rw h.decoded shape) (length-kept r.becomes h edition shape) r.kept;
      }
    where
      above : {n : ℕ} → n < 0x10 → 0x10 ≤ n → ⊥
      above p q = omega arith

-- ---- the loop over a slot's slaves

-- the first n slaves are heard, and the entries that each still has to look at are known
pub record SlotHeard (passed : Entry → Bool) (f : List ℕ) (round count slot n bus : ℕ) (heard : Bool) (lists : List OpenEntries) (stores : List ℕ) (stored : ℕ) (known : List KeptFile) : Type 0 where
  pub ready : Ready passed f round count slot n lists known
  pub hearing : SlotHearing passed f round slot n bus heard stores stored

pub heard-none : {passed : Entry → Bool} {f : List ℕ} {round count slot : ℕ} {lists : List OpenEntries} {stores : List ℕ} {known : List KeptFile}
    → Ready passed f round count slot 0 lists known → length stores ≡ slaves_room
    → SlotHeard passed f round count slot 0 255 false lists stores 0 known
heard-none {passed} {f} {round} {slot = slot} r room = record { ready = r; hearing = slot_hearing_start passed f round slot room }

module _ {passed : Entry → Bool} {f : List ℕ} {round count slot n bus : ℕ} {heard : Bool} {lists : List OpenEntries} {stores : List ℕ} {stored : ℕ} {known : List KeptFile}
    (h : SlotHeard passed f round count slot n bus heard lists stores stored known) where
  module _ (more : n < count) where
    there : n < length (decode f).slaves
    there = omega (arith, h.ready.all)

    open_there : OpenAt passed (decode f) round slot n (get_or lists n no_entries).start (get_or lists n no_entries).end
    open_there = h.ready.files.ahead n (omega arith) there

    -- where its entries begin and end
    pub ends_low : (get_or lists n no_entries).end ≤ 65536
    ends_low = omega (arith, (open_within open_there h.ready.becomes).within, length_limit h.ready.becomes)

    pub starts-low : (get_or lists n no_entries).start ≤ 65536
    starts-low = omega (arith, ends_low, (open_within open_there h.ready.becomes).rising)

    pub slave_search : Searching passed f round slot n (get_or lists n no_entries).start (get_or lists n no_entries).start (get_or lists n no_entries).end
    slave_search = searching_start h.ready.becomes there open_there

    next_ready : {next : ℕ} {known' : List KeptFile} → OpenAt passed (decode f) round (slot + 1) n next (get_or lists n no_entries).end → FilesKept f known'
        → Ready passed f round count slot (n + 1) (moved lists n next) known'
    next_ready opened kept =
        let r = h.ready in
        record { becomes = r.becomes; low = r.low; all = r.all; files = open_set r.files (omega (arith, there, r.becomes.legal.count)) opened; kept = kept }

    -- one more slave, of whom an entry acts, or none
    pub heard-acts : {act : SlotAct} {bus' stored' next : ℕ} {heard' : Bool} {stores' : List ℕ} {known' : List KeptFile} → RoundActIs passed (decode f) round slot n act
        → bus' ≡ joined bus (act_sends act) → heard' ≡ either heard (is_sender act)
        → (stores', stored') ≡ put_store stores stored act → OpenAt passed (decode f) round (slot + 1) n next (get_or lists n no_entries).end → FilesKept f known'
        → SlotHeard passed f round count slot (n + 1) bus' heard' (moved lists n next) stores' stored' known'
    heard-acts does byte any put opened kept =
        record { ready = next_ready opened kept; hearing = slot_hearing_next h.hearing there does h.ready.becomes byte any put }

    pub heard_rests : {next : ℕ} → actor passed round slot (slave_of (decode f) n) ≡ no_entry → OpenAt passed (decode f) round (slot + 1) n next (get_or lists n no_entries).end
        → SlotHeard passed f round count slot (n + 1) bus heard (moved lists n next) stores stored known
    unfolding act_sends is_sender put_store joined
    heard_rests none opened = heard-acts (round_rests none) refl (sym (either-none heard)) refl opened h.ready.kept

  -- the places to store at are within their array, and what `store` asks of them
  module _ (over : count ≤ n) where
    pub stores_room : stored ≤ length stores
    stores_room = stored-few h.hearing (omega (arith, h.ready.all)) h.ready.becomes

    pub stores-within : StoresWithin f (take stored stores)
    stores-within = heard-within h.hearing (omega (arith, h.ready.all)) h.ready.becomes

-- ---- the search for a slave's entry

-- the slaves before it are heard, and its entry is yet to come
pub record Looking (passed : Entry → Bool) (f : List ℕ) (round count slot n bus : ℕ) (heard : Bool) (lists : List OpenEntries) (stores : List ℕ) (stored : ℕ) (known : List KeptFile)
    (at next end : ℕ) : Type 0 where
  pub search : Searching passed f round slot n at next end
  pub before : SlotHeard passed f round count slot n bus heard lists stores stored known
  pub more : n < count
  pub last : end ≡ (get_or lists n no_entries).end

pub looking_start : {passed : Entry → Bool} {f : List ℕ} {round count slot n bus : ℕ} {heard : Bool} {lists : List OpenEntries} {stores : List ℕ} {stored : ℕ} {known : List KeptFile}
    → SlotHeard passed f round count slot n bus heard lists stores stored known → n < count
    → Looking passed f round count slot n bus heard lists stores stored known (get_or lists n no_entries).start (get_or lists n no_entries).start (get_or lists n no_entries).end
looking_start h more = record { search = slave_search h more; before = h; more = more; last = refl }

module _ {passed : Entry → Bool} {f : List ℕ} {round count slot n bus : ℕ} {heard : Bool} {lists : List OpenEntries} {stores : List ℕ} {stored : ℕ} {known : List KeptFile} {at next end : ℕ}
    (l : Looking passed f round count slot n bus heard lists stores stored known at next end) where
  opened : OpenAt passed (decode f) round (slot + 1) n next (get_or lists n no_entries).end
  opened = rw l.last at l.search.later

  -- the ways out meet in what they left
  pub heard-same : {known₁ known₂ : List KeptFile} {stores₁ stores₂ : List ℕ} {bus₁ bus₂ stored₁ stored₂ next₁ next₂ : ℕ} {heard₁ heard₂ : Bool}
      → known₂ ≡ known₁ → stores₂ ≡ stores₁ → bus₂ ≡ bus₁ → heard₂ ≡ heard₁ → stored₂ ≡ stored₁ → next₂ ≡ next₁
      → SlotHeard passed f round count slot (n + 1) bus₁ heard₁ (moved lists n next₁) stores₁ stored₁ known₁
      → SlotHeard passed f round count slot (n + 1) bus₂ heard₂ (moved lists n next₂) stores₂ stored₂ known₂
  heard-same e₁ e₂ e₃ e₄ e₅ e₆ h = rw (e₁, e₂, e₃, e₄, e₅, e₆) h

  -- where the slave's next search begins is no large number
  pub next_low : next < 2 ^ 32
  next_low =
      let within = open_within l.search.later l.search.becomes in
      omega (arith, within.rising, within.within, length_limit l.search.becomes)

  -- the way out past the last entry
  pub looking_done : end ≤ at → SlotHeard passed f round count slot (n + 1) bus heard (moved lists n next) stores stored known
  looking_done over = heard_rests l.before l.more (searching_done l.search over) opened

  module _ (inside : at < end) {t : Bool} (stops : t ≡ Entries.ends (entry_there f at).operation) where
    -- the way out at the end entry
    pub looking_end : t ≡ true → SlotHeard passed f round count slot (n + 1) bus heard (moved lists n next) stores stored known
    looking_end stop = heard_rests l.before l.more (searching_end l.search inside stops stop) opened

    module _ (goes : t ≡ false) where
      -- past an entry that waits
      pub looking_wait : {v : Bool} → v ≡ ltb slot (entry_there f at).start → v ≡ true → {next' : ℕ} → next' ≡ next
          → Looking passed f round count slot n bus heard lists stores stored known (at + 4) next' end
      looking_wait waits yes' is =
          record { search = rw is (searching_wait l.search inside stops goes waits yes'); before = l.before; more = l.more; last = l.last }

      module _ (start : (entry_there f at).start ≤ slot) {u : Bool} (able : u ≡ eligible passed (entry_there f at) slot) where
        -- past one that is over
        pub looking_over : u ≡ false → {next' : ℕ} → next' ≡ next_past next at → Looking passed f round count slot n bus heard lists stores stored known (at + 4) next' end
        looking_over no' is =
            record { search = rw is (searching_over l.search inside stops goes start able no'); before = l.before; more = l.more; last = l.last }

        -- where the next search begins then
        pub after-low : {next' : ℕ} → next' ≡ next_after (entry_there f at) next at slot → next' < 2 ^ 32
        after-low {next'} is =
            let o : OpenAt passed (decode f) round (slot + 1) n next' end =
            rw is (open_after slot l.search.becomes l.search.later inside (sym stops ∙ goes) start)
            in
            let within = open_within o l.search.becomes in
            omega (arith, within.rising, within.within, length_limit l.search.becomes)

        -- what the acting entry makes the slave do
        pub looking_act : u ≡ true → {act : SlotAct} → SlotActIs (decode f) n slot (acts (entry_there f at)) act → RoundActIs passed (decode f) round slot n act
        looking_act yes' does =
            round_act passed (decode f) round slot n (acts (entry_there f at)) (searching_here l.search inside stops goes able yes') does

        -- what `put_store` asks
        pub looking_stores : u ≡ true → {act : SlotAct} → SlotActIs (decode f) n slot (acts (entry_there f at)) act → (stored < slaves_room) × StoresLow act
        looking_stores yes' does =
            let h = l.search.becomes in (
              omega (arith, l.before.hearing.aimed.few, l.search.slave, h.legal.count),
              record
                  { low = λ place is. omega (arith, act_within h (looking_act yes' does) place is, length_limit h) },
            )

        -- the way out at the acting entry
        pub looking_acts : u ≡ true → {act : SlotAct} {bus' stored' next' : ℕ} {heard' : Bool} {stores' : List ℕ} {known' : List KeptFile}
            → ActedAt f n at slot act known' → bus' ≡ joined bus (act_sends act)
            → heard' ≡ either heard (is_sender act) → (stores', stored') ≡ put_store stores stored act → next' ≡ next_after (entry_there f at) next at slot
            → SlotHeard passed f round count slot (n + 1) bus' heard' (moved lists n next') stores' stored' known'
        looking_acts yes' acted byte any put after =
            heard-acts l.before l.more (looking_act yes' acted.does) byte any put
            (rw (after, ← l.last) (open_after slot l.search.becomes l.search.later inside (sym stops ∙ goes) start)) acted.kept

-- ---- the loop over the slots

-- f₀ is the file at the start, old the buffer with the firework stored
pub record Running (passed : Entry → Bool) (f₀ : List ℕ) (round firework count : ℕ) (lists : List OpenEntries) (stores : List ℕ) (known : List KeptFile) (old : List ℕ) (slot mask : ℕ) (buffer file : List ℕ) : Type 0 where
  pub filled : Filled (sent_during passed round (decode f₀)) firework old slot buffer
  pub counted : mask ≡ mask_below_lem (sent_during passed round (decode f₀)) slot
  pub after : Becomes file (cluster_below passed round (decode f₀) slot)
  pub ready : Ready passed file round count slot 0 lists known
  pub size : length file ≡ length f₀
  pub room : length stores ≡ slaves_room

start-mask : (r : Senders) → anyone (r 0) ≡ 0 → 0 ≡ mask_below_lem r 1
unfolding mask_below_lem
start-mask r none = rw none

start-after : (passed : Entry → Bool) {f : List ℕ} (round : ℕ) (c : Cluster) → Becomes f c → Becomes f (cluster_below passed round c 1)
unfolding cluster_below received_in sent_in
start-after passed round c h = h

-- no file is kept yet
abbrev none_known : List KeptFile
none_known = replicate slaves_room (record { place = 0; size = 0; number = record { 0 = 255 } })

no_number : (s m : ℕ) → s < m → (get_or (replicate {A = KeptFile} m (record { place = 0; size = 0; number = record { 0 = 255 } })) s no_file).number.0 ≡ 255
no_number zero (suc m) l = refl
no_number (suc s) (suc m) l = no_number s m (omega arith)
no_number s zero l = absurd (omega arith)

kept-none : {f : List ℕ} → AcceptedFile f → FilesKept f none_known
kept-none h =
    record { room = refl; file = λ s l m. absurd (omega (arith, no_number s slaves_room (omega (arith, h.legal.count)))) }

pub running-start : {passed : Entry → Bool} {f : List ℕ} {round count : ℕ} {lists : List OpenEntries} {stores : List ℕ} (firework : ℕ) (old : List ℕ) → Becomes f (decode f)
    → round < 0x10 → count ≡ length (decode f).slaves
    → RoundFilesAre (decode f) round lists → slots ≤ length old → length stores ≡ slaves_room
    → Running passed f round firework count lists stores none_known (set old 0 firework) 1 0 (set old 0 firework) f
unfolding sent_during sent_in anyone
running-start {passed} {f} {round} firework old h low all files long room =
    record {
      filled = filled-start (sent_during passed round (decode f)) firework old long;
      counted = start-mask (sent_during passed round (decode f)) refl;
      after = start-after passed round (decode f) h;
      ready = record { becomes = h; low = low; all = all; files = open_start 1 files; kept = kept-none h };
      size = refl;
      room = room;
    }

slot_sent : (passed : Entry → Bool) (round slot : ℕ) (c : Cluster) → 1 ≤ slot → sent_in passed round slot c ≡ sent_by passed round slot c.slaves
unfolding sent_in
slot_sent passed round zero c l = absurd (omega arith)
slot_sent passed round (suc n) c l = refl

received_silent : (passed : Entry → Bool) (round slot : ℕ) (c : Cluster) (sent : List ℕ) → sent ≡ [] → received_in passed round slot c sent ≡ c
unfolding received_in
received_silent passed round slot c sent e = rw e

received-heard :
    (passed : Entry → Bool) (round slot : ℕ) (c : Cluster) (sent : List ℕ) → someone sent ≡ true →
    received_in passed round slot c sent ≡ received_by passed c round slot (bus_byte sent) (length c.slaves)
unfolding received_in someone
received-heard passed round slot c [] e = absurd (mathlib.Core.Bool.true≢false (sym e))
received-heard passed round slot c (b ∷ bs) e = sym (received-all passed c round slot (bus_byte (b ∷ bs)))

below_next :
    (passed : Entry → Bool) (round : ℕ) (c : Cluster) (slot : ℕ) →
    cluster_below passed round c (slot + 1) ≡ received_in passed round slot (cluster_below passed round c slot) (sent_during passed round c slot)
unfolding cluster_below sent_during
below_next passed round c slot = rw add-one

module _ {passed : Entry → Bool} {f₀ : List ℕ} {round firework count : ℕ} {lists : List OpenEntries} {stores₀ : List ℕ} {known₀ : List KeptFile} {old : List ℕ} {slot mask : ℕ} {buffer file : List ℕ}
    (h : Running passed f₀ round firework count lists stores₀ known₀ old slot mask buffer file) where
  pub mask-small : mask < 2 ^ slot
  mask-small = rw h.counted (mask_below (sent_during passed round (decode f₀)) slot)

  pub slot_fits : slot < slots → slot < length buffer
  slot_fits more = omega (arith, filled-length h.filled, h.filled.long)

  -- what is sent in the slot, by the file as it is now
  now_sent : sent_during passed round (decode f₀) slot ≡ sent_by passed round slot (decode file).slaves
  unfolding sent_during
  now_sent =
      rw (← h.after.decoded) (slot_sent passed round slot (decode file) h.filled.some)

  next-cluster : cluster_below passed round (decode f₀) (slot + 1) ≡ received_in passed round slot (decode file) (sent_by passed round slot (decode file).slaves)
  next-cluster = below_next passed round (decode f₀) slot ∙ rw (← h.after.decoded, now_sent)

  module _ {n bus stored : ℕ} {heard : Bool} {stores : List ℕ} {after : List OpenEntries} {known : List KeptFile} (more : slot < slots)
      (heard_all : SlotHeard passed file round count slot n bus heard after stores stored known) (over : count ≤ n) where
    q : SlotHearing passed file round slot n bus heard stores stored
    q = heard_all.hearing

    left : length (decode file).slaves ≤ n
    left = omega (arith, heard_all.ready.all)

    next-filled : Filled (sent_during passed round (decode f₀)) firework old (slot + 1) (set buffer slot bus)
    next-filled = filled_next h.filled more (heard-byte q left ∙ ap bus_byte (sym now_sent))

    -- nobody sent
    pub running_silent : {mask' : ℕ} {file' : List ℕ} → heard ≡ false → mask' ≡ mask → file' ≡ file
        → Running passed f₀ round firework count after stores known old (slot + 1) mask' (set buffer slot bus) file'
    unfolding anyone
    running_silent {mask'} {file'} silent masked stays =
        let none : sent_by passed round slot (decode file).slaves ≡ [] = someone_no (sent_by passed round slot (decode file).slaves) (sym (heard_any q left) ∙ silent) in
        let quiet : anyone (sent_during passed round (decode f₀) slot) ≡ 0 = rw (now_sent, none) in
        let same : cluster_below passed round (decode f₀) (slot + 1) ≡ decode file =
        next-cluster ∙ received_silent passed round slot (decode file) (sent_by passed round slot (decode file).slaves) none in
        record {
          filled = next-filled;
          counted = rw masked (mask_silent (sent_during passed round (decode f₀)) slot h.counted quiet);
          after = rw (stays, same) h.ready.becomes;
          ready = rw stays (ready_same heard_all.ready over);
          size = rw stays h.size;
          room = q.aimed.room;
        }

    -- someone sent, and the receivers stored
    pub running-heard : {mask' : ℕ} {file' : List ℕ} → heard ≡ true → mask' ≡ 2 ^ slot + mask → file' ≡ stored_at file (take stored stores) bus (length (take stored stores))
        → Running passed f₀ round firework count after stores known old (slot + 1) mask' (set buffer slot bus) file'
    running-heard {mask'} {file'} some masked puts =
        let stored' : file' ≡ stored_at file stores bus stored = puts ∙ stored-first file stores bus stored (stores_room heard_all over) in
        let all : List ℕ = sent_by passed round slot (decode file).slaves in
        let loud : someone all ≡ true = sym (heard_any q left) ∙ some in
        let one : anyone (sent_during passed round (decode f₀) slot) ≡ 1 = rw now_sent (someone_yes all loud) in
        let after : Becomes (stored_by file (aim passed (decode file) round slot) (bus_byte all) (length (decode file).slaves))
        (received_by passed (decode file) round slot (bus_byte all) (length (decode file).slaves)) =
        stored-becomes passed (decode file) round slot (bus_byte all) (bus_byte-byte all) h.ready.becomes (length (decode file).slaves) (omega arith)
        in
        let holds : Becomes file' (received_in passed round slot (decode file) all) =
        rw (stored', heard-byte q left, heard-stored q left (bus_byte all), received-heard passed round slot (decode file) all loud) after
        in
        record {
          filled = next-filled;
          counted = rw masked (mask_next (sent_during passed round (decode f₀)) slot h.counted one);
          after = rw next-cluster holds;
          ready = ready_next heard_all.ready over all holds;
          size = ap length stored' ∙ stored-length file stores bus stored ∙ h.size;
          room = q.aimed.room;
        }

pub running-done : {passed : Entry → Bool} {f₀ : List ℕ} {round firework count : ℕ} {lists : List OpenEntries} {stores : List ℕ} {known : List KeptFile} (old : List ℕ) {slot mask : ℕ} {buffer file : List ℕ}
    → Running passed f₀ round firework count lists stores known (set old 0 firework) slot mask buffer file → slots ≤ slot
    → Carried (slots_effect passed (decode f₀) round) firework old buffer mask file
unfolding slots_effect sender_mask
running-done old {slot} h left =
    let last : slot ≡ 64 = omega (arith, h.filled.most) in
    record {
      senders = rw last at h.counted;
      buffer = filled-done old h.filled left;
      becomes = rw last at h.after;
    }

pub carried_accepted : {effect : Effect} {firework : ℕ} {old new : List ℕ} {mask : ℕ} {g : List ℕ} → Carried effect firework old new mask g → AcceptedFile g
carried_accepted k = becomes-decoded k.becomes

-- the whole round, from the file whose epoch is raised to the one whose slaves are all awake
pub raised_carries : (c : Cluster) {f : List ℕ} (round : ℕ) {epoch firework : ℕ} {old new : List ℕ} {mask : ℕ} {g file : List ℕ} → Becomes f (epoch_raised c) → epoch ≡ (decode f).epoch
    → Carried (slots_effect (out_of_turn epoch) (decode f) round) firework old new mask g → Becomes file (rested nothing (decode g))
    → Carried (multipartner_effect c round) firework old new mask file
unfolding slots_effect passed_over_lem
raised_carries c {f} round {epoch} {firework} {old} {new} {mask} {g} h is carried awake =
    let there : Carried (slots_effect (passed_over_lem c) (epoch_raised c) round) firework old new mask g = rw (is, h.decoded) at carried in
    record { senders = there.senders; buffer = there.buffer; becomes = rw there.becomes.decoded at awake }
