-- What the functions of a multipartner round promise to one another, in the terms of Multipartner.antt.
use Rattle.std.specs.Prelude.{ℕ, zero, suc, ◌+◌, ◌*◌, ◌-◌, ◌%◌, ◌^◌, ◌≤◌, ◌<◌, ◌≡◌, List, [], ◌∷◌, Bool, true, false, cond, length, get_or, set, eqb, ltb}
use Rattle.file.specs.Rules.Order.{both}
use Rattle.file.specs.Rules.Layout.{record_size}
use Rattle.file.specs.Rules.Cluster.{Slave, Cluster, is_awake, bytes_in, last_record}
use Rattle.file.specs.Rules.Decode.{decode}
use Rattle.file.specs.Inner.Places.{slaves_room, slave_of, file_place}
use Rattle.file.specs.Inner.Accepted.{slave_count}
use Rattle.master_slave.specs.Rules.Bus.{slots}
use Rattle.master_slave.specs.Rules.Slaves.{is_unnamed, epoch_raised, nothing, rested}
use Rattle.master_slave.specs.Rules.Effect.{Effect}
use Rattle.multipartner.specs.Rules.Entries.{Entry, entry_there, Acting, acts, byte_place, sends, receives}
use Rattle.multipartner.specs.Rules.Multipartner.{SlaveByte, nowhere, byte_of, may_store, send_place, store_place, byte_there, cluster_below, sent_during}
use Rattle.multipartner.specs.Rules.Multipartner.{passed_over_lem}
use Rattle.multipartner.specs.Inner.EntryForm.{file_numbers}
use Rattle.multipartner.specs.declared.kept_files.KeptFile.{KeptFile}
use Rattle.multipartner.specs.declared.round_files.OpenEntries.{OpenEntries}
use Rattle.multipartner.specs.declared.slot_act.SlotAct.{SlotAct}
use Rattle.multipartner.specs.declared.slot_act.SlotAct.TheVariants.{Sends, Stores, Rests}

-- a multipartner round whose epoch is raised already, by the entries that are passed over
unfoldable pub slots_effect : (Entry → Bool) → Cluster → ℕ → Effect
slots_effect passed c round = record { senders = sent_during passed round c; after = cluster_below passed round c slots }

-- what an accepted multipartner frame does
abbrev pub multipartner_effect : Cluster → ℕ → Effect
multipartner_effect c round =
    record { senders = sent_during (passed_over_lem c) round (epoch_raised c); after = rested nothing (cluster_below (passed_over_lem c) round (epoch_raised c) slots) }

-- ---- each slave's round file: "Round r runs file r of each slave not unnamed; others take no part."; "A sleeping slave takes no part in
-- rounds" (document 02, job 9)

-- the entries that are planned for a slave, and those that it runs
unfoldable pub planned_entries : ℕ → Slave → ℕ
planned_entries round s = cond (is_unnamed s) 0 (last_record (bytes_in s round))

unfoldable pub entries_in : ℕ → Slave → ℕ
entries_in round s = cond (is_awake s) (planned_entries round s) 0

-- what an index past the end is given
abbrev pub no_entries : OpenEntries
no_entries = record { start = 0; end = 0 }

abbrev pub no_file : KeptFile
no_file = record { place = 0; size = 0; number = record { 0 = 0 } }

-- where so many entries of the slave at index s begin and where they end: after record 0x00, both 0 where there are none
pub record EntriesLie (c : Cluster) (round s many start end : ℕ) : Type 0 where
  pub begins : start ≡ cond (eqb many 0) 0 (file_place c s round + record_size)
  pub span : end ≡ start + record_size * many

abbrev pub PlannedFileIs : Cluster → ℕ → ℕ → ℕ → ℕ → Type 0
PlannedFileIs c round s start end = EntriesLie c round s (planned_entries round (slave_of c s)) start end

abbrev pub RoundFileIs : Cluster → ℕ → ℕ → ℕ → ℕ → Type 0
RoundFileIs c round s start end = EntriesLie c round s (entries_in round (slave_of c s)) start end

-- the same of every slave, in front of whatever else the array holds
pub record RoundFilesAre (c : Cluster) (round : ℕ) (lists : List OpenEntries) : Type 0 where
  pub room : length lists ≡ slaves_room
  pub file : (s : ℕ) → s < length c.slaves → RoundFileIs c round s (get_or lists s no_entries).start (get_or lists s no_entries).end

-- from start to end the file has whole entries
pub record EntriesWithin (f : List ℕ) (start end : ℕ) : Type 0 where
  pub rising : start ≤ end
  pub whole : (end - start) % record_size ≡ 0
  pub within : end ≤ length f

-- ---- where the search of the next slot begins

-- with the entry at a place over, and after a slot in which it acts
unfoldable pub next_past : ℕ → ℕ → ℕ
next_past next at = cond (eqb next at) (at + record_size) next

unfoldable pub next_after : Entry → ℕ → ℕ → ℕ → ℕ
next_after e next at slot = cond (eqb (slot - e.start + 1) e.length) (next_past next at) next

-- ---- the file that an entry names

-- where file n of the slave at index s lies, and how many bytes it has: none where it is not there
pub record FileIs (f : List ℕ) (s n place size : ℕ) : Type 0 where
  pub has : size ≡ length (bytes_in (slave_of (decode f) s) n)
  pub lies : 0 < size → place ≡ file_place (decode f) s n
  pub inside : place + size ≤ length f

-- that of one file of each slave, by its number; there may be slaves of which none is known
pub record FilesKept (f : List ℕ) (known : List KeptFile) : Type 0 where
  pub room : length known ≡ slaves_room
  pub file : (s : ℕ) → s < slave_count f → (get_or known s no_file).number.0 < file_numbers → FileIs f s (get_or known s no_file).number.0 (get_or known s no_file).place (get_or known s no_file).size

-- with file n of the slave at index s among them
pub record KeptFor (f : List ℕ) (s n : ℕ) (known : List KeptFile) : Type 0 where
  pub kept : FilesKept f known
  pub named : FileIs f s n (get_or known s no_file).place (get_or known s no_file).size

-- ---- what a slave does in a slot

-- where in the file a place of the slave at index s lies
unfoldable pub place_in : Cluster → ℕ → SlaveByte → List ℕ
place_in c s nowhere = []
place_in c s (byte_of n k) = (file_place c s n + k) ∷ []

-- the bytes that an act puts on the bus, where it stores the slot's byte, and whether it sends
unfoldable pub act_sends : SlotAct → List ℕ
act_sends (Sends b) = b ∷ []
act_sends (Stores place) = []
act_sends Rests = []

unfoldable pub act_stores : SlotAct → List ℕ
act_stores (Sends b) = []
act_stores (Stores place) = place ∷ []
act_stores Rests = []

unfoldable pub is_sender : SlotAct → Bool
is_sender (Sends b) = true
is_sender (Stores place) = false
is_sender Rests = false

-- the act of the slave at index s, by the entry that acts
pub record SlotActIs (c : Cluster) (s slot : ℕ) (acting : Acting) (act : SlotAct) : Type 0 where
  pub sends : act_sends act ≡ byte_there (slave_of c s) (send_place (slave_of c s) slot acting)
  pub stores : act_stores act ≡ place_in c s (store_place (slave_of c s) slot acting)

-- the act of an entry, by where its file lies and how many bytes that has
pub record EntryActIs (f : List ℕ) (e : Entry) (slot place size : ℕ) (act : SlotAct) : Type 0 where
  pub sends : act_sends act ≡ cond (both (sends e.operation) (ltb (byte_place e slot) size)) (get_or f (place + byte_place e slot) 0 ∷ []) []
  pub stores : act_stores act ≡ cond (both (receives e.operation) (both (may_store e slot) (ltb (byte_place e slot) size))) ((place + byte_place e slot) ∷ []) []

-- the act of the slave at index s by the entry at a place, with the files kept afterwards
pub record ActedAt (f : List ℕ) (s at slot : ℕ) (act : SlotAct) (known : List KeptFile) : Type 0 where
  pub does : SlotActIs (decode f) s slot (acts (entry_there f at)) act
  pub kept : FilesKept f known

-- where an act stores is no large number
pub record StoresLow (act : SlotAct) : Type 0 where
  pub low : (place : ℕ) → act ≡ Stores place → place < 2 ^ 32

-- the places of the n acts so far that store, with one act more
unfoldable pub put_store : List ℕ → ℕ → SlotAct → List ℕ × ℕ
put_store places n (Sends b) = (places, n)
put_store places n (Stores place) = (set places n place, n + 1)
put_store places n Rests = (places, n)

-- the file with a byte stored at the first n of the places
unfoldable pub stored_at : List ℕ → List ℕ → ℕ → ℕ → List ℕ
stored_at f places b zero = f
stored_at f places b (suc n) = set (stored_at f places b n) (get_or places n 0) b

-- every place lies in the file
pub record StoresWithin (f places : List ℕ) : Type 0 where
  pub within : (i : ℕ) → i < length places → get_or places i 0 < length f
  pub low : length f < 2 ^ 32
