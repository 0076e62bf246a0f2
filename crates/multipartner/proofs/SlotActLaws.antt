-- What a slave does in a slot: one law for each way through the functions that find it.
-- Assumes nothing.
use Prim.Native.Nat.{ℕ, ◌+◌, ◌/◌, ◌%◌, ◌^◌, ◌≤◌, ◌<◌}
use native.Mathlib.Omega.{arith}
use mathlib.Core.Path.{◌≡◌, refl, sym, ap, ◌∙◌}
use mathlib.Core.List.{List}
use mathlib.Core.Bool.{Bool, true, false, not}
use lib.ListN.{length, get_or, set, length-set}
use lib.Seq.{get_or-set_same, get_or-set_other}
use lib.Dec.{ltb, eqb}
use borrow.Author.Tests.{lt-ltb, le-ltb, ltb-true, eqb-true, eqb-false, not-true, not-false}
use Rattle.file.specs.Rules.Order.{both, either}
use Rattle.file.specs.Rules.Bytes.{All, all_empty, all_next}
use Rattle.file.specs.Rules.Cluster.{File, Cluster, bytes_among, bytes_in}
use Rattle.file.specs.Rules.Legal.{LegalFile}
use Rattle.file.specs.Rules.Decode.{decode}
use Rattle.file.specs.Inner.Places.{slaves_room, slave_of, file_place, SameShape}
use Rattle.file.specs.Inner.Accepted.{AcceptedFile, slave_count, FoundFile, file_found, find_file}
use Rattle.file.specs.Inner.FileAnswers.{found_file}
use mir.Val.{Fits}
use mir.Syntax.{w16, w32}
use Rattle.file.specs.declared.types.FileNumber.{FileNumber}
use Rattle.file.specs.declared.records.FileBytes.{FileBytes}
use Rattle.file.proofs.Order.{by_case, both_right, both_true, both_false_left, both_false_right}
use Rattle.file.proofs.Shape.{shape_count, shape_bytes-length}
use Rattle.file.proofs.AtWidth.{shape_file_place}
use Rattle.file.proofs.ReaderLaws.{slave-legal, byte-there, place-within, length_limit}
use Rattle.master_slave.specs.Rules.Bus.{slots}
use Rattle.multipartner.specs.Rules.Entries.{Entry, entry_of, entry_there, acts, byte_place, receives, sends}
use Rattle.multipartner.specs.Rules.Multipartner.{within, may_store, send_place, store_place, byte_there}
use Rattle.multipartner.specs.Inner.EntryForm.{file_numbers, entry_from, evaluated, Reaches, code_of, action_by, action_from, Action, ending, sending, receiving, resting}
use Rattle.multipartner.specs.Inner.Slots.{no_file, FileIs, FilesKept, KeptFor, place_in, act_sends, act_stores, SlotActIs, EntryActIs, ActedAt}
use Rattle.multipartner.specs.declared.entry.Entry as Code
use Rattle.multipartner.specs.declared.entry.EntryAction.{EntryAction}
use Rattle.multipartner.specs.declared.entry.EntryAction.TheVariants as Action
use Rattle.multipartner.specs.declared.kept_files.KeptFile.{KeptFile}
use Rattle.multipartner.specs.declared.slot_act.SlotAct.{SlotAct}
use Rattle.multipartner.specs.declared.slot_act.SlotAct.TheVariants as Acts
use Rattle.multipartner.proofs.EntryLaws.{Does, does, is_sending, is_receiving}
use Rattle.std.specs.Prelude.{Option, Some, None}
use Rattle.std.specs.Prelude.{Option, Some, None}

-- ---- a file that was found, or not

pub record Found (c : Cluster) (s n place size : ℕ) : Type 0 where
  pub lies : place ≡ file_place c s n
  pub has : size ≡ length (bytes_in (slave_of c s) n)
  pub some : 0 < size

positive : {m : ℕ} → (m ≡ 0 → ⊥) → 0 < m
positive {m} other = omega arith

module _ (c : Cluster) (s n : ℕ) where
  pub missing_empty : FoundFile.no_file_lem ≡ find_file c s n → length (bytes_in (slave_of c s) n) ≡ 0
  unfolding find_file
  missing_empty h =
      by_case (eqb (length (bytes_in (slave_of c s) n)) 0)
      (λ t. eqb-true (length (bytes_in (slave_of c s) n)) 0 t)
      (λ t. absurd (other (rw t at h)))
    where
      other : {a b : ℕ} → FoundFile.no_file_lem ≡ file_found a b → ⊥
      other q = let z : ◌≡◌ {A = ℕ} 0 1 = cc in omega arith

  pub found_facts : {place size : ℕ} → file_found place size ≡ find_file c s n → Found c s n place size
  unfolding find_file
  found_facts {place} {size} h =
      by_case (eqb (length (bytes_in (slave_of c s) n)) 0)
      (λ t. absurd (other (rw t at h)))
      (λ t. same (positive (eqb-false (length (bytes_in (slave_of c s) n)) 0 t)) (rw t at h))
    where
      other : file_found place size ≡ FoundFile.no_file_lem → ⊥
      other q = let z : ◌≡◌ {A = ℕ} 0 1 = cc in omega arith

      same : 0 < length (bytes_in (slave_of c s) n) → file_found place size ≡ file_found (file_place c s n) (length (bytes_in (slave_of c s) n)) → Found c s n place size
      same some q =
          let long : size ≡ length (bytes_in (slave_of c s) n) = cc in
          record { lies = cc; has = long; some = rw long some }

-- ---- the file that an entry names, and those that are kept

module _ {f : List ℕ} {s n : ℕ} {r : Option FileBytes} (is : found_file r ≡ find_file (decode f) s n) where
  pub file-none : r ≡ None → FileIs f s n 0 0
  unfolding found_file
  file-none q = record { has = sym (missing_empty (decode f) s n (rw q at is)); lies = λ l. absurd (omega arith); inside = omega arith }

  pub file-there : {b : FileBytes} → r ≡ Some b → AcceptedFile f → FileIs f s n b.place b.size
  unfolding found_file
  file-there {b} q h =
      let fact = found_facts (decode f) s n (rw q at is) in
      record {
        has = fact.has;
        lies = λ l. fact.lies;
        inside = omega (arith, fact.lies, fact.has, place-within h s n (omega (arith, fact.has, fact.some)));
      }

-- no file has more than 256 records
among_short : {xs : List File} (n : ℕ) → All LegalFile xs → length (bytes_among xs n) ≤ 1024
unfolding bytes_among
among_short n all_empty = omega arith
among_short n (all_next {a = x} p r) = by_case (eqb x.number n) (λ e. rw e (omega (arith, p.most, p.whole))) (λ e. rw e (among_short n r))

file_short : {f : List ℕ} (s n : ℕ) → AcceptedFile f → s < slave_count f → length (bytes_in (slave_of (decode f) s) n) ≤ 1024
unfolding bytes_in
file_short s n h there = among_short n (slave-legal h s there).files

module _ {f : List ℕ} {s n place size : ℕ} (h : AcceptedFile f) (is : FileIs f s n place size) where
  pub place-low : Fits w32 place
  place-low = omega (arith, is.inside, length_limit h)

  pub size_low : s < slave_count f → Fits w16 size
  size_low there = omega (arith, is.has, file_short s n h there)

pub accepted-low : {f : List ℕ} → AcceptedFile f → length f < 2 ^ 32
accepted-low h = omega (arith, length_limit h)

module _ {f : List ℕ} {s : ℕ} {known : List KeptFile} (there : s < slave_count f) (k : FilesKept f known) where
  pub keep_same : {n : ℕ} → n < file_numbers → {t : Bool} → t ≡ eqb (get_or known s no_file).number.0 n → t ≡ true → KeptFor f s n known
  keep_same {n} few tests yes' =
      let is : (get_or known s no_file).number.0 ≡ n = eqb-true _ n (sym tests ∙ yes') in
      record { kept = k; named = rw is at (k.file s there (rw is few)) }

  pub keep_new : (number : FileNumber) {place size : ℕ} → AcceptedFile f → FileIs f s number.0 place size
      → KeptFor f s number.0 (set known s (record { place = place; size = size; number = number }))
  keep_new number {place} {size} h is =
      let new : KeptFile = record { place = place; size = size; number = number } in
      let few : s < slaves_room = omega (arith, h.legal.count) in
      let put : get_or (set known s new) s no_file ≡ new = get_or-set_same known s new no_file (omega (arith, k.room)) in
      record {
        kept =
            record {
              room = length-set known s new ∙ k.room;
              file = λ t l. by_case (eqb t s)
                  (λ e. let same : t ≡ s = eqb-true t s e in rw (same, put) (λ m. is))
                  (λ e. let other = eqb-false t s e in rw (get_or-set_other known s t new no_file other) (k.file t l));
            };
        named = rw put is;
      }

-- a round moves no file and resizes none
pub kept_stay : {f g : List ℕ} {known : List KeptFile} → (decode g).edition ≡ (decode f).edition → SameShape (decode f).slaves (decode g).slaves → length g ≡ length f
    → FilesKept f known → FilesKept g known
kept_stay {f} {g} edition same long k =
    record {
      room = k.room;
      file = λ s l m.
          let is = k.file s (omega (arith, shape_count same)) m in
          record {
            has = is.has ∙ shape_bytes-length (decode f) (decode g) same s _;
            lies = λ some. is.lies some ∙ shape_file_place (decode f) (decode g) (sym edition) same s _;
            inside = omega (arith, is.inside);
          };
    }

-- ---- where a receive may store

-- ---- what an entry makes a slave do

-- an entry neither of whose tests holds
entry_rests : {f : List ℕ} (e : Entry) {slot place size : ℕ} → both (sends e.operation) (ltb (byte_place e slot) size) ≡ false
    → both (receives e.operation) (both (may_store e slot) (ltb (byte_place e slot) size)) ≡ false → EntryActIs f e slot place size Acts.Rests
unfolding act_sends act_stores
entry_rests e p q = record { sends = rw p; stores = rw q }

resting_act : {f : List ℕ} {slot place size : ℕ} (e : Code.Entry) {u : Action} → is_sending u ≡ false → is_receiving u ≡ false → Does e u → EntryActIs f (entry_from e) slot place size Acts.Rests
resting_act e silent deaf d = entry_rests (entry_from e) (both_false_left _ (d.send ∙ silent)) (both_false_left _ (d.receive ∙ deaf))

receiver : (e : Code.Entry) {a : EntryAction} → action_from a ≡ action_by (code_of e.operation) → a ≡ Action.Receives → Does e receiving
unfolding action_from
receiver e is q = does e receiving is (ap action_from q)

sender : (e : Code.Entry) {a : EntryAction} → action_from a ≡ action_by (code_of e.operation) → a ≡ Action.Sends → Does e sending
unfolding action_from
sender e is q = does e sending is (ap action_from q)

-- whether its byte lies within the file
module _ {size k : ℕ} (slot : ℕ) (e : Entry) (at : k ≡ byte_place e slot) where
  outside : size ≤ k → ltb (byte_place e slot) size ≡ false
  outside past = le-ltb (byte_place e slot) size (omega (arith, at))

  inside : k < size → ltb (byte_place e slot) size ≡ true
  inside low = lt-ltb (byte_place e slot) size (omega (arith, at))

module _ (f : List ℕ) (slot : ℕ) {place size : ℕ} (e : Code.Entry) {a : EntryAction} (is : action_from a ≡ action_by (code_of e.operation)) where
  pub end_act : a ≡ Action.Ends → EntryActIs f (entry_from e) slot place size Acts.Rests
  unfolding action_from is_sending is_receiving
  end_act q = resting_act e refl refl (does e ending is (ap action_from q))

  pub rest_act : a ≡ Action.Rests → EntryActIs f (entry_from e) slot place size Acts.Rests
  unfolding action_from is_sending is_receiving
  rest_act q = resting_act e refl refl (does e resting is (ap action_from q))

  module _ {k : ℕ} (at : k ≡ byte_place (entry_from e) slot) where
    pub receive_outside : a ≡ Action.Receives → size ≤ k → EntryActIs f (entry_from e) slot place size Acts.Rests
    unfolding is_sending
    receive_outside q past =
        entry_rests (entry_from e) (both_false_left _ (receiver e is q).send) (both_false_right _ (both_false_right _ (outside slot (entry_from e) at past)))

    pub receive_barred : a ≡ Action.Receives → {t : Bool} → t ≡ may_store (entry_from e) slot → not t ≡ true → EntryActIs f (entry_from e) slot place size Acts.Rests
    unfolding is_sending
    receive_barred q may barred =
        entry_rests (entry_from e) (both_false_left _ (receiver e is q).send) (both_false_right _ (both_false_left _ (sym may ∙ not-true _ barred)))

    pub receive_stores : a ≡ Action.Receives → {t : Bool} → t ≡ may_store (entry_from e) slot → not t ≡ false → k < size → EntryActIs f (entry_from e) slot place size (Acts.Stores (place + k))
    unfolding is_sending is_receiving act_sends act_stores
    receive_stores q may allowed low =
        record {
          sends = rw (both_false_left (ltb (byte_place (entry_from e) slot) size) (receiver e is q).send);
          stores = rw (both_true (receiver e is q).receive (both_true (sym may ∙ not-false _ allowed) (inside slot (entry_from e) at low)), at);
        }

    pub send_outside : a ≡ Action.Sends → size ≤ k → EntryActIs f (entry_from e) slot place size Acts.Rests
    unfolding is_receiving
    send_outside q past = entry_rests (entry_from e) (both_false_right _ (outside slot (entry_from e) at past)) (both_false_left _ (sender e is q).receive)

    pub send-byte : a ≡ Action.Sends → k < size → EntryActIs f (entry_from e) slot place size (Acts.Sends (get_or f (place + k) 0))
    unfolding is_sending is_receiving act_sends act_stores
    send-byte q low =
        record {
          sends = rw (both_true (sender e is q).send (inside slot (entry_from e) at low), at);
          stores = rw (both_false_left (both (may_store (entry_from e) slot) (ltb (byte_place (entry_from e) slot) size)) (sender e is q).receive);
        }

-- what the entry makes its slave do, where its file lies there
module _ {f : List ℕ} {s place size : ℕ} (slot : ℕ) (h : AcceptedFile f) (e : Entry) (is : FileIs f s e.file place size) where
  within-size : within (slave_of (decode f) s) e slot ≡ ltb (byte_place e slot) size
  unfolding within
  within-size = rw is.has

  byte-lies : ltb (byte_place e slot) size ≡ true → place ≡ file_place (decode f) s e.file
  byte-lies t = is.lies (omega (arith, ltb-true (byte_place e slot) size t))

  byte-read : ltb (byte_place e slot) size ≡ true → get_or f (place + byte_place e slot) 0 ≡ get_or (bytes_in (slave_of (decode f) s) e.file) (byte_place e slot) 0
  byte-read t =
      rw (byte-lies t) (byte-there h s e.file (byte_place e slot) (omega (arith, ltb-true (byte_place e slot) size t, is.has)))

  pub entry-acts : {act : SlotAct} → EntryActIs f e slot place size act → SlotActIs (decode f) s slot (acts e) act
  unfolding send_place store_place byte_there place_in
  entry-acts act =
      record {
        sends = by_case (both (sends e.operation) (ltb (byte_place e slot) size))
            (λ t. act.sends ∙ rw (within-size, t, byte-read (both_right _ _ t)))
            (λ t. act.sends ∙ rw (within-size, t));
        stores = by_case (both (receives e.operation) (both (may_store e slot) (ltb (byte_place e slot) size)))
            (λ t. act.stores ∙ rw (within-size, t, byte-lies (both_right _ _ (both_right _ _ t))))
            (λ t. act.stores ∙ rw (within-size, t));
      }

-- the multiplex field plays no part
pub act_evaluated : {c : Cluster} {s slot : ℕ} {e x : Entry} {t : SlotAct} → e ≡ evaluated x → SlotActIs c s slot (acts e) t → SlotActIs c s slot (acts x) t
unfolding evaluated send_place store_place within may_store byte_place
act_evaluated is act =
    let moved = rw is at act in
    record { sends = moved.sends; stores = moved.stores }

-- ---- the entry at a place

module _ (f : List ℕ) (at : ℕ) (e : Code.Entry) (is : entry_from e ≡ evaluated (entry_there f at)) where
  pub entry_reaches : {slot : ℕ} → (entry_there f at).start ≤ slot → slot < slots → Reaches e slot
  unfolding entry_from evaluated entry_there entry_of
  entry_reaches begun few =
      let align : e.address.align ≡ get_or f at 0 % 4 = ap (λ (x : Entry). x.align) is in
      let start : e.slot ≡ get_or f (at + 3) 0 % 64 = ap (λ (x : Entry). x.start) is in
      record { align = omega (arith, align); begun = omega (arith, begun); in_round = few }

  pub entry-file : get_or f at 0 < 256 → e.address.file.0 < file_numbers
  unfolding entry_from evaluated entry_there entry_of
  entry-file byte =
      let file : e.address.file.0 ≡ get_or f at 0 / 4 = ap (λ (x : Entry). x.file) is in
      omega (arith, file)

  pub entry_acted : {s : ℕ} (slot : ℕ) {act : SlotAct} {known : List KeptFile} → AcceptedFile f → KeptFor f s e.address.file.0 known
      → EntryActIs f (entry_from e) slot (get_or known s no_file).place (get_or known s no_file).size act → ActedAt f s at slot act known
  entry_acted {s} slot {known = known} h k act =
      let named : FileIs f s (entry_from e).file (get_or known s no_file).place (get_or known s no_file).size = unfold entry_from in k.named in
      record { does = act_evaluated is (entry-acts slot h (entry_from e) named act); kept = k.kept }

-- ---- nobody else heard

pub either-none : (b : Bool) → either b false ≡ b
unfolding either
either-none true = refl
either-none false = refl
