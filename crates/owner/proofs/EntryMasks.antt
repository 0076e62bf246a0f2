-- What an entry adds to the plan of its slave.
-- Assumes nothing.
use Rattle.std.proofs.Common.{ℕ, ◌+◌, ◌-◌, ◌*◌, ◌/◌, ◌%◌, ◌^◌, ◌≤◌, ◌<◌, arith, ◌≡◌, refl, sym, ap, ◌∙◌, List, Bool, true, false, not, ◌||◌, length, get_or, eqb, leb, ltb, eq-eqb, ne_eqb, eqb-true, le-leb, leb-true, lt-ltb, le-ltb, ltb-true, ltb-false}
use lib.Bits.{bit_and, bit_or, bit_xor}
use borrow.Author.Tests.{eqb-false, lt-leb, not-true, not-false}
use Rattle.file.specs.Rules.Order.{both, either}
use Rattle.file.specs.Rules.Cluster.{Slave, Cluster, bytes_in}
use Rattle.file.specs.Inner.Numbers.{ByteAt}
use Rattle.file.specs.Inner.Places.{slave_of}
use Rattle.file.specs.Inner.Accepted.{find_file}
use Rattle.file.specs.Inner.FileAnswers.{found_file}
use Rattle.file.specs.declared.records.FileBytes.{FileBytes}
use Rattle.file.proofs.Order.{by_case, clash, both_left, both_right, both_true, both_false_left, both_false_right, both-next, both_unless, either_left, either-next}
use Rattle.master_slave.specs.Rules.Bus.{slots}
use Rattle.multipartner.specs.Rules.Entries.{Entry, entry_of, entry_there, is_multiplexed, covers, sends, ends, eligible, byte_place}
use Rattle.multipartner.specs.Rules.Multipartner.{within}
use Rattle.multipartner.proofs.EntryLaws.{sends_deaf, multiplexed_either}
use Rattle.multipartner.proofs.SlotActLaws.{found_facts, missing_empty}
use Rattle.owner.specs.Rules.Plan.{is_multiplexed_receive, is_multiplexed_send}
use Rattle.owner.specs.Inner.Masks.{is_set, Marks, between}
use Rattle.owner.specs.Inner.OwnerEntries.{kind_at, is_single, Kept, would_send, hidden_with, sends_with, EntryTaken}
use Rattle.owner.proofs.MaskLaws.{or_either, either_false, both-all, set-none, set_or, set_and, set_free, one_shifted, one_bit}
use Rattle.std.specs.Prelude.{Option, Some, None}

-- ---- an entry's byte tests

-- of one slot, neither multiplexed nor an end: with the halves of byte 2 exchanged one comparison tells
pub single_test : (kind : ℕ) → ltb (kind % 16 * 16 + kind / 16) 6 ≡ is_single kind
unfolding is_single
single_test kind =
    by_case (eqb (kind % 16) 0)
    (λ e. ap (λ (n : ℕ). ltb n 6) (low (eqb-true (kind % 16) 0 e)) ∙ (sym (both-all (ltb (kind / 16) 6)) ∙ ap (both (ltb (kind / 16) 6)) (sym e)))
    (λ e. le-ltb (kind % 16 * 16 + kind / 16) 6 (large (eqb-false (kind % 16) 0 e)) ∙ sym (both_false_right _ e))
  where
    low : kind % 16 ≡ 0 → kind % 16 * 16 + kind / 16 ≡ kind / 16
    low none = omega arith

    large : (kind % 16 ≡ 0 → ⊥) → 6 ≤ kind % 16 * 16 + kind / 16
    large some = omega arith

module _ {operation : ℕ} where
  pub end-first : operation ≡ 6 → true ≡ ends operation
  unfolding ends either
  end-first e = rw e

  pub end-other : (operation ≡ 6 → ⊥) → eqb operation 7 ≡ ends operation
  unfolding ends either
  end-other other = rw (ne_eqb operation 6 other)

  pub send-first : operation ≡ 1 → true ≡ sends operation
  unfolding sends either
  send-first e = rw e

  pub send-other : operation < 8 → (operation ≡ 1 → ⊥) → eqb operation 5 ≡ sends operation
  unfolding sends is_multiplexed
  send-other plain other =
      rw (ne_eqb operation 1 other, lt-leb 8 operation plain)
      (unfold either both in by_case (eqb operation 5) (λ e. rw e) (λ e. rw e))

  pub send_multiplexed : 8 ≤ operation → eqb (operation % 2) 1 ≡ sends operation
  unfolding sends is_multiplexed
  send_multiplexed high =
      rw (ne_eqb operation 1 (λ e. omega (arith, e)), ne_eqb operation 5 (λ e. omega (arith, e)), le-leb 8 operation high)
      (unfold either both in refl)

-- ---- the size of the file that an entry names

module _ (c : Cluster) (s n : ℕ) {r : Option FileBytes} (is : found_file r ≡ find_file c s n) where
  pub size_none : r ≡ None → 0 ≡ length (bytes_in (slave_of c s) n)
  unfolding found_file
  size_none q = sym (missing_empty c s n (rw q at is))

  pub size_found : {b : FileBytes} → r ≡ Some b → b.size ≡ length (bytes_in (slave_of c s) n)
  unfolding found_file
  size_found q = (found_facts c s n (rw q at is)).has

pub kept-size : (s : Slave) {number size n : ℕ} → Kept s number size → n < 64 → number ≡ n → size ≡ length (bytes_in s n)
kept-size s {number} {size} kept few is = rw (← is) (kept.known (omega arith))

pub keeps : (s : Slave) {size n : ℕ} → size ≡ length (bytes_in s n) → Kept s n size
keeps s is = record { known = λ l. is }

pub first-place : (f : List ℕ) (at : ℕ) {a b : ℕ} → ByteAt f (at + 1) a → ByteAt f at b → 4 * a + b % 4 ≡ byte_place (entry_there f at) (entry_there f at).start
unfolding byte_place entry_there entry_of
first-place f at first second = omega (arith, first.is, second.is)

-- ---- the slots that an entry covers

module _ (e : Entry) {start : ℕ} (begins : start ≡ e.start) where
  pub cover_from : {mask long : ℕ} → long ≡ e.length → Marks mask (between start (start + long)) → Marks mask (covers e)
  unfolding between covers
  cover_from l m = record { each = λ slot k. m.each slot k ∙ rw (begins, l) }

  cover_one : start < slots → e.length ≡ 1 → Marks ((1 * 2 ^ start) % 2 ^ 64) (covers e)
  cover_one low one = cover_from (sym one) (record { each = λ slot k. rw (one_shifted start low) (one_bit start slot) })

  only-there : e.length ≡ 1 → (slot : ℕ) → covers e slot ≡ true → slot ≡ start
  unfolding covers
  only-there one slot there =
      omega (arith, one, begins, leb-true e.start slot (both_left _ _ there), ltb-true slot (e.start + e.length) (both_right _ _ there))

cover_end : (e : Entry) (slot : ℕ) → covers e slot ≡ true → slot < e.start + e.length
unfolding covers
cover_end e slot t = ltb-true slot (e.start + e.length) (both_right (leb e.start slot) _ t)

-- ---- the slots in which a send would send

module _ (s : Slave) (e : Entry) (send : sends e.operation ≡ true) {size first : ℕ} (long : size ≡ length (bytes_in s e.file)) (place : first ≡ byte_place e e.start) where
  -- a slot that the entry covers has its byte in the file exactly if the slot's distance from the start is below what is left of the file
  within-left : (slot : ℕ) → e.start ≤ slot → within s e slot ≡ ltb slot (e.start + (size - first))
  unfolding within
  within-left slot l =
      by_case (ltb slot (e.start + (size - first)))
      (λ m. lt-ltb (byte_place e slot) (length (bytes_in s e.file)) (inside (ltb-true slot (e.start + (size - first)) m)) ∙ sym m)
      (λ m. le-ltb (byte_place e slot) (length (bytes_in s e.file)) (outside (ltb-false slot (e.start + (size - first)) m)) ∙ sym m)
    where
      further : byte_place e slot ≡ byte_place e e.start + (slot - e.start)
      further = unfold byte_place in omega arith

      inside : slot < e.start + (size - first) → byte_place e slot < length (bytes_in s e.file)
      inside m = omega (arith, further, long, place)

      outside : e.start + (size - first) ≤ slot → length (bytes_in s e.file) ≤ byte_place e slot
      outside m = omega (arith, further, long, place)

  would : (slot : ℕ) → would_send s e slot ≡ both (covers e slot) (ltb slot (e.start + (size - first)))
  unfolding would_send
  would slot =
      by_case (leb e.start slot)
      (λ l. ap (both (covers e slot)) (both-next _ send ∙ within-left slot (leb-true e.start slot l)))
      (λ l. both_false_left _ (early l) ∙ sym (both_false_left _ (early l)))
    where
      early : leb e.start slot ≡ false → covers e slot ≡ false
      early l = unfold covers in both_false_left _ l

  would_not : size ≤ first → (slot : ℕ) → would_send s e slot ≡ false
  would_not past slot = would slot ∙ both_unless _ late
    where
      late : covers e slot ≡ true → ltb slot (e.start + (size - first)) ≡ false
      late there = unfold covers in le-ltb slot (e.start + (size - first)) (omega (arith, leb-true e.start slot (both_left _ _ (unfold covers in there))))

  pub send-none : size ≤ first → Marks 0 (would_send s e)
  send-none past = record { each = λ slot l. set-none slot ∙ sym (would_not past slot) }

  module _ {start : ℕ} (begins : start ≡ e.start) where
    pub send-part : {mask many : ℕ} → many ≡ e.length → size - first < many → Marks mask (between start (start + (size - first))) → Marks mask (would_send s e)
    send-part {many = many} are few m = record { each = λ slot l. m.each slot l ∙ (rw begins (sym (would slot ∙ cut slot))) }
      where
        cut : (slot : ℕ) → both (covers e slot) (ltb slot (e.start + (size - first))) ≡ between e.start (e.start + (size - first)) slot
        cut slot =
            unfold covers between both in
            by_case (leb e.start slot)
            (λ l. rw l
            (by_case (ltb slot (e.start + (size - first)))
            (λ n. rw (n, lt-ltb slot (e.start + e.length) (further (ltb-true slot (e.start + (size - first)) n))))
            (λ n. rw n (by_case (ltb slot (e.start + e.length)) (λ t. rw t) (λ t. rw t)))))
            (λ l. rw l)
          where
            further : slot < e.start + (size - first) → slot < e.start + e.length
            further n = omega (arith, are)

    would_all : {many : ℕ} → many ≡ e.length → many ≤ size - first → (slot : ℕ) → would_send s e slot ≡ covers e slot
    would_all are many slot = would slot ∙ (by_case (covers e slot) (λ t. rw t (unfold both in lt-ltb slot (e.start + (size - first)) (further t))) (λ t. rw t (unfold both in refl)))
      where
        further : covers e slot ≡ true → slot < e.start + (size - first)
        further t = omega (arith, are, cover_end e slot t)

    pub send-all : {mask many : ℕ} → many ≡ e.length → many ≤ size - first → Marks mask (between start (start + many)) → Marks mask (would_send s e)
    send-all are many m = record { each = λ slot l. (cover_from e begins are m).each slot l ∙ sym (would_all are many slot) }

-- ---- what an entry adds

-- an entry that is no multiplexed receive hides the slots that it covers
hides_by : (e : Entry) (hidden : ℕ) {mask : ℕ} → is_multiplexed_receive e ≡ false → Marks mask (covers e) → Marks (bit_or hidden mask) (hidden_with e hidden)
unfolding hidden_with eligible
hides_by e hidden {mask} kept m =
    record {
      each = λ slot l.
          set_or hidden mask slot
          ∙ ap (either (is_set hidden slot)) (m.each slot l ∙ sym (ap (both (covers e slot)) (ap not kept) ∙ both-all (covers e slot)));
    }

-- no slot more is sent in
sends_as_before : (s : Slave) (e : Entry) (hidden sent : ℕ) → ((slot : ℕ) → slot < slots → both (would_send s e slot) (not (is_set hidden slot)) ≡ false) → Marks sent (sends_with s e hidden sent)
unfolding sends_with
sends_as_before s e hidden sent none = record { each = λ slot l. sym (ap (either (is_set sent slot)) (none slot l) ∙ either_false (is_set sent slot)) }

plain_multiplexes : (e : Entry) (multiplexed : Bool) → is_multiplexed e.operation ≡ false → multiplexed ≡ either multiplexed (is_multiplexed_send e)
unfolding is_multiplexed_send
plain_multiplexes e multiplexed plain = sym (ap (either multiplexed) (both_false_left _ plain) ∙ either_false multiplexed)

silent : (s : Slave) (e : Entry) → sends e.operation ≡ false → (slot : ℕ) → would_send s e slot ≡ false
unfolding would_send
silent s e none slot = both_false_right _ (both_false_left _ none)

module _ (s : Slave) (e : Entry) (hidden sent : ℕ) (multiplexed : Bool) {number size : ℕ} (kept : Kept s number size) where
  -- a send
  taken-send : sends e.operation ≡ true → {mask mask' : ℕ} {found : Bool} → Marks mask (covers e) → Marks mask' (would_send s e) → found ≡ is_multiplexed e.operation
      → EntryTaken s e hidden sent multiplexed (bit_or hidden mask) (bit_or sent (bit_and mask' (bit_xor hidden 0xFFFFFFFFFFFFFFFF))) (multiplexed || found) number size
  taken-send send {mask} {mask'} {found} m m' is =
      record {
        hides = hides_by e hidden (unfold is_multiplexed_receive in both_false_right _ (sends_deaf e.operation send)) m;
        sending = record { each = each };
        multiplexes = or_either multiplexed found ∙ ap (either multiplexed) (is ∙ (unfold is_multiplexed_send in sym (ap (both (is_multiplexed e.operation)) send ∙ both-all _)));
        kept = kept;
      }
    where
      each : (slot : ℕ) → slot < slots → is_set (bit_or sent (bit_and mask' (bit_xor hidden 0xFFFFFFFFFFFFFFFF))) slot ≡ sends_with s e hidden sent slot
      each slot l =
          unfold sends_with in
          set_or sent (bit_and mask' (bit_xor hidden 0xFFFFFFFFFFFFFFFF)) slot
          ∙ ap (either (is_set sent slot)) (set_and mask' (bit_xor hidden 0xFFFFFFFFFFFFFFFF) slot ∙ rw (m'.each slot l, set_free hidden slot l))

  -- an entry that would not send, and is not multiplexed
  taken_quiet : is_multiplexed e.operation ≡ false → ((slot : ℕ) → slot < slots → both (would_send s e slot) (not (is_set hidden slot)) ≡ false) → {mask : ℕ} → Marks mask (covers e)
      → EntryTaken s e hidden sent multiplexed (bit_or hidden mask) sent multiplexed number size
  taken_quiet plain none m =
      record {
        hides = hides_by e hidden (unfold is_multiplexed_receive in both_false_left _ plain) m;
        sending = sends_as_before s e hidden sent none;
        multiplexes = plain_multiplexes e multiplexed plain;
        kept = kept;
      }

  -- a multiplexed receive
  pub taken-passed : is_multiplexed e.operation ≡ true → sends e.operation ≡ false → EntryTaken s e hidden sent multiplexed hidden sent multiplexed number size
  taken-passed high none =
      record {
        hides = record { each = λ slot l. sym (as_before slot) };
        sending = sends_as_before s e hidden sent (λ slot l. both_false_left _ (silent s e none slot));
        multiplexes = sym (ap (either multiplexed) no_send ∙ either_false multiplexed);
        kept = kept;
      }
    where
      received : is_multiplexed_receive e ≡ true
      received = unfold is_multiplexed_receive in both_true high (multiplexed_either e.operation high ∙ ap not none)

      no_send : is_multiplexed_send e ≡ false
      no_send = unfold is_multiplexed_send in both_false_right (is_multiplexed e.operation) none

      as_before : (slot : ℕ) → hidden_with e hidden slot ≡ is_set hidden slot
      as_before slot =
          unfold hidden_with eligible in ap (either (is_set hidden slot)) (both_false_right (covers e slot) (ap not received)) ∙ either_false (is_set hidden slot)

  -- one whose slots are all hidden, not multiplexed
  taken_hidden : is_multiplexed e.operation ≡ false → ((slot : ℕ) → slot < slots → covers e slot ≡ true → is_set hidden slot ≡ true)
      → EntryTaken s e hidden sent multiplexed hidden sent multiplexed number size
  taken_hidden plain all =
      record {
        hides = record { each = λ slot l. unfold hidden_with in by_case (is_set hidden slot) (λ t. t ∙ sym (either_left _ t)) (λ t. t ∙ sym (either-next _ t ∙ left_free slot l t)) };
        sending = sends_as_before s e hidden sent (λ slot l. unsent slot l);
        multiplexes = plain_multiplexes e multiplexed plain;
        kept = kept;
      }
    where
      unsent : (slot : ℕ) → slot < slots → both (would_send s e slot) (not (is_set hidden slot)) ≡ false
      unsent slot l =
          by_case (covers e slot) (λ c. both_false_right _ (ap not (all slot l c))) (λ c. both_false_left _ (unfold would_send in both_false_left _ c))

      left_free : (slot : ℕ) → slot < slots → is_set hidden slot ≡ false → eligible is_multiplexed_receive e slot ≡ false
      left_free slot l t = unfold eligible in both_false_left _ (by_case (covers e slot) (λ c. clash (all slot l c) t) (λ c. c))

-- ---- an entry of one slot, neither multiplexed nor an end

pub single_there : (f : List ℕ) (at : ℕ) {t : Bool} → t ≡ is_single (get_or f (at + 2) 0) → t ≡ true → is_single (kind_at f at) ≡ true
unfolding kind_at
single_there f at is one = sym is ∙ one

module _ (f : List ℕ) (at : ℕ) (single : is_single (kind_at f at) ≡ true) where
  single_low : get_or f (at + 2) 0 / 16 < 6
  unfolding kind_at is_single
  single_low = ltb-true (get_or f (at + 2) 0 / 16) 6 (both_left (ltb (get_or f (at + 2) 0 / 16) 6) _ single)

  pub single_plain : get_or f (at + 2) 0 / 16 < 8
  single_plain = omega (arith, single_low)

  single_none : get_or f (at + 2) 0 % 16 ≡ 0
  unfolding kind_at is_single
  single_none = eqb-true (get_or f (at + 2) 0 % 16) 0 (both_right (ltb (get_or f (at + 2) 0 / 16) 6) _ single)

  single_one : (entry_there f at).length ≡ 1
  unfolding entry_there entry_of
  single_one = ap (λ (n : ℕ). n + 1) single_none

  single_unmultiplexed : is_multiplexed (entry_there f at).operation ≡ false
  unfolding entry_there entry_of is_multiplexed
  single_unmultiplexed = lt-leb 8 (get_or f (at + 2) 0 / 16) single_plain

  begins : get_or f (at + 3) 0 % 64 ≡ (entry_there f at).start
  unfolding entry_there entry_of
  begins = refl

  start-low : get_or f (at + 3) 0 % 64 < slots
  start-low = omega arith

  module _ (s : Slave) (hidden sent : ℕ) (multiplexed : Bool) where
    only-bit : {b : Bool} → is_set hidden (get_or f (at + 3) 0 % 64) ≡ b → (slot : ℕ) → covers (entry_there f at) slot ≡ true → is_set hidden slot ≡ b
    only-bit is slot there = ap (is_set hidden) (only-there (entry_there f at) begins single_one slot there) ∙ is

    pub slot_hidden : {number size : ℕ} → Kept s number size → hidden / 2 ^ (get_or f (at + 3) 0 % 64) % 2 ≡ 1
        → EntryTaken s (entry_there f at) hidden sent multiplexed hidden sent multiplexed number size
    slot_hidden kept is =
        taken_hidden s (entry_there f at) hidden sent multiplexed kept single_unmultiplexed
        (λ slot l there. only-bit here slot there)
      where
        here : is_set hidden (get_or f (at + 3) 0 % 64) ≡ true
        here = unfold is_set in eq-eqb (hidden / 2 ^ (get_or f (at + 3) 0 % 64) % 2) 1 is

    module _ {t : Bool} (is : t ≡ sends (get_or f (at + 2) 0 / 16)) where
      same-sends : sends (get_or f (at + 2) 0 / 16) ≡ sends (entry_there f at).operation
      unfolding entry_there entry_of
      same-sends = refl

      pub slot_silent : {number size : ℕ} → Kept s number size → not t ≡ true
          → EntryTaken s (entry_there f at) hidden sent multiplexed (bit_or hidden ((1 * 2 ^ (get_or f (at + 3) 0 % 64)) % 2 ^ 64)) sent multiplexed number size
      slot_silent kept none =
          taken_quiet s (entry_there f at) hidden sent multiplexed kept single_unmultiplexed
          (λ slot l. both_false_left _ (silent s (entry_there f at) (sym same-sends ∙ (sym is ∙ not-true t none)) slot))
          (cover_one (entry_there f at) begins start-low single_one)

      module _ (some : not t ≡ false) {size first : ℕ} (long : size ≡ length (bytes_in s (get_or f at 0 / 4))) (place : first ≡ byte_place (entry_there f at) (entry_there f at).start) where
        send : sends (entry_there f at).operation ≡ true
        send = sym same-sends ∙ (sym is ∙ not-false t some)

        file-long : size ≡ length (bytes_in s (entry_there f at).file)
        unfolding entry_there entry_of
        file-long = long

        pub slot_outside : size ≤ first
            → EntryTaken s (entry_there f at) hidden sent multiplexed (bit_or hidden ((1 * 2 ^ (get_or f (at + 3) 0 % 64)) % 2 ^ 64)) sent multiplexed (get_or f at 0 / 4) size
        slot_outside past =
            taken_quiet s (entry_there f at) hidden sent multiplexed (keeps s long) single_unmultiplexed
            (λ slot l. both_false_left _ (would_not s (entry_there f at) send file-long place past slot))
            (cover_one (entry_there f at) begins start-low single_one)

        pub slot_sends : (hidden / 2 ^ (get_or f (at + 3) 0 % 64) % 2 ≡ 1 → ⊥) → first < size
            → EntryTaken s (entry_there f at) hidden sent multiplexed (bit_or hidden ((1 * 2 ^ (get_or f (at + 3) 0 % 64)) % 2 ^ 64))
            (bit_or sent ((1 * 2 ^ (get_or f (at + 3) 0 % 64)) % 2 ^ 64)) multiplexed (get_or f at 0 / 4) size
        slot_sends free inside =
            record {
              hides = hides_by (entry_there f at) hidden (unfold is_multiplexed_receive in both_false_left _ single_unmultiplexed) cover;
              sending = record { each = each };
              multiplexes = plain_multiplexes (entry_there f at) multiplexed single_unmultiplexed;
              kept = keeps s long;
            }
          where
            cover : Marks ((1 * 2 ^ (get_or f (at + 3) 0 % 64)) % 2 ^ 64) (covers (entry_there f at))
            cover = cover_one (entry_there f at) begins start-low single_one

            acts : (slot : ℕ) → covers (entry_there f at) slot ≡ both (would_send s (entry_there f at) slot) (not (is_set hidden slot))
            acts slot =
                by_case (covers (entry_there f at) slot)
                (λ c. c ∙ sym (both_true (all slot ∙ c) (ap not (only-bit here slot c))))
                (λ c. c ∙ sym (both_false_left _ (all slot ∙ c)))
              where
                here : is_set hidden (get_or f (at + 3) 0 % 64) ≡ false
                here = unfold is_set in ne_eqb (hidden / 2 ^ (get_or f (at + 3) 0 % 64) % 2) 1 free

                all : (slot : ℕ) → would_send s (entry_there f at) slot ≡ covers (entry_there f at) slot
                all = would_all s (entry_there f at) send file-long place begins (sym single_one) (omega arith)

            each : (slot : ℕ) → slot < slots → is_set (bit_or sent ((1 * 2 ^ (get_or f (at + 3) 0 % 64)) % 2 ^ 64)) slot ≡ sends_with s (entry_there f at) hidden sent slot
            each slot l =
                unfold sends_with in
                set_or sent ((1 * 2 ^ (get_or f (at + 3) 0 % 64)) % 2 ^ 64) slot
                ∙ ap (either (is_set sent slot)) (cover.each slot l ∙ acts slot)

-- ---- any other entry

module _ (f : List ℕ) (at : ℕ) (s : Slave) (send : sends (entry_there f at).operation ≡ true) {size first : ℕ} (long : size ≡ length (bytes_in s (get_or f at 0 / 4)))
    (place : first ≡ byte_place (entry_there f at) (entry_there f at).start) where
  sent-long : size ≡ length (bytes_in s (entry_there f at).file)
  unfolding entry_there entry_of
  sent-long = long

  pub slots-none : size ≤ first → Marks 0 (would_send s (entry_there f at))
  slots-none past = send-none s (entry_there f at) send sent-long place past

  module _ {mask : ℕ} where
    pub slots-part : size - first < get_or f (at + 2) 0 % 16 + 1 → Marks mask (between (get_or f (at + 3) 0 % 64) (get_or f (at + 3) 0 % 64 + (size - first))) → Marks mask (would_send s (entry_there f at))
    unfolding entry_there entry_of
    slots-part few m = send-part s (entry_there f at) send sent-long place {start = get_or f (at + 3) 0 % 64} refl {many = get_or f (at + 2) 0 % 16 + 1} refl few m

    pub slots-all : get_or f (at + 2) 0 % 16 + 1 ≤ size - first → Marks mask (between (get_or f (at + 3) 0 % 64) (get_or f (at + 3) 0 % 64 + (get_or f (at + 2) 0 % 16 + 1)))
        → Marks mask (would_send s (entry_there f at))
    unfolding entry_there entry_of
    slots-all many m = send-all s (entry_there f at) send sent-long place {start = get_or f (at + 3) 0 % 64} refl {many = get_or f (at + 2) 0 % 16 + 1} refl many m

pub send-there : (f : List ℕ) (at : ℕ) {t : Bool} → t ≡ sends (get_or f (at + 2) 0 / 16) → t ≡ true → sends (entry_there f at).operation ≡ true
unfolding entry_there entry_of
send-there f at is send = sym is ∙ send

module _ (f : List ℕ) (at : ℕ) (s : Slave) (hidden sent : ℕ) (multiplexed : Bool) {number size : ℕ} (kept : Kept s number size)
    {t : Bool} (is : t ≡ sends (get_or f (at + 2) 0 / 16)) {mask : ℕ} (m : Marks mask (between (get_or f (at + 3) 0 % 64) (get_or f (at + 3) 0 % 64 + (get_or f (at + 2) 0 % 16 + 1)))) where
  cover : Marks mask (covers (entry_there f at))
  unfolding entry_there entry_of
  cover = cover_from (entry_there f at) {start = get_or f (at + 3) 0 % 64} refl {long = get_or f (at + 2) 0 % 16 + 1} refl m

  sends-there : t ≡ sends (entry_there f at).operation
  unfolding entry_there entry_of
  sends-there = is

  pub slots-send : t ≡ true → {mask' : ℕ} → Marks mask' (would_send s (entry_there f at))
      → EntryTaken s (entry_there f at) hidden sent multiplexed (bit_or hidden mask) (bit_or sent (bit_and mask' (bit_xor hidden 0xFFFFFFFFFFFFFFFF)))
      (multiplexed || leb 8 (get_or f (at + 2) 0 / 16)) number size
  slots-send send m' =
      taken-send s (entry_there f at) hidden sent multiplexed kept (sym sends-there ∙ send) cover m' (unfold is_multiplexed entry_there entry_of in refl)

  pub slots-passed : t ≡ false → leb 8 (get_or f (at + 2) 0 / 16) ≡ true → EntryTaken s (entry_there f at) hidden sent multiplexed hidden sent multiplexed number size
  slots-passed none high =
      taken-passed s (entry_there f at) hidden sent multiplexed kept (unfold is_multiplexed entry_there entry_of in high) (sym sends-there ∙ none)

  pub slots_hide : t ≡ false → leb 8 (get_or f (at + 2) 0 / 16) ≡ false → EntryTaken s (entry_there f at) hidden sent multiplexed (bit_or hidden mask) sent multiplexed number size
  slots_hide none low =
      taken_quiet s (entry_there f at) hidden sent multiplexed kept (unfold is_multiplexed entry_there entry_of in low)
      (λ slot l. both_false_left _ (silent s (entry_there f at) (sym sends-there ∙ none) slot)) cover
