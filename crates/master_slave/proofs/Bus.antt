-- Laws of the bus, for every sender rule: the mask bit by bit, the buffer byte by byte, and both after one more sender.
-- Assumes nothing.
use Prim.Native.Nat.{ℕ, zero, suc, ◌+◌, ◌*◌, ◌-◌, ◌/◌, ◌%◌, ◌^◌, ◌≤◌, ◌<◌}
use native.Mathlib.Nat.{pow-suc, mul-add-div_right, mul-add-mod_self_right, mul_assoc, add-zero, zero-add, zero-mul}
use native.Mathlib.Numerals.{add-one}
use native.Mathlib.Omega.{arith}
use mathlib.Core.Path.{◌≡◌, refl, sym, ap, ◌∙◌}
use mathlib.Core.List.{List, [], ◌∷◌, ◌++◌, append-nil}
use lib.ListN.{length, get_or, set, take, drop, length-append, length-drop}
use lib.Seq.{set_at, get_or_at, append_snoc, drop-nil, drop-cons, drop-set-lt}
use lib.Bits.{bit_and, bit_or, and_le_l, or_shifted_r}
use lib.Pow.{pow_pos, pow-add, high, shl_exact}
use lib.Dec.{ltb, leb}
use borrow.Author.Tests.{ltb-true, ltb-false, le-leb, lt-leb, leb-true}
use Rattle.file.specs.Rules.Bytes.{Byte, part}
use Rattle.file.proofs.Order.{by_case, both_true, both-next, both_false_left}
use Rattle.master_slave.specs.Rules.Bus.{Senders, joined, bus_byte, anyone, mask_below_lem, slots, sender_mask, slot_bytes, answer_bytes, answer_in, nobody}
use Rattle.frame.specs.Rules.Check.{data_check}
use Rattle.master_slave.specs.Rules.Slaves.{read_reply}
use Rattle.master_slave.specs.Inner.Carried.{said, senders_to}

-- ---- one slot

pub joined_snoc : (bus : ℕ) (xs : List ℕ) (b : ℕ) → joined bus (xs ++ b ∷ []) ≡ bit_and (joined bus xs) b
unfolding joined
joined_snoc bus [] b = refl
joined_snoc bus (x ∷ xs) b = joined_snoc (bit_and bus x) xs b

pub bus_byte_snoc : (xs : List ℕ) (b : ℕ) → bus_byte (xs ++ b ∷ []) ≡ bit_and (bus_byte xs) b
unfolding bus_byte
bus_byte_snoc xs b = joined_snoc 0xFF xs b

joined-below : (bus : ℕ) (xs : List ℕ) → joined bus xs ≤ bus
unfolding joined
joined-below bus [] = omega arith
joined-below bus (x ∷ xs) = omega (arith, joined-below (bit_and bus x) xs, and_le_l bus x)

-- the byte of a slot is a byte, whatever was sent
pub bus_byte-byte : (xs : List ℕ) → Byte (bus_byte xs)
unfolding bus_byte
bus_byte-byte xs = omega (arith, joined-below 0xFF xs)

pub anyone-bit : (xs : List ℕ) → anyone xs ≤ 1
unfolding anyone
anyone-bit [] = omega arith
anyone-bit (x ∷ xs) = omega arith

-- ---- the mask

pub mask_below : (r : Senders) (n : ℕ) → mask_below_lem r n < 2 ^ n
unfolding mask_below_lem
mask_below r zero = omega arith
mask_below r (suc n) =
    by_case (ltb (anyone (r n)) 1)
    (λ e.
    let z : anyone (r n) ≡ 0 = omega (arith, ltb-true (anyone (r n)) 1 e) in
    rw (z, pow-suc, zero-mul) (omega (arith, mask_below r n)))
    (λ e.
    let o : anyone (r n) ≡ 1 = omega (arith, ltb-false (anyone (r n)) 1 e, anyone-bit (r n)) in
    rw (o, pow-suc) (omega (arith, mask_below r n)))

power_split : (a k s : ℕ) → a * 2 ^ (suc k + s) ≡ a * 2 ^ k * 2 * 2 ^ s
power_split a k s = rw (pow-add 2 (suc k) s, pow-suc) (simp mul_assoc)

-- "bit s is set exactly when someone sent in slot s"
pub mask-bit : (r : Senders) (n s : ℕ) → s < n → mask_below_lem r n / 2 ^ s % 2 ≡ anyone (r s)
unfolding mask_below_lem
mask-bit r zero s h = elim h [ ]
mask-bit r (suc n) s h =
    by_case (ltb s n)
    (λ e.
    let below : s < n = ltb-true s n e in
    let k : ℕ = n - suc s in
    let split : n ≡ suc k + s = omega arith in
    let power : anyone (r n) * 2 ^ n ≡ anyone (r n) * 2 ^ k * 2 * 2 ^ s =
    ap (λ (x : ℕ). anyone (r n) * 2 ^ x) split ∙ power_split (anyone (r n)) k s
    in
    rw (power, mul-add-div_right (pow_pos s) (anyone (r n) * 2 ^ k * 2) (mask_below_lem r n), mul-add-mod_self_right (anyone (r n) * 2 ^ k) 2 (mask_below_lem r n / 2 ^ s))
    (mask-bit r n s below))
    (λ e.
    let same : s ≡ n = omega (arith, ltb-false s n e) in
    rw (same, high (anyone (r n)) n (mask_below r n)) (omega (arith, anyone-bit (r n))))

-- rules with senders in the same slots have the same mask
pub mask-alike : (r t : Senders) (n : ℕ) → ((s : ℕ) → anyone (r s) ≡ anyone (t s)) → mask_below_lem r n ≡ mask_below_lem t n
unfolding mask_below_lem
mask-alike r t zero same = refl
mask-alike r t (suc n) same = rw (same n, mask-alike r t n same)

-- ---- the buffer

pub slot_bytes-length : (r : Senders) (s n : ℕ) → length (slot_bytes r s n) ≡ n
unfolding slot_bytes
slot_bytes-length r s zero = refl
slot_bytes-length r s (suc n) = ap suc (slot_bytes-length r (suc s) n)

pub answer_bytes-length : (firework : ℕ) (r : Senders) → length (answer_bytes firework r) ≡ slots
unfolding answer_bytes
answer_bytes-length firework r = ap suc (slot_bytes-length r 1 63)

pub answer-length : (buffer : List ℕ) (firework : ℕ) (r : Senders) → slots ≤ length buffer → length (answer_in buffer (answer_bytes firework r)) ≡ length buffer
unfolding answer_in
answer-length buffer firework r long =
    rw (length-append, answer_bytes-length firework r, length-drop) (omega arith)

-- rules that send the same bytes have the same buffer
pub slot_bytes-alike : (r t : Senders) (s n : ℕ) → ((k : ℕ) → r k ≡ t k) → slot_bytes r s n ≡ slot_bytes t s n
unfolding slot_bytes
slot_bytes-alike r t s zero same = refl
slot_bytes-alike r t s (suc n) same = rw (same s, slot_bytes-alike r t (suc s) n same)

pub answer-alike : (buffer : List ℕ) (firework : ℕ) (r t : Senders) → ((k : ℕ) → r k ≡ t k) → answer_in buffer (answer_bytes firework r) ≡ answer_in buffer (answer_bytes firework t)
unfolding answer_in answer_bytes
answer-alike buffer firework r t same = rw (slot_bytes-alike r t 1 63 same)

-- ---- one more sender

-- the bytes of a sender joined into those of the slots, first to first; `said` does so in a buffer, store by store
unfoldable pub overlaid : List ℕ → List ℕ → List ℕ
overlaid xs [] = xs
overlaid [] (b ∷ bs) = []
overlaid (x ∷ xs) (b ∷ bs) = bit_and x b ∷ overlaid xs bs

said_overlaid : (p xs rest : List ℕ) (at : ℕ) (bs : List ℕ) → length p ≡ at → length bs ≤ length xs → said (p ++ (xs ++ rest)) at bs ≡ p ++ (overlaid xs bs ++ rest)
unfolding said overlaid
said_overlaid p xs rest at [] e h = refl
said_overlaid p [] rest at (b ∷ bs) e h = absurd (omega arith)
said_overlaid p (x ∷ xs) rest at (b ∷ bs) e h =
    let here : get_or (p ++ (x ∷ (xs ++ rest))) at 0 ≡ x = get_or_at p x (xs ++ rest) 0 at e in
    let store : set (p ++ (x ∷ (xs ++ rest))) at (bit_and x b) ≡ p ++ (bit_and x b ∷ (xs ++ rest)) = set_at p x (xs ++ rest) (bit_and x b) at e in
    let next : said ((p ++ (bit_and x b ∷ [])) ++ (xs ++ rest)) (suc at) bs ≡ (p ++ (bit_and x b ∷ [])) ++ (overlaid xs bs ++ rest) =
    said_overlaid (p ++ (bit_and x b ∷ [])) xs rest (suc at) bs (simp length-append (omega arith)) (omega arith)
    in
    rw (here, store, ← append_snoc p (bit_and x b) (xs ++ rest)) (next ∙ append_snoc p (bit_and x b) (overlaid xs bs ++ rest))

-- a rule with one more sender, which sends the bytes from slot s on
overlaid_slots : (r t : Senders) (s n : ℕ) (bs : List ℕ) → ((j : ℕ) → t (s + j) ≡ r (s + j) ++ take 1 (drop j bs)) → overlaid (slot_bytes r s n) bs ≡ slot_bytes t s n
unfolding overlaid slot_bytes
overlaid_slots r t s zero [] more = refl
overlaid_slots r t s zero (b ∷ bs) more = refl
overlaid_slots r t s (suc n) [] more =
    let here : t s ≡ r s = rw (add-zero s, append-nil) at (more 0) in
    let next : slot_bytes r (suc s) n ≡ slot_bytes t (suc s) n = overlaid_slots r t (suc s) n [] (λ j. let e : suc s + j ≡ s + suc j = omega arith in rw (e, drop-nil) (more (suc j))) in
    rw (here, next)
overlaid_slots r t s (suc n) (b ∷ bs) more =
    let here : t s ≡ r s ++ (b ∷ []) = rw (add-zero s) at (more 0) in
    let next : overlaid (slot_bytes r (suc s) n) bs ≡ slot_bytes t (suc s) n =
    overlaid_slots r t (suc s) n bs (λ j. let e : suc s + j ≡ s + suc j = omega arith in rw e (more (suc j)))
    in
    rw (here, bus_byte_snoc (r s) b, next)

-- the buffer after one more sender, whose bytes go out from slot 1 on
pub answer-said : (buffer : List ℕ) (firework : ℕ) (r t : Senders) (bs : List ℕ) → length bs ≤ 63
    → ((j : ℕ) → t (suc j) ≡ r (suc j) ++ take 1 (drop j bs))
    → said (answer_in buffer (answer_bytes firework r)) 1 bs ≡ answer_in buffer (answer_bytes firework t)
unfolding answer_in answer_bytes
answer-said buffer firework r t bs few more =
    let fits : length bs ≤ length (slot_bytes r 1 63) = rw (slot_bytes-length r 1 63) few in
    said_overlaid (firework ∷ []) (slot_bytes r 1 63) (drop slots buffer) 1 bs refl fits
    ∙ ap (λ (l : List ℕ). firework ∷ (l ++ drop slots buffer))
    (overlaid_slots r t 1 63 bs (λ j. let e : 1 + j ≡ suc j = omega arith in rw e (more j)))

-- ---- slot by slot

-- a buffer whose slots below n are filled by the rule, and which is as it was from n on
pub record Filled (r : Senders) (firework : ℕ) (old : List ℕ) (n : ℕ) (new : List ℕ) : Type 0 where
  pub some : 1 ≤ n
  pub most : n ≤ slots
  pub long : slots ≤ length old
  pub filled : new ≡ (firework ∷ slot_bytes r 1 (n - 1)) ++ drop n old

slot_bytes_snoc : (r : Senders) (s n : ℕ) → slot_bytes r s (suc n) ≡ slot_bytes r s n ++ (bus_byte (r (s + n)) ∷ [])
unfolding slot_bytes
slot_bytes_snoc r s zero = rw add-zero
slot_bytes_snoc r s (suc n) =
    let e : suc s + n ≡ s + suc n = omega arith in
    ap (λ (l : List ℕ). bus_byte (r s) ∷ l) (slot_bytes_snoc r (suc s) n ∙ rw e)

-- the firework stored first
pub filled-start : (r : Senders) (firework : ℕ) (old : List ℕ) → slots ≤ length old → Filled r firework (set old 0 firework) 1 (set old 0 firework)
unfolding slot_bytes
filled-start r firework [] long = absurd (omega arith)
filled-start r firework (x ∷ xs) long = record { some = omega arith; most = omega arith; long = long; filled = refl }

pub filled-length : {r : Senders} {firework : ℕ} {old : List ℕ} {n : ℕ} {new : List ℕ} → Filled r firework old n new → length new ≡ length old
filled-length {r} {firework} {old} {n} f =
    ap length f.filled
    ∙ simp (length-append, slot_bytes-length, length-drop) (omega (arith, f.some, f.most, f.long))

pub filled_next : {r : Senders} {firework : ℕ} {old : List ℕ} {n b : ℕ} {new : List ℕ} → Filled r firework old n new → n < slots → b ≡ bus_byte (r n) → Filled r firework old (n + 1) (set new n b)
filled_next {r} {firework} {old} {n} {b} {new} f more is =
    let k : ℕ = n - 1 in
    let one : n ≡ 1 + k = omega (arith, f.some) in
    let front : List ℕ = firework ∷ slot_bytes r 1 k in
    let size : length front ≡ n = ap suc (slot_bytes-length r 1 k) ∙ omega (arith, f.some) in
    let here : n < length old = omega (arith, f.long) in
    let cut : drop n old ≡ get_or old n 0 ∷ drop (suc n) old = drop-cons old n 0 here in
    let store : set (front ++ drop n old) n b ≡ front ++ (b ∷ drop (suc n) old) =
    ap (λ (l : List ℕ). set (front ++ l) n b) cut ∙ set_at front (get_or old n 0) (drop (suc n) old) b n size
    in
    let grown : slot_bytes r 1 (n + 1 - 1) ≡ slot_bytes r 1 k ++ (b ∷ []) =
    let e : n + 1 - 1 ≡ suc k = omega (arith, f.some) in rw (e, slot_bytes_snoc r 1 k, ← one, is) in
    let next : suc n ≡ n + 1 = omega arith in
    record {
      some = omega arith;
      most = omega arith;
      long = f.long;
      filled =
          ap (λ (l : List ℕ). set l n b) f.filled ∙ store
          ∙ rw (grown, ← next) (sym (ap (λ (l : List ℕ). firework ∷ l) (append_snoc (slot_bytes r 1 k) b (drop (suc n) old))));
    }

pub filled-done : {r : Senders} {firework : ℕ} (old : List ℕ) {n : ℕ} {new : List ℕ} → Filled r firework (set old 0 firework) n new → slots ≤ n → new ≡ answer_in old (answer_bytes firework r)
unfolding answer_in answer_bytes
filled-done {r} {firework} old {n} f all =
    let e : n ≡ 64 = omega (arith, f.most) in
    f.filled ∙ rw (e, drop-set-lt 64 old 0 firework (omega arith))

-- ---- the mask, slot by slot

-- one more slot, above all others
pub mask_next : (r : Senders) (n : ℕ) {m : ℕ} → m ≡ mask_below_lem r n → anyone (r n) ≡ 1 → 2 ^ n + m ≡ mask_below_lem r (n + 1)
unfolding mask_below_lem
mask_next r n m one = rw (add-one n, one, m) (omega arith)

pub mask_silent : (r : Senders) (n : ℕ) {m : ℕ} → m ≡ mask_below_lem r n → anyone (r n) ≡ 0 → m ≡ mask_below_lem r (n + 1)
unfolding mask_below_lem
mask_silent r n m none = rw (add-one n, none, zero-mul, zero-add) m

-- nothing more above the last slot that someone sent in
pub mask-rest : (r : Senders) (n k : ℕ) → ((s : ℕ) → n ≤ s → anyone (r s) ≡ 0) → mask_below_lem r (n + k) ≡ mask_below_lem r n
mask-rest r n zero quiet = rw add-zero
mask-rest r n (suc k) quiet =
    let e : n + suc k ≡ n + k + 1 = omega arith in
    rw e (sym (mask_silent r (n + k) refl (quiet (n + k) (omega arith))) ∙ mask-rest r n k quiet)

-- someone in each of the slots 1 to last
pub senders_to_yes : (last slot : ℕ) → 1 ≤ slot → slot ≤ last → anyone (senders_to last slot) ≡ 1
unfolding senders_to anyone
senders_to_yes last slot low high = rw (both_true (le-leb 1 slot low) (le-leb slot last high))

pub senders_to_no : (last slot : ℕ) → (1 ≤ slot → last < slot) → anyone (senders_to last slot) ≡ 0
unfolding senders_to anyone
senders_to_no last slot out =
    by_case (leb 1 slot)
    (λ e. rw (both-next (leb slot last) e, lt-leb slot last (out (leb-true 1 slot e))))
    (λ e. rw (both_false_left (leb slot last) e))

pub record Counting (last slot mask : ℕ) : Type 0 where
  pub some : 1 ≤ slot
  pub most : slot ≤ last + 1
  pub counted : mask ≡ mask_below_lem (senders_to last) slot

zero_mask : (r : Senders) → 0 ≡ mask_below_lem r 0
unfolding mask_below_lem
zero_mask r = refl

pub counting_start : (last : ℕ) → Counting last 1 0
counting_start last =
    record {
      some = omega arith;
      most = omega arith;
      counted = mask_silent (senders_to last) 0 (zero_mask (senders_to last)) (senders_to_no last 0 (λ h. absurd (omega arith)));
    }

pub counting_next : {last slot mask next : ℕ} → Counting last slot mask → slot ≤ last → next ≡ 2 ^ slot + mask → Counting last (slot + 1) next
counting_next {last} {slot} c more is =
    record {
      some = omega arith;
      most = omega arith;
      counted = is ∙ mask_next (senders_to last) slot c.counted (senders_to_yes last slot c.some more);
    }

pub counting_done : {last slot mask : ℕ} → Counting last slot mask → last < slot → last < slots → mask ≡ sender_mask (senders_to last)
unfolding sender_mask
counting_done {last} {slot} {mask} c past few =
    let split : slot + (64 - slot) ≡ 64 = omega (arith, c.most) in
    c.counted
    ∙ sym (rw split at (mask-rest (senders_to last) slot (64 - slot) (λ s above. senders_to_no last s (λ _. omega arith))))

pub mask_fits : {last slot mask : ℕ} → Counting last slot mask → mask < 2 ^ slot
mask_fits {last} {slot} c = rw c.counted (mask_below (senders_to last) slot)

-- a bit above all others, joined by or
pub or_above : {n m : ℕ} → n < slots → m < 2 ^ n → bit_or m ((1 * 2 ^ n) % 2 ^ 64) ≡ 2 ^ n + m
or_above {n} {m} few below =
    rw (shl_exact {a = 1} 1 n 64 (omega arith) (omega arith), or_shifted_r 1 n m below) (omega arith)

-- the byte of a slot in which nobody sends
pub nobody-byte : (slot : ℕ) → 255 ≡ bus_byte (nobody slot)
unfolding bus_byte joined nobody
nobody-byte slot = refl

-- ---- a sender's record

part_cons : (f : List ℕ) (p q n : ℕ) → p < length f → q ≡ suc p → part f p (suc n) ≡ get_or f p 0 ∷ part f q n
unfolding part
part_cons f p q n h e = rw (drop-cons f p 0 h, e)

part_none : (f : List ℕ) (p : ℕ) → part f p 0 ≡ []
unfolding part
part_none f p = refl

pub part_four : (f : List ℕ) (p : ℕ) → p + 4 ≤ length f → part f p 4 ≡ get_or f p 0 ∷ get_or f (p + 1) 0 ∷ get_or f (p + 2) 0 ∷ get_or f (p + 3) 0 ∷ []
part_four f p h =
    rw (
      part_cons f p (p + 1) 3 (omega arith) (omega arith),
      part_cons f (p + 1) (p + 2) 2 (omega arith) (omega arith),
      part_cons f (p + 2) (p + 3) 1 (omega arith) (omega arith),
      part_cons f (p + 3) (p + 4) 0 (omega arith) (omega arith),
      part_none f (p + 4),
    )

pub record-said : (b f : List ℕ) (p check : ℕ) → p + 4 ≤ length f → check ≡ data_check (get_or f p 0 ∷ get_or f (p + 1) 0 ∷ get_or f (p + 2) 0 ∷ get_or f (p + 3) 0 ∷ []) →
    said b 1 (get_or f p 0 ∷ get_or f (p + 1) 0 ∷ get_or f (p + 2) 0 ∷ get_or f (p + 3) 0 ∷ check ∷ []) ≡ said b 1 (read_reply (part f p 4))
unfolding read_reply
record-said b f p check long is = rw (part_four f p long, is)

nobody_quiet : (s : ℕ) → 0 ≡ anyone (nobody s)
unfolding nobody anyone
nobody_quiet s = refl

-- the mask of a round in which nobody sends
pub mask-nobody : 0 ≡ sender_mask nobody
unfolding sender_mask
mask-nobody = counting_done (counting_start 0) (omega arith) (omega arith) ∙ mask-alike (senders_to 0) nobody slots (λ s. senders_to_no 0 s (λ h. omega arith) ∙ nobody_quiet s)

pub ruleset counts = (counting_start, counting_next, counting_done, mask_fits)

pub ruleset fills = (filled-start, filled-length, filled_next, filled-done, nobody-byte)

pub ruleset record_said = (record-said)
