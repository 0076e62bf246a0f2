-- Bytes, digits and lines put into a text, turn by turn.
-- Assumes nothing.
use Rattle.std.proofs.Common.{ℕ, zero, suc, ◌+◌, ◌-◌, ◌*◌, ◌/◌, ◌%◌, ◌^◌, ◌≤◌, ◌<◌, ◌≡◌, refl, sym, ap, ◌∙◌, List, [], ◌∷◌, ◌++◌, arith, pow-suc, lt-ltb, le-ltb, ltb-true, ltb-false, length, take, set, length-set, length-append, take_all, ltb}
use Rattle.std.proofs.Math.Seq.{sets, sets-eq, length-sets}
use borrow.Rule.Slice.PartMut.{put_mid}
use Rattle.std.proofs.lemmas.Slice.{put_mid-paste}
use Rattle.file.proofs.Order.{by_case}
use Rattle.listing_text.specs.Rules.Text.{letters, space, newline, digit, hex, decimal_in, decimal, field, name_line, totals_line, refused_line}
use Rattle.listing_text.specs.Inner.Puts.{Puts, PutsAtMost}
use Rattle.listing_text.specs.Rules.Text.{most_digits, line_size}

-- ---- one after the other

sets_append : (old : List ℕ) (at : ℕ) (a b : List ℕ) → sets old at (a ++ b) ≡ sets (sets old at a) (at + length a) b
sets_append old at [] b = let z : at + 0 ≡ at = omega arith in rw z
sets_append old at (x ∷ a) b =
    let e : at + suc (length a) ≡ suc at + length a = omega arith in
    rw e (sets_append (set old at x) (suc at) a b)

pub puts_then : {a b old mid new : List ℕ} {at next last : ℕ} → Puts a old at mid next → Puts b mid next new last → Puts (a ++ b) old at new last
puts_then {a} {b} {old} {at = at} p q =
    record {
      text = q.text ∙ rw (p.text, p.place) (sym (sets_append old at a b));
      place = let x = q.place in let y = p.place in rw (length-append a b) (omega arith);
      room = q.room ∙ p.room;
      fits = let x = q.fits in let y = p.place in let z = p.room in rw (length-append a b) (omega arith);
    }

-- ---- bytes

-- a copy of them
pub puts-copy :
    (bytes old : List ℕ) (at : ℕ) {copy : List ℕ} → at + length bytes ≤ length old → copy ≡ bytes →
    Puts bytes old at (put_mid at (at + length bytes - at) old copy) (at + length bytes)
puts-copy bytes old at {copy} fits is =
    let whole : take (length bytes) bytes ≡ bytes = take_all (length bytes) bytes (omega arith) in
    let same = put_mid-paste at (at + length bytes - at) old copy bytes (length bytes) is (omega arith) refl ∙ rw whole (sym (sets-eq bytes old at fits)) in
    record { text = same; place = refl; room = ap length same ∙ length-sets old at bytes; fits = fits }

-- ---- hexadecimal digits

pub length-hex : (k n : ℕ) → length (hex k n) ≡ k
unfolding hex
length-hex zero n = refl
length-hex (suc k) n = ap suc (length-hex k n)

pub record Spelling (old : List ℕ) (at digits value : ℕ) (text : List ℕ) (place left : ℕ) : Type 0 where
  pub fewer : left ≤ digits
  pub sum : place + left ≡ at + digits
  pub room : length text ≡ length old
  pub rest : sets text place (hex left value) ≡ sets old at (hex digits value)

pub spelling_start : (old : List ℕ) (at digits value : ℕ) → Spelling old at digits value old at digits
spelling_start old at digits value = record { fewer = omega arith; sum = refl; room = refl; rest = refl }

module _ {old text : List ℕ} {at digits value place left : ℕ} (h : Spelling old at digits value text place left) where
  pub spelling_next : {d : ℕ} → 0 < left → d ≡ digit (value / 2 ^ (4 * (left - 1)) % 16) → Spelling old at digits value (set text place d) (place + 1) (left - 1)
  spelling_next {d} more is =
      let back : suc (left - 1) ≡ left = omega arith in
      let one : place + 1 ≡ suc place = omega arith in
      let here : sets text place (hex (suc (left - 1)) value) ≡ sets old at (hex digits value) = rw back h.rest in
      let f = h.fewer in
      let s = h.sum in
      record {
        fewer = omega arith;
        sum = omega arith;
        room = length-set text place d ∙ h.room;
        rest = rw (one, is) (opened (left - 1) here);
      }
    where
      opened : (k : ℕ) → sets text place (hex (suc k) value) ≡ sets old at (hex digits value) →
          sets (set text place (digit (value / 2 ^ (4 * k) % 16))) (suc place) (hex k value) ≡ sets old at (hex digits value)
      opened k e = unfold hex in e

  pub spelling_end : at + digits ≤ length old → left ≤ 0 → PutsAtMost digits (hex digits value) old at text place
  spelling_end fits past =
      let z : left ≡ 0 = omega arith in
      let s = h.sum in
      record {
        puts = record { text = done z; place = rw (length-hex digits value) (omega arith); room = h.room; fits = rw (length-hex digits value) fits };
        most = omega arith;
      }
    where
      done : left ≡ 0 → text ≡ sets old at (hex digits value)
      done z = unfold hex in rw z at h.rest

-- ---- decimal digits

fuel_free : (j k n : ℕ) → n < j → n < k → decimal_in j n ≡ decimal_in k n
unfolding decimal_in
fuel_free zero k n p q = absurd (omega arith)
fuel_free (suc j) zero n p q = absurd (omega arith)
fuel_free (suc j) (suc k) n p q =
    by_case (ltb n 10) (λ e. rw e)
    (λ e. let big : 10 ≤ n = ltb-false n 10 e in rw (e, fuel_free j k (n / 10) (omega arith) (omega arith)))

pub decimal-small : {n : ℕ} → n < 10 → decimal n ≡ digit n ∷ []
unfolding decimal decimal_in
decimal-small {n} h = rw (lt-ltb n 10 h)

pub decimal_more : {n : ℕ} → 10 ≤ n → decimal n ≡ decimal (n / 10) ++ (digit (n % 10) ∷ [])
unfolding decimal decimal_in
decimal_more {n} h =
    rw (le-ltb n 10 h)
    (ap (λ (l : List ℕ). l ++ (digit (n % 10) ∷ [])) (fuel_free n (suc (n / 10)) (n / 10) (omega arith) (omega arith)))

pub decimal-few : (k n : ℕ) → n < 10 ^ suc k → length (decimal n) ≤ suc k
decimal-few zero n h = rw (decimal-small {n = n} (omega arith)) (omega arith)
decimal-few (suc k) n h =
    by_case (ltb n 10) (λ e. rw (decimal-small {n = n} (ltb-true n 10 e)) (omega arith))
    (λ e.
    let front : length (decimal (n / 10)) ≤ suc k = decimal-few k (n / 10) (tenth n (10 ^ suc k) (rw pow-suc at h)) in
    rw (decimal_more {n = n} (ltb-false n 10 e), length-append) (omega arith))
  where
    tenth : (n m : ℕ) → n < m * 10 → n / 10 < m
    tenth n m h = omega arith

-- a number of 64 bits has at most 20 digits, those but the last are at most 19
decimal-fits : (n : ℕ) → n < 2 ^ 64 → length (decimal n) ≤ most_digits
decimal-fits n h = decimal-few (most_digits - 1) n (omega arith)

tenth_fits : (n : ℕ) → n < 2 ^ 64 → suc (length (decimal (n / 10))) ≤ most_digits
tenth_fits n h = let few = decimal-few (most_digits - 2) (n / 10) (omega arith) in omega arith

at_most : {n : ℕ} {old new : List ℕ} {at next : ℕ} → n < 2 ^ 64 → Puts (decimal n) old at new next → PutsAtMost most_digits (decimal n) old at new next
at_most {n} small p = let few = decimal-fits n small in record { puts = p; most = omega (arith, p.place) }

pub puts-digit :
    {n d : ℕ} {old new : List ℕ} {at next : ℕ} → n < 10 → d ≡ digit n → Puts (d ∷ []) old at new next →
    PutsAtMost most_digits (decimal n) old at new next
puts-digit {n} h e p = let small : n < 2 ^ 64 = omega arith in at_most small (rw (decimal-small {n = n} h, ← e) p)

-- the digits but the last leave room for the last
pub tenth-room :
    {n : ℕ} {old mid : List ℕ} {at next : ℕ} → n < 2 ^ 64 → at + most_digits ≤ length old →
    PutsAtMost most_digits (decimal (n / 10)) old at mid next → next + 1 ≤ length mid
tenth-room {n} small fits p = let few = tenth_fits n small in omega (arith, p.puts.place, p.puts.room)

pub puts-decimal :
    {n d : ℕ} {old mid new : List ℕ} {at next last : ℕ} → n < 2 ^ 64 → 10 ≤ n →
    PutsAtMost most_digits (decimal (n / 10)) old at mid next → d ≡ digit (n % 10) → Puts (d ∷ []) mid next new last →
    PutsAtMost most_digits (decimal n) old at new last
puts-decimal {n} small h front e back = at_most small (rw (decimal_more {n = n} h, ← e) (puts_then front.puts back))

-- ---- fields and lines

pub puts-field :
    (n : ℕ) {word old mid new : List ℕ} {at next last : ℕ} → Puts word old at mid next → PutsAtMost most_digits (decimal n) mid next new last →
    PutsAtMost (length word + most_digits) (field word n) old at new last
unfolding field
puts-field n p q = record { puts = puts_then p q.puts; most = omega (arith, p.place, q.most) }

pub puts-name :
    (name physical comparisons : ℕ) {at p q r s next : ℕ} {old t u v w new : List ℕ} → PutsAtMost 2 (hex 2 name) old at t p →
    Puts (space ∷ []) t p u q → PutsAtMost 16 (hex 16 physical) u q v r →
    PutsAtMost (1 + most_digits) (field (space ∷ []) comparisons) v r w s → Puts (newline ∷ []) w s new next →
    PutsAtMost line_size (name_line name physical comparisons) old at new next
unfolding name_line letters
puts-name name physical comparisons a b c d e =
    record {
      puts = puts_then a.puts (puts_then b (puts_then c.puts (puts_then d.puts e)));
      most = omega (arith, a.most, b.place, c.most, d.most, e.place);
    }

-- the words of the lines, as the code has them
abbrev named_word : List ℕ
named_word = 110 ∷ 97 ∷ 109 ∷ 101 ∷ 100 ∷ 32 ∷ []

abbrev compares_word : List ℕ
compares_word = 32 ∷ 99 ∷ 111 ∷ 109 ∷ 112 ∷ 97 ∷ 114 ∷ 101 ∷ 115 ∷ 32 ∷ []

abbrev rounds_word : List ℕ
rounds_word = 32 ∷ 114 ∷ 111 ∷ 117 ∷ 110 ∷ 100 ∷ 115 ∷ 32 ∷ []

abbrev refused_word : List ℕ
refused_word = 114 ∷ 101 ∷ 102 ∷ 117 ∷ 115 ∷ 101 ∷ 100 ∷ 32 ∷ []

pub puts-totals :
    (given comparisons rounds : ℕ) {at p q r next : ℕ} {old t u v new : List ℕ} → PutsAtMost (6 + most_digits) (field named_word given) old at t p →
    PutsAtMost (10 + most_digits) (field compares_word comparisons) t p u q → PutsAtMost (8 + most_digits) (field rounds_word rounds) u q v r →
    Puts (newline ∷ []) v r new next → Puts (totals_line given comparisons rounds) old at new next
unfolding totals_line letters
puts-totals given comparisons rounds a b c d = puts_then a.puts (puts_then b.puts (puts_then c.puts d))

pub puts-refused :
    (reason : ℕ) {at p next : ℕ} {old t new : List ℕ} → PutsAtMost (8 + most_digits) (field refused_word reason) old at t p →
    Puts (newline ∷ []) t p new next → Puts (refused_line reason) old at new next
unfolding refused_line letters
puts-refused reason a b = puts_then a.puts b
