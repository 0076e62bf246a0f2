-- Laws of the places of a pass: a place is that of its step, and the next place's step is one more.
-- Assumes nothing.
use Rattle.std.proofs.Common.{ℕ, zero, suc, ◌+◌, ◌*◌, ◌-◌, ◌/◌, ◌%◌, ◌≤◌, ◌<◌, ◌≡◌, refl, true, arith, ltb, lt-ltb}
use Rattle.naming.specs.Rules.Pass.{PassPlace, PassPlace.poll, PassPlace.ask, PassPlace.give_name, PassPlace.give_high, PassPlace.give_low}
use Rattle.naming.specs.Rules.Pass.{PassPlace.baptize, Question, least, bit, Part, high, low, reply, question_of, part_of, give_of, ask_or_give, place_of}
use Rattle.naming.specs.Rules.Pass.{bits, give_step, last_step}
use Rattle.naming.specs.Inner.PassPlaces.{question_number, part_number, step_of}

-- a pass has the bits 63 to 0
pub data LegalQuestion : Question → Type 0 where
  of_least : LegalQuestion least
  of_bit : {b : ℕ} → b < bits → LegalQuestion (bit b)

pub question_le : (q : Question) → question_number q ≤ bits
unfolding question_number
question_le least = omega arith
question_le (bit b) = omega arith

pub part_lt : (r : Part) → part_number r < 3
unfolding part_number
part_lt high = omega arith
part_lt low = omega arith
part_lt reply = omega arith

question_back : {q : Question} → LegalQuestion q → question_of (question_number q) ≡ q
unfolding question_of question_number
question_back of_least = refl
question_back (of_bit {b = b} h) =
    let e : bits - b ≡ suc (bits - suc b) = omega arith in
    let f : bits - suc (bits - suc b) ≡ b = omega arith in
    rw (e, f)

part-back : (r : Part) → part_of (part_number r) ≡ r
unfolding part_of part_number
part-back high = refl
part-back low = refl
part-back reply = refl

-- the places of a pass but its last, and all of them
pub data Inner : PassPlace → Type 0 where
  at-poll : Inner poll
  at-ask : {q : Question} (r : Part) → LegalQuestion q → Inner (ask q r)
  at_name : Inner give_name
  at_high : Inner give_high
  at_low : Inner give_low

pub data LegalPlace : PassPlace → Type 0 where
  inner : {l : PassPlace} → Inner l → LegalPlace l
  at-baptize : LegalPlace baptize

-- a place is that of its step
place-ask : {q : Question} (r : Part) → LegalQuestion q → place_of (step_of (ask q r)) ≡ ask q r
unfolding place_of step_of ask_or_give
place-ask {q} r h =
    let small : suc (3 * question_number q + part_number r) < give_step = omega (arith, question_le q, part_lt r) in
    let t : ltb (suc (3 * question_number q + part_number r)) give_step ≡ true = lt-ltb _ _ small in
    let d : (3 * question_number q + part_number r) / 3 ≡ question_number q = omega (arith, part_lt r) in
    let m : (3 * question_number q + part_number r) % 3 ≡ part_number r = omega (arith, part_lt r) in
    rw (t, d, m, question_back h, part-back r)

pub place_of_step : {l : PassPlace} → LegalPlace l → place_of (step_of l) ≡ l
unfolding place_of step_of ask_or_give give_of
place_of_step (inner at-poll) = refl
place_of_step (inner (at-ask r h)) = place-ask r h
place_of_step (inner at_name) = refl
place_of_step (inner at_high) = refl
place_of_step (inner at_low) = refl
place_of_step at-baptize = refl

-- the next place of a pass, which baptize has not
unfoldable pub after_bit : ℕ → PassPlace
after_bit zero = give_name
after_bit (suc b) = ask (bit b) high

unfoldable pub after_place : PassPlace → PassPlace
after_place poll = ask least high
after_place (ask q high) = ask q low
after_place (ask q low) = ask q reply
after_place (ask least reply) = ask (bit 63) high
after_place (ask (bit b) reply) = after_bit b
after_place give_name = give_high
after_place give_high = give_low
after_place give_low = baptize
after_place baptize = baptize

step-after-bit : (b : ℕ) → b < bits → step_of (after_bit b) ≡ suc (step_of (ask (bit b) reply))
unfolding after_bit step_of question_number part_number
step-after-bit zero h = refl
step-after-bit (suc b) h = omega arith

pub step_after : {l : PassPlace} → Inner l → step_of (after_place l) ≡ suc (step_of l)
unfolding after_place step_of question_number part_number
step_after at-poll = refl
step_after (at-ask high h) = omega arith
step_after (at-ask low h) = omega arith
step_after (at-ask reply of_least) = refl
step_after (at-ask reply (of_bit {b = b} h)) = step-after-bit b h
step_after at_name = refl
step_after at_high = refl
step_after at_low = refl

legal-after-bit : (b : ℕ) → b < bits → LegalPlace (after_bit b)
unfolding after_bit
legal-after-bit zero h = inner at_name
legal-after-bit (suc b) h = let k : b < bits = omega arith in inner (at-ask high (of_bit k))

pub legal-after : {l : PassPlace} → Inner l → LegalPlace (after_place l)
unfolding after_place
legal-after at-poll = inner (at-ask high of_least)
legal-after (at-ask high h) = inner (at-ask low h)
legal-after (at-ask low h) = inner (at-ask reply h)
legal-after (at-ask reply of_least) = let k : 63 < bits = omega arith in inner (at-ask high (of_bit k))
legal-after (at-ask reply (of_bit {b = b} h)) = legal-after-bit b h
legal-after at_name = inner at_high
legal-after at_high = inner at_low
legal-after at_low = at-baptize

-- a pass has 200 places, baptize is the last
pub step_lt : {l : PassPlace} → Inner l → step_of l < last_step
unfolding step_of
step_lt at-poll = omega arith
step_lt (at-ask {q = q} r h) = omega (arith, question_le q, part_lt r)
step_lt at_name = omega arith
step_lt at_high = omega arith
step_lt at_low = omega arith

-- the comparisons that a place's round makes: one at an execute of record 2
unfoldable pub comparing : PassPlace → ℕ
comparing poll = 0
comparing (ask q high) = 0
comparing (ask q low) = 0
comparing (ask q reply) = 1
comparing give_name = 0
comparing give_high = 0
comparing give_low = 0
comparing baptize = 0
