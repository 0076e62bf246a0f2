-- The naming run (document 01, "The naming run", first paragraph; document 02, requests 6 and 9): the round that is next, the writes that are
-- needless and how the position moves on. All of any position's content; a position that no run reaches is carried on as it is.
use Rattle.std.specs.Prelude.{ℕ, suc, ◌+◌, ◌/◌, ◌%◌, ◌^◌, List, Bool, true, false, cond, not, length, get_or, eqb}
use Rattle.std.specs.Int.Bits.{bit_or}
use Rattle.file.specs.Rules.Order.{both}
use Rattle.naming.specs.Rules.RunRounds.{RunRound, half, RunRound.poll as poll_of, RunRound.write_name, RunRound.write_high, RunRound.write_low, RunRound.compare}
use Rattle.naming.specs.Rules.RunRounds.{RunRound.baptize as baptize_all}
use Rattle.naming.specs.Rules.Position.{Place, Counts, Halves, Position, all_named_lem, end_at}
use Rattle.naming.specs.Rules.Pass.{Question, least, bit, high, low, reply, PassPlace, poll, ask, give_name, give_high, give_low, baptize, place_of}

-- ---- the next round of a running position

-- the value that a comparison sends
unfoldable pub tried : Question → ℕ → ℕ
tried least value = 0
tried (bit b) value = bit_or value (2 ^ b)

-- the round at a place, for a name and the value so far
-- "Slips seen in drafts: finding the least name ..; trusting the last IDCV sent, which may hold a dropped bit.": give_high and give_low
-- send the value
unfoldable pub round_at : PassPlace → ℕ → ℕ → RunRound
round_at poll name value = poll_of name
round_at (ask q high) name value = write_high (tried q value / half)
round_at (ask q low) name value = write_low (tried q value % half)
round_at (ask q reply) name value = compare
round_at give_name name value = write_name name
round_at give_high name value = write_high (value / half)
round_at give_low name value = write_low (value % half)
round_at baptize name value = baptize_all

-- the one at a position's step
unfoldable pub round_here : List ℕ → Position → RunRound
round_here names p = round_at (place_of p.place.step) (get_or names p.place.index 0) p.place.value

-- a position with those halves last written
abbrev pub with_halves : Halves → Position → Position
with_halves halves p = record { end = p.end; place = p.place; counts = p.counts; halves = halves }

-- the halves last written, once a round is made
unfoldable pub wrote : RunRound → Position → Position
wrote (poll_of n) p = p
wrote (write_name n) p = p
wrote (write_high h) p = with_halves (record { high = h; low = p.halves.low }) p
wrote (write_low l) p = with_halves (record { high = p.halves.high; low = l }) p
wrote compare p = p
wrote baptize_all p = p

-- ---- which writes are needless

-- request 6: "The first comparison of a pass writes both halves"
unfoldable pub is_first : PassPlace → Bool
is_first poll = false
is_first (ask least r) = true
is_first (ask (bit b) r) = false
is_first give_name = false
is_first give_high = false
is_first give_low = false
is_first baptize = false

-- request 6: "after it, record 2 or 3 is written exactly if its four bytes differ from those last written in that pass": a half that is
-- the one last written, as the position has it
unfoldable pub is_repeated : RunRound → Position → Bool
is_repeated (poll_of n) p = false
is_repeated (write_name n) p = false
is_repeated (write_high h) p = eqb h p.halves.high
is_repeated (write_low l) p = eqb l p.halves.low
is_repeated compare p = false
is_repeated baptize_all p = false

unfoldable pub is_needless : List ℕ → Position → Bool
is_needless names p = both (not (is_first (place_of p.place.step))) (is_repeated (round_here names p) p)

-- the place of another step of the same name, with a value
abbrev pub place_at : ℕ → ℕ → Place → Place
place_at step value l = record { index = l.index; step = step; value = value }

-- a position at another step
unfoldable pub at_step : ℕ → Position → Position
at_step step p = record { end = p.end; place = place_at step p.place.value p.place; counts = p.counts; halves = p.halves }

-- past a needless write; and since at most two writes of halves follow one another, past two is (request 6) "at the next round really
-- made (handed in at a needless write, it moves on to it)"
unfoldable pub pass_over : List ℕ → Position → Position
pass_over names p = cond (is_needless names p) (at_step (suc p.place.step) p) p

unfoldable pub onto : List ℕ → Position → Position
onto names p = pass_over names (pass_over names p)

-- the next round of a pass
unfoldable pub pass_round : List ℕ → Position → RunRound
pass_round names p = round_here names (onto names p)

-- request 9: "A naming run with a non-empty list begins with one extra read of 0x3D record 1 at its first name, its reply ignored. It is due
-- exactly while a running position counts no round": in a stored position too, whatever its index and step
unfoldable pub is_extra : Position → Bool
is_extra p = eqb p.counts.rounds 0

-- the next round of a running position: the extra read, then its pass's
unfoldable pub next_round : List ℕ → Position → RunRound
next_round names p = cond (is_extra p) (poll_of (get_or names 0 0)) (pass_round names p)

-- ---- how the position moves on, by the answer: someone sent in slot 1

-- one more round made, and so many comparisons in all
abbrev pub round_made : Counts → ℕ → Counts
round_made c comparisons = record { rounds = suc c.rounds; comparisons = comparisons }

-- to the pass's next round, with a value and so many more comparisons made
unfoldable pub onward : Position → ℕ → ℕ → Position
onward p value more =
    record { end = p.end; place = place_at (suc p.place.step) value p.place; counts = round_made p.counts (p.counts.comparisons + more); halves = p.halves }

-- "A name done raises the index and puts the step to 0"
abbrev pub next_index : Place → Place
next_index l = record { index = suc l.index; step = 0; value = l.value }

unfoldable pub next_name : ℕ → Position → Position
next_name count p =
    record { end = end_at count (suc p.place.index); place = next_index p.place; counts = round_made p.counts p.counts.comparisons; halves = p.halves }

-- "silence ends the run, "all named""; ""all named" leaves both"
unfoldable pub end_all_named : Position → Position
end_all_named p = record { end = all_named_lem; place = p.place; counts = round_made p.counts (suc p.counts.comparisons); halves = p.halves }

-- "For each name: read 0x3D record 1 there; a reply in slot 1 means taken, go to the next name."
-- "Else compare with 0; silence ends the run, "all named"."
-- "Else, the value set to 0, from bit 63 down to bit 0, compare with the value so far with that bit set, keeping the bit on a
-- reply: 64 comparisons."
unfoldable pub move_on : PassPlace → ℕ → Position → Bool → Position
move_on poll count p answered = cond answered (next_name count p) (onward p p.place.value 0)
move_on (ask q high) count p answered = onward p p.place.value 0
move_on (ask q low) count p answered = onward p p.place.value 0
move_on (ask least reply) count p answered = cond answered (onward p 0 1) (end_all_named p)
move_on (ask (bit b) reply) count p answered = onward p (cond answered (tried (bit b) p.place.value) p.place.value) 1
move_on give_name count p answered = onward p p.place.value 0
move_on give_high count p answered = onward p p.place.value 0
move_on give_low count p answered = onward p p.place.value 0
move_on baptize count p answered = next_name count p

-- from a pass's round really made to the next one: request 6, it "stands at the next round really made"
unfoldable pub pass_advance : List ℕ → Position → Bool → Position
pass_advance names p answered =
    let q = onto names p in onto names (move_on (place_of q.place.step) (length names) (wrote (round_here names q) q) answered)

-- request 9: the extra read, "its reply ignored", "raises that count alone": it passes over no needless write either
unfoldable pub count_raised : Position → Position
count_raised p = record { end = p.end; place = p.place; counts = round_made p.counts p.counts.comparisons; halves = p.halves }

-- from the next round of a running position on
unfoldable pub advance : List ℕ → Position → Bool → Position
advance names p answered = cond (is_extra p) (count_raised p) (pass_advance names p answered)
