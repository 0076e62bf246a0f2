-- The plain account (document 01's term; "The naming run", second paragraph; document 02, requests 6 and 9) that the naming run is measured
-- against. It knows what a round is for, and nothing of frames, positions and comparison values.
use Rattle.std.specs.Prelude.{ℕ, zero, suc, ◌+◌, ◌-◌, ◌/◌, ◌%◌, ◌^◌, List, [], ◌∷◌, ◌++◌, map, cond, take, replicate, eqb, ltb}
use Rattle.file.specs.Rules.Order.{first_of, both}
use Rattle.file.specs.Rules.Cluster.{Slave, Cluster, physical_name, logical_name, unnamed}
use Rattle.file.specs.Rules.FileGrounds.{is_among}
use Rattle.cluster.specs.Rules.RoundGrounds.{short_answer}
use Rattle.cluster.specs.Rules.Summary.{Summary, wrong_summary}

-- a slave's physical and logical name
pub record Named : Type 0 where
  pub physical : ℕ
  pub logical : ℕ

unfoldable pub names_of : Slave → Named
names_of s = record { physical = physical_name s; logical = logical_name s }

-- those of a cluster's slaves, in table order
unfoldable pub names_in_lem : Cluster → List Named
names_in_lem c = map names_of c.slaves

-- "It keeps the names left, the unnamed physical names in falling order, each slave's logical name, the names held at the start,
-- the end, both totals and k, the rounds of this pass." The end is 0 (none yet), 1 ("all named") or 2 ("names used up"); of the
-- comparisons it keeps those of the passes done.
pub record Account : Type 0 where
  pub left : List ℕ
  pub waiting : List ℕ
  pub slaves : List Named
  pub held : List ℕ
  pub end : ℕ
  pub rounds : ℕ
  pub done : ℕ
  pub k : ℕ

-- 1 if a bit of a number is 0, else 0
unfoldable pub bit_clear : ℕ → ℕ → ℕ
bit_clear b p = 1 - p / 2 ^ b % 2

-- request 6: "A pass that names a slave then makes exactly 134 rounds, plus 1 if bit 32 of its physical name is 0, plus 1 if bit 0 is 0."
unfoldable pub naming_rounds : ℕ → ℕ
naming_rounds p = 134 + bit_clear 32 p + bit_clear 0 p

-- "A pass for a name held at the start is 1 round. For a free one it is .. 65 comparisons ..; if none is left it is 4 and 1"
abbrev pub naming_comparisons : ℕ
naming_comparisons = 65

abbrev pub ending_rounds : ℕ
ending_rounds = 4

abbrev pub ending_comparisons : ℕ
ending_comparisons = 1

-- ---- a pass that names a slave, its rounds written out in order

-- what a round does: it reads, writes a record, or executes; "A comparison is three rounds at 0xFF: write record 2, write record 3, execute
-- record 2", and the execute of record 1 gives the name
pub data RoundKind : Type 0 where
  read_round write_round compare_round name_round : RoundKind

-- so many comparisons, one after the other, each with one half to write
unfoldable pub one_half_each : ℕ → List RoundKind
one_half_each zero = []
one_half_each (suc n) = write_round ∷ compare_round ∷ one_half_each n

-- "read 0x3D record 1 there", "compare with 0", and "from bit 63 down to bit 0, compare"; request 6: "The first comparison of a pass writes both
-- halves; after it, record 2 or 3 is written exactly if its four bytes differ": the high half for bits 63 to 32 and the low half for
-- bits 31 to 0; between the two the high half once more, if bit 32, tried last, was not kept
unfoldable pub search_rounds : ℕ → List RoundKind
search_rounds again =
    read_round ∷ write_round ∷ write_round ∷ compare_round ∷ (one_half_each 32 ++ (replicate again write_round ++ one_half_each 32))

-- "Then write 00 00 name FF to record 1, the value to records 2 and 3, execute record 1": of the value only the low half, if bit 0, tried
-- last, was not kept
unfoldable pub giving_rounds : ℕ → List RoundKind
giving_rounds again = write_round ∷ (replicate again write_round ++ (name_round ∷ []))

-- the pass, by the physical name that it finds. Claims/Passes: the run makes just these rounds, and there are `naming_rounds` of them
unfoldable pub naming_pass : ℕ → List RoundKind
naming_pass p = search_rounds (bit_clear 32 p) ++ giving_rounds (bit_clear 0 p)

-- request 6: "it counts a comparison at its execute"
unfoldable pub compares_in : List RoundKind → ℕ
compares_in [] = 0
compares_in (read_round ∷ rs) = compares_in rs
compares_in (write_round ∷ rs) = compares_in rs
compares_in (compare_round ∷ rs) = suc (compares_in rs)
compares_in (name_round ∷ rs) = compares_in rs

-- the comparisons after k rounds of a pass: all of them are among the rounds of the search. Claims/Passes has them as a formula
unfoldable pub comparisons_after : ℕ → ℕ → ℕ
comparisons_after again k = compares_in (take k (search_rounds again))

-- how often the high half is written once more in the pass for the first of those who wait
unfoldable pub high_again : List ℕ → ℕ
high_again [] = 0
high_again (p ∷ ps) = bit_clear 32 p

-- the total of comparisons
unfoldable pub comparisons_of : Account → ℕ
comparisons_of a = a.done + comparisons_after (high_again a.waiting) a.k

-- ---- the start

-- a number put into its place in a falling list, and a list in falling order
unfoldable pub insert : ℕ → List ℕ → List ℕ
insert p [] = p ∷ []
insert p (q ∷ qs) = cond (ltb p q) (q ∷ insert p qs) (p ∷ q ∷ qs)

unfoldable pub falling : List ℕ → List ℕ
falling [] = []
falling (p ∷ ps) = insert p (falling ps)

-- the physical names of the unnamed slaves
unfoldable pub unnamed_among : List Named → List ℕ
unnamed_among [] = []
unnamed_among (s ∷ ss) = cond (eqb s.logical unnamed) (s.physical ∷ unnamed_among ss) (unnamed_among ss)

-- the logical names that the slaves hold
unfoldable pub names_held : List Named → List ℕ
names_held ss = map (λ (s : Named). s.logical) ss

-- the end with those names left: "with no name left, also at the start, the end is "names used up""
unfoldable pub end_with : List ℕ → ℕ
end_with [] = 2
end_with (n ∷ ns) = 0

-- "The plain account it is measured against is fed the file and names at the start"
unfoldable pub account_of : List Named → List ℕ → Account
account_of slaves names = record { left = names; waiting = falling (unnamed_among slaves); slaves = slaves; held = names_held slaves; end = end_with names; rounds = 0; done = 0; k = 0 }

-- ---- a round of a step: "adds 1 to the rounds and to k"

-- the pass goes on, with that end
unfoldable pub go_on_lem : Account → ℕ → Account
go_on_lem a end = record { left = a.left; waiting = a.waiting; slaves = a.slaves; held = a.held; end = end; rounds = suc a.rounds; done = a.done; k = suc a.k }

-- "Any other pass done drops its name and puts k to 0; with no name left .. the end is "names used up""
unfoldable pub pass_done : Account → List ℕ → List ℕ → List Named → ℕ → Account
pass_done a left waiting slaves more = record { left = left; waiting = waiting; slaves = slaves; held = a.held; end = end_with left; rounds = suc a.rounds; done = a.done + more; k = 0 }

-- "its last round gives the name to the greatest physical name"
unfoldable pub give : ℕ → ℕ → Named → Named
give p n s = record { physical = s.physical; logical = cond (eqb s.physical p) n s.logical }

-- "if none is left it is 4 and 1 and ends the run, "all named""
unfoldable pub free_pass : Account → ℕ → List ℕ → List ℕ → Account
free_pass a n ns [] = cond (eqb (suc a.k) ending_rounds) (go_on_lem a 1) (go_on_lem a a.end)
free_pass a n ns (p ∷ ps) =
    cond (eqb (suc a.k) (naming_rounds p)) (pass_done a ns ps (map (give p n) a.slaves) naming_comparisons) (go_on_lem a a.end)

unfoldable pub pass : Account → List ℕ → Account
pass a [] = a
pass a (n ∷ ns) = cond (is_among n a.held) (pass_done a ns a.waiting a.slaves 0) (free_pass a n ns a.waiting)

-- a round of the pass, until the end
unfoldable pub pass_on : Account → Account
pass_on a = cond (eqb a.end 0) (pass a a.left) a

-- request 9: "A naming run with a non-empty list begins with one extra read"; it "raises that count alone": k stays, it is no round of the pass
unfoldable pub extra : Account → Account
extra a = record { left = a.left; waiting = a.waiting; slaves = a.slaves; held = a.held; end = a.end; rounds = suc a.rounds; done = a.done; k = a.k }

-- "Each step that no numbered ground refuses for those arguments, until the end, adds 1 to the rounds and to k."; request 9: "due exactly
-- while a running position counts no round", "the run is one round longer, and the account .. say so"
unfoldable pub one_round : Account → Account
one_round a = cond (both (eqb a.end 0) (eqb a.rounds 0)) (extra a) (pass_on a)

-- ---- the calls

-- "then each call's arguments other than file, run and names": of a step its answer buffer, of a frame its bytes and its answer buffer;
-- and of both the summary (document 02, job 8: "Every round and naming step may be given the summary")
pub record StepArguments : Type 0 where
  pub summary : Summary
  pub buffer : List ℕ

pub record FrameArguments : Type 0 where
  pub summary : Summary
  pub bytes : List ℕ
  pub buffer : List ℕ

pub data Call : Type 0 where
  step : StepArguments → Call
  frame : FrameArguments → Call

-- the ground that refuses a step "for those arguments", the slaves being as the account has them, 0 if there is none: 24, a summary that
-- is not that of the account's slaves, and 9 are those that they can meet
unfoldable pub arguments_ground : List Named → StepArguments → ℕ
arguments_ground slaves arguments =
    first_of ((24, wrong_summary arguments.summary (names_held slaves)) ∷ (9, short_answer arguments.buffer) ∷ [])

-- "Each step that no numbered ground refuses for those arguments"; "Refused calls and others' rounds change nothing here."
unfoldable pub account_call : Account → Call → Account
account_call a (step arguments) = cond (eqb (arguments_ground a.slaves arguments) 0) (one_round a) a
account_call a (frame arguments) = a

unfoldable pub account_after : Account → List Call → Account
account_after a [] = a
account_after a (c ∷ cs) = account_after (account_call a c) cs
