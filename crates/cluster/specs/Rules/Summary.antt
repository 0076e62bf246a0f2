-- Who holds a logical name (document 02, job 8): the summary that stands beside a file, the filling of it, the question, and a frame on a
-- file that is given it. "Keep a summary beside the file: a count and, in a lent slice that a call fills from the file, each slave's
-- logical name in table order."
use Rattle.std.specs.Prelude.{ℕ, suc, List, [], ◌∷◌, ◌++◌, Bool, true, false, cond, not, length, take, drop, eqb, ltb}
use Rattle.file.specs.Rules.Order.{first_of, both, either}
use Rattle.file.specs.Rules.Results.{Result, refused, done}
use Rattle.file.specs.Rules.Cluster.{Slave, Cluster, logical_name, logical_names}
use Rattle.file.specs.Rules.Decode.{decode}
use Rattle.file.specs.Rules.FileGrounds.{file_grounds}
use Rattle.cluster.specs.Rules.RoundGrounds.{short_answer, round_by_lem, grounds_on}
use Rattle.cluster.specs.Rules.Round.{Answer, round_on}

-- "Every round and naming step may be given the summary": none, or a count and the lent slice
pub data Summary : Type 0 where
  without : Summary
  kept : ℕ → List ℕ → Summary

-- two lists of names are the same
unfoldable pub alike : List ℕ → List ℕ → Bool
alike [] [] = true
alike [] (m ∷ ms) = false
alike (n ∷ ns) [] = false
alike (n ∷ ns) (m ∷ ms) = both (eqb n m) (alike ns ms)

-- 24. "a summary that does not match its file when handed in for a round or naming step": by the file's logical names in table order.
-- The count is not above the slice's length, and the slice begins with that many names, which are the file's.
unfoldable pub wrong_summary : Summary → List ℕ → Bool
wrong_summary without names = false
wrong_summary (kept count slice) names = either (ltb (length slice) count) (not (alike (take count slice) names))

-- ---- the calls that keep it

-- "and keeps it true": the names in front of whatever else the slice holds
unfoldable pub kept_for : Summary → List ℕ → Summary
kept_for without names = without
kept_for (kept count slice) names = kept count (names ++ drop (length names) slice)

-- a round given the summary: the file's grounds, 24 "after 8", then those of the round
unfoldable pub round_keeping_ground : List ℕ → Summary → List ℕ → List ℕ → ℕ
round_keeping_ground file summary frame buffer =
    first_of
    (file_grounds file ++ (24, wrong_summary summary (logical_names (decode file))) ∷
    (9, short_answer buffer) ∷ grounds_on (decode file) (round_by_lem frame) frame)

-- answer, buffer, file and summary: "A refusal returns its number and alters nothing lent" (document 01)
unfoldable pub round_keeping : List ℕ → Summary → List ℕ → List ℕ → Answer × List ℕ × List ℕ × Summary
round_keeping file summary frame buffer =
    let reason = round_keeping_ground file summary frame buffer in let r = round_on file frame buffer in
    cond (eqb reason 0) (r.0, r.1, r.2, kept_for summary (logical_names (decode r.2))) (refused reason, buffer, file, summary)

-- ---- the filling: "a lent slice that a call fills from the file"

-- 24. "for .. the filling a count above the slice's length, after 8": the count is that of the file's slaves
unfoldable pub fill_ground : List ℕ → List ℕ → ℕ
fill_ground file slice = first_of (file_grounds file ++ (24, ltb (length slice) (length (decode file).slaves)) ∷ [])

-- the count, and the slice
unfoldable pub fill_on : List ℕ → List ℕ → Result ℕ × List ℕ
fill_on file slice =
    let reason = fill_ground file slice in let count = length (decode file).slaves in
    cond (eqb reason 0) (done count, logical_names (decode file) ++ drop count slice) (refused reason, slice)

-- ---- the question: "a slave's place in the slave table (0 the first) for a logical name"

-- "or that nobody holds it"
pub data Held : Type 0 where
  nobody : Held
  at : ℕ → Held

-- "The question stops at the first holder": along names, of which the first stands at a place
unfoldable pub first_from : ℕ → ℕ → List ℕ → Held
first_from name place [] = nobody
first_from name place (n ∷ ns) = cond (eqb n name) (at place) (first_from name (suc place) ns)

-- of a name, a count and a slice. 24. "for the question .. a count above the slice's length"
unfoldable pub holder_in : ℕ → ℕ → List ℕ → Result Held
holder_in name count slice = cond (ltb (length slice) count) (refused 24) (done (first_from name 0 (take count slice)))

-- "what a full reading of the file gives": along the slaves, of which the first stands at a place
unfoldable pub holder_from : ℕ → ℕ → List Slave → Held
holder_from name place [] = nobody
holder_from name place (s ∷ ss) = cond (eqb (logical_name s) name) (at place) (holder_from name (suc place) ss)

unfoldable pub first_holder : Cluster → ℕ → Held
first_holder c name = holder_from name 0 c.slaves
