-- The grounds of a run's names and position, 15 to 17 (document 01, "Grounds for turning something away"), and the start of a run.
use Rattle.std.specs.Prelude.{ℕ, List, [], ◌∷◌, ◌++◌, Bool, false, length, eqb, leb, ltb}
use Rattle.file.specs.Rules.Order.{Ground, first_of, both, either}
use Rattle.file.specs.Rules.Results.{Result, result_of}
use Rattle.file.specs.Rules.Cluster.{unnamed, broadcast}
use Rattle.file.specs.Rules.FileGrounds.{has_repeat}
use Rattle.naming.specs.Rules.Position.{Position, running, names_used_up, fresh}
use Rattle.naming.specs.Rules.Pass.{last_step}

-- 15. "A listed name is 0x00 or 0xFF."
unfoldable pub unfit_name : List ℕ → Bool
unfit_name [] = false
unfit_name (n ∷ ns) = either (either (eqb n broadcast) (eqb n unnamed)) (unfit_name ns)

-- 16. "A listed name occurs twice.", and the two in their order
unfoldable pub names_grounds : List ℕ → List Ground
names_grounds names =
    (15, unfit_name names) ∷ (16, has_repeat names) ∷ []

-- "either count 1,000,000 or more"
abbrev pub count_limit : ℕ
count_limit = 1_000_000

-- 17. "A stored run position has an end mark above 2 .., an index above the list's length, or, in a running position only, any of
-- these: an index equal to that length, a step above 199, either count 1,000,000 or more."; request 6: the halves are "not checked by 17"
unfoldable pub unfit_position : List ℕ → Position → Bool
unfit_position names p =
    either (ltb names_used_up p.end)
    (either (ltb (length names) p.place.index)
    (both (eqb p.end running)
    (either (eqb p.place.index (length names))
    (either (ltb last_step p.place.step)
    (either (leb count_limit p.counts.rounds) (leb count_limit p.counts.comparisons))))))

-- a fresh run takes the names alone; a step checks the names, then the position
unfoldable pub start_ground : List ℕ → ℕ
start_ground names = first_of (names_grounds names)

unfoldable pub run_grounds : List ℕ → Position → List Ground
run_grounds names p = names_grounds names ++ ((17, unfit_position names p) ∷ [])

-- making a fresh run
unfoldable pub start_over : List ℕ → Result Position
start_over names = result_of (start_ground names) (fresh names)
