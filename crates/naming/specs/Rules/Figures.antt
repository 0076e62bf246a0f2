-- The closed figures of a whole run (document 01, demand 3), from the slaves and the listed names at the start alone: u unnamed
-- slaves, f listed names held by nobody.
use Rattle.std.specs.Prelude.{ℕ, zero, suc, ◌+◌, ◌*◌, min, ◌≡◌, List, [], ◌∷◌, map, cond, length, eqb, ltb}
use Rattle.file.specs.Rules.FileGrounds.{is_among}
use Rattle.naming.specs.Rules.Position.{all_named_lem, names_used_up}
use Rattle.naming.specs.Rules.Account.{Named, falling, unnamed_among, names_held, naming_rounds, naming_comparisons, ending_rounds, ending_comparisons}

-- the listed names that are held, and those that are free, by the names held at the start
unfoldable pub taken_names : List ℕ → List ℕ → List ℕ
taken_names held [] = []
taken_names held (n ∷ ns) = cond (is_among n held) (n ∷ taken_names held ns) (taken_names held ns)

unfoldable pub free_names : List ℕ → List ℕ → List ℕ
free_names held [] = []
free_names held (n ∷ ns) = cond (is_among n held) (free_names held ns) (n ∷ free_names held ns)

-- the listed names before free name number u + 1, all if there is no such name
unfoldable pub before_free : List ℕ → ℕ → List ℕ → List ℕ
before_free held u [] = []
before_free held zero (n ∷ ns) = cond (is_among n held) (n ∷ before_free held zero ns) []
before_free held (suc u) (n ∷ ns) = n ∷ before_free held (cond (is_among n held) (suc u) u) ns

-- "Taken names tried are the listed names held at the start, if u < f only those before free name number u + 1."
unfoldable pub taken_tried : List ℕ → ℕ → List ℕ → ℕ
taken_tried held u names =
    cond (ltb u (length (free_names held names))) (length (taken_names held (before_free held u names))) (length (taken_names held names))

-- the names given: the greatest physical names "in falling order", by the free names in list order, while both last
unfoldable pub givings : List ℕ → List ℕ → List Named
givings [] ns = []
givings (p ∷ ps) [] = []
givings (p ∷ ps) (n ∷ ns) = record { physical = p; logical = n } ∷ givings ps ns

-- a physical name's logical name by what was given, else the old one
unfoldable pub name_given : List Named → ℕ → ℕ → ℕ
name_given [] p old = old
name_given (g ∷ gs) p old = cond (eqb p g.physical) g.logical (name_given gs p old)

-- everyone else's name is unchanged
unfoldable pub renamed : List Named → Named → Named
renamed gs s = record { physical = s.physical; logical = name_given gs s.physical s.logical }

unfoldable pub names_after : List Named → List ℕ → List Named
names_after slaves names = map (renamed (givings (falling (unnamed_among slaves)) (free_names (names_held slaves) names))) slaves

-- request 6: "the sum of these figures over the slaves named"
unfoldable pub naming_sum : List Named → ℕ
naming_sum [] = 0
naming_sum (g ∷ gs) = naming_rounds g.physical + naming_sum gs

-- request 9: "A naming run with a non-empty list begins with one extra read"
unfoldable pub extra_for : List ℕ → ℕ
extra_for [] = 0
extra_for (n ∷ ns) = 1

-- the rounds of the whole run: that sum over the min(u, f) slaves named, plus 4 if u < f, plus one for each taken name tried; request 9: "the
-- run is one round longer"
unfoldable pub rounds_for : List Named → List ℕ → ℕ
rounds_for slaves names =
    let held = names_held slaves in let u = length (unnamed_among slaves) in let f = length (free_names held names) in
    naming_sum (givings (falling (unnamed_among slaves)) (free_names held names)) + cond (ltb u f) ending_rounds 0 + taken_tried held u names + extra_for names

-- and its comparisons: 65 min(u, f), plus 1 if u < f
unfoldable pub comparisons_for : List Named → List ℕ → ℕ
comparisons_for slaves names =
    let u = length (unnamed_among slaves) in let f = length (free_names (names_held slaves) names) in
    naming_comparisons * min u f + cond (ltb u f) ending_comparisons 0

-- its end mark: "all named" if u < f, since a free name is left that nobody takes, else "names used up"
unfoldable pub end_for : List Named → List ℕ → ℕ
end_for slaves names = cond (ltb (length (unnamed_among slaves)) (length (free_names (names_held slaves) names))) all_named_lem names_used_up

-- the rounds of a run that finds nobody unnamed: the extra read, the taken names before its first free one, 4 if it has a free one
unfoldable pub rounds_for_nobody : List ℕ → List ℕ → ℕ
rounds_for_nobody held names = extra_for names + taken_tried held 0 names + cond (ltb 0 (length (free_names held names))) ending_rounds 0

-- request 11: by how much the extra reads of two runs are more than that of one run over both lists: by one if neither list is empty
unfoldable pub extra_again : List ℕ → List ℕ → ℕ
extra_again [] B = 0
extra_again (n ∷ A) [] = 0
extra_again (n ∷ A) (m ∷ B) = 1

-- what a run over these names that began with these slaves has come to, by its end mark, its counts and the slaves now: it has
-- ended exactly when its rounds are the figure, and then comparisons and names are theirs
pub record Outcome (slaves : List Named) (names : List ℕ) (now : List Named) (end rounds comparisons : ℕ) : Type 0 where
  pub ended : (end ≡ 0 → ⊥) → rounds ≡ rounds_for slaves names
  pub ends : rounds ≡ rounds_for slaves names → end ≡ 0 → ⊥
  pub compared : (end ≡ 0 → ⊥) → comparisons ≡ comparisons_for slaves names
  pub named : (end ≡ 0 → ⊥) → now ≡ names_after slaves names
