-- The end mark of a whole run; the rounds and comparisons of a run over A, of one over B after it, and of one over both.
-- Assumes nothing.
use Prim.Native.Nat.{ℕ, suc, ◌+◌, ◌-◌, ◌≤◌}
use mathlib.Core.Path.{◌≡◌, refl, sym, ap, ap₂, ◌∙◌, subst}
use mathlib.Core.List.{List, [], ◌∷◌, ◌++◌, map, append-nil}
use mathlib.Core.Bool.{Bool, true, false, cond}
use native.Mathlib.Omega.{arith}
use lib.ListN.{length, drop, length-drop}
use lib.Dec.{eqb, ltb, leb-suc-suc}
use borrow.Author.Tests.{lt-ltb, le-ltb, ltb-true, ltb-false}
use Rattle.file.specs.Rules.Bytes.{Bytes, All, All.all_empty, All.all_next as also}
use Rattle.file.specs.Rules.Order.{both}
use Rattle.file.specs.Rules.Decode.{decode}
use Rattle.file.specs.Rules.Legal.{Distinct}
use Rattle.file.specs.Rules.FileGrounds.{is_among, file_ground}
use Rattle.file.proofs.Order.{by_case, clash}
use Rattle.file.proofs.Accepted.{accepted-legal}
use Rattle.file.proofs.Bytes.{all_append, all_map}
use Rattle.naming.specs.Rules.Position.{Position, all_named_lem, names_used_up}
use Rattle.naming.specs.Rules.RunGrounds.{start_ground}
use Rattle.naming.specs.Rules.Account.{Named, Account, Call, step, frame, arguments_ground, account_call, account_after, account_of}
use Rattle.naming.specs.Rules.Account.{end_with, one_round, extra, pass_on, pass, free_pass, pass_done, go_on_lem, give, falling, unnamed_among}
use Rattle.naming.specs.Rules.Account.{names_held, names_in_lem, naming_rounds, naming_comparisons, ending_rounds, ending_comparisons}
use Rattle.naming.specs.Rules.Figures.{free_names, givings, naming_sum, rounds_for, comparisons_for, names_after, end_for, rounds_for_nobody}
use Rattle.naming.specs.Rules.Figures.{extra_again}
use Rattle.naming.specs.Claims.PermittedRounds.{file_after, run_after}
use Rattle.naming.specs.Claims.TwoLists.{ToItsEnd, EndMark, SecondRun, SecondFinds, RunsTogether, TwoRuns}
use Rattle.naming.proofs.Facts.{Facts, physicals, fall_first, not_among, drop-taken, give_physicals, give-greatest}
use Rattle.naming.proofs.Sorted.{length-falling}
use Rattle.naming.proofs.Start.{Slaves, Names, start-facts}
use Rattle.naming.proofs.AccountRounds.{account}
use Rattle.naming.proofs.Tally.{due, due_comparisons, finally, extra_due, extra_left, free_taken, due-taken, due-comparisons-taken}
use Rattle.naming.proofs.Demand.{rounds-whole, comparisons-whole}
use Rattle.naming.proofs.FromFile.{legal-slaves, accepted-names}
use Rattle.naming.proofs.OverBytes.{demand_3, bytes_after}
use Rattle.naming.proofs.TwoLists.{waiting-unnamed, free-same, none_left, none-waits, first_taken, first-given, facts-after, renamed_physicals}
use Rattle.naming.proofs.TwoLists.{at-start, joined-names, joined_ground}

-- ---- whether there are more free names than slaves that wait: no pass changes it

abbrev outnumber : List ℕ → List ℕ → List ℕ → Bool
outnumber held ws names = ltb (length ws) (length (free_names held names))

no_free : (held ws : List ℕ) → outnumber held ws [] ≡ false
unfolding free_names
no_free held ws = le-ltb (length ws) 0 (omega arith)

module _ (held : List ℕ) (n : ℕ) (ns : List ℕ) where
  outnumber_taken : (ws : List ℕ) → is_among n held ≡ true → outnumber held ws (n ∷ ns) ≡ outnumber held ws ns
  outnumber_taken ws t = ap (λ (l : List ℕ). ltb (length ws) (length l)) (free_taken n ns held t)

  outnumber_none : is_among n held ≡ false → outnumber held [] (n ∷ ns) ≡ true
  unfolding free_names
  outnumber_none f = rw f (lt-ltb 0 (suc (length (free_names held ns))) (omega arith))

  outnumber_given : (p : ℕ) (ps : List ℕ) → is_among n held ≡ false → outnumber held (p ∷ ps) (n ∷ ns) ≡ outnumber held ps ns
  unfolding free_names
  outnumber_given p ps f = rw (f, leb-suc-suc (suc (length ps)) (length (free_names held ns)))

free_both : (held A B : List ℕ) → length (free_names held (A ++ B)) ≡ length (free_names held A) + length (free_names held B)
unfolding free_names
free_both held [] B = omega arith
free_both held (n ∷ A) B =
    by_case (is_among n held) (λ t. rw t (free_both held A B)) (λ t. rw t (omega (arith, free_both held A B)))

less_within : (u f g : ℕ) → ltb u f ≡ true → ltb u (f + g) ≡ true
less_within u f g e = let less = ltb-true u f e in lt-ltb u (f + g) (omega arith)

less_beyond : (u f g : ℕ) → ltb u f ≡ false → ltb u (f + g) ≡ ltb (u - f) g
less_beyond u f g e =
    let most : f ≤ u = ltb-false u f e in
    by_case (ltb (u - f) g)
    (λ t. let less = ltb-true (u - f) g t in rw t (lt-ltb u (f + g) (omega arith)))
    (λ t. let more : g ≤ u - f = ltb-false (u - f) g t in rw t (le-ltb u (f + g) (omega arith)))

-- so whether it is so over both lists: by the first alone if it is so there
outnumber_within : (held ws A B : List ℕ) → outnumber held ws A ≡ true → outnumber held ws (A ++ B) ≡ true
outnumber_within held ws A B more = rw (free_both held A B) (less_within (length ws) _ (length (free_names held B)) more)

-- else by the second, for those who wait still
outnumber-beyond :
    (held ws A B : List ℕ) → outnumber held ws A ≡ false →
    outnumber held ws (A ++ B) ≡ outnumber held (drop (length (free_names held A)) ws) B
outnumber-beyond held ws A B few =
    rw (free_both held A B, length-drop (length (free_names held A)) ws)
    (less_beyond (length ws) (length (free_names held A)) (length (free_names held B)) few)

-- ---- the end mark

data Marked (more : Bool) : Account → Type 0 where
  going :
      {n rounds done k : ℕ} {ns ws held : List ℕ} {slaves : List Named} → outnumber held ws (n ∷ ns) ≡ more →
      Marked more (account (n ∷ ns) ws slaves held 0 rounds done k)
  all_named :
      {rounds done k : ℕ} {left ws held : List ℕ} {slaves : List Named} → more ≡ true →
      Marked more (account left ws slaves held all_named_lem rounds done k)
  used-up :
      {rounds done k : ℕ} {left ws held : List ℕ} {slaves : List Named} → more ≡ false →
      Marked more (account left ws slaves held names_used_up rounds done k)

module _ (more : Bool) where
  mark-next :
      (ns ws : List ℕ) (slaves : List Named) (held : List ℕ) (rounds done : ℕ) → outnumber held ws ns ≡ more →
      Marked more (account ns ws slaves held (end_with ns) rounds done 0)
  unfolding end_with
  mark-next [] ws slaves held rounds done e = used-up (sym e ∙ no_free held ws)
  mark-next (n ∷ ns) ws slaves held rounds done e = going e

  mark-pass : {a : Account} → Marked more a → Marked more (pass_on a)
  unfolding pass_on pass free_pass pass_done go_on_lem
  mark-pass (going {n = n} {rounds = rounds} {done = done} {k = k} {ns = ns} {ws = []} {held = held} {slaves = slaves} e) =
      by_case (is_among n held)
      (λ t. rw t (mark-next ns [] slaves held (suc rounds) (done + 0) (sym (outnumber_taken held n ns [] t) ∙ e)))
      (λ t. rw t (by_case (eqb (suc k) ending_rounds) (λ u. rw u (all_named (sym e ∙ outnumber_none held n ns t))) (λ u. rw u (going e))))
  mark-pass (going {n = n} {rounds = rounds} {done = done} {k = k} {ns = ns} {ws = p ∷ ps} {held = held} {slaves = slaves} e) =
      by_case (is_among n held)
      (λ t. rw t (mark-next ns (p ∷ ps) slaves held (suc rounds) (done + 0) (sym (outnumber_taken held n ns (p ∷ ps) t) ∙ e)))
      (λ t.
      rw t
      (by_case (eqb (suc k) (naming_rounds p))
      (λ u.
      rw u
      (mark-next ns ps (map (give p n) slaves) held (suc rounds) (done + naming_comparisons) (sym (outnumber_given held n ns p ps t) ∙ e)))
      (λ u. rw u (going e))))
  mark-pass (all_named e) = all_named e
  mark-pass (used-up e) = used-up e

  mark-extra : {a : Account} → Marked more a → Marked more (extra a)
  unfolding extra
  mark-extra (going e) = going e
  mark-extra (all_named e) = all_named e
  mark-extra (used-up e) = used-up e

  mark-call : {a : Account} → Marked more a → (c : Call) → Marked more (account_call a c)
  unfolding account_call one_round
  mark-call {a} m (step arguments) =
      by_case (eqb (arguments_ground a.slaves arguments) 0)
      (λ z. rw z (by_case (both (eqb a.end 0) (eqb a.rounds 0)) (λ t. rw t (mark-extra m)) (λ t. rw t (mark-pass m))))
      (λ z. rw z m)
  mark-call m (frame arguments) = m

  mark-after : {a : Account} → Marked more a → (calls : List Call) → Marked more (account_after a calls)
  unfolding account_after
  mark-after m [] = m
  mark-after {a = a} m (c ∷ cs) = mark-after {a = account_call a c} (mark-call m c) cs

mark-end : {more : Bool} {a : Account} → Marked more a → (a.end ≡ 0 → ⊥) → a.end ≡ cond more all_named_lem names_used_up
mark-end (going e) some = absurd (some refl)
mark-end (all_named e) some = rw e
mark-end (used-up e) some = rw e

pub account-end :
    (slaves : List Named) (names : List ℕ) (calls : List Call) → ((account_after (account_of slaves names) calls).end ≡ 0 → ⊥) →
    (account_after (account_of slaves names) calls).end ≡ end_for slaves names
unfolding end_for account_of
account-end slaves names calls some =
    let more : Bool = ltb (length (unnamed_among slaves)) (length (free_names (names_held slaves) names)) in
    let same : outnumber (names_held slaves) (falling (unnamed_among slaves)) names ≡ more =
    ap (λ (u : ℕ). ltb u (length (free_names (names_held slaves) names))) (length-falling (unnamed_among slaves)) in
    mark-end (mark-after more (mark-next more names (falling (unnamed_among slaves)) slaves (names_held slaves) 0 0 same) calls) some

pub end_mark : EndMark
end_mark file b g names bytes accepted calls to =
    let d = demand_3 file b g names bytes accepted calls to.bytes to.may in
    d.end ∙ account-end (names_in_lem (decode file)) names calls (λ e. to.ended (d.end ∙ e))

-- ---- what is due, rounds or comparisons

-- so many for a taken name tried, for a slave named, for the pass that finds nobody
record Figure (figure : List ℕ → List ℕ → List ℕ → ℕ) : Type 0 where
  tried : ℕ
  each : ℕ → ℕ
  last : ℕ
  nothing : (held ws : List ℕ) → figure held [] ws ≡ 0
  taken : (held : List ℕ) (n : ℕ) (ns ws : List ℕ) → is_among n held ≡ true → figure held (n ∷ ns) ws ≡ tried + figure held ns ws
  given :
      (held : List ℕ) (n : ℕ) (ns : List ℕ) (p : ℕ) (ps : List ℕ) → is_among n held ≡ false →
      figure held (n ∷ ns) (p ∷ ps) ≡ each p + figure held ns ps
  none : (held : List ℕ) (n : ℕ) (ns : List ℕ) → is_among n held ≡ false → figure held (n ∷ ns) [] ≡ last

due_laws : Figure due
due_laws =
    record {
      tried = 1;
      each = naming_rounds;
      last = ending_rounds;
      nothing = λ held ws. unfold due in refl;
      taken = λ held n ns ws t. omega (arith, due-taken n ns held t ws);
      given = λ held n ns p ps f. unfold due in rw f;
      none = λ held n ns f. unfold due in rw f;
    }

comparison_laws : Figure due_comparisons
comparison_laws =
    record {
      tried = 0;
      each = λ p. naming_comparisons;
      last = ending_comparisons;
      nothing = λ held ws. unfold due_comparisons in refl;
      taken = λ held n ns ws t. omega (arith, due-comparisons-taken n ns held t ws);
      given = λ held n ns p ps f. unfold due_comparisons in rw f;
      none = λ held n ns f. unfold due_comparisons in rw f;
    }

module _ (figure : List ℕ → List ℕ → List ℕ → ℕ) (laws : Figure figure) where
  figure-same :
      (held now : List ℕ) {names : List ℕ} → All (λ (n : ℕ). is_among n held ≡ is_among n now) names → (ws : List ℕ) →
      figure held names ws ≡ figure now names ws
  figure-same held now all_empty ws = laws.nothing held ws ∙ sym (laws.nothing now ws)
  figure-same held now (also {a = n} {l = ns} e h) [] =
      by_case (is_among n held)
      (λ t. omega (arith, laws.taken held n ns [] t, laws.taken now n ns [] (sym e ∙ t), figure-same held now h []))
      (λ t. laws.none held n ns t ∙ sym (laws.none now n ns (sym e ∙ t)))
  figure-same held now (also {a = n} {l = ns} e h) (p ∷ ps) =
      by_case (is_among n held)
      (λ t. omega (arith, laws.taken held n ns (p ∷ ps) t, laws.taken now n ns (p ∷ ps) (sym e ∙ t), figure-same held now h (p ∷ ps)))
      (λ t. omega (arith, laws.given held n ns p ps t, laws.given now n ns p ps (sym e ∙ t), figure-same held now h ps))

  -- that of a run from these slaves
  abbrev figure_from : List ℕ → List Named → ℕ
  figure_from names ss = figure (names_held ss) names (falling (unnamed_among ss))

  figure-here :
      {names ws : List ℕ} {ss : List Named} {held : List ℕ} → Distinct (physicals ss) → Facts names ws ss held →
      figure held names ws ≡ figure_from names ss
  figure-here {names} {ws} {ss} {held} d f =
      figure-same held (names_held ss) f.taken ws ∙ ap (λ (w : List ℕ). figure (names_held ss) names w) (waiting-unnamed d f)

  -- A's names used up: what is due over both is what is due over A and then over B from there
  figure-both :
      (A B ws held : List ℕ) (ss : List Named) → Distinct (physicals ss) → Facts (A ++ B) ws ss held → outnumber held ws A ≡ false →
      figure held (A ++ B) ws ≡ figure held A ws + figure_from B (finally held A ws ss)
  figure-both [] B ws held ss d f few =
      rw (none_left held ws ss) (omega (arith, laws.nothing held ws, figure-here d f))
  figure-both (n ∷ ns) B [] held ss d f few =
      by_case (is_among n held)
      (λ t.
      let rest = figure-both ns B [] held ss d (drop-taken f) (sym (outnumber_taken held n ns [] t) ∙ few) in
      rw (first_taken held n ns [] ss t) (omega (arith, laws.taken held n ns [] t, laws.taken held n (ns ++ B) [] t, rest)))
      (λ t. clash (outnumber_none held n ns t) few)
  figure-both (n ∷ ns) B (p ∷ ps) held ss d f few =
      by_case (is_among n held)
      (λ t.
      let rest = figure-both ns B (p ∷ ps) held ss d (drop-taken f) (sym (outnumber_taken held n ns (p ∷ ps) t) ∙ few) in
      rw (first_taken held n ns (p ∷ ps) ss t)
      (omega (arith, laws.taken held n ns (p ∷ ps) t, laws.taken held n (ns ++ B) (p ∷ ps) t, rest)))
      (λ t.
      let rest =
      figure-both ns B ps held (map (give p n) ss) (rw (give_physicals p n ss) d) (give-greatest f)
      (sym (outnumber_given held n ns p ps t) ∙ few) in
      rw (first-given held n ns p ps ss (not_among p (fall_first f.falls)) t)
      (omega (arith, laws.given held n ns p ps t, laws.given held n (ns ++ B) p ps t, rest)))

  -- all named within A: B is not come to
  figure_within : (A B ws held : List ℕ) → outnumber held ws A ≡ true → figure held (A ++ B) ws ≡ figure held A ws
  figure_within [] B ws held more = clash more (no_free held ws)
  figure_within (n ∷ ns) B [] held more =
      by_case (is_among n held)
      (λ t.
      let rest = figure_within ns B [] held (sym (outnumber_taken held n ns [] t) ∙ more) in
      omega (arith, laws.taken held n ns [] t, laws.taken held n (ns ++ B) [] t, rest))
      (λ t. laws.none held n (ns ++ B) t ∙ sym (laws.none held n ns t))
  figure_within (n ∷ ns) B (p ∷ ps) held more =
      by_case (is_among n held)
      (λ t.
      let rest = figure_within ns B (p ∷ ps) held (sym (outnumber_taken held n ns (p ∷ ps) t) ∙ more) in
      omega (arith, laws.taken held n ns (p ∷ ps) t, laws.taken held n (ns ++ B) (p ∷ ps) t, rest))
      (λ t.
      let rest = figure_within ns B ps held (sym (outnumber_given held n ns p ps t) ∙ more) in
      omega (arith, laws.given held n ns p ps t, laws.given held n (ns ++ B) p ps t, rest))

-- all named: nobody is left unnamed
nobody-left :
    (A ws held : List ℕ) (ss : List Named) → Distinct (physicals ss) → Facts A ws ss held → outnumber held ws A ≡ true →
    falling (unnamed_among (finally held A ws ss)) ≡ []
nobody-left [] ws held ss d f more = clash more (no_free held ws)
nobody-left (n ∷ ns) [] held ss d f more = rw (none-waits held (n ∷ ns) ss) (sym (waiting-unnamed d f))
nobody-left (n ∷ ns) (p ∷ ps) held ss d f more =
    by_case (is_among n held)
    (λ t.
    rw (first_taken held n ns (p ∷ ps) ss t)
    (nobody-left ns (p ∷ ps) held ss d (drop-taken f) (sym (outnumber_taken held n ns (p ∷ ps) t) ∙ more)))
    (λ t.
    rw (first-given held n ns p ps ss (not_among p (fall_first f.falls)) t)
    (nobody-left ns ps held (map (give p n) ss) (rw (give_physicals p n ss) d) (give-greatest f)
    (sym (outnumber_given held n ns p ps t) ∙ more)))

-- ---- the extra reads

extra-both : (A B : List ℕ) → extra_due A 0 + extra_due B 0 ≡ extra_due (A ++ B) 0 + extra_again A B
unfolding extra_due extra_left extra_again
extra-both [] [] = refl
extra-both [] (m ∷ B) = refl
extra-both (n ∷ A) [] = refl
extra-both (n ∷ A) (m ∷ B) = refl

extra-within : (held ws A B : List ℕ) → outnumber held ws A ≡ true → extra_due (A ++ B) 0 ≡ extra_due A 0
unfolding extra_due
extra-within held ws [] B more = clash more (no_free held ws)
extra-within held ws (n ∷ A) B more = refl

-- ---- from the slaves at the start

mark-fewer : (more : Bool) → cond more all_named_lem names_used_up ≡ names_used_up → more ≡ false
mark-fewer true e = absurd (omega (arith, e))
mark-fewer false e = refl

mark_more : (more : Bool) → cond more all_named_lem names_used_up ≡ all_named_lem → more ≡ true
mark_more true e = refl
mark_more false e = absurd (omega (arith, e))

module _ (ss : List Named) (A B : List ℕ) where
  abbrev held_now : List ℕ
  held_now = names_held ss

  abbrev waiting_now : List ℕ
  waiting_now = falling (unnamed_among ss)

  same_number : outnumber held_now waiting_now A ≡ ltb (length (unnamed_among ss)) (length (free_names held_now A))
  same_number = ap (λ (u : ℕ). ltb u (length (free_names held_now A))) (length-falling (unnamed_among ss))

  fewer_free : end_for ss A ≡ names_used_up → outnumber held_now waiting_now A ≡ false
  unfolding end_for
  fewer_free e = same_number ∙ mark-fewer _ e

  more_free : end_for ss A ≡ all_named_lem → outnumber held_now waiting_now A ≡ true
  unfolding end_for
  more_free e = same_number ∙ mark_more _ e

  module _ (s : Slaves ss) (names : Names (A ++ B)) where
    rounds_used_up : end_for ss A ≡ names_used_up → rounds_for ss A + rounds_for (names_after ss A) B ≡ rounds_for ss (A ++ B) + extra_again A B
    rounds_used_up e =
        let passes = figure-both due due_laws A B waiting_now held_now ss s.different (start-facts ss (A ++ B) s names) (fewer_free e) in
        omega (
          arith,
          rounds-whole ss A,
          rounds-whole (names_after ss A) B,
          rounds-whole ss (A ++ B),
          rw (sym (at-start ss A)) at passes,
          extra-both A B,
        )

    comparisons_used_up : end_for ss A ≡ names_used_up → comparisons_for ss A + comparisons_for (names_after ss A) B ≡ comparisons_for ss (A ++ B)
    comparisons_used_up e =
        let facts = start-facts ss (A ++ B) s names in
        let passes = figure-both due_comparisons comparison_laws A B waiting_now held_now ss s.different facts (fewer_free e) in
        omega (
          arith,
          comparisons-whole ss A,
          comparisons-whole (names_after ss A) B,
          comparisons-whole ss (A ++ B),
          rw (sym (at-start ss A)) at passes,
        )

    -- the run over both ends as B's run does
    end_used_up : end_for ss A ≡ names_used_up → end_for ss (A ++ B) ≡ end_for (names_after ss A) B
    unfolding end_for
    end_used_up e =
        let facts = facts-after A B waiting_now held_now ss (start-facts ss (A ++ B) s names) in
        let apart : Distinct (physicals (finally held_now A waiting_now ss)) =
        unfold finally in rw (renamed_physicals (givings waiting_now (free_names held_now A)) ss) s.different in
        rw (at-start ss A)
        (ap (λ (more : Bool). cond more all_named_lem names_used_up)
        (sym (ap (λ (u : ℕ). ltb u (length (free_names held_now (A ++ B)))) (length-falling (unnamed_among ss)))
        ∙ outnumber-beyond held_now waiting_now A B (fewer_free e)
        ∙ ap₂ (λ (u : List ℕ) (f : List ℕ). ltb (length u) (length f)) (waiting-unnamed apart facts)
        (free-same held_now (names_held (finally held_now A waiting_now ss)) facts.taken)
        ∙ ap (λ (u : ℕ). ltb u (length (free_names (names_held (finally held_now A waiting_now ss)) B)))
        (length-falling (unnamed_among (finally held_now A waiting_now ss)))))

  end-named : end_for ss A ≡ all_named_lem → end_for ss (A ++ B) ≡ all_named_lem
  unfolding end_for
  end-named e =
      ap (λ (more : Bool). cond more all_named_lem names_used_up)
      (sym (ap (λ (u : ℕ). ltb u (length (free_names held_now (A ++ B)))) (length-falling (unnamed_among ss)))
      ∙ outnumber_within held_now waiting_now A B (more_free e))

  rounds-named : end_for ss A ≡ all_named_lem → rounds_for ss A ≡ rounds_for ss (A ++ B)
  rounds-named e =
      omega (
        arith,
        rounds-whole ss A,
        rounds-whole ss (A ++ B),
        figure_within due due_laws A B waiting_now held_now (more_free e),
        extra-within held_now waiting_now A B (more_free e),
      )

  comparisons-named : end_for ss A ≡ all_named_lem → comparisons_for ss A ≡ comparisons_for ss (A ++ B)
  comparisons-named e =
      omega (
        arith,
        comparisons-whole ss A,
        comparisons-whole ss (A ++ B),
        figure_within due_comparisons comparison_laws A B waiting_now held_now (more_free e),
      )

rounds-nobody :
    (ss : List Named) (names : List ℕ) → falling (unnamed_among ss) ≡ [] → rounds_for ss names ≡ rounds_for_nobody (names_held ss) names
unfolding rounds_for rounds_for_nobody givings naming_sum
rounds-nobody ss names e =
    let none : length (unnamed_among ss) ≡ 0 = sym (length-falling (unnamed_among ss)) ∙ ap (λ (l : List ℕ). length l) e in
    rw (none, e) (omega arith)

-- ---- what B's run finds

-- the figures of a run at its end, from these slaves over these names
pub record Whole (ss : List Named) (names : List ℕ) (p : Position) : Type 0 where
  pub end : p.end ≡ end_for ss names
  pub rounds : p.counts.rounds ≡ rounds_for ss names
  pub comparisons : p.counts.comparisons ≡ comparisons_for ss names

pub second_run :
    {ss : List Named} {A B : List ℕ} → Slaves ss → Names A → Names B → {found : List Named} {second : Position} →
    found ≡ names_after ss A → Whole found B second → SecondRun ss A B found second
second_run {ss} {A} {B} s a b {found} left w =
    let here : found ≡ finally (names_held ss) A (falling (unnamed_among ss)) ss = left ∙ at-start ss A in
    let apart : Distinct (physicals (finally (names_held ss) A (falling (unnamed_among ss)) ss)) =
    unfold finally in rw (renamed_physicals (givings (falling (unnamed_among ss)) (free_names (names_held ss) A)) ss) s.different in
    let alone : Facts (A ++ []) (falling (unnamed_among ss)) ss (names_held ss) = rw append-nil (start-facts ss A s a) in
    record {
      names = left;
      unnamed = rw here (sym (waiting-unnamed apart (facts-after A [] (falling (unnamed_among ss)) (names_held ss) ss alone)));
      held = λ other.
          let joined = start-facts ss (A ++ B) s (joined-names a b other) in
          rw here (all_map (λ n e. sym e) (facts-after A B (falling (unnamed_among ss)) (names_held ss) ss joined).taken);
      rounds = w.rounds;
      comparisons = w.comparisons;
    }

-- the run's position at its end has these figures
pub whole_run :
    (file : List ℕ) → Bytes file → file_ground file ≡ 0 → (names : List ℕ) → Bytes names → start_ground names ≡ 0 → (calls : List Call) →
    ToItsEnd file names calls → Whole (names_in_lem (decode file)) names (run_after file names calls)
whole_run file b g names n fit calls to =
    let d = demand_3 file b g names n fit calls to.bytes to.may in
    record {
      end = end_mark file b g names n fit calls to;
      rounds = d.outcome.ended to.ended;
      comparisons = d.outcome.compared to.ended;
    }

pub second_finds : SecondFinds
second_finds file b g A B ba bb ga gb first second one two =
    let d = demand_3 file b g A ba ga first one.bytes one.may in
    let left : Bytes (file_after file A first) = bytes_after file b g A ba ga first one.bytes one.may in
    second_run (legal-slaves (decode file) (accepted-legal file b g)) (accepted-names A ba ga) (accepted-names B bb gb)
    (d.outcome.named one.ended) (whole_run (file_after file A first) left d.accepted B bb gb second two)

-- ---- the theorem

pub runs-together :
    {ss : List Named} {A B : List ℕ} → Slaves ss → Names A → Names (A ++ B) → {first second whole : Position} →
    Whole ss A first → Whole (names_after ss A) B second → Whole ss (A ++ B) whole → RunsTogether ss A B first second whole
runs-together {ss} {A} {B} s a names one two all =
    record {
      used_up = λ m. rw (one.rounds, two.rounds, all.rounds) (rounds_used_up ss A B s names (sym one.end ∙ m));
      used_up_compared = λ m.
          rw (one.comparisons, two.comparisons, all.comparisons) (comparisons_used_up ss A B s names (sym one.end ∙ m));
      named = λ m. one.rounds ∙ rounds-named ss A B (sym one.end ∙ m) ∙ sym all.rounds;
      named_compared = λ m. one.comparisons ∙ comparisons-named ss A B (sym one.end ∙ m) ∙ sym all.comparisons;
      nobody = λ m.
          let facts = start-facts ss A s a in
          let more = more_free ss A B (sym one.end ∙ m) in
          let none = nobody-left A (falling (unnamed_among ss)) (names_held ss) ss s.different facts more in
          two.rounds ∙ rounds-nobody (names_after ss A) B (rw (sym (at-start ss A)) at none);
      used_up_end = λ m. all.end ∙ end_used_up ss A B s names (sym one.end ∙ m) ∙ sym two.end;
      named_end_lem = λ m. all.end ∙ end-named ss A B (sym one.end ∙ m);
    }

pub two_runs : TwoRuns
two_runs file b g A B ba bb ga gb apart first second whole one two all =
    let a : Names A = accepted-names A ba ga in
    let joined : Names (A ++ B) = joined-names a (accepted-names B bb gb) apart in
    let d = demand_3 file b g A ba ga first one.bytes one.may in
    let left : Bytes (file_after file A first) = bytes_after file b g A ba ga first one.bytes one.may in
    let there : Whole (names_after (names_in_lem (decode file)) A) B (run_after (file_after file A first) B second) =
    subst (λ (l : List Named). Whole l B (run_after (file_after file A first) B second)) (d.outcome.named one.ended)
    (whole_run (file_after file A first) left d.accepted B bb gb second two) in
    runs-together (legal-slaves (decode file) (accepted-legal file b g)) a joined
    (whole_run file b g A ba ga first one) there
    (whole_run file b g (A ++ B) (all_append ba bb) (joined_ground a (accepted-names B bb gb) apart) whole all)
