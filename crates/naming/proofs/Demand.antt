-- Demand 3 over abstract laws, whole: from a fresh run, after every list of permitted calls, each slave's name, the end and both
-- counts are the plain account's, ground 17 does not hold, and the closed figures say when the run has ended and what it has done.
-- Assumes nothing.
use Rattle.std.proofs.Common.{ℕ, suc, ◌+◌, ◌*◌, min, ◌≤◌, ◌<◌, ◌≡◌, refl, sym, ap, ◌∙◌, List, [], ◌∷◌, map, false, arith, zero-add, length, eqb}
use native.Mathlib.Nat.{suc-min-suc}
use Rattle.file.specs.Rules.Cluster.{unnamed}
use Rattle.file.proofs.AcceptedFacts.{no_repeat}
use Rattle.file.proofs.Order.{by_case}
use Rattle.naming.specs.Inner.View.{SlaveView}
use Rattle.naming.specs.Rules.Position.{Position, fresh, running}
use Rattle.naming.specs.Rules.RunGrounds.{unfit_position, count_limit}
use Rattle.naming.specs.Rules.Account.{Named, Account, Call, account_of, account_after, comparisons_of, falling, unnamed_among, names_held, naming_comparisons, ending_rounds}
use Rattle.naming.specs.Rules.Figures.{Outcome, extra_for, rounds_for, comparisons_for, names_after, givings}
use Rattle.naming.proofs.Answers.{named_of}
use Rattle.naming.proofs.Simulation.{fresh_at}
use Rattle.naming.proofs.Tally.{Tally, Done, extra_left, extra_due, due, due_comparisons, finally, next-pass}
use Rattle.naming.proofs.Closed.{most_rounds, due-rounds, due-comparisons, due_bound, due-comparisons_bound}
use Rattle.naming.proofs.Sorted.{length-falling, distinct_length}
use Rattle.naming.proofs.Start.{Slaves, Names, names-fit, start-facts}
use Rattle.naming.proofs.Abstract.{Laws, Agree, Permitted, run_calls, Between, all_calls, stays_fit, tie_agree, tally_running, tally_ended}

-- what demand 3 says of views, run and account after some calls, for the slaves and names at the start
pub record Holds
    {S : Type 0} (slaves : List Named) (names : List ℕ) (Good : S → Type 0) (view : S → List SlaveView) (w : S × Position) (a : Account) :
    Type 0 where
  pub good : Good w.0
  pub agree : Agree (view w.0) w.1 a
  pub fit : unfit_position names w.1 ≡ false
  pub outcome : Outcome slaves names (map named_of (view w.0)) w.1.end w.1.counts.rounds w.1.counts.comparisons

-- as many names are given as there are unnamed slaves and free names, the lesser of the two
pub given-count : (ws ns : List ℕ) → length (givings ws ns) ≡ min (length ws) (length ns)
unfolding givings
given-count [] ns = omega arith
given-count (p ∷ ps) [] = omega arith
given-count (p ∷ ps) (n ∷ ns) = ap suc (given-count ps ns) ∙ sym (suc-min-suc (length ps) (length ns))

pub unnamed-most : (ss : List Named) → length (unnamed_among ss) ≤ length ss
unfolding unnamed_among
unnamed-most [] = omega arith
unnamed-most (s ∷ ss) =
    by_case (eqb s.logical unnamed) (λ t. rw t (omega (arith, unnamed-most ss))) (λ f. rw f (omega (arith, unnamed-most ss)))

extra-is : (names : List ℕ) → extra_due names 0 ≡ extra_for names
unfolding extra_due extra_left extra_for
extra-is [] = refl
extra-is (n ∷ ns) = refl

pub extra-most : (names : List ℕ) → extra_due names 0 ≤ 1
unfolding extra_due extra_left
extra-most [] = omega arith
extra-most (n ∷ ns) = omega arith

-- ---- the account of slaves and names at the start

module _ (slaves : List Named) (names : List ℕ) where
  -- its rounds, its comparisons and the names it comes to
  pub rounds-whole : extra_due names 0 + due (names_held slaves) names (falling (unnamed_among slaves)) ≡ rounds_for slaves names
  unfolding rounds_for
  rounds-whole =
      let passes = due-rounds (names_held slaves) names (falling (unnamed_among slaves)) in
      let long = length-falling (unnamed_among slaves) in
      omega (arith, rw long at passes, extra-is names)

  pub comparisons-whole :
      due_comparisons (names_held slaves) names (falling (unnamed_among slaves)) ≡ comparisons_for slaves names
  unfolding comparisons_for
  comparisons-whole = due-comparisons (names_held slaves) names (falling (unnamed_among slaves)) ∙ rw (length-falling (unnamed_among slaves))

  -- the tally that it keeps
  pub tally_start : Slaves slaves → Names names → Tally (rounds_for slaves names) (comparisons_for slaves names) (names_after slaves names) (account_of slaves names)
  unfolding account_of finally names_after
  tally_start s n =
      next-pass _ _ _ names (falling (unnamed_among slaves)) slaves (names_held slaves) 0 0
      (omega (arith, rounds-whole)) (zero-add _ ∙ comparisons-whole) refl (start-facts slaves names s n).falls

  pub rounds-few : Names names → most_rounds * length slaves + ending_rounds + 257 < count_limit →
      rounds_for slaves names < count_limit
  rounds-few n few =
      let l : length names ≤ 256 = distinct_length 256 (no_repeat names n.different) n.bytes in
      omega (
        arith,
        sym rounds-whole,
        extra-most names,
        due_bound (names_held slaves) names (falling (unnamed_among slaves)),
        length-falling (unnamed_among slaves),
        unnamed-most slaves,
      )

  pub comparisons-few : most_rounds * length slaves + ending_rounds + 257 < count_limit →
      comparisons_for slaves names + naming_comparisons < count_limit
  comparisons-few few =
      omega (
        arith,
        sym comparisons-whole,
        due-comparisons_bound (names_held slaves) names (falling (unnamed_among slaves)),
        length-falling (unnamed_among slaves),
        unnamed-most slaves,
      )

  -- the closed figures, of all that agrees with it
  outcome : (vs : List SlaveView) (p : Position) (a : Account) → Agree vs p a →
      Tally (rounds_for slaves names) (comparisons_for slaves names) (names_after slaves names) a → Outcome slaves names (map named_of vs) p.end p.counts.rounds p.counts.comparisons
  unfolding comparisons_of
  outcome vs p a g t =
      record {
        ended = λ n. g.rounds ∙ (all n).all;
        ends = λ r m. omega (arith, (tally_running t (sym g.end ∙ m)).rounds, sym g.rounds ∙ r);
        compared = λ n. g.comparisons ∙ (all n).comparisons;
        named = λ n. g.names ∙ (all n).names;
      }
    where
      all : (p.end ≡ running → ⊥) → Done (rounds_for slaves names) (comparisons_for slaves names) (names_after slaves names) a.waiting a.slaves a.end a.rounds a.done a.k
      all n = tally_ended t (λ e. n (g.end ∙ e))

-- ---- the theorem

-- a fresh run has made no round
none_made : (names : List ℕ) → (fresh names).counts.rounds ≡ 0
unfolding fresh
none_made names = refl

-- what holds between calls holds before the first one, whoever sleeps
pub between_start :
    (S : Type 0) (names : List ℕ) (view : S → List SlaveView) (Good Awake : S → Type 0) → Names names → (start : S) → Good start →
    Slaves (map named_of (view start)) →
    Between S names view Good Awake (rounds_for (map named_of (view start)) names) (comparisons_for (map named_of (view start)) names)
    (names_after (map named_of (view start)) names) (start, fresh names) (account_of (map named_of (view start)) names)
unfolding account_of
between_start S names view Good Awake n start good s =
    record {
      good = good;
      awake = λ some. absurd (some (none_made names));
      tie = fresh_at (view start) names (falling (unnamed_among slaves)) slaves (names_held slaves) (start-facts slaves names s n) refl;
      tally = tally_start slaves names s n;
    }
  where
    slaves : List Named
    slaves = map named_of (view start)

-- For a system that keeps the laws over an accepted list of names, from a good state whose slaves have different physical names of
-- 64 bits and are few enough for the counts, whoever sleeps, and from a fresh run: after every list of permitted calls demand 3 holds.
pub demand :
    (S : Type 0) (names : List ℕ) (view : S → List SlaveView) (Good Awake : S → Type 0) (Allowed : S → Position → Call → Type 0)
    (call : S → Position → Call → S × Position) → Laws S names view Good Awake Allowed call → Names names → (start : S) → Good start →
    Slaves (map named_of (view start)) → most_rounds * length (map named_of (view start)) + ending_rounds + 257 < count_limit →
    (calls : List Call) → Permitted S Allowed call (start, fresh names) calls →
    Holds (map named_of (view start)) names Good view (run_calls S call (start, fresh names) calls)
    (account_after (account_of (map named_of (view start)) names) calls)
unfolding account_of
demand S names view Good Awake Allowed call laws n start good s few calls permitted =
    record {
      good = after.good;
      agree = tie_agree after.tie;
      fit = stays_fit S names view Good Awake Allowed call laws R C F few-rounds few-comparisons (names-fit n.bytes n.fit) w a after;
      outcome = outcome slaves names (view w.0) w.1 a (tie_agree after.tie) after.tally;
    }
  where
    slaves : List Named
    slaves = map named_of (view start)

    R : ℕ
    R = rounds_for slaves names

    C : ℕ
    C = comparisons_for slaves names

    F : List Named
    F = names_after slaves names

    few-rounds : R < count_limit
    few-rounds = rounds-few slaves names n few

    few-comparisons : C + naming_comparisons < count_limit
    few-comparisons = comparisons-few slaves names few

    w : S × Position
    w = run_calls S call (start, fresh names) calls

    a : Account
    a = account_after (account_of slaves names) calls

    after : Between S names view Good Awake R C F w a
    after =
        all_calls S names view Good Awake Allowed call laws R C F few-rounds few-comparisons (names-fit n.bytes n.fit) (start, fresh names)
        (account_of slaves names) calls (between_start S names view Good Awake n start good s) permitted
