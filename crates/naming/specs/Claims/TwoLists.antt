-- Two lists of names, one run after the other (document 02, job 11: "Show that running list A and then list B from one accepted file,
-- each to its end, the two having no name in common and both acceptable, leaves every slave with the logical name that one run over A
-- followed by B leaves, permitted rounds in between or not.").
use Rattle.std.specs.Prelude.{ℕ, ◌+◌, ◌≤◌, ◌≡◌, ◌↔◌, List, [], ◌∷◌, ◌++◌, true, false, cond, length, drop, eqb}
use Rattle.file.specs.Rules.Bytes.{Bytes, All}
use Rattle.file.specs.Rules.Decode.{decode}
use Rattle.file.specs.Rules.FileGrounds.{is_among, file_ground}
use Rattle.master_slave.specs.Rules.Bus.{slots}
use Rattle.cluster.specs.Rules.Summary.{without}
use Rattle.naming.specs.Rules.Position.{Position, running, all_named_lem, names_used_up, fresh}
use Rattle.naming.specs.Rules.RunGrounds.{start_ground}
use Rattle.naming.specs.Rules.Step.{step_keeping_ground}
use Rattle.naming.specs.Rules.Account.{Named, Call, step, frame, names_in_lem, unnamed_among, names_held, falling}
use Rattle.naming.specs.Rules.Figures.{free_names, rounds_for, comparisons_for, names_after, end_for, rounds_for_nobody, extra_again}
use Rattle.naming.specs.Claims.Demand.{State, start_on, call_on, permitted, OfBytes}
use Rattle.naming.specs.Claims.PermittedRounds.{file_after, run_after}

-- "the two having no name in common"
abbrev pub NoCommon : List ℕ → List ℕ → Type 0
NoCommon A B = All (λ (n : ℕ). is_among n B ≡ false) A

-- a run over a list of names, from a file and fresh, "to its end": demand 3's calls after which the end mark is not 0. Rounds of others may
-- stand among them and after the run's end.
pub record ToItsEnd (file names : List ℕ) (calls : List Call) : Type 0 where
  pub bytes : All OfBytes calls
  pub may : permitted names (start_on file) (fresh names) calls ≡ true
  pub ended : (run_after file names calls).end ≡ running → ⊥

-- the second run starts fresh on the file that the first left
abbrev pub TwoLists : Type 0
TwoLists =
    (file : List ℕ) → Bytes file → file_ground file ≡ 0 →
    (A B : List ℕ) → Bytes A → Bytes B → start_ground A ≡ 0 → start_ground B ≡ 0 → NoCommon A B →
    (first second whole : List Call) → ToItsEnd file A first → ToItsEnd (file_after file A first) B second → ToItsEnd file (A ++ B) whole →
    names_in_lem (decode (file_after (file_after file A first) B second)) ≡ names_in_lem (decode (file_after file (A ++ B) whole))

-- both lists as one are acceptable if they have no name in common, and only then
abbrev pub JoinedAccepted : Type 0
JoinedAccepted =
    (A B : List ℕ) → Bytes A → Bytes B → start_ground A ≡ 0 → start_ground B ≡ 0 → (start_ground (A ++ B) ≡ 0) ↔ NoCommon A B

-- else 16 refuses them, "A listed name occurs twice."
abbrev pub CommonRefused : Type 0
CommonRefused =
    (A B : List ℕ) → Bytes A → Bytes B → start_ground A ≡ 0 → start_ground B ≡ 0 → (NoCommon A B → ⊥) → start_ground (A ++ B) ≡ 16

-- ---- every run ends

-- 1 for a step that no ground refuses
unfoldable pub step_taken : List ℕ → State → Position → Call → ℕ
step_taken names s p (step arguments) =
    cond (eqb (step_keeping_ground s.file p names arguments.summary arguments.buffer) 0) 1 0
step_taken names s p (frame arguments) = 0

-- how many of the calls are such steps, each judged where it comes
unfoldable pub steps_taken : List ℕ → State → Position → List Call → ℕ
steps_taken names s p [] = 0
steps_taken names s p (c ∷ cs) = step_taken names s p c + steps_taken names (call_on names s p c).0 (call_on names s p c).1 cs

-- a run has ended exactly if at least as many such steps were taken as it has rounds, rounds of others and refused calls among them or not
abbrev pub RunsEnd : Type 0
RunsEnd =
    (file : List ℕ) → Bytes file → file_ground file ≡ 0 → (names : List ℕ) → Bytes names → start_ground names ≡ 0 →
    (calls : List Call) → All OfBytes calls → permitted names (start_on file) (fresh names) calls ≡ true →
    (rounds_for (names_in_lem (decode file)) names ≤ steps_taken names (start_on file) (fresh names) calls) ↔ ToItsEnd file names calls

-- a step with an answer buffer of 64 bytes or more, whatever it holds, and no summary
pub data LongStep : Call → Type 0 where
  long : {buffer : List ℕ} → slots ≤ length buffer → LongStep (step (record { summary = without; buffer = buffer }))

-- so there are such runs: as many of these steps as the run has rounds, or more
abbrev pub EveryRunEnds : Type 0
EveryRunEnds =
    (file : List ℕ) → Bytes file → file_ground file ≡ 0 → (names : List ℕ) → Bytes names → start_ground names ≡ 0 →
    (calls : List Call) → All LongStep calls → rounds_for (names_in_lem (decode file)) names ≤ length calls → ToItsEnd file names calls

-- by which mark
abbrev pub EndMark : Type 0
EndMark =
    (file : List ℕ) → Bytes file → file_ground file ≡ 0 → (names : List ℕ) → Bytes names → start_ground names ≡ 0 →
    (calls : List Call) → ToItsEnd file names calls → (run_after file names calls).end ≡ end_for (names_in_lem (decode file)) names

-- ---- what B's run finds

-- the slaves before A's run, those that B's run finds, and its position at its end: the unnamed are those of before without as many of
-- the greatest as A has free names; without a common name those of B's names are held that were held before
pub record SecondRun (slaves : List Named) (A B : List ℕ) (found : List Named) (second : Position) : Type 0 where
  pub names : found ≡ names_after slaves A
  pub unnamed : falling (unnamed_among found) ≡ drop (length (free_names (names_held slaves) A)) (falling (unnamed_among slaves))
  pub held : NoCommon A B → All (λ (n : ℕ). is_among n (names_held found) ≡ is_among n (names_held slaves)) B
  pub rounds : second.counts.rounds ≡ rounds_for found B
  pub comparisons : second.counts.comparisons ≡ comparisons_for found B

abbrev pub SecondFinds : Type 0
SecondFinds =
    (file : List ℕ) → Bytes file → file_ground file ≡ 0 →
    (A B : List ℕ) → Bytes A → Bytes B → start_ground A ≡ 0 → start_ground B ≡ 0 →
    (first second : List Call) → ToItsEnd file A first → ToItsEnd (file_after file A first) B second →
    SecondRun (names_in_lem (decode file)) A B (names_in_lem (decode (file_after file A first))) (run_after (file_after file A first) B second)

-- ---- the rounds and comparisons of both runs

-- the ends of the run over A, of the one over B after it, and of the one over both, the slaves being those before the first
pub record RunsTogether (slaves : List Named) (A B : List ℕ) (first second whole : Position) : Type 0 where
  -- A's names used up: B's run goes on where the one over both does, but for its extra read if neither list is empty
  pub used_up : first.end ≡ names_used_up → first.counts.rounds + second.counts.rounds ≡ whole.counts.rounds + extra_again A B
  pub used_up_compared : first.end ≡ names_used_up → first.counts.comparisons + second.counts.comparisons ≡ whole.counts.comparisons
  -- all named: the run over both has A's rounds and comparisons and no more, and the whole of B's run comes on top
  pub named : first.end ≡ all_named_lem → first.counts.rounds ≡ whole.counts.rounds
  pub named_compared : first.end ≡ all_named_lem → first.counts.comparisons ≡ whole.counts.comparisons
  pub nobody : first.end ≡ all_named_lem → second.counts.rounds ≡ rounds_for_nobody (names_held (names_after slaves A)) B
  -- the run over both ends as B's does if it comes to B's names, else as A's
  pub used_up_end : first.end ≡ names_used_up → whole.end ≡ second.end
  pub named_end_lem : first.end ≡ all_named_lem → whole.end ≡ all_named_lem

abbrev pub TwoRuns : Type 0
TwoRuns =
    (file : List ℕ) → Bytes file → file_ground file ≡ 0 →
    (A B : List ℕ) → Bytes A → Bytes B → start_ground A ≡ 0 → start_ground B ≡ 0 → NoCommon A B →
    (first second whole : List Call) → ToItsEnd file A first → ToItsEnd (file_after file A first) B second → ToItsEnd file (A ++ B) whole →
    RunsTogether (names_in_lem (decode file)) A B
    (run_after file A first) (run_after (file_after file A first) B second) (run_after file (A ++ B) whole)
