-- Two lists of names over the C calls, from the law of the names alone and demand 3 over the C calls; and that every run ends, from the
-- same over the rules.
-- Assumes nothing.
use Prim.Native.Nat.{ℕ, zero, suc, ◌+◌, ◌≤◌}
use mathlib.Core.Path.{◌≡◌, refl, sym, ap, ◌∙◌, subst}
use mathlib.Core.List.{List, [], ◌∷◌, ◌++◌, map, append-nil}
use mathlib.Core.Bool.{true, false, cond}
use native.Mathlib.Omega.{arith}
use lib.ListN.{length, replicate, length-map}
use lib.Dec.{eqb}
use borrow.Author.Tests.{le-ltb}
use Rattle.file.specs.Rules.Bytes.{Bytes, All, All.all_empty, All.all_next as also}
use Rattle.file.specs.Rules.Decode.{decode}
use Rattle.file.specs.Rules.Order.{first_of}
use Rattle.file.proofs.Order.{by_case}
use Rattle.file.proofs.Accepted.{accepted-legal}
use Rattle.file.proofs.Bytes.{all_append, all_map}
use Rattle.master_slave.specs.Rules.Bus.{slots}
use Rattle.cluster.specs.Rules.RoundGrounds.{short_answer}
use Rattle.cluster.specs.Rules.Summary.{without, wrong_summary}
use Rattle.trace.specs.Rules.Trace.{broken_trace, frames_of}
use Rattle.naming.specs.Rules.Position.{Position, fresh}
use Rattle.naming.specs.Rules.RunGrounds.{start_ground}
use Rattle.naming.specs.Rules.Account.{Named, Call, Account, arguments_ground, account_of, account_call}
use Rattle.naming.specs.Rules.Figures.{names_after}
use Rattle.naming.specs.Claims.Demand as rules
use Rattle.naming.specs.Claims.Demand.{State, start_on, call_on}
use Rattle.naming.specs.Claims.TwoLists as files
use Rattle.naming.proofs.FromFile.{legal-slaves, accepted-names}
use Rattle.naming.proofs.OverBytes.{bytes_after}
use Rattle.naming.proofs.Start.{Names}
use Rattle.naming.proofs.TwoLists.{joined-names, joined-accepted, common_refused, names-after-both, runs-end}
use Rattle.naming.proofs.TwoLists.{account_step, account_steps, counts_same, long_step}
use Rattle.naming.proofs.TwoRuns.{account-end, Whole, second_run, runs-together}
use Rattle.naming.proofs.Unasked.{step_unasked}
use Rattle.ttpa.specs.Rules.Calls.{start_call, position_in}
use Rattle.demand.specs.Claims.DemandCalls.{CCall, ttpa_step, ttpa_step_keeping, ttpa_round, ttpa_round_keeping, ttpa_trace_lem, ttpa_turn, turn_frames}
use Rattle.demand.specs.Claims.DemandCalls.{GivenBytes}
use Rattle.demand.specs.Claims.DemandCalls.{given-step, given-step_keeping, IsStep, is-step, is-step_keeping, Memory, returned, memory_after, after_calls, permitted, calls_fed}
use Rattle.demand.specs.Claims.DemandCalls.{slaves_in, TakenByRounds, started, memory_of, arguments_of, arguments_of_all}
use Rattle.demand.specs.Claims.Traces.{frame_call, frames_singly, singly, after_trace, call_or_trace_on, after_all}
use Rattle.demand.specs.Claims.TwoLists.{ToItsEnd, file_after, run_after, TwoListsOverCalls, JoinedStarts, CommonReturns}
use Rattle.demand.specs.Claims.TwoLists.{step_taken, steps_taken, RunsEndOverCalls, LongStep, long, long_keeping, EveryRunEndsOverCalls, EndMarkOverCalls}
use Rattle.demand.specs.Claims.Summary.{without_summary, numbers}
use Rattle.demand.specs.Claims.TwoLists.{SecondFindsOverCalls, TwoRunsOverCalls}
use Rattle.demand.proofs.Traces.{after_singly, frames-singly, singly-append, singly_of_bytes, trace-sent-singly}
use Rattle.demand.proofs.DemandCalls.{position-back, frames_alone, frames-left, ground_of, call-number, call-memory, all-given}
use Rattle.demand.proofs.DemandCalls.{runs-accepted, steps-permitted}
use Rattle.demand.proofs.Summary.{given_makes_no_difference_in_calls}
use Rattle.demand.proofs.DemandCalls.{start-number, start-memory, start-same, by_rules, after-by-rules, demand_over_calls}

-- ---- as calls of the rules

module _ (file names run : List ℕ) (none : start_ground names ≡ 0) (calls : List CCall) where
  run-by-rules :
      run_after file names run calls ≡ (rules.after_calls names (start_on file) (fresh names) (by_rules names (started file names run) calls)).1
  run-by-rules = ap (λ (m : Memory). position_in m.run) (after-by-rules file names run none calls) ∙ position-back _

to-rules :
    {file names run : List ℕ} {calls : List CCall} → (start_call names run).0 ≡ 0 → ToItsEnd file names run calls →
    files.ToItsEnd file names (by_rules names (started file names run) calls)
to-rules {file} {names} {run} {calls} starts to =
    let none : start_ground names ≡ 0 = sym (start-number names run) ∙ starts in
    record {
      bytes = singly_of_bytes (all-given names (started file names run) to.bytes);
      may = sym (start-same file names run none calls) ∙ to.may;
      ended = λ e. to.ended (ap (λ (p : Position). p.end) (run-by-rules file names run none calls) ∙ e);
    }

from-rules :
    {file names run : List ℕ} {calls : List CCall} → (start_call names run).0 ≡ 0 → All GivenBytes calls →
    files.ToItsEnd file names (by_rules names (started file names run) calls) →
    ToItsEnd file names run calls
from-rules {file} {names} {run} {calls} starts given to =
    let none : start_ground names ≡ 0 = sym (start-number names run) ∙ starts in
    record {
      bytes = given;
      may = start-same file names run none calls ∙ to.may;
      ended = λ e. to.ended (sym (ap (λ (p : Position). p.end) (run-by-rules file names run none calls)) ∙ e);
    }

-- ---- the names

-- the file that permitted calls leave is of bytes
pub bytes_left :
    (file : List ℕ) → Bytes file → TakenByRounds file → (names : List ℕ) → Bytes names → (run : List ℕ) → (start_call names run).0 ≡ 0 →
    (calls : List CCall) → ToItsEnd file names run calls → Bytes (file_after file names run calls)
bytes_left file b taken names n run starts calls to =
    let none : start_ground names ≡ 0 = sym (start-number names run) ∙ starts in
    let by = to-rules starts to in
    subst (λ (m : Memory). Bytes m.file) (sym (after-by-rules file names run none calls))
    (bytes_after file b (runs-accepted taken) names n none (by_rules names (started file names run) calls) by.bytes by.may)

-- the names that a run leaves
pub names-left :
    (file : List ℕ) → Bytes file → TakenByRounds file → (names : List ℕ) → Bytes names → (run : List ℕ) → (start_call names run).0 ≡ 0 →
    (calls : List CCall) → ToItsEnd file names run calls → slaves_in (file_after file names run calls) ≡ names_after (slaves_in file) names
names-left file b taken names n run starts calls to =
    (demand_over_calls file b taken names n run starts calls to.bytes to.may).outcome.named to.ended

pub joined-starts : JoinedStarts
joined-starts A B ba bb run run' run'' one two =
    let here = start-number (A ++ B) run'' in
    let exactly = joined-accepted A B ba bb (sym (start-number A run) ∙ one) (sym (start-number B run') ∙ two) in
    (λ e. exactly.0 (sym here ∙ e), λ apart. here ∙ exactly.1 apart)

pub common_returns : CommonReturns
common_returns A B ba bb run run' run'' one two common =
    start-number (A ++ B) run'' ∙ common_refused A B ba bb (sym (start-number A run) ∙ one) (sym (start-number B run') ∙ two) common

-- that ttpa_start takes both lists as one is shown, by joined-starts
pub two_lists_over_calls : TwoListsOverCalls
two_lists_over_calls file b taken A B ba bb apart run run' run'' starts starts' first second whole one two all =
    let none : start_ground A ≡ 0 = sym (start-number A run) ∙ starts in
    let none' : start_ground B ≡ 0 = sym (start-number B run') ∙ starts' in
    let slaves = legal-slaves (decode file) (accepted-legal file b (runs-accepted taken)) in
    let d = demand_over_calls file b taken A ba run starts first one.bytes one.may in
    names-left (file_after file A run first) (bytes_left file b taken A ba run starts first one) d.accepted B bb run' starts' second two
    ∙ ap (λ (l : List Named). names_after l B) (names-left file b taken A ba run starts first one)
    ∙ names-after-both (slaves_in file) A B slaves (joined-names (accepted-names A ba none) (accepted-names B bb none') apart)
    ∙ sym
    (names-left file b taken (A ++ B) (all_append ba bb) run'' ((joined-starts A B ba bb run run' run'' starts starts').1 apart) whole all)

-- ---- the steps that return 0 are those that no ground refuses

module _ (names : List ℕ) where
  frames-front :
      (s : State) (p : Position) (xs : List (List ℕ)) (ds : List Call) →
      files.steps_taken names s p (map frame_call xs ++ ds) ≡
      files.steps_taken names (rules.after_calls names s p (map frame_call xs)).0 (rules.after_calls names s p (map frame_call xs)).1 ds
  unfolding files.steps_taken files.step_taken rules.after_calls frame_call
  frames-front s p [] ds = refl
  frames-front s p (x ∷ xs) ds =
      omega (arith, frames-front (call_on names s p (frame_call x)).0 (call_on names s p (frame_call x)).1 xs ds)

  frames-of-trace :
      (s : State) (p : Position) (t : List ℕ) (ds : List Call) →
      files.steps_taken names s p (frames_singly t ++ ds) ≡
      files.steps_taken names (rules.after_calls names s p (frames_singly t)).0 (rules.after_calls names s p (frames_singly t)).1 ds
  unfolding frames_singly
  frames-of-trace s p t ds =
      by_case (broken_trace t) (λ broken. rw broken (unfold rules.after_calls in refl)) (λ whole. rw whole (frames-front s p (frames_of t) ds))

  trace-front :
      (s : State) (p : Position) (t : List ℕ) (ds : List Call) →
      files.steps_taken names s p (frames_singly t ++ ds) ≡ files.steps_taken names (after_trace s t) p ds
  trace-front s p t ds =
      frames-of-trace s p t ds ∙ ap (λ (w : State × Position). files.steps_taken names w.0 w.1 ds) (trace-sent-singly names s p t)

  turn-front :
      (s : State) (p : Position) (xs : List (List ℕ)) (ds : List Call) →
      files.steps_taken names s p (map frame_call xs ++ ds) ≡ files.steps_taken names (after_singly s xs) p ds
  turn-front s p xs ds =
      frames-front s p xs ds ∙ ap (λ (w : State × Position). files.steps_taken names w.0 w.1 ds) (frames-singly names s p xs)

  call-front :
      (s : State) (p : Position) (c : CCall) (ds : List Call) → let after = after_all names s p (arguments_of s.file c) in
      step_taken names (memory_of s p) c + files.steps_taken names after.0 after.1 ds ≡
      files.steps_taken names s p (singly (arguments_of s.file c) ++ ds)
  unfolding step_taken files.steps_taken files.step_taken singly arguments_of after_all call_or_trace_on ground_of
  call-front s p (ttpa_step buffer senders) ds =
      rw (call-number names s p (ttpa_step buffer senders), step_unasked s.file p names buffer)
  call-front s p (ttpa_step_keeping buffer senders held count) ds = rw (call-number names s p (ttpa_step_keeping buffer senders held count))
  call-front s p (ttpa_round bytes buffer senders) ds = refl
  call-front s p (ttpa_round_keeping bytes buffer senders held count) ds = refl
  call-front s p (ttpa_trace_lem t report) ds = rw (append-nil (frames_singly t)) (omega (arith, trace-front s p t ds))
  call-front s p (ttpa_turn state buffer senders screen) ds =
      let xs = turn_frames s.file state buffer in
      rw (frames_alone xs, frames-left names s p xs) (omega (arith, turn-front s p xs ds))

  same-steps :
      (s : State) (p : Position) (calls : List CCall) →
      steps_taken names (memory_of s p) calls ≡ files.steps_taken names s p (by_rules names (memory_of s p) calls)
  unfolding steps_taken arguments_of_all
  same-steps s p [] = unfold files.steps_taken singly in refl
  same-steps s p (c ∷ cs) =
      let after = after_all names s p (arguments_of s.file c) in
      let rest = arguments_of_all names (memory_of after.0 after.1) cs in
      rw (call-memory names s p c, same-steps after.0 after.1 cs, singly-append (arguments_of s.file c) rest)
      (call-front s p c (singly rest))

-- so after ttpa_start
started-steps :
    (file names run : List ℕ) → start_ground names ≡ 0 → (calls : List CCall) →
    steps_taken names (started file names run) calls ≡
    files.steps_taken names (start_on file) (fresh names) (by_rules names (started file names run) calls)
started-steps file names run none calls =
    rw (start-memory file names run none) (same-steps names (start_on file) (fresh names) calls)

-- and those that the account counts
pub calls-counted :
    (file : List ℕ) → Bytes file → TakenByRounds file → (names : List ℕ) → Bytes names → (run : List ℕ) → (start_call names run).0 ≡ 0 →
    (calls : List CCall) → All GivenBytes calls → permitted false names (started file names run) calls ≡ true →
    steps_taken names (started file names run) calls ≡
    account_steps (account_of (slaves_in file) names) (by_rules names (started file names run) calls)
calls-counted file b taken names n run starts calls given may =
    let none : start_ground names ≡ 0 = sym (start-number names run) ∙ starts in
    started-steps file names run none calls
    ∙ counts_same file b (runs-accepted taken) names n none (by_rules names (started file names run) calls)
    (singly_of_bytes (all-given names (started file names run) given))
    (sym (start-same file names run none calls) ∙ may)

-- ---- every run ends

pub runs-end_over_calls : RunsEndOverCalls
runs-end_over_calls file b taken names n run starts calls given may =
    let none : start_ground names ≡ 0 = sym (start-number names run) ∙ starts in
    let same = started-steps file names run none calls in
    let exactly =
    runs-end file b (runs-accepted taken) names n none (by_rules names (started file names run) calls)
    (singly_of_bytes (all-given names (started file names run) given))
    (sym (start-same file names run none calls) ∙ may) in
    (λ enough. from-rules starts given (exactly.0 (rw same at enough)), λ to. rw same (exactly.1 (to-rules starts to)))

-- ---- steps whose buffers are long enough

data PlainStep : CCall → Type 0 where
  plain : {buffer : List ℕ} {senders : ℕ} → slots ≤ length buffer → PlainStep (ttpa_step buffer senders)

-- steps without a summary, their buffers long enough, are such steps of the rules
plain-counted :
    (names : List ℕ) (m : Memory) (a : Account) {calls : List CCall} → All PlainStep calls → account_steps a (by_rules names m calls) ≡ length calls
unfolding account_steps account_step arguments_ground first_of wrong_summary short_answer singly arguments_of_all arguments_of
plain-counted names m a all_empty = refl
plain-counted names m a (also (plain {buffer} {senders} fits) ls) =
    let rest =
    plain-counted names (memory_after names m (ttpa_step buffer senders)) (account_call a (Call.step (record { summary = without; buffer = buffer }))) ls in
    rw (le-ltb (length buffer) slots fits) (omega (arith, rest))

-- how many of some numbers are 0; of a list of steps they are those that returned 0
unfoldable zeros_in : List ℕ → ℕ
zeros_in [] = 0
zeros_in (n ∷ ns) = cond (eqb n 0) 1 0 + zeros_in ns

steps-zeros : (names : List ℕ) (m : Memory) {calls : List CCall} → All IsStep calls → steps_taken names m calls ≡ zeros_in (numbers names m calls)
unfolding steps_taken step_taken zeros_in numbers
steps-zeros names m all_empty = refl
steps-zeros names m (also {a = c} is-step rest) = ap (λ (k : ℕ). cond (eqb (returned names m c) 0) 1 0 + k) (steps-zeros names (memory_after names m c) rest)
steps-zeros names m (also {a = c} is-step_keeping rest) = ap (λ (k : ℕ). cond (eqb (returned names m c) 0) 1 0 + k) (steps-zeros names (memory_after names m c) rest)

long-step : {c : CCall} → LongStep c → IsStep c
long-step (long fits) = is-step
long-step (long_keeping fits) = is-step_keeping

long-given : {c : CCall} → LongStep c → GivenBytes c
long-given (long fits) = given-step
long-given (long_keeping fits) = given-step_keeping

plain_long : {c : CCall} → PlainStep c → LongStep c
plain_long (plain fits) = long fits

without_plain : {calls : List CCall} → All LongStep calls → All PlainStep (map without_summary calls)
unfolding without_summary
without_plain all_empty = all_empty
without_plain (also (long fits) ls) = also (plain fits) (without_plain ls)
without_plain (also (long_keeping fits) ls) = also (plain fits) (without_plain ls)

pub every_run-ends_over_calls : EveryRunEndsOverCalls
every_run-ends_over_calls file b taken names n run starts calls ls right enough =
    let m = started file names run in
    let bare = map without_summary calls in
    let plains = without_plain ls in
    let longs = all_map (λ c p. plain_long p) plains in
    let only = all_map (λ c l. long-step l) ls in
    let bare-only = all_map (λ c l. long-step l) longs in
    let counted : steps_taken names m calls ≡ length calls =
    steps-zeros names m only ∙ ap zeros_in (given_makes_no_difference_in_calls names m calls right).number
    ∙ sym (steps-zeros names m bare-only)
    ∙ calls-counted file b taken names n run starts bare (all_map (λ c l. long-given l) longs) (steps-permitted names m bare bare-only)
    ∙ plain-counted names m (account_of (slaves_in file) names) plains ∙ length-map calls without_summary in
    (runs-end_over_calls file b taken names n run starts calls (all_map (λ c l. long-given l) ls) (steps-permitted names m calls only)).0
    (omega (arith, enough, counted))

-- such steps with a buffer of 64 zeros
module _ (senders : ℕ) where
  abbrev pub long_call : CCall
  long_call = ttpa_step (replicate slots 0) senders

  pub steps_by_rules : (names : List ℕ) (m : Memory) (n : ℕ) → by_rules names m (replicate n long_call) ≡ replicate n long_step
  unfolding singly arguments_of_all arguments_of
  steps_by_rules names m zero = refl
  steps_by_rules names m (suc n) = ap (λ (l : List Call). long_step ∷ l) (steps_by_rules names (memory_after names m long_call) n)

  pub steps-given : (n : ℕ) → All GivenBytes (replicate n long_call)
  steps-given zero = all_empty
  steps-given (suc n) = also given-step (steps-given n)

  pub steps-only : (n : ℕ) → All IsStep (replicate n long_call)
  steps-only zero = all_empty
  steps-only (suc n) = also is-step (steps-only n)

-- ---- the end mark, rounds and comparisons

pub end-mark_over_calls : EndMarkOverCalls
end-mark_over_calls file b taken names n run starts calls to =
    let d = demand_over_calls file b taken names n run starts calls to.bytes to.may in
    d.end ∙ account-end (slaves_in file) names (calls_fed calls) (λ e. to.ended (d.end ∙ e))

whole-over-calls :
    (file : List ℕ) → Bytes file → TakenByRounds file → (names : List ℕ) → Bytes names → (run : List ℕ) → (start_call names run).0 ≡ 0 →
    (calls : List CCall) → ToItsEnd file names run calls → Whole (slaves_in file) names (run_after file names run calls)
whole-over-calls file b taken names n run starts calls to =
    let d = demand_over_calls file b taken names n run starts calls to.bytes to.may in
    record {
      end = end-mark_over_calls file b taken names n run starts calls to;
      rounds = d.outcome.ended to.ended;
      comparisons = d.outcome.compared to.ended;
    }

module _ (file : List ℕ) (b : Bytes file) (taken : TakenByRounds file) (A B : List ℕ) (ba : Bytes A) (bb : Bytes B) where
  -- the run over B from the file that A's run left
  second-whole :
      (run run' : List ℕ) → (start_call A run).0 ≡ 0 → (start_call B run').0 ≡ 0 → (first second : List CCall) →
      ToItsEnd file A run first → ToItsEnd (file_after file A run first) B run' second →
      Whole (slaves_in (file_after file A run first)) B (run_after (file_after file A run first) B run' second)
  second-whole run run' starts starts' first second one two =
      let d = demand_over_calls file b taken A ba run starts first one.bytes one.may in
      whole-over-calls (file_after file A run first) (bytes_left file b taken A ba run starts first one) d.accepted B bb run' starts' second two

pub second_finds_over_calls : SecondFindsOverCalls
second_finds_over_calls file b taken A B ba bb run run' starts starts' first second one two =
    second_run (legal-slaves (decode file) (accepted-legal file b (runs-accepted taken)))
    (accepted-names A ba (sym (start-number A run) ∙ starts)) (accepted-names B bb (sym (start-number B run') ∙ starts'))
    (names-left file b taken A ba run starts first one) (second-whole file b taken A B ba bb run run' starts starts' first second one two)

pub two-runs_over_calls : TwoRunsOverCalls
two-runs_over_calls file b taken A B ba bb apart run run' run'' starts starts' first second whole one two all =
    let a : Names A = accepted-names A ba (sym (start-number A run) ∙ starts) in
    let joined : Names (A ++ B) = joined-names a (accepted-names B bb (sym (start-number B run') ∙ starts')) apart in
    let there : Whole (names_after (slaves_in file) A) B (run_after (file_after file A run first) B run' second) =
    subst (λ (l : List Named). Whole l B (run_after (file_after file A run first) B run' second))
    (names-left file b taken A ba run starts first one)
    (second-whole file b taken A B ba bb run run' starts starts' first second one two) in
    runs-together (legal-slaves (decode file) (accepted-legal file b (runs-accepted taken))) a joined
    (whole-over-calls file b taken A ba run starts first one) there
    (whole-over-calls file b taken (A ++ B) (all_append ba bb) run'' ((joined-starts A B ba bb run run' run'' starts starts').1 apart) whole all)
