-- A trace over the C calls (document 02, job 2: "The end state is that of the frames sent singly in order."): ttpa_trace leaves the file as
-- ttpa_round does that is called for each of its frames in order, or ttpa_round_keeping with a summary that matches, and its report counts
-- what those calls return.
use Rattle.std.specs.Prelude.{ℕ, ◌≤◌, ◌≡◌, List, [], ◌∷◌, cond, length, eqb}
use Rattle.master_slave.specs.Rules.Bus.{slots}
use Rattle.cluster.specs.Rules.RoundGrounds.{round_by_lem}
use Rattle.cluster.specs.Rules.Summary.{kept}
use Rattle.cluster.specs.Claims.Summary.{Matches}
use Rattle.trace.specs.Rules.Trace.{frames_of}
use Rattle.trace.specs.Rules.TraceRun.{Report, no_frames, report_words, one_refused, one_carried}
use Rattle.ttpa.specs.Rules.Calls.{trace_call}
use Rattle.demand.specs.Claims.DemandCalls.{CCall, ttpa_round, ttpa_round_keeping, Memory, returned, memory_after, after_calls, ttpa_trace_lem}

-- the calls for frames in order, with any answer buffers of 64 bytes or more and any senders' words, and the report that their numbers
-- give, each frame counting by its firework where the call returns 0: "a refused frame counting as refused only"
pub data RoundsFor (names : List ℕ) : Memory → List (List ℕ) → List CCall → Report → Report → Type 0 where
  no_rounds : {m : Memory} {r : Report} → RoundsFor names m [] [] r r
  next_round : {m : Memory} {x buffer : List ℕ} {senders : ℕ} {xs : List (List ℕ)} {cs : List CCall} {r q : Report} → slots ≤ length buffer →
      RoundsFor names (memory_after names m (ttpa_round x buffer senders)) xs cs
      (cond (eqb (returned names m (ttpa_round x buffer senders)) 0) (one_carried (round_by_lem x) r) (one_refused r)) q →
      RoundsFor names m (x ∷ xs) (ttpa_round x buffer senders ∷ cs) r q
  next_keeping : {m : Memory} {x buffer : List ℕ} {senders : ℕ} {held : List ℕ} {count : ℕ} {xs : List (List ℕ)} {cs : List CCall} {r q : Report} →
      slots ≤ length buffer → Matches m.file (kept count held) →
      RoundsFor names (memory_after names m (ttpa_round_keeping x buffer senders held count)) xs cs
      (cond (eqb (returned names m (ttpa_round_keeping x buffer senders held count)) 0) (one_carried (round_by_lem x) r) (one_refused r)) q →
      RoundsFor names m (x ∷ xs) (ttpa_round_keeping x buffer senders held count ∷ cs) r q

-- a trace that is carried out: file and words are those that the rounds leave, and the report's words are their counts
pub record TraceIsRounds (names : List ℕ) (m : Memory) (t report : List ℕ) (rounds : List CCall) (q : Report) : Type 0 where
  pub memory : memory_after names m (ttpa_trace_lem t report) ≡ after_calls names m rounds
  pub counts : (trace_call m.file t report).1 ≡ report_words q

abbrev pub TracesAreRounds : Type 0
TracesAreRounds =
    (names : List ℕ) (m : Memory) (t report : List ℕ) → (trace_call m.file t report).0 ≡ 0 →
    (rounds : List CCall) (q : Report) → RoundsFor names m (frames_of t) rounds no_frames q → TraceIsRounds names m t report rounds q
