-- A trace over the C calls is its frames, one call of ttpa_round each, or of ttpa_round_keeping with a summary that matches.
-- Assumes nothing.
use Prim.Native.Nat.{ℕ, ◌≤◌}
use mathlib.Core.Path.{◌≡◌, refl, sym, ap, ◌∙◌}
use mathlib.Core.List.{List}
use mathlib.Core.Bool.{cond}
use lib.ListN.{length, replicate}
use lib.Dec.{eqb}
use borrow.Author.Tests.{eqb-true, eqb-false}
use Rattle.file.specs.Rules.Results.{number_in}
use Rattle.file.proofs.Order.{by_case}
use Rattle.master_slave.specs.Rules.Bus.{slots}
use Rattle.cluster.specs.Rules.RoundGrounds.{round_by_lem}
use Rattle.cluster.specs.Rules.Round.{round_ground}
use Rattle.cluster.specs.Rules.Summary.{kept}
use Rattle.cluster.specs.Claims.Summary.{Matches}
use Rattle.cluster.proofs.Rounds.{round-refused, round-accepted}
use Rattle.trace.specs.Rules.TraceRun.{sent, after_frames, Report, one_refused, one_carried, counted, report_from, report_words, trace_ground}
use Rattle.trace.proofs.Runs.{sent_any}
use Rattle.trace.proofs.Calls.{trace-run}
use Rattle.ttpa.specs.Rules.Calls.{lent_after, round_call, trace_call}
use Rattle.demand.specs.Claims.DemandCalls.{CCall, ttpa_round, ttpa_round_keeping, Memory, returned, memory_after, after_calls}
use Rattle.demand.specs.Claims.Summary.{round_matching, without_summary}
use Rattle.demand.specs.Claims.TraceCalls.{RoundsFor, no_rounds, next_round, next_keeping, TracesAreRounds}
use Rattle.demand.proofs.DemandCalls.{round_number, trace-number}
use Rattle.demand.proofs.Summary.{given-same}

-- what a call of ttpa_round leaves, and how its number counts: as its frame sent with a buffer of 64 bytes
module _ (names : List ℕ) (m : Memory) (x buffer : List ℕ) (senders : ℕ) (long : slots ≤ length buffer) where
  round-memory : memory_after names m (ttpa_round x buffer senders) ≡ record { file = (sent m.file x).2; run = m.run }
  unfolding memory_after round_call sent
  round-memory = rw (sent_any m.file x buffer long).file

  round-counted : (r : Report) → cond (eqb (returned names m (ttpa_round x buffer senders)) 0) (one_carried (round_by_lem x) r) (one_refused r) ≡ counted (sent m.file x).0 (round_by_lem x) r
  unfolding returned round_call sent
  round-counted r =
      rw (sent_any m.file x buffer long).answer
      (by_case (eqb (round_ground m.file x (replicate slots 0)) 0)
      (λ z. rw (round-accepted m.file x (replicate slots 0) (eqb-true _ _ z)) (unfold counted number_in in refl))
      (λ z. rw (round_number m.file x (replicate slots 0), z, round-refused m.file x (replicate slots 0) (eqb-false _ _ z)) (unfold counted in refl)))

  -- so of a call of ttpa_round_keeping
  module _ (held : List ℕ) (count : ℕ) (right : Matches m.file (kept count held)) where
    keeping_memory : memory_after names m (ttpa_round_keeping x buffer senders held count) ≡ record { file = (sent m.file x).2; run = m.run }
    keeping_memory = (given-same names m (round_matching right)).memory ∙ unfold without_summary in round-memory

    keeping-counted :
        (r : Report) → cond (eqb (returned names m (ttpa_round_keeping x buffer senders held count)) 0) (one_carried (round_by_lem x) r) (one_refused r) ≡
        counted (sent m.file x).0 (round_by_lem x) r
    keeping-counted r =
        ap (λ (n : ℕ). cond (eqb n 0) (one_carried (round_by_lem x) r) (one_refused r)) (given-same names m (round_matching right)).number
        ∙ unfold without_summary in round-counted r

rounds-memory : (names : List ℕ) {m : Memory} {xs : List (List ℕ)} {cs : List CCall} {r q : Report} → RoundsFor names m xs cs r q →
    after_calls names m cs ≡ record { file = after_frames m.file xs; run = m.run }
unfolding after_calls after_frames
rounds-memory names no_rounds = refl
rounds-memory names {m} (next_round {x = x} {buffer = buffer} {senders = senders} long rest) = rounds-memory names rest ∙ rw (round-memory names m x buffer senders long)
rounds-memory names {m} (next_keeping {x = x} {buffer = buffer} {senders = senders} {held = held} {count = count} long right rest) =
    rounds-memory names rest ∙ rw (keeping_memory names m x buffer senders long held count right)

rounds-report : (names : List ℕ) {m : Memory} {xs : List (List ℕ)} {cs : List CCall} {r q : Report} → RoundsFor names m xs cs r q → report_from r m.file xs ≡ q
unfolding report_from
rounds-report names no_rounds = refl
rounds-report names {m} {r = r} (next_round {x = x} {buffer = buffer} {senders = senders} long rest) =
    let e = rounds-report names rest in
    rw (round-memory names m x buffer senders long, round-counted names m x buffer senders long r) at e
rounds-report names {m} {r = r} (next_keeping {x = x} {buffer = buffer} {senders = senders} {held = held} {count = count} long right rest) =
    let e = rounds-report names rest in
    rw (keeping_memory names m x buffer senders long held count right, keeping-counted names m x buffer senders long held count right r) at e

pub traces_are-rounds : TracesAreRounds
unfolding memory_after trace_call lent_after
traces_are-rounds names m t report returned rounds q sends =
    let none : trace_ground m.file t ≡ 0 = sym (trace-number m.file t) ∙ returned in
    record {
      memory = rw (trace-run m.file t none) (sym (rounds-memory names sends));
      counts = rw (trace-run m.file t none) (ap (λ (r : Report). report_words r) (rounds-report names sends));
    }
