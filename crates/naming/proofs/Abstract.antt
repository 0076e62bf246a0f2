-- Demand 3 over abstract laws: a system whose naming steps do to the slaves' views what their rounds do, and whose other permitted
-- calls leave alone what the run rests on, keeps step with the plain account over every list of calls.
-- Assumes nothing.
use Prim.Native.Nat.{ℕ, suc, ◌+◌, ◌/◌, ◌%◌, ◌^◌, ◌≤◌, ◌<◌}
use mathlib.Core.Path.{◌≡◌, refl, sym, ap, ◌∙◌}
use mathlib.Core.Logic.{◌≢◌}
use mathlib.Core.List.{List, [], ◌∷◌, map}
use mathlib.Core.Bool.{true, false}
use native.Mathlib.Omega.{arith}
use lib.ListN.{length, get_or}
use lib.Dec.{eqb}
use borrow.Author.Tests.{eq-eqb, ne_eqb, le-ltb, lt-leb, eqb-true, eqb-false}
use Rattle.file.specs.Rules.Bytes.{All, all_empty, all_next as also}
use Rattle.file.specs.Rules.Order.{both}
use Rattle.file.specs.Rules.FileGrounds.{is_among}
use Rattle.file.proofs.Bytes.{all_first}
use Rattle.file.proofs.Order.{by_case, both_true, either_false, both_false_left, both_false_right}
use Rattle.naming.specs.Inner.View.{SlaveView, view_unnamed, unnamed_change, change, change_all, answers}
use Rattle.naming.specs.Rules.RunRounds.{RunRound, RunRound.poll as poll_of, write_name, write_high, write_low, compare, RunRound.baptize as baptize_all, half}
use Rattle.naming.specs.Rules.Position.{Position, running, names_used_up}
use Rattle.naming.specs.Rules.Pass.{PassPlace, high, low, reply, place_of}
use Rattle.naming.specs.Rules.Run.{round_at, round_here, is_repeated, is_needless}
use Rattle.naming.specs.Rules.Pass.{last_step, bits}
use Rattle.naming.specs.Rules.Run.{pass_round, is_extra, count_raised, pass_advance, next_round, advance, tried}
use Rattle.naming.specs.Rules.RunGrounds.{unfit_position, count_limit}
use Rattle.naming.specs.Inner.PassPlaces.{step_of}
use Rattle.naming.specs.Rules.Account.{naming_comparisons, Named, Account, StepArguments, FrameArguments, Call, step, frame, arguments_ground}
use Rattle.naming.specs.Rules.Account.{account_call, account_after, pass_on, extra, one_round, comparisons_after, high_again, comparisons_of}
use Rattle.naming.proofs.Places.{LegalPlace, inner, at-poll, at-ask, at_name, at_high, at_low, at-baptize, step_lt}
use Rattle.naming.proofs.Walk.{compared, compared-most, count_past}
use Rattle.naming.proofs.Search.{tried-small}
use Rattle.naming.proofs.Facts.{Fit}
use Rattle.naming.proofs.PositionLaws.{stays}
use Rattle.naming.proofs.Answers.{named_of, Same, same_names, same-told}
use Rattle.naming.proofs.Simulation.{Told, Pass, At, Tie, going, over, place_here, round-here, needless-here, settle, moves, length-here}
use Rattle.naming.proofs.Tally.{Tally, in-pass, ended, Done, due, length_of_pass, tally_round}

-- ---- the laws

-- what a round sends are bytes: a fit name, a half of 32 bits
pub data Sendable : RunRound → Type 0 where
  of_poll : {n : ℕ} → Fit n → Sendable (poll_of n)
  of_name : {n : ℕ} → Fit n → Sendable (write_name n)
  of_high : {h : ℕ} → h < half → Sendable (write_high h)
  of_low : {l : ℕ} → l < half → Sendable (write_low l)
  of_compare : Sendable compare
  of_baptize : Sendable baptize_all

-- a state after a step's round, and one after another call
pub record Stepped
    (S : Type 0) (names : List ℕ) (view : S → List SlaveView) (Good Awake : S → Type 0) (s : S) (p : Position) (after : S × Position) : Type 0 where
  pub good : Good after.0
  pub awake : Awake after.0
  pub views : view after.0 ≡ change_all (next_round names p) (view s)
  pub moved : after.1 ≡ advance names p (answers (next_round names p) (view s))

pub record Left (S : Type 0) (view : S → List SlaveView) (Good Awake : S → Type 0) (s : S) (p : Position) (after : S × Position) : Type 0 where
  pub good : Good after.0
  pub awake : Awake s → Awake after.0
  pub same : Same (view s) (view after.0)
  pub stays : after.1 ≡ p

-- a state of the file (with what else decides which calls are permitted), the view of it, what holds of it throughout, that nobody
-- sleeps in it, the calls that are permitted, and what a call makes of file and run, over a list of names
pub record Laws
    (S : Type 0) (names : List ℕ) (view : S → List SlaveView) (Good Awake : S → Type 0) (Allowed : S → Position → Call → Type 0)
    (call : S → Position → Call → S × Position) : Type 0 where
  -- a step that its own arguments refuse, and a step of an ended run, alter nothing
  pub turned :
      (s : S) (p : Position) (arguments : StepArguments) → Good s → arguments_ground (map named_of (view s)) arguments ≢ 0 →
      call s p (step arguments) ≡ (s, p)
  pub idle :
      (s : S) (p : Position) (arguments : StepArguments) → Good s → arguments_ground (map named_of (view s)) arguments ≡ 0 →
      unfit_position names p ≡ false → (p.end ≡ running → ⊥) → call s p (step arguments) ≡ (s, p)
  -- any other step makes its round and moves on by the answer; slaves may sleep before the run's first round, the extra read, alone
  pub steps :
      (s : S) (p : Position) (arguments : StepArguments) → Good s → ((p.counts.rounds ≡ 0 → ⊥) → Awake s) → Allowed s p (step arguments) →
      arguments_ground (map named_of (view s)) arguments ≡ 0 → unfit_position names p ≡ false → p.end ≡ running →
      Sendable (next_round names p) → Stepped S names view Good Awake s p (call s p (step arguments))
  -- a frame of others, refused or not, leaves each slave's names, and an unnamed slave whole, and the run, and puts nobody to sleep
  pub others :
      (s : S) (p : Position) (arguments : FrameArguments) → Good s → Allowed s p (frame arguments) →
      Left S view Good Awake s p (call s p (frame arguments))

-- ---- the tie, call by call

operation-here :
    {names : List ℕ} {vs : List SlaveView} {l : PassPlace} {p : Position} {a : Pass} → At names vs l p a →
    is_needless names p ≡ false → pass_round names p ≡ round_at l a.name p.place.value
unfolding pass_round
operation-here {names} {p = p} i real = rw (stays names p real) (round-here i)

-- a round of the pass
tie-pass :
    {names : List ℕ} {vs : List SlaveView} {p : Position} {a : Account} → Tie names vs p a → p.end ≡ running →
    Tie names (change_all (pass_round names p) vs) (pass_advance names p (answers (pass_round names p) vs)) (pass_on a)
unfolding pass_advance
tie-pass {names} {vs} {p} (going {l = l} {a = a} i real) m =
    rw (operation-here i real, stays names p real, round-here i, place_here i)
    (settle (moves names vs l p a i.legal i (sym (needless-here i) ∙ real)))
tie-pass (over o) m = absurd (omega (arith, o.some))

-- the extra round: a poll changes no view, and the reply is ignored
pub polled : (n : ℕ) (vs : List SlaveView) → change_all (poll_of n) vs ≡ vs
unfolding change_all
polled n [] = refl
polled n (v ∷ vs) = rw (one v, polled n vs)
  where
    one : (v : SlaveView) → change (poll_of n) v ≡ v
    one v = by_case (view_unnamed v) (λ e. unfold change unnamed_change in rw e) (λ e. unfold change in rw e)

-- which writes are needless does not depend on the rounds made
needless_raised : (names : List ℕ) (p : Position) → is_needless names p ≡ is_needless names (count_raised p)
unfolding is_needless round_here count_raised
needless_raised names p = rw (repeats (round_at (place_of p.place.step) (get_or names p.place.index 0) p.place.value))
  where
    repeats : (r : RunRound) → is_repeated r p ≡ is_repeated r (count_raised p)
    repeats (poll_of n) = unfold is_repeated in refl
    repeats (write_name n) = unfold is_repeated in refl
    repeats (write_high h) = unfold is_repeated in refl
    repeats (write_low l) = unfold is_repeated in refl
    repeats compare = unfold is_repeated in refl
    repeats baptize_all = unfold is_repeated in refl

tie_extra : {names : List ℕ} {vs : List SlaveView} {p : Position} {a : Account} → Tie names vs p a → p.end ≡ running → Tie names vs (count_raised p) (extra a)
unfolding count_raised extra
tie_extra {names} {vs} {p} (going {l = l} {a = a} i real) m =
    let raised : Pass =
    record {
      name = a.name;
      others = a.others;
      waiting = a.waiting;
      slaves = a.slaves;
      held = a.held;
      rounds = suc a.rounds;
      done = a.done;
      k = a.k;
    } in
    let g : At names vs l (count_raised p) raised =
    record {
      runs = i.runs;
      legal = i.legal;
      facts = i.facts;
      here = i.here;
      place = i.place;
      made = i.made;
      rounds = ap suc i.rounds;
      counted = i.counted;
      views = i.views;
      known = i.known;
      halves = i.halves;
      heard = i.heard;
      small = i.small;
    } in
    going g (sym (needless_raised names p) ∙ real)
tie_extra (over o) m = absurd (omega (arith, o.some))

pub tie-step :
    {names : List ℕ} {vs : List SlaveView} {p : Position} {a : Account} → Tie names vs p a → p.end ≡ running →
    Tie names (change_all (next_round names p) vs) (advance names p (answers (next_round names p) vs)) (one_round a)
unfolding next_round advance one_round is_extra
tie-step {names} {vs} {p} {a} t m =
    let ends : eqb a.end 0 ≡ true = eq-eqb _ _ (sym (same_end t) ∙ m) in
    by_case (eqb p.counts.rounds 0)
    (λ e.
    let counts : eqb a.rounds 0 ≡ true = eq-eqb _ _ (sym (same-rounds t) ∙ eqb-true _ _ e) in
    rw (e, both_true ends counts, polled (get_or names 0 0) vs) (tie_extra t m))
    (λ e.
    let counts : eqb a.rounds 0 ≡ false = ne_eqb _ _ (λ z. eqb-false _ _ e (same-rounds t ∙ z)) in
    rw (e, both_false_right (eqb a.end 0) counts) (tie-pass t m))
  where
    same_end : {p : Position} {a : Account} → Tie names vs p a → p.end ≡ a.end
    same_end (going i real) = i.runs
    same_end (over o) = o.end

    same-rounds : {p : Position} {a : Account} → Tie names vs p a → p.counts.rounds ≡ a.rounds
    same-rounds (going i real) = i.rounds
    same-rounds (over o) = o.rounds

-- an ended account makes no more rounds
tie_idle : {names : List ℕ} {vs : List SlaveView} {p : Position} {a : Account} → Tie names vs p a → (p.end ≡ running → ⊥) → one_round a ≡ a
unfolding one_round pass_on both
tie_idle (going i real) n = absurd (n i.runs)
tie_idle {a = a} (over o) n = let z : a.end ≡ 0 → ⊥ = omega (arith, o.some, o.end) in rw (ne_eqb a.end 0 z)

-- rounds of others
tie_others : {names : List ℕ} {vs ws : List SlaveView} {p : Position} {a : Account} → Same vs ws → Tie names vs p a → Tie names ws p a
tie_others {p = p} s (going {l = l} {a = a} i real) =
    going {a = a}
    (record {
      runs = i.runs;
      legal = i.legal;
      facts = i.facts;
      here = i.here;
      place = i.place;
      made = i.made;
      rounds = i.rounds;
      counted = i.counted;
      views = same_names s ∙ i.views;
      known = i.known;
      halves = i.halves;
      heard = same-told (Told l a.name p.halves) s i.heard;
      small = i.small;
    })
    real
tie_others {a = a} s (over o) =
    over {a = a}
    (record {
      views = same_names s ∙ o.views;
      end = o.end;
      some = o.some;
      most = o.most;
      within = o.within;
      rounds = o.rounds;
      counted = o.counted;
    })

-- what the tie says
pub record Agree (vs : List SlaveView) (p : Position) (a : Account) : Type 0 where
  pub names : map named_of vs ≡ a.slaves
  pub end : p.end ≡ a.end
  pub rounds : p.counts.rounds ≡ a.rounds
  pub comparisons : p.counts.comparisons ≡ comparisons_of a

pub tie_agree : {names : List ℕ} {vs : List SlaveView} {p : Position} {a : Account} → Tie names vs p a → Agree vs p a
unfolding comparisons_of
tie_agree (going {a = a} i real) =
    let made : comparisons_after (high_again a.waiting) a.k ≡ compared _ =
    ap (comparisons_after (high_again a.waiting)) i.made ∙ count_past a.waiting i.legal in
    record { names = i.views; end = i.runs; rounds = i.rounds; comparisons = i.counted ∙ ap (λ (x : ℕ). a.done + x) (sym made) }
tie_agree (over o) = record { names = o.views; end = o.end; rounds = o.rounds; comparisons = o.counted }

-- what is sent are bytes
sendable-at :
    {names : List ℕ} {vs : List SlaveView} {l : PassPlace} {p : Position} {a : Pass} → LegalPlace l → At names vs l p a →
    Sendable (round_at l a.name p.place.value)
unfolding round_at
sendable-at (inner at-poll) i = of_poll (all_first i.facts.fit)
sendable-at {p = p} (inner (at-ask {q = q} high h)) i =
    let t : tried q p.place.value < 2 ^ bits = tried-small h p.place.value i.small in
    let k : tried q p.place.value / half < half = omega arith in
    of_high k
sendable-at {p = p} (inner (at-ask {q = q} low h)) i = let k : tried q p.place.value % half < half = omega arith in of_low k
sendable-at (inner (at-ask reply h)) i = of_compare
sendable-at (inner at_name) i = of_name (all_first i.facts.fit)
sendable-at {p = p} (inner at_high) i = let k : p.place.value / half < half = omega (arith, i.small) in of_high k
sendable-at {p = p} (inner at_low) i = let k : p.place.value % half < half = omega arith in of_low k
sendable-at at-baptize i = of_baptize

pass_sendable : {names : List ℕ} {vs : List SlaveView} {p : Position} {a : Account} → Tie names vs p a → p.end ≡ running → Sendable (pass_round names p)
pass_sendable (going i real) m = rw (operation-here i real) (sendable-at i.legal i)
pass_sendable (over o) m = absurd (omega (arith, o.some))

pub tie_sendable : {names : List ℕ} {vs : List SlaveView} {p : Position} {a : Account} → All Fit names → Tie names vs p a → p.end ≡ running → Sendable (next_round names p)
unfolding next_round
tie_sendable {names} {vs} {p} {a} fit t m =
    by_case (is_extra p) (λ e. rw e (of_poll (first-fit fit (nonempty t m)))) (λ e. rw e (pass_sendable t m))
  where
    nonempty : {p : Position} {a : Account} → Tie names vs p a → p.end ≡ running → 0 < length names
    nonempty {p = p} (going {a = a} i real) m = omega (arith, length-here names p.place.index a.name a.others i.here)
    nonempty (over o) m = absurd (omega (arith, o.some))

    first-fit : {l : List ℕ} → All Fit l → 0 < length l → Fit (get_or l 0 0)
    first-fit all_empty some = absurd (omega arith)
    first-fit (also b bs) some = b

-- ---- the tally, and ground 17

pass-due : (n : ℕ) (ns ws held : List ℕ) → length_of_pass (is_among n held) ws ≤ due held (n ∷ ns) ws
unfolding length_of_pass due
pass-due n ns [] held = by_case (is_among n held) (λ t. rw t (omega arith)) (λ f. rw f (omega arith))
pass-due n ns (p ∷ ps) held = by_case (is_among n held) (λ t. rw t (omega arith)) (λ f. rw f (omega arith))

-- a running account has not made all rounds
pub record Short (R C : ℕ) (a : Account) : Type 0 where
  pub rounds : a.rounds < R
  pub done : a.done ≤ C

pub tally_running : {R C : ℕ} {F : List Named} {a : Account} → Tally R C F a → a.end ≡ 0 → Short R C a
tally_running (in-pass {n = n} {rounds = rounds} {done = done} {k = k} {ns = ns} {ws = ws} {held = held} d) e =
    record { rounds = omega (arith, d.all, d.within, pass-due n ns ws held); done = omega (arith, d.comparisons) }
tally_running (ended d) e = absurd (omega (arith, d.some))

pub tally_ended : {R C : ℕ} {F : List Named} {a : Account} → Tally R C F a → (a.end ≡ 0 → ⊥) → Done R C F a.waiting a.slaves a.end a.rounds a.done a.k
tally_ended (in-pass d) n = absurd (n refl)
tally_ended (ended d) n = d

step-most : {l : PassPlace} → LegalPlace l → step_of l ≤ last_step
unfolding step_of
step-most (inner h) = omega (arith, step_lt h)
step-most at-baptize = omega arith

-- no ground 17
tie-fit :
    {names : List ℕ} {vs : List SlaveView} {p : Position} {a : Account} (R C : ℕ) → Tie names vs p a → (a.end ≡ 0 → Short R C a) →
    R < count_limit → C + naming_comparisons < count_limit → unfit_position names p ≡ false
unfolding unfit_position
tie-fit {names} {p = p} R C (going {l = l} {a = a} i real) s r c =
    let index = p.place.index in
    let size : length names ≡ index + suc (length a.others) = length-here names index a.name a.others i.here in
    let e : p.end ≤ names_used_up = omega (arith, i.runs) in
    let m : p.place.step ≤ last_step = omega (arith, i.place, step-most i.legal) in
    let x : p.counts.rounds < count_limit = omega (arith, (s refl).rounds, i.rounds) in
    let y : p.counts.comparisons < count_limit = omega (arith, (s refl).done, i.counted, compared-most l) in
    let z : index ≡ length names → ⊥ = omega arith in
    either_false (le-ltb names_used_up p.end e)
    (either_false (le-ltb (length names) index (omega arith))
    (both_false_right _
    (either_false (ne_eqb index (length names) z)
    (either_false (le-ltb last_step p.place.step m)
    (either_false (lt-leb count_limit p.counts.rounds x) (lt-leb count_limit p.counts.comparisons y))))))
tie-fit {names} {p = p} R C (over o) s r c =
    let z : p.end ≡ running → ⊥ = omega (arith, o.some) in
    either_false (le-ltb names_used_up p.end o.most)
    (either_false (le-ltb (length names) p.place.index o.within) (both_false_left _ (ne_eqb p.end running z)))

-- ---- every list of calls

-- file and run after a list of calls
unfoldable pub run_calls : (S : Type 0) → (S → Position → Call → S × Position) → S × Position → List Call → S × Position
run_calls S call w [] = w
run_calls S call w (c ∷ cs) = run_calls S call (call w.0 w.1 c) cs

-- each call is permitted where it comes
pub data Permitted (S : Type 0) (Allowed : S → Position → Call → Type 0) (call : S → Position → Call → S × Position) :
    S × Position → List Call → Type 0 where
  all_made : {w : S × Position} → Permitted S Allowed call w []
  one_more :
      {w : S × Position} {c : Call} {cs : List Call} → Allowed w.0 w.1 c → Permitted S Allowed call (call w.0 w.1 c) cs →
      Permitted S Allowed call w (c ∷ cs)

-- what holds between calls: the tie and the tally, and once a round of the run is made nobody sleeps
pub record Between
    (S : Type 0) (names : List ℕ) (view : S → List SlaveView) (Good Awake : S → Type 0) (R C : ℕ) (F : List Named) (w : S × Position) (a : Account) :
    Type 0 where
  pub good : Good w.0
  pub awake : (w.1.counts.rounds ≡ 0 → ⊥) → Awake w.0
  pub tie : Tie names (view w.0) w.1 a
  pub tally : Tally R C F a

module _
    (S : Type 0) (names : List ℕ) (view : S → List SlaveView) (Good Awake : S → Type 0) (Allowed : S → Position → Call → Type 0)
    (call : S → Position → Call → S × Position) (laws : Laws S names view Good Awake Allowed call) (R C : ℕ) (F : List Named) (few : R < count_limit)
    (fewer : C + naming_comparisons < count_limit) (fits : All Fit names) where
  -- ground 17 never holds
  pub stays_fit : (w : S × Position) (a : Account) → Between S names view Good Awake R C F w a → unfit_position names w.1 ≡ false
  stays_fit w a h = tie-fit R C h.tie (tally_running h.tally) few fewer

  running-step :
      (w : S × Position) (a : Account) (arguments : StepArguments) → Between S names view Good Awake R C F w a → Allowed w.0 w.1 (step arguments) →
      arguments_ground (map named_of (view w.0)) arguments ≡ 0 → w.1.end ≡ running →
      Between S names view Good Awake R C F (call w.0 w.1 (step arguments)) (one_round a)
  running-step w a arguments h allowed free m =
      record { good = st.good; awake = λ _. st.awake; tie = rw (st.views, st.moved) (tie-step h.tie m); tally = tally_round R C F h.tally }
    where
      st : Stepped S names view Good Awake w.0 w.1 (call w.0 w.1 (step arguments))
      st = laws.steps w.0 w.1 arguments h.good h.awake allowed free (stays_fit w a h) m (tie_sendable fits h.tie m)

  idle-step :
      (w : S × Position) (a : Account) (arguments : StepArguments) → Between S names view Good Awake R C F w a →
      arguments_ground (map named_of (view w.0)) arguments ≡ 0 → (w.1.end ≡ running → ⊥) →
      Between S names view Good Awake R C F (call w.0 w.1 (step arguments)) (one_round a)
  idle-step w a arguments h free n = rw (laws.idle w.0 w.1 arguments h.good free (stays_fit w a h) n, tie_idle h.tie n) h

  pub one-call :
      (w : S × Position) (a : Account) (c : Call) → Between S names view Good Awake R C F w a → Allowed w.0 w.1 c →
      Between S names view Good Awake R C F (call w.0 w.1 c) (account_call a c)
  unfolding account_call
  one-call w a (step arguments) h allowed =
      let same : arguments_ground (map named_of (view w.0)) arguments ≡ arguments_ground a.slaves arguments =
      ap (λ (l : List Named). arguments_ground l arguments) (tie_agree h.tie).names in
      by_case (eqb (arguments_ground a.slaves arguments) 0)
      (λ t.
      let none = same ∙ eqb-true _ _ t in
      rw t
      (by_case (eqb w.1.end running)
      (λ e. running-step w a arguments h allowed none (eqb-true _ _ e))
      (λ e. idle-step w a arguments h none (eqb-false _ _ e))))
      (λ f. rw (f, laws.turned w.0 w.1 arguments h.good (λ z. eqb-false _ _ f (sym same ∙ z))) h)
  one-call w a (frame arguments) h allowed =
      let o : Left S view Good Awake w.0 w.1 (call w.0 w.1 (frame arguments)) = laws.others w.0 w.1 arguments h.good allowed in
      record {
        good = o.good;
        awake = λ n. o.awake (h.awake (λ z. n (ap (λ (q : Position). q.counts.rounds) o.stays ∙ z)));
        tie = rw o.stays (tie_others o.same h.tie);
        tally = h.tally;
      }

  pub all_calls :
      (w : S × Position) (a : Account) (cs : List Call) → Between S names view Good Awake R C F w a → Permitted S Allowed call w cs →
      Between S names view Good Awake R C F (run_calls S call w cs) (account_after a cs)
  unfolding run_calls account_after
  all_calls w a [] h all_made = h
  all_calls w a (c ∷ cs) h (one_more allowed rest) =
      all_calls (call w.0 w.1 c) (account_call a c) cs (one-call w a c h allowed) rest
