-- Up to k steps after one check are k steps one after another.
-- Assumes nothing.
use Prim.Native.Nat.{ℕ, zero, suc, ◌+◌, ◌^◌, ◌≤◌, ◌<◌}
use mathlib.Core.Path.{◌≡◌, refl, sym, ap, ◌∙◌, subst}
use mathlib.Core.Logic.{◌≢◌, ◌⊎◌, inl, inr}
use mathlib.Core.List.{List}
use mathlib.Core.Bool.{true, false}
use native.Mathlib.Omega.{arith}
use borrow.Author.Tests.{eqb-true, eqb-false, ltb-true, ltb-false}
use lib.ListN.{length, get_or}
use lib.Dec.{eqb, ltb}
use Rattle.file.specs.Rules.Bytes.{Bytes}
use Rattle.file.specs.Rules.Order.{first_of, both}
use Rattle.file.specs.Rules.Results.{Result, refused, done}
use Rattle.file.specs.Rules.Decode.{decode}
use Rattle.file.specs.Rules.FileGrounds.{file_ground}
use Rattle.file.proofs.Order.{by_case, clash}
use Rattle.master_slave.specs.Rules.Bus.{slots}
use Rattle.cluster.specs.Rules.Round.{Answer, round_ground, round_on, frame_on}
use Rattle.cluster.specs.Rules.MasterSlave.{Sent, round_sent}
use Rattle.cluster.specs.Inner.Sending.{MaySend}
use Rattle.master_slave.proofs.Bus.{answer-length}
use Rattle.cluster.proofs.Rounds.{round-bytes, round_keeps_file, others_decide, none-holds}
use Rattle.cluster.proofs.SentRounds.{data-sent-bytes}
use Rattle.naming.specs.Rules.Position.{Position, running}
use Rattle.naming.specs.Rules.Pass.{bits}
use Rattle.naming.specs.Rules.RunGrounds.{unfit_position, start_ground, run_grounds}
use Rattle.naming.specs.Rules.Step.{StepDone, ended, made, made_by_lem, step_ground, step_on}
use Rattle.naming.specs.Rules.Steps.{is_made_lem, mask_in, Progress, begun, next_step, with_step, steps_from, nowhere, StepsDone, steps, steps_on}
use Rattle.naming.specs.Claims.Steps.{each_step, answer_after, StepsInARow, StepsRefused, NumberAnswered, StepsAnswered, Told, StepsTold, NoOtherTold, StopsBy17, StopsAtFirst}
use Rattle.naming.proofs.RunLaws.{run_unfit, run_fits}
use Rattle.naming.proofs.StepLaws.{step-refused, step-ended, step-made}
use Rattle.naming.proofs.StepFrames.{next-sent}
use Rattle.naming.proofs.Renaming.{step_value}
use Rattle.naming.proofs.Moves.{address-of}
use Rattle.naming.proofs.StepsLaws.{made_makes, steps-refused, steps-made, names-accepted}

abbrev Left : Type 0
Left = Position × List ℕ × List ℕ

abbrev Answered : Type 0
Answered = Result StepDone × Position × List ℕ × List ℕ

-- ---- a step that makes no round alters nothing

made_always : (a : Answer) → is_made_lem (done (made_by_lem a)) ≡ true
unfolding is_made_lem made_by_lem
made_always (refused n) = refl
made_always (done mask) = refl

pub still : (file : List ℕ) (p : Position) (names buffer : List ℕ) → is_made_lem (step_on file p names buffer).0 ≡ false →
    ◌≡◌ {A = Left} ((step_on file p names buffer).1, (step_on file p names buffer).2, (step_on file p names buffer).3) (p, buffer, file)
still file p names buffer e =
    by_case (eqb (step_ground file p names buffer) 0)
    (λ g.
    let none = eqb-true _ _ g in
    by_case (eqb p.end running)
    (λ r. clash (ap (λ (s : Answered). is_made_lem s.0) (step-made file p names buffer none (eqb-true _ _ r)) ∙ made_always _) e)
    (λ r. rw (step-ended file p names buffer none (eqb-false _ _ r))))
    (λ g. rw (step-refused file p names buffer (eqb-false _ _ g)))

each_still : (names : List ℕ) (k : ℕ) (file : List ℕ) (p : Position) (buffer : List ℕ) → is_made_lem (step_on file p names buffer).0 ≡ false → each_step names k file p buffer ≡ (p, buffer, file)
unfolding each_step
each_still names zero file p buffer e = refl
each_still names (suc k) file p buffer e =
    ap (λ (s : Left). each_step names k s.2 s.0 s.1) (still file p names buffer e) ∙ each_still names k file p buffer e

left_by_lem : Progress → Left
left_by_lem t = (t.run, t.buffer, t.file)

from_each : (names : List ℕ) (k : ℕ) (t : Progress) → left_by_lem (steps_from nowhere names k t) ≡ each_step names k t.file t.run t.buffer
unfolding left_by_lem steps_from both each_step next_step with_step
from_each names zero t = refl
from_each names (suc k) t =
    by_case (is_made_lem (step_on t.file t.run names t.buffer).0)
    (λ m. rw m (from_each names k (with_step t (next_step names t))))
    (λ m. rw m (sym (each_still names (suc k) t.file t.run t.buffer m)))

pub steps_in_a_row : StepsInARow
unfolding left_by_lem begun
steps_in_a_row k file p names buffer =
    by_case (eqb (step_ground file p names buffer) 0)
    (λ g. rw (steps-made k file p names buffer (eqb-true _ _ g)) (from_each names k (begun file p buffer)))
    (λ g.
    let some = eqb-false _ _ g in
    let unmade : is_made_lem (step_on file p names buffer).0 ≡ false = rw (step-refused file p names buffer some) (unfold is_made_lem in refl) in
    rw (sym (steps-refused k file p names buffer refl some)) (sym (each_still names k file p buffer unmade)))

pub steps-are-refused : StepsRefused
steps-are-refused k file p names buffer some = sym (steps-refused k file p names buffer refl some)

-- ---- how many made their round

made-mask : (r : Result StepDone) → is_made_lem r ≡ true → r ≡ done (made (mask_in r))
unfolding is_made_lem mask_in
made-mask (refused n) e = cc
made-mask (done ended) e = cc
made-mask (done (made mask)) e = refl

-- the answer of the step after i, from steps under way
unfoldable answer_from : List ℕ → ℕ → Progress → Result StepDone
answer_from names i t = answer_after names i t.file t.run t.buffer

answer-first : (names : List ℕ) (t : Progress) → answer_from names 0 t ≡ (next_step names t).0
unfolding answer_from answer_after each_step next_step
answer-first names t = refl

answer-later : (names : List ℕ) (i : ℕ) (t : Progress) → answer_from names (suc i) t ≡ answer_from names i (with_step t (next_step names t))
unfolding answer_from answer_after each_step next_step with_step
answer-later names i t = refl

from-made : (names : List ℕ) (k : ℕ) (t : Progress) → is_made_lem (next_step names t).0 ≡ true → steps_from nowhere names (suc k) t ≡ steps_from nowhere names k (with_step t (next_step names t))
unfolding steps_from both
from-made names k t m = rw m

from_stopped : (names : List ℕ) (k : ℕ) (t : Progress) → is_made_lem (next_step names t).0 ≡ false → steps_from nowhere names (suc k) t ≡ t
unfolding steps_from both
from_stopped names k t m = rw m

record Walk (names : List ℕ) (k : ℕ) (t end : Progress) : Type 0 where
  n : ℕ
  count : end.made ≡ t.made + n
  most : n ≤ k
  each : (i : ℕ) → i < n → is_made_lem (answer_from names i t) ≡ true
  last : (i : ℕ) → suc i ≡ n → answer_from names i t ≡ done (made end.senders)
  none : n ≡ 0 → end.senders ≡ t.senders
  stops : n < k → is_made_lem (answer_from names n t) ≡ true → ⊥

stay : (names : List ℕ) (k : ℕ) (t : Progress) → (0 < k → is_made_lem (answer_from names 0 t) ≡ true → ⊥) → Walk names k t t
stay names k t stops =
    record {
      n = 0;
      count = omega arith;
      most = omega arith;
      each = λ i h. absurd (omega arith);
      last = λ i e. absurd (omega arith);
      none = λ e. refl;
      stops = stops;
    }

module _ (names : List ℕ) (k : ℕ) (t end : Progress) (m : is_made_lem (next_step names t).0 ≡ true) (w : Walk names k (with_step t (next_step names t)) end) where
  each_next : (i : ℕ) → i < suc w.n → is_made_lem (answer_from names i t) ≡ true
  each_next zero h = ap is_made_lem (answer-first names t) ∙ m
  each_next (suc i) h = ap is_made_lem (answer-later names i t) ∙ w.each i (omega arith)

  last-next : (i : ℕ) → suc i ≡ suc w.n → answer_from names i t ≡ done (made end.senders)
  unfolding with_step
  last-next zero e =
      let mask : end.senders ≡ mask_in (next_step names t).0 = w.none (omega arith) in
      answer-first names t ∙ made-mask (next_step names t).0 m ∙ rw mask
  last-next (suc i) e = answer-later names i t ∙ w.last i (omega arith)

  walk-next : Walk names (suc k) t end
  unfolding with_step
  walk-next =
      record {
        n = suc w.n;
        count = omega (arith, w.count);
        most = omega (arith, w.most);
        each = each_next;
        last = last-next;
        none = λ e. absurd (omega arith);
        stops = λ h e. w.stops (omega arith) (ap is_made_lem (sym (answer-later names w.n t)) ∙ e);
      }

walk : (names : List ℕ) (k : ℕ) (t : Progress) → Walk names k t (steps_from nowhere names k t)
walk names zero t = unfold steps_from in stay names 0 t (λ h. absurd (omega arith))
walk names (suc k) t = on (walk names k (with_step t (next_step names t)))
  where
    on : Walk names k (with_step t (next_step names t)) (steps_from nowhere names k (with_step t (next_step names t))) → Walk names (suc k) t (steps_from nowhere names (suc k) t)
    on w =
        by_case (is_made_lem (next_step names t).0)
        (λ m. subst (λ (e : Progress). Walk names (suc k) t e) (sym (from-made names k t m)) (walk-next names k t _ m w))
        (λ m. subst (λ (e : Progress). Walk names (suc k) t e) (sym (from_stopped names k t m)) (stay names (suc k) t (λ h e. clash (ap is_made_lem (sym (answer-first names t)) ∙ e) m)))

-- a call that is not refused has no ground
module _ (k : ℕ) (file : List ℕ) (p : Position) (names buffer : List ℕ) {n mask : ℕ} (is : (steps_on k file p names buffer).0 ≡ done (steps n mask)) where
  abbrev end : Progress
  end = steps_from nowhere names k (begun file p buffer)

  no_ground : step_ground file p names buffer ≡ 0
  no_ground =
      by_case (eqb (step_ground file p names buffer) 0)
      (λ g. eqb-true _ _ g)
      (λ g.
      let by = steps-refused k file p names buffer refl (eqb-false _ _ g) in
      let turned : refused (step_ground file p names buffer) ≡ done (steps n mask) = ap (λ (s : Result StepsDone × Position × List ℕ × List ℕ). s.0) by ∙ is in
      cc)

  counted : done (steps end.made end.senders) ≡ done (steps n mask)
  counted = sym (ap (λ (s : Result StepsDone × Position × List ℕ × List ℕ). s.0) (steps-made k file p names buffer no_ground)) ∙ is

  made-n : end.made ≡ n
  made-n = cc counted

  senders-mask : end.senders ≡ mask
  senders-mask = cc counted

pub steps-answered : StepsAnswered
steps-answered k file p names buffer = (
  (λ none.
      record {
        n = (steps_from nowhere names k (begun file p buffer)).made;
        mask = (steps_from nowhere names k (begun file p buffer)).senders;
        is = ap (λ (s : Result StepsDone × Position × List ℕ × List ℕ). s.0) (steps-made k file p names buffer none);
      }),
  (λ t. no_ground k file p names buffer t.is),
)

pub steps-told : StepsTold
unfolding answer_from begun
steps-told k file p names buffer n mask is =
    let w = walk names k (begun file p buffer) in
    let same : n ≡ w.n = sym (made-n k file p names buffer is) ∙ w.count ∙ omega arith in
    let sent = senders-mask k file p names buffer is in
    record {
      most = omega (arith, w.most, same);
      each = λ i h. w.each i (omega (arith, h, same));
      last = λ i e. w.last i (e ∙ same) ∙ rw sent;
      none = λ e. sym sent ∙ w.none (sym same ∙ e);
      stops = λ h e. w.stops (omega (arith, h, same)) (rw (← same) e);
    }

-- ---- there is one number, and one mask

module _ {k : ℕ} {file : List ℕ} {p : Position} {names buffer : List ℕ} where
  no_fewer : {n mask n' mask' : ℕ} → Told k file p names buffer n mask → Told k file p names buffer n' mask' → n' ≤ n
  no_fewer {n} {mask} {n'} a b =
      by_case (ltb n n')
      (λ t. let fewer : n < n' = ltb-true n n' t in absurd (a.stops (omega (arith, fewer, b.most)) (b.each n fewer)))
      (λ f. ltb-false n n' f)

  one-mask : (n : ℕ) {mask mask' : ℕ} → Told k file p names buffer n mask → Told k file p names buffer n mask' → mask ≡ mask'
  one-mask zero a b = a.none refl ∙ sym (b.none refl)
  one-mask (suc i) {mask} {mask'} a b = let same : done (made mask) ≡ done (made mask') = sym (a.last i refl) ∙ b.last i refl in cc same

  one_told : {n mask n' mask' : ℕ} → Told k file p names buffer n mask → Told k file p names buffer n' mask' → done (steps n mask) ≡ done (steps n' mask')
  one_told {n} {mask} {n'} {mask'} a b =
      let same : n ≡ n' = omega (arith, no_fewer a b, no_fewer b a) in
      let sent : mask ≡ mask' = one-mask n' (subst (λ (m : ℕ). Told k file p names buffer m mask) same a) b in
      rw (same, sent)

pub no_other-told : NoOtherTold
no_other-told k file p names buffer n mask none told =
    let t : NumberAnswered k file p names buffer = (steps-answered k file p names buffer).0 none in
    t.is ∙ one_told (steps-told k file p names buffer t.n t.mask t.is) told

-- ---- why they stop: no step makes the file, the buffer or the list a ground of the next

round-long : (file frame buffer : List ℕ) → slots ≤ length buffer → slots ≤ length (round_on file frame buffer).1
unfolding round_on
round-long file frame buffer long =
    by_case (eqb (round_ground file frame buffer) 0)
    (λ e. rw e (rw (answer-length buffer (get_or frame 0 0) (frame_on (decode file) frame).senders long) long))
    (λ e. rw e long)

-- what the next step may ask of a file and a buffer
record Sound (file buffer : List ℕ) : Type 0 where
  bytes : Bytes file
  good : file_ground file ≡ 0
  long : slots ≤ length buffer

round_sound : {file buffer : List ℕ} → Sound file buffer → {frame : List ℕ} → Bytes frame → Sound (round_on file frame buffer).2 (round_on file frame buffer).1
round_sound {file} {buffer} s {frame} b =
    record {
      bytes = round-bytes file frame buffer s.bytes b;
      good = (round_keeps_file file frame buffer s.bytes b s.good).0;
      long = round-long file frame buffer s.long;
    }

sent_sound : {file buffer : List ℕ} → Sound file buffer → {s : Sent} → MaySend s → Sound (round_sent file s buffer).2 (round_sent file s buffer).1
unfolding round_sent
sent_sound {file} sound {s} may = round_sound (round_sound sound (address-of (decode file) may)) (data-sent-bytes (decode file) s may)

module _ (names : List ℕ) (bytes : Bytes names) (list : start_ground names ≡ 0) where
  step-sound :
      (t : Progress) → Sound t.file t.buffer → t.run.place.value < 2 ^ bits → is_made_lem (next_step names t).0 ≡ true →
      Sound (with_step t (next_step names t)).file (with_step t (next_step names t)).buffer
  unfolding with_step next_step
  step-sound t s small m =
      let makes = made_makes names t (unfold next_step in m) in
      let is = step-made t.file t.run names t.buffer makes.none makes.runs in
      let may = next-sent t.file t.run names t.buffer bytes small makes.none makes.runs in
      rw is (sent_sound s may)

  -- the step that makes no round
  module _ (t : Progress) (s : Sound t.file t.buffer) where
    asked : step_ground t.file t.run names t.buffer ≡ first_of (run_grounds names t.run)
    unfolding step_ground
    asked = others_decide t.file t.buffer (run_grounds names t.run) s.good s.long

    next_17 : unfit_position names t.run ≡ true → (next_step names t).0 ≡ refused 17
    unfolding next_step
    next_17 u =
        let by : step_ground t.file t.run names t.buffer ≡ 17 = asked ∙ sym (run_unfit names t.run (sym list) refl refl u) in
        ap (λ (r : Answered). r.0) (step-refused t.file t.run names t.buffer (λ z. omega (arith, by, z))) ∙ rw by

    fit_none : unfit_position names t.run ≡ false → step_ground t.file t.run names t.buffer ≡ 0
    fit_none u = asked ∙ sym (run_fits names t.run (sym list) refl refl u)

    next-ended : unfit_position names t.run ≡ false → t.run.end ≢ running → (next_step names t).0 ≡ done ended
    unfolding next_step
    next-ended u n = ap (λ (r : Answered). r.0) (step-ended t.file t.run names t.buffer (fit_none u) n)

    next-made : unfit_position names t.run ≡ false → t.run.end ≡ running → is_made_lem (next_step names t).0 ≡ true
    unfolding next_step
    next-made u r = ap (λ (s : Answered). is_made_lem s.0) (step-made t.file t.run names t.buffer (fit_none u) r) ∙ made_always _

    unmade : is_made_lem (next_step names t).0 ≡ false → ((next_step names t).0 ≡ refused 17) ⊎ ((next_step names t).0 ≡ done ended)
    unmade e =
        by_case (unfit_position names t.run)
        (λ u. inl (next_17 u))
        (λ u. by_case (eqb t.run.end running) (λ r. clash (next-made u (eqb-true _ _ r)) e) (λ r. inr (next-ended u (eqb-false _ _ r))))

  reason :
      (i : ℕ) (t : Progress) → Sound t.file t.buffer → t.run.place.value < 2 ^ bits → ((j : ℕ) → j < i → is_made_lem (answer_from names j t) ≡ true) →
      is_made_lem (answer_from names i t) ≡ false → (answer_from names i t ≡ refused 17) ⊎ (answer_from names i t ≡ done ended)
  reason zero t s small before e = rw (answer-first names t) (unmade t s (rw (answer-first names t) at e))
  reason (suc i) t s small before e =
      rw (answer-later names i t)
      (reason i (with_step t (next_step names t)) (step-sound t s small (ap is_made_lem (sym (answer-first names t)) ∙ before 0 (omega arith)))
      (unfold with_step next_step in step_value t.file t.run names t.buffer small)
      (λ j h. ap is_made_lem (sym (answer-later names j t)) ∙ before (suc j) (omega arith))
      (rw (answer-later names i t) at e))

pub stops_by_17 : StopsBy17
unfolding answer_from begun
stops_by_17 k file p names buffer n mask b bn small is fewer =
    let told = steps-told k file p names buffer n mask is in
    let none = none-holds file buffer (run_grounds names p) (unfold step_ground in no_ground k file p names buffer is) in
    reason names bn (names-accepted names p refl none.rest) n (begun file p buffer) (record { bytes = b; good = none.accepted; long = none.long }) small
    told.each
    (by_case (is_made_lem (answer_after names n file p buffer)) (λ m. absurd (told.stops fewer m)) (λ m. m))

unmade_stop : (r : Result StepDone) → (r ≡ refused 17) ⊎ (r ≡ done ended) → is_made_lem r ≡ false
unfolding is_made_lem
unmade_stop r (inl e) = rw e
unmade_stop r (inr e) = rw e

pub stops-at-first : StopsAtFirst
stops-at-first k file p names buffer n mask i is stop =
    by_case (ltb i n)
    (λ t. clash ((steps-told k file p names buffer n mask is).each i (ltb-true i n t)) (unmade_stop (answer_after names i file p buffer) stop))
    (λ f. ltb-false i n f)
