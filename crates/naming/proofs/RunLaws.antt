-- What the code of a step comes to: its grounds, its round on the file, and the position after it.
-- Assumes nothing.
use Rattle.std.proofs.Common.{ℕ, zero, suc, ◌-◌, ◌/◌, ◌%◌, ◌^◌, ◌≤◌, ◌<◌, ◌≡◌, refl, sym, ◌∙◌, List, [], ◌∷◌, Bool, true, false, cond, arith, eq-eqb, ne_eqb, ltb-true, ltb-false, leb-false, eqb-true, length, get_or, eqb, ltb}
use borrow.Author.Tests.{eqb-false}
use Rattle.file.specs.Rules.Bytes.{Bytes}
use Rattle.file.specs.Rules.Order.{first_of, either}
use Rattle.file.specs.Rules.Results.{done}
use Rattle.file.specs.Rules.Cluster.{broadcast, unnamed}
use Rattle.file.specs.Inner.Accepted.{Placed}
use Rattle.file.proofs.Order.{by_case, either_false_left, either_false_right, both_false_next, first-none}
use Rattle.file.proofs.Bytes.{byte_at}
use Rattle.naming.specs.Rules.RunRounds.{half, comparison_rounds, RunRound, sent}
use Rattle.naming.specs.Rules.Position.{Position, running}
use Rattle.naming.specs.Rules.Pass.{Question, question_of}
use Rattle.naming.specs.Rules.Run.{tried}
use Rattle.naming.specs.Rules.RunGrounds.{unfit_name, names_grounds, start_ground, run_grounds, unfit_position}
use Rattle.naming.specs.Rules.Pass.{Part, high, low, reply, part_of, give_of, ask, bits, give_step, PassPlace, poll, give_name, give_high, give_low, baptize}
use Rattle.naming.specs.Rules.Pass.{least, bit, last_step, place_of}
use Rattle.naming.specs.Rules.Run.{round_at, round_here, onto, pass_round, next_round, wrote, onward, next_name, end_all_named}
use Rattle.naming.specs.Rules.Run.{move_on, pass_advance, is_extra, count_raised, advance}
use Rattle.naming.specs.Rules.Step.{is_reply, made, made_by_lem, step_made}
use Rattle.master_slave.specs.declared.types.MasterSlaveRound.{MasterSlaveRound}
use Rattle.naming.specs.declared.advance.Reply.TheVariants as replies
use Rattle.naming.specs.Inner.StepAnswers.{heard, GoesOn, StepGoes, Settled, Advances, Sends}
use Rattle.cluster.specs.Rules.MasterSlave.{round_sent}
use Rattle.cluster.specs.Inner.Sending.{sent_for, MaySend}
use Rattle.naming.proofs.Facts.{Fit}
use Rattle.naming.proofs.Places.{LegalQuestion, of_least, of_bit}
use Rattle.naming.proofs.Search.{tried-small}
use Rattle.naming.proofs.Abstract.{Sendable, of_poll, of_name, of_high, of_low, of_compare, of_baptize}
use Rattle.naming.proofs.StepRound.{may-send}
use Rattle.naming.proofs.PositionLaws.{place-ask, place-give, each-given, last-place, onto_goes, onto_same, onto-value, wrote_value}

-- ---- grounds 15 to 17

chosen :
    (a b t : Bool) (g : ℕ) → g ≡ first_of ((15, a) ∷ (16, b) ∷ []) →
    first_of
    ((15, a) ∷
    (16, b) ∷
    (17, t) ∷ []) ≡ cond (eqb g 0) (cond t 17 0) g
unfolding first_of
chosen true b t g e = rw e
chosen false true t g e = rw e
chosen false false t g e = rw e

module _ (names : List ℕ) (p : Position) {g : ℕ} (is : g ≡ start_ground names) where
  run_chosen : first_of (run_grounds names p) ≡ cond (eqb g 0) (cond (unfit_position names p) 17 0) g
  unfolding run_grounds names_grounds start_ground
  run_chosen = chosen _ _ (unfit_position names p) g is

  pub run-names : (g ≡ 0 → ⊥) → g ≡ first_of (run_grounds names p)
  run-names n = sym (run_chosen ∙ rw (ne_eqb g 0 n))

  pub run_unfit : {t : Bool} → g ≡ 0 → t ≡ unfit_position names p → t ≡ true → 17 ≡ first_of (run_grounds names p)
  run_unfit e u y = sym (run_chosen ∙ rw (eq-eqb g 0 e, ← u, y))

  pub run_fits : {t : Bool} → g ≡ 0 → t ≡ unfit_position names p → t ≡ false → 0 ≡ first_of (run_grounds names p)
  run_fits e u y = sym (run_chosen ∙ rw (eq-eqb g 0 e, ← u, y))

-- ---- bit 1

pub one-heard : (m : ℕ) → m / 2 % 2 ≡ 1 → heard replies.Heard ≡ is_reply (done m)
unfolding heard is_reply
one-heard m e = rw (eq-eqb (m / 2 % 2) 1 e)

pub one_silent : (m : ℕ) → (m / 2 % 2 ≡ 1 → ⊥) → heard replies.Silence ≡ is_reply (done m)
unfolding heard is_reply
one_silent m n = rw (ne_eqb (m / 2 % 2) 1 n)

-- ---- a running position

pub record Runs (names : List ℕ) (p : Position) : Type 0 where
  pub fit : unfit_name names ≡ false
  pub goes : GoesOn (length names) p

pub runs : {names : List ℕ} {p : Position} → first_of (run_grounds names p) ≡ 0 → p.end ≡ running → Runs names p
unfolding run_grounds names_grounds unfit_position
runs {names} {p} e m =
    let first = first-none (15 - 1) _ _ e in
    let third = first-none (17 - 1) _ _ (first-none (16 - 1) _ _ first.1).1 in
    let outside = either_false_right _ _ third.0 in
    let inside = both_false_next _ (eq-eqb p.end running m) (either_false_right _ _ outside) in
    let later = either_false_right _ _ inside in
    let counts = either_false_right _ _ later in
    let most : p.place.index ≤ length names = ltb-false _ _ (either_false_left _ _ outside) in
    let other : p.place.index ≡ length names → ⊥ = eqb-false _ _ (either_false_left _ _ inside) in
    record {
      fit = first.0;
      goes = record {
        within = omega arith;
        counts = record {
          place = ltb-false _ _ (either_false_left _ _ later);
          few = leb-false _ _ (either_false_left _ _ counts);
          fewer = leb-false _ _ (either_false_right _ _ counts);
        };
      };
    }

fit_at : (names : List ℕ) (i : ℕ) → unfit_name names ≡ false → i < length names → get_or names i 0 < 256 → Fit (get_or names i 0)
unfolding unfit_name
fit_at [] i f h b = absurd (omega arith)
fit_at (n ∷ ns) zero f h b =
    let g : either (eqb n broadcast) (eqb n unnamed) ≡ false = either_false_left _ (unfit_name ns) f in
    record {
      some = eqb-false n broadcast (either_false_left _ (eqb n unnamed) g);
      named = eqb-false n unnamed (either_false_right (eqb n broadcast) _ g);
      byte = b;
    }
fit_at (n ∷ ns) (suc i) f h b = fit_at ns i (either_false_right _ (unfit_name ns) f) (omega arith) b

-- ---- what it sends

question_legal : (q : ℕ) → q ≤ bits → LegalQuestion (question_of q)
unfolding question_of
question_legal zero h = of_least
question_legal (suc q) h = of_bit {b = bits - suc q} (omega arith)

few_questions : (k : ℕ) → k < give_step → (k - 1) / comparison_rounds ≤ bits
few_questions k h = omega arith

module _ {n v : ℕ} (f : Fit n) (small : v < 2 ^ bits) where
  ask_sendable : {q : Question} (r : Part) → LegalQuestion q → Sendable (round_at (ask q r) n v)
  unfolding round_at
  ask_sendable {q} high l = let t : tried q v < 2 ^ bits = tried-small l v small in of_high {h = tried q v / half} (omega arith)
  ask_sendable {q} low l = of_low {l = tried q v % half} (omega arith)
  ask_sendable reply l = of_compare

  give_sendable : (j : ℕ) → Sendable (round_at (give_of j) n v)
  unfolding round_at
  give_sendable j =
      each-given (λ (l : PassPlace). Sendable (round_at l n v)) (of_name f) (of_high {h = v / half} (omega arith)) (of_low {l = v % half} (omega arith)) of_baptize j

  ask-or-give : (k : ℕ) → (k ≡ 0 → ⊥) → Sendable (round_at (place_of k) n v)
  ask-or-give k some =
      by_case (ltb k give_step)
      (λ e. rw (place-ask k some (ltb-true k give_step e)) (ask_sendable (part_of ((k - 1) % comparison_rounds)) (question_legal ((k - 1) / comparison_rounds) (few_questions k (ltb-true k give_step e)))))
      (λ e. rw (place-give k (ltb-false k give_step e)) (give_sendable (k - give_step)))

  place_sendable : (k : ℕ) → Sendable (round_at (place_of k) n v)
  unfolding round_at place_of
  place_sendable zero = of_poll f
  place_sendable (suc k) = ask-or-give (suc k) (λ e. omega arith)

here-sendable :
    (names : List ℕ) {p : Position} → unfit_name names ≡ false → GoesOn (length names) p → get_or names p.place.index 0 < 256 → p.place.value < 2 ^ bits →
    Sendable (round_here names p)
unfolding round_here
here-sendable names {p} fit g b v = place_sendable (fit_at names p.place.index fit g.within b) v p.place.step

pass_sendable : {names : List ℕ} {p : Position} → Runs names p → get_or names p.place.index 0 < 256 → p.place.value < 2 ^ bits → Sendable (pass_round names p)
unfolding pass_round
pass_sendable {names} {p} r b v =
    here-sendable names r.fit (onto_goes names r.goes) (rw (onto_same names p).1 b) (rw (onto-value names p) v)

-- whether the extra read is due
counted_none : (p : Position) → p.counts.rounds ≡ 0 → is_extra p ≡ true
unfolding is_extra
counted_none p e = eq-eqb p.counts.rounds 0 e

counted-some : (p : Position) → 0 < p.counts.rounds → is_extra p ≡ false
unfolding is_extra
counted-some p h = ne_eqb p.counts.rounds 0 (λ e. omega arith)

first_sendable : {names : List ℕ} {p : Position} → Runs names p → get_or names 0 0 < 256 → Sendable (RunRound.poll (get_or names 0 0))
first_sendable {names} {p} r b = of_poll (fit_at names 0 r.fit (omega (arith, r.goes.within)) b)

pub next_sendable : {names : List ℕ} {p : Position} → Runs names p → Bytes names → p.place.value < 2 ^ bits → Sendable (next_round names p)
unfolding next_round
next_sendable {names} {p} r b v =
    by_case (is_extra p) (λ e. rw e (first_sendable r (byte_at b 0))) (λ e. rw e (pass_sendable r (byte_at b p.place.index) v))

-- ---- the position after the round, by its place and answer

poll-place : {k : ℕ} → k ≡ 0 → place_of k ≡ poll
unfolding place_of
poll-place e = rw e

-- its step is one of a pass again
one_more : (l : PassPlace) (count : ℕ) (p : Position) (b : Bool) → (move_on l count p b).place.step ≤ suc p.place.step
unfolding move_on onward next_name end_all_named
one_more poll count p true = omega arith
one_more poll count p false = omega arith
one_more (ask q high) count p b = omega arith
one_more (ask q low) count p b = omega arith
one_more (ask least reply) count p true = omega arith
one_more (ask least reply) count p false = omega arith
one_more (ask (bit x) reply) count p b = omega arith
one_more give_name count p b = omega arith
one_more give_high count p b = omega arith
one_more give_low count p b = omega arith
one_more baptize count p b = omega arith

pub moved-within : (count : ℕ) (p : Position) (b : Bool) {v : Position} → p.place.step ≤ last_step → v ≡ move_on (place_of p.place.step) count p b → v.place.step ≤ last_step
moved-within count p b h is =
    rw is
    (by_case (eqb p.place.step last_step)
    (λ t. rw (last-place (eqb-true p.place.step last_step t)) (unfold move_on next_name in omega arith))
    (λ f. let n = eqb-false p.place.step last_step f in omega (arith, one_more (place_of p.place.step) count p b)))

-- its value is one of 64 bits again
module _ (count : ℕ) (w : Position) (b : Bool) (small : w.place.value < 2 ^ bits) where
  asked-small : {q : Question} (r : Part) → LegalQuestion q → (move_on (ask q r) count w b).place.value < 2 ^ bits
  unfolding move_on onward
  asked-small high l = small
  asked-small low l = small
  asked-small reply of_least = by_case {P = (move_on (ask least reply) count w b).place.value < 2 ^ bits} b (λ t. rw t (omega arith)) (λ f. rw f (unfold end_all_named in small))
  asked-small {q} reply (of_bit {b = x} h) = by_case {P = (move_on (ask (bit x) reply) count w b).place.value < 2 ^ bits} b (λ t. rw t (tried-small (of_bit h) w.place.value small)) (λ f. rw f small)

  gave_small : (j : ℕ) → (move_on (give_of j) count w b).place.value < 2 ^ bits
  unfolding move_on onward next_name
  gave_small j = each-given (λ (l : PassPlace). (move_on l count w b).place.value < 2 ^ bits) small small small small j

  polled-small : (move_on poll count w b).place.value < 2 ^ bits
  unfolding move_on
  polled-small = by_case {P = (move_on poll count w b).place.value < 2 ^ bits} b (λ t. rw t (unfold next_name in small)) (λ f. rw f (unfold onward in small))

  moved-small : (k : ℕ) → (move_on (place_of k) count w b).place.value < 2 ^ bits
  moved-small k =
      by_case (eqb k 0)
      (λ z. rw (poll-place (eqb-true k 0 z)) polled-small)
      (λ z.
      let some = eqb-false k 0 z in
      by_case (ltb k give_step)
      (λ e. rw (place-ask k some (ltb-true k give_step e)) (asked-small (part_of ((k - 1) % comparison_rounds)) (question_legal ((k - 1) / comparison_rounds) (few_questions k (ltb-true k give_step e)))))
      (λ e. rw (place-give k (ltb-false k give_step e)) (gave_small (k - give_step))))

passed-small : (names : List ℕ) (p : Position) (b : Bool) → p.place.value < 2 ^ bits → (pass_advance names p b).place.value < 2 ^ bits
unfolding pass_advance
passed-small names p b small =
    let q = onto names p in
    let kept : (wrote (round_here names q) q).place.value < 2 ^ bits = rw (wrote_value (round_here names q) q, onto-value names p) small in
    rw (onto-value names (move_on (place_of q.place.step) (length names) (wrote (round_here names q) q) b))
    (moved-small (length names) (wrote (round_here names q) q) b kept q.place.step)

pub advanced-small : (names : List ℕ) (p : Position) (b : Bool) → p.place.value < 2 ^ bits → (advance names p b).place.value < 2 ^ bits
unfolding advance
advanced-small names p b small =
    by_case {P = (advance names p b).place.value < 2 ^ bits} (is_extra p) (λ e. rw e (unfold count_raised in small)) (λ e. rw e (passed-small names p b small))

-- ---- the whole step

-- the extra read that the code makes of a step that goes and counts no round
module _
    (f : List ℕ) {buffer names : List ℕ} {p : Position} (step : StepGoes names p buffer) {n : ℕ} {r : MasterSlaveRound}
    (name : n ≡ get_or names 0 0) (round : Sends r (sent (RunRound.poll n))) where
  pub extra-may : get_or names 0 0 < 256 → MaySend (sent_for r)
  extra-may byte = rw (round.parts, name) (may-send (first_sendable (runs step.accepted step.runs) byte))

  pub extra-is :
      {new file : List ℕ} {mask : ℕ} {q : Position} → p.counts.rounds ≡ 0 → (done mask, new, file) ≡ round_sent f (sent_for r) buffer → q ≡ count_raised p →
      (done (made mask), q, new, file) ≡ step_made f p names buffer
  unfolding step_made next_round advance made_by_lem
  extra-is none carry is = rw (counted_none p none, ← name, ← round.parts, ← carry, is)

-- the round that the code makes of a step that goes and counts some, at the position s where it stands
module _
    {f places buffer names : List ℕ} {p : Position} (s : Position) (placed : Placed f places)
    (step : StepGoes names p buffer) (settled : Settled p s) where
  pub here_goes : GoesOn (length names) s
  here_goes = rw (settled names) (onto_goes names (runs step.accepted step.runs).goes)

  module _
      {n : ℕ} {r : MasterSlaveRound} (byte : get_or names s.place.index 0 < 256) (small : s.place.value < 2 ^ bits) (name : n ≡ get_or names s.place.index 0)
      (round : Sends r (sent (round_at (place_of s.place.step) n s.place.value))) where
    sends : Sends r (sent (round_here names s))
    unfolding round_here
    sends = record { parts = rw name at round.parts }

    next_here : pass_round names p ≡ round_here names s
    unfolding pass_round
    next_here = rw (settled names)

    pub send-may : MaySend (sent_for r)
    send-may = rw sends.parts (may-send (here-sendable names (runs step.accepted step.runs).fit here_goes byte small))

    pub step_is :
        {new file : List ℕ} {mask : ℕ} {q : Position} {b : Bool} → 0 < p.counts.rounds →
        (done mask, new, file) ≡ round_sent f (sent_for r) buffer → b ≡ is_reply (done mask) → Advances (length names) s b q →
        (done (made mask), q, new, file) ≡ step_made f p names buffer
    unfolding step_made next_round advance pass_advance made_by_lem
    step_is {q = q} {b} some carry replied moved =
        rw (counted-some p some, next_here, ← sends.parts, ← carry, ← replied, ← settled names, moved names refl)
