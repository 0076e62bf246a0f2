-- Who is awake after a step, and throughout the lists of demand 3.
-- Assumes nothing.
use Rattle.std.proofs.Common.{ℕ, ◌*◌, ◌+◌, ◌<◌, ◌≡◌, ◌≢◌, List, [], ◌∷◌, map, false, length, eqb, eqb-true, le-ltb}
use borrow.Author.Tests.{eqb-false}
use Rattle.file.specs.Rules.Bytes.{Bytes, All}
use Rattle.file.specs.Rules.FileGrounds.{file_ground}
use Rattle.file.specs.Rules.Decode.{decode}
use Rattle.file.proofs.Order.{by_case}
use Rattle.file.proofs.Accepted.{accepted-legal}
use Rattle.master_slave.specs.Rules.Bus.{slots}
use Rattle.cluster.specs.Rules.RoundGrounds.{short_answer}
use Rattle.cluster.specs.Claims.Sleep.{AllAwake}
use Rattle.cluster.proofs.Rounds.{NoGround, none-holds}
use Rattle.naming.specs.Rules.Position.{Position, running, fresh}
use Rattle.naming.specs.Rules.RunGrounds.{run_grounds, unfit_position, count_limit}
use Rattle.naming.specs.Rules.Step.{step_ground, step_keeping_ground}
use Rattle.naming.specs.Rules.Account.{Named, Account, StepArguments, Call, step, frame, account_of, account_call, naming_comparisons, ending_rounds, arguments_ground}
use Rattle.naming.specs.Rules.Figures.{rounds_for, comparisons_for, names_after}
use Rattle.naming.specs.Claims.Demand.{State, start_on, call_on, after_calls}
use Rattle.naming.specs.Claims.Sleep.{StepWakes, NoRoundWakesNobody, Wakes, wakes_by_step, wakes_by_frame, Woken, from_start, by_first_lem, later, StaysAwake, CountedAwake}
use Rattle.naming.proofs.Answers.{named_of}
use Rattle.naming.proofs.Facts.{Fit}
use Rattle.naming.proofs.Start.{Names, Slaves, names-fit}
use Rattle.naming.proofs.Closed.{most_rounds}
use Rattle.naming.proofs.StepLaws.{step-made, step-ended}
use Rattle.naming.proofs.StepKeeping.{keeping_step, step-keeping-refused, step-keeping-accepted}
use Rattle.naming.proofs.RunLaws.{runs, next_sendable}
use Rattle.naming.proofs.StepRound.{round-made}
use Rattle.naming.proofs.Abstract.{Laws, Between, Permitted, all_made, one_more, tie_sendable, stays_fit, one-call, all_calls}
use Rattle.naming.proofs.Demand.{rounds-few, comparisons-few, between_start}
use Rattle.naming.proofs.FromFile.{legal-slaves, legal-few, accepted-names}
use Rattle.naming.proofs.ByteLaws.{Good, AwakeIn, view_in, Allowed, byte_laws, own-none, frame-wakes}
use Rattle.naming.proofs.OverBytes.{same_calls, front-permitted, start_good, start_seen}

-- ---- a step

pub step-wakes : StepWakes
unfolding step_ground
step-wakes file p names summary buffer b n small k going =
    let g : step_ground file p names buffer ≡ 0 = keeping_step file p names summary buffer k in
    let none : NoGround file buffer (run_grounds names p) = none-holds file buffer (run_grounds names p) g in
    let long : short_answer buffer ≡ false = unfold short_answer in le-ltb (length buffer) slots none.long in
    rw (step-keeping-accepted file p names summary buffer k, step-made file p names buffer g going)
    (round-made file buffer b none.accepted long (next_sendable (runs none.rest going) n small)).awake

pub no_round-wakes-nobody : NoRoundWakesNobody
no_round-wakes-nobody file p names summary buffer none =
    by_case (eqb (step_keeping_ground file p names summary buffer) 0)
    (λ z.
    let k = eqb-true _ _ z in
    rw (
      step-keeping-accepted file p names summary buffer k,
      step-ended file p names buffer (keeping_step file p names summary buffer k) (none k),
    ))
    (λ z. rw (step-keeping-refused file p names summary buffer (eqb-false _ _ z)))

-- ---- lists of calls

module _ (names : List ℕ) (n : Names names) (R C : ℕ) (F : List Named) (few : R < count_limit) (fewer : C + naming_comparisons < count_limit) where
  abbrev Holds : State → Position → Account → Type 0
  Holds s p a = Between State names view_in Good AwakeIn R C F (s, p) a

  abbrev laws : Laws State names view_in Good AwakeIn (Allowed names) (call_on names)
  laws = byte_laws names n

  abbrev fits : All Fit names
  fits = names-fit n.bytes n.fit

  fit-there : (s : State) (p : Position) (a : Account) → Holds s p a → unfit_position names p ≡ false
  fit-there s p a h = stays_fit State names view_in Good AwakeIn (Allowed names) (call_on names) laws R C F few fewer fits (s, p) a h

  -- an accepted step of a running position
  running-wakes :
      (s : State) (p : Position) (a : Account) (arguments : StepArguments) → Holds s p a → Allowed names s p (step arguments) →
      arguments_ground (map named_of (view_in s)) arguments ≡ 0 → p.end ≡ running → AwakeIn (call_on names s p (step arguments)).0
  running-wakes s p a arguments h allowed own going =
      (laws.steps s p arguments h.good h.awake allowed own
      (fit-there s p a h)
      going (tie_sendable fits h.tie going)).awake

  one-wakes : (s : State) (p : Position) (a : Account) {c : Call} → Holds s p a → Allowed names s p c → Wakes names s p c →
      AwakeIn (call_on names s p c).0
  one-wakes s p a h allowed (wakes_by_step {arguments} k going) =
      running-wakes s p a arguments h allowed (own-none names n s p arguments h.good k) going
  one-wakes s p a h allowed (wakes_by_frame {arguments} k other) = frame-wakes names s p arguments h.good allowed k other

  -- nobody falls asleep
  one_stays : (s : State) (p : Position) (a : Account) (c : Call) → Holds s p a → Allowed names s p c → AwakeIn s →
      AwakeIn (call_on names s p c).0
  one_stays s p a (step arguments) h allowed up =
      by_case (eqb (arguments_ground (map named_of (view_in s)) arguments) 0)
      (λ z.
      let own = eqb-true _ _ z in
      by_case (eqb p.end running)
      (λ e. running-wakes s p a arguments h allowed own (eqb-true _ _ e))
      (λ e.
      rw (laws.idle s p arguments h.good own (fit-there s p a h) (eqb-false _ _ e)) up))
      (λ z. rw (laws.turned s p arguments h.good (eqb-false _ _ z)) up)
  one_stays s p a (frame arguments) h allowed up = (laws.others s p arguments h.good allowed).awake up

  next-holds : (s : State) (p : Position) (a : Account) (c : Call) → Holds s p a → Allowed names s p c →
      Holds (call_on names s p c).0 (call_on names s p c).1 (account_call a c)
  next-holds s p a c h allowed =
      one-call State names view_in Good AwakeIn (Allowed names) (call_on names) laws R C F few fewer fits (s, p) a c h allowed

  all_stay :
      (s : State) (p : Position) (a : Account) (cs : List Call) → Holds s p a → Permitted State (Allowed names) (call_on names) (s, p) cs → AwakeIn s →
      AwakeIn (after_calls names s p cs).0
  unfolding after_calls
  all_stay s p a [] h all_made up = up
  all_stay s p a (c ∷ cs) h (one_more allowed rest) up =
      all_stay (call_on names s p c).0 (call_on names s p c).1 (account_call a c) cs (next-holds s p a c h allowed) rest (one_stays s p a c h allowed up)

  all-woken :
      (s : State) (p : Position) (a : Account) {cs : List Call} → Holds s p a → Permitted State (Allowed names) (call_on names) (s, p) cs → Woken names s p cs →
      AwakeIn (after_calls names s p cs).0
  unfolding after_calls
  all-woken s p a {cs} h may (from_start up) = all_stay s p a cs h may up
  all-woken s p a h (one_more {c = c} {cs = cs} allowed rest) (by_first_lem wakes) =
      all_stay (call_on names s p c).0 (call_on names s p c).1 (account_call a c) cs (next-holds s p a c h allowed) rest (one-wakes s p a h allowed wakes)
  all-woken s p a h (one_more {c = c} allowed rest) (later woken) =
      all-woken (call_on names s p c).0 (call_on names s p c).1 (account_call a c) (next-holds s p a c h allowed) rest woken

-- ---- from a fresh run

module _ (file names : List ℕ) (b : Bytes file) (g : file_ground file ≡ 0) (n : Names names) where
  abbrev slaves : List Named
  slaves = map named_of (view_in (start_on file))

  start-slaves : Slaves slaves
  start-slaves = rw (start_seen file names b g n) (legal-slaves (decode file) (accepted-legal file b g))

  start-few : most_rounds * length slaves + ending_rounds + 257 < count_limit
  start-few = rw (start_seen file names b g n) (legal-few (decode file) (accepted-legal file b g))

  few-rounds : rounds_for slaves names < count_limit
  few-rounds = rounds-few slaves names n start-few

  few-comparisons : comparisons_for slaves names + naming_comparisons < count_limit
  few-comparisons = comparisons-few slaves names start-few

  start-holds :
      Between State names view_in Good AwakeIn (rounds_for slaves names) (comparisons_for slaves names) (names_after slaves names)
      (start_on file, fresh names) (account_of slaves names)
  start-holds = between_start State names view_in Good AwakeIn n (start_on file) (start_good file names b g n) start-slaves

  woken-awake :
      {cs : List Call} → Permitted State (Allowed names) (call_on names) (start_on file, fresh names) cs → Woken names (start_on file) (fresh names) cs →
      AllAwake (after_calls names (start_on file) (fresh names) cs).0.file
  woken-awake may woken =
      all-woken names n (rounds_for slaves names) (comparisons_for slaves names) (names_after slaves names) few-rounds few-comparisons
      (start_on file) (fresh names) (account_of slaves names) start-holds may woken

  counted-from :
      (cs : List Call) → Permitted State (Allowed names) (call_on names) (start_on file, fresh names) cs →
      (after_calls names (start_on file) (fresh names) cs).1.counts.rounds ≢ 0 → AllAwake (after_calls names (start_on file) (fresh names) cs).0.file
  counted-from cs may =
      let after =
      all_calls State names view_in Good AwakeIn (Allowed names) (call_on names) (byte_laws names n) (rounds_for slaves names) (comparisons_for slaves names)
      (names_after slaves names) few-rounds few-comparisons (names-fit n.bytes n.fit) (start_on file, fresh names) (account_of slaves names) cs start-holds may
      in
      (rw (same_calls names (start_on file) (fresh names) cs) at after).awake

pub stays_awake : StaysAwake
stays_awake file b g names bytes accepted cs ds of-bytes may woken =
    woken-awake file names b g (accepted-names names bytes accepted) (front-permitted names (start_on file) (fresh names) ds of-bytes may) woken

pub counted-awake : CountedAwake
counted-awake file b g names bytes accepted cs ds of-bytes may =
    counted-from file names b g (accepted-names names bytes accepted) cs (front-permitted names (start_on file) (fresh names) ds of-bytes may)
