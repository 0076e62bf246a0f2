-- The lists that demand 3 permits are exactly those that `Claims/Permitted` describes. One law goes from the list to its description,
-- over calls that begin where no round of others is half done or where one is; another goes back.
-- Assumes nothing.
use Rattle.std.proofs.Common.{ℕ, ◌<◌, ◌≡◌, refl, sym, ◌∙◌, ◌≢◌, List, [], ◌∷◌, ◌++◌, Bool, true, false, not, arith, get_or, eqb, eqb-true, eq-eqb, ne_eqb}
use borrow.Author.Tests.{not-true, eqb-false}
use Rattle.file.specs.Rules.Bytes.{Bytes, All, all_empty, all_next}
use Rattle.file.specs.Rules.Order.{both, either}
use Rattle.file.specs.Rules.Results.{done}
use Rattle.file.specs.Rules.Cluster.{configuration, broadcast, unnamed, file_number_of, operation_of, read_operation, write_operation, pb2_of}
use Rattle.file.proofs.Bytes.{byte_at}
use Rattle.file.proofs.Order.{by_case, clash, both_left, both_right, both_true, both-next, both_false_left, both_false_right, either_right}
use Rattle.frame.specs.Rules.Fireworks.{Round, multipartner, msd, msa, no_round}
use Rattle.frame.specs.Rules.Reading.{parts_of}
use Rattle.cluster.specs.Rules.RoundGrounds.{round_by_lem}
use Rattle.cluster.specs.Rules.Round.{round_on}
use Rattle.cluster.specs.Rules.Summary.{round_keeping_ground}
use Rattle.cluster.proofs.Keeping.{keeping-round, keeping_refused, keeping-accepted}
use Rattle.naming.specs.Rules.Position.{Position}
use Rattle.naming.specs.Rules.Step.{step_keeping_ground, step_on}
use Rattle.naming.specs.Rules.Account.{StepArguments, FrameArguments, Call, step, frame}
use Rattle.naming.specs.Claims.Demand.{State, start_on, halfway_after, call_on, changes_configuration, writes_named, permitted_address, permitted_frame}
use Rattle.naming.specs.Claims.Demand.{permitted_call, permitted, OfBytes, of_step, of_frame}
use Rattle.naming.specs.Claims.Permitted.{MayAsk, read, other_file, write_at_name, write_at_all, Accepted, Refused, in_step, in_frame, PermittedList}
use Rattle.naming.specs.Claims.Permitted.{no_calls, refused_call, a_step, multipartner_round, master_slave_round, PermittedExactly}
use Rattle.naming.proofs.StepKeeping.{step-keeping-refused, step-keeping-accepted}
use Rattle.naming.proofs.Lists.{accepted-halfway}

-- ---- what an MSA asks for

-- a write of record 1 of 0x08 at any name but 0xFF
write_asks : (bytes : List ℕ) → Bytes bytes → writes_named (get_or bytes 2 0) (get_or bytes 3 0) (get_or bytes 4 0) ≡ true → MayAsk (parts_of bytes)
unfolding writes_named parts_of pb2_of
write_asks bytes b e =
    let pb2 : get_or bytes 3 0 ≡ 0x21 = eqb-true _ _ (both_left _ _ e) in
    let pb3 : get_or bytes 4 0 ≡ 1 = eqb-true _ _ (both_left _ _ (both_right _ _ e)) in
    let file : file_number_of (get_or bytes 3 0) ≡ configuration = omega arith in
    let operation : operation_of (get_or bytes 3 0) ≡ write_operation = omega arith in
    let most : get_or bytes 2 0 < 256 = byte_at b 2 in
    let other : get_or bytes 2 0 ≢ unnamed = eqb-false _ _ (not-true _ (both_right _ _ (both_right _ _ e))) in
    by_case (eqb (get_or bytes 2 0) broadcast)
    (λ all. write_at_all file operation pb3 (eqb-true _ _ all))
    (λ one. let some = eqb-false (get_or bytes 2 0) broadcast one in write_at_name file operation pb3 (omega (arith, some)) (omega (arith, other)))

pub may-ask : (bytes : List ℕ) → Bytes bytes → permitted_address bytes ≡ true → MayAsk (parts_of bytes)
unfolding permitted_address changes_configuration parts_of
may-ask bytes b e =
    by_case (eqb (file_number_of (get_or bytes 3 0)) configuration)
    (λ same.
    by_case (eqb (operation_of (get_or bytes 3 0)) read_operation)
    (λ reads. read (eqb-true _ _ reads))
    (λ changes. write_asks bytes b (unfold both either in rw (same, changes) at e)))
    (λ other. other_file (eqb-false _ _ other))

-- and back
not_changing : (bytes : List ℕ) → changes_configuration (get_or bytes 3 0) ≡ false → permitted_address bytes ≡ true
unfolding permitted_address either
not_changing bytes e = rw e

write-permitted : (bytes : List ℕ) → file_number_of (get_or bytes 3 0) ≡ configuration → operation_of (get_or bytes 3 0) ≡ write_operation → get_or bytes 4 0 ≡ 1 →
    get_or bytes 2 0 ≢ unnamed → permitted_address bytes ≡ true
unfolding permitted_address writes_named pb2_of
write-permitted bytes file operation pb3 other =
    let pb2 : get_or bytes 3 0 ≡ 0x21 = omega arith in
    either_right _ (both_true (eq-eqb _ _ pb2) (both_true (eq-eqb _ _ pb3) (rw (ne_eqb _ _ other))))

asked-permitted : (bytes : List ℕ) → MayAsk (parts_of bytes) → permitted_address bytes ≡ true
unfolding parts_of changes_configuration
asked-permitted bytes (read e) = not_changing bytes (both_false_right _ (rw (eq-eqb _ _ e)))
asked-permitted bytes (other_file other) = not_changing bytes (both_false_left _ (ne_eqb _ _ other))
asked-permitted bytes (write_at_name file operation pb3 least most) = write-permitted bytes file operation pb3 (λ e. omega (arith, e))
asked-permitted bytes (write_at_all file operation pb3 all) = write-permitted bytes file operation pb3 (λ e. omega (arith, e))

-- ---- a refused call, where a round of others is half done or none is

abbrev pub on : List ℕ → Bool → State
on file h = record { file = file; halfway = h }

module _ (names file : List ℕ) (h : Bool) (p : Position) where
  refused-call : {c : Call} → Refused names file p c → call_on names (on file h) p c ≡ (on file h, p)
  unfolding call_on halfway_after
  refused-call (in_step {arguments} some) = rw (step-keeping-refused file p names arguments.summary arguments.buffer some)
  refused-call (in_frame {arguments} some) = rw (keeping_refused file arguments.summary arguments.bytes arguments.buffer some)

  refused-may : {c : Call} → Refused names file p c → permitted_call names (on file h) p c ≡ true
  unfolding permitted_call
  refused-may (in_step some) = rw (ne_eqb _ _ some)
  refused-may (in_frame some) = rw (ne_eqb _ _ some)

  pub refused-front : {c : Call} (cs : List Call) → Refused names file p c → permitted names (on file h) p (c ∷ cs) ≡ permitted names (on file h) p cs
  unfolding permitted
  refused-front {c} cs r = both-next _ (refused-may r) ∙ rw (refused-call r)

  all-refused : {cs : List Call} (ds : List Call) → All (Refused names file p) cs → permitted names (on file h) p (cs ++ ds) ≡ permitted names (on file h) p ds
  all-refused ds all_empty = refl
  all-refused ds (all_next {l = cs} r rs) = refused-front (cs ++ ds) r ∙ all-refused ds rs

-- ---- an accepted call

module _ (names file : List ℕ) (p : Position) where
  pub frame-front :
      (h : Bool) {arguments : FrameArguments} {round : Round} (cs : List Call) → Accepted file arguments round →
      permitted names (on file h) p (frame arguments ∷ cs) ≡
      both (permitted_frame h round arguments.bytes)
      (permitted names (on (round_on file arguments.bytes arguments.buffer).2 (halfway_after h (done 0) round)) p cs)
  unfolding permitted permitted_call call_on
  frame-front h {arguments} {round} cs a =
      let none = keeping-round file arguments.summary arguments.bytes arguments.buffer a.none in
      rw (
        keeping-accepted file arguments.summary arguments.bytes arguments.buffer a.none,
        accepted-halfway h file arguments.bytes arguments.buffer round none a.opens,
        eq-eqb _ _ a.none,
        a.opens,
      )

  pub step-front :
      (h : Bool) (arguments : StepArguments) (cs : List Call) → step_keeping_ground file p names arguments.summary arguments.buffer ≡ 0 →
      permitted names (on file h) p (step arguments ∷ cs) ≡
      both (not h) (permitted names (on (step_on file p names arguments.buffer).3 h) (step_on file p names arguments.buffer).1 cs)
  unfolding permitted permitted_call call_on
  step-front h arguments cs g = rw (step-keeping-accepted file p names arguments.summary arguments.buffer g, eq-eqb _ _ g)

-- ---- from a permitted list to its description

-- the rest of a round whose MSA is accepted: refused calls, the accepted MSD, and a permitted list
data RestOfRound (names file : List ℕ) (p : Position) : List Call → Type 0 where
  rest_of_round :
      {content : FrameArguments} {cs ds : List Call} → All (Refused names file p) cs → Accepted file content msd →
      PermittedList names (round_on file content.bytes content.buffer).2 p ds → RestOfRound names file p (cs ++ frame content ∷ ds)

-- calls that begin where a round of others is half done, or where none is
abbrev Described : List ℕ → List Call → List ℕ → Bool → Position → Type 0
Described names calls file true p = RestOfRound names file p calls
Described names calls file false p = PermittedList names file p calls

nothing_described : (names file : List ℕ) (h : Bool) (p : Position) → not h ≡ true → Described names [] file h p
nothing_described names file true p e = clash e refl
nothing_described names file false p e = no_calls

-- a call in front of calls so described
module _ (names file : List ℕ) where
  refused-described :
      (h : Bool) (p : Position) (c : Call) (cs : List Call) → Refused names file p c → Described names cs file h p → Described names (c ∷ cs) file h p
  refused-described true p c cs r (rest_of_round rs a l) = rest_of_round (all_next r rs) a l
  refused-described false p c cs r l = refused_call r l

  step-described :
      (h : Bool) (p : Position) (arguments : StepArguments) (cs : List Call) → step_keeping_ground file p names arguments.summary arguments.buffer ≡ 0 → not h ≡ true →
      Described names cs (step_on file p names arguments.buffer).3 h (step_on file p names arguments.buffer).1 →
      Described names (step arguments ∷ cs) file h p
  step-described true p arguments cs g e l = clash e refl
  step-described false p arguments cs g e l = a_step g l

  frame-described :
      (h : Bool) (p : Position) (round : Round) (arguments : FrameArguments) (cs : List Call) → Bytes arguments.bytes →
      Accepted file arguments round → permitted_frame h round arguments.bytes ≡ true →
      Described names cs (round_on file arguments.bytes arguments.buffer).2 (halfway_after h (done 0) round) p →
      Described names (frame arguments ∷ cs) file h p
  unfolding permitted_frame halfway_after
  frame-described true p (multipartner r) arguments cs b a e l = clash e refl
  frame-described true p msd arguments cs b a e l = rest_of_round all_empty a l
  frame-described true p msa arguments cs b a e l = clash e refl
  frame-described true p no_round arguments cs b a e l = clash e refl
  frame-described false p (multipartner r) arguments cs b a e l = multipartner_round a l
  frame-described false p msd arguments cs b a e l = clash e refl
  frame-described false p msa arguments cs b a e (rest_of_round rs a' l) = master_slave_round a (may-ask arguments.bytes b e) rs a' l
  frame-described false p no_round arguments cs b a e l = clash e refl

-- a call in front of permitted calls, the law being known of these
module _
    (names : List ℕ) (cs : List Call)
    (rest : (file : List ℕ) (h : Bool) (p : Position) → permitted names (on file h) p cs ≡ true → Described names cs file h p)
    (file : List ℕ) (h : Bool) (p : Position) where
  after-refused : (c : Call) → permitted names (on file h) p (c ∷ cs) ≡ true → Refused names file p c → Described names (c ∷ cs) file h p
  after-refused c e r = refused-described names file h p c cs r (rest file h p (sym (refused-front names file h p cs r) ∙ e))

  after-step : (arguments : StepArguments) → permitted names (on file h) p (step arguments ∷ cs) ≡ true → Described names (step arguments ∷ cs) file h p
  after-step arguments e =
      by_case (eqb (step_keeping_ground file p names arguments.summary arguments.buffer) 0)
      (λ t.
      let g = eqb-true _ _ t in
      let k = sym (step-front names file p h arguments cs g) ∙ e in
      step-described names file h p arguments cs g (both_left _ _ k) (rest _ h _ (both_right _ _ k)))
      (λ f. after-refused (step arguments) e (in_step (eqb-false _ _ f)))

  after_frame :
      (arguments : FrameArguments) → Bytes arguments.bytes → permitted names (on file h) p (frame arguments ∷ cs) ≡ true →
      Described names (frame arguments ∷ cs) file h p
  after_frame arguments b e =
      by_case (eqb (round_keeping_ground file arguments.summary arguments.bytes arguments.buffer) 0)
      (λ t.
      let a : Accepted file arguments (round_by_lem arguments.bytes) = record { none = eqb-true _ _ t; opens = refl } in
      let k = sym (frame-front names file p h cs a) ∙ e in
      frame-described names file h p (round_by_lem arguments.bytes) arguments cs b a (both_left _ _ k) (rest _ _ p (both_right _ _ k)))
      (λ f. after-refused (frame arguments) e (in_frame (eqb-false _ _ f)))

described :
    (names : List ℕ) {calls : List Call} → All OfBytes calls → (file : List ℕ) (h : Bool) (p : Position) → permitted names (on file h) p calls ≡ true →
    Described names calls file h p
described names all_empty file h p e = nothing_described names file h p (unfold permitted in e)
described names (all_next {l = cs} (of_step {arguments}) bs) file h p e = after-step names cs (described names bs) file h p arguments e
described names (all_next {l = cs} (of_frame {arguments} b) bs) file h p e = after_frame names cs (described names bs) file h p arguments b e

-- ---- and back

module _ (names file : List ℕ) (p : Position) where
  multipartner-front :
      {arguments : FrameArguments} {r : ℕ} (cs : List Call) → Accepted file arguments (multipartner r) →
      permitted names (on file false) p (frame arguments ∷ cs) ≡ permitted names (on (round_on file arguments.bytes arguments.buffer).2 false) p cs
  unfolding permitted_frame halfway_after
  multipartner-front cs a = frame-front names file p false cs a ∙ both-next _ refl

  pub address-front :
      {arguments : FrameArguments} (cs : List Call) → Accepted file arguments msa →
      permitted names (on file false) p (frame arguments ∷ cs) ≡
      both (permitted_address arguments.bytes) (permitted names (on (round_on file arguments.bytes arguments.buffer).2 true) p cs)
  unfolding permitted_frame halfway_after
  address-front cs a = frame-front names file p false cs a

  data-front :
      {arguments : FrameArguments} (cs : List Call) → Accepted file arguments msd →
      permitted names (on file true) p (frame arguments ∷ cs) ≡ permitted names (on (round_on file arguments.bytes arguments.buffer).2 false) p cs
  unfolding permitted_frame halfway_after
  data-front cs a = frame-front names file p true cs a ∙ both-next _ refl

pub list-permitted : {names file : List ℕ} {p : Position} {calls : List Call} → PermittedList names file p calls → permitted names (on file false) p calls ≡ true
list-permitted {names} {file} {p} no_calls = unfold permitted in refl
list-permitted {names} {file} {p} (refused_call {cs = cs} r l) = refused-front names file false p cs r ∙ list-permitted l
list-permitted {names} {file} {p} (a_step {arguments = arguments} {cs} g l) = step-front names file p false arguments cs g ∙ both-next _ refl ∙ list-permitted l
list-permitted {names} {file} {p} (multipartner_round {cs = cs} a l) = multipartner-front names file p cs a ∙ list-permitted l
list-permitted {names} {file} {p} (master_slave_round {address = address} {content} {cs} {ds} a ask rs a' l) =
    address-front names file p (cs ++ frame content ∷ ds) a ∙ both-next _ (asked-permitted address.bytes ask) ∙
    all-refused names (round_on file address.bytes address.buffer).2 true p (frame content ∷ ds) rs ∙
    data-front names (round_on file address.bytes address.buffer).2 p ds a' ∙ list-permitted l

pub permitted_exactly : PermittedExactly
unfolding start_on
permitted_exactly names file p calls b = (λ e. described names b file false p e, λ l. list-permitted l)
