-- Naming on a file and on its converted form: a step, a list of calls, and a list with conversions between the calls.
-- Assumes nothing.
use Rattle.std.proofs.Common.{ℕ, ◌^◌, ◌<◌, ◌≡◌, refl, sym, ap, ◌∙◌, List, [], ◌∷◌, true, arith, eqb, eqb-true}
use borrow.Author.Tests.{eqb-false}
use Rattle.file.specs.Rules.Bytes.{Bytes, All, all_empty, all_next}
use Rattle.file.specs.Rules.Decode.{decode}
use Rattle.file.specs.Rules.FileGrounds.{file_ground}
use Rattle.file.specs.Rules.Editions.{in_edition}
use Rattle.file.proofs.Order.{by_case}
use Rattle.file.proofs.Bytes.{all_map}
use Rattle.cluster.specs.Rules.Summary.{Summary}
use Rattle.cluster.specs.Claims.RoundEditions.{Convertible}
use Rattle.cluster.proofs.RoundEditions.{form, form_again, own_edition, slaves-same, names_same, grounds_behind, keeping-ground, sent-converted, keeping_converted}
use Rattle.naming.specs.Rules.RunRounds.{sent}
use Rattle.naming.specs.Rules.Position.{Position, running, fresh}
use Rattle.naming.specs.Rules.Pass.{bits}
use Rattle.naming.specs.Rules.Run.{next_round}
use Rattle.naming.specs.Rules.Step.{step_ground, step_keeping_ground, step_keeping}
use Rattle.naming.specs.Rules.Account.{Named, names_in_lem, Call, arguments_ground}
use Rattle.naming.specs.Claims.Demand.{State, start_on, call_on, permitted_call, permitted, after_calls, OfBytes, of_step, of_frame, Demand}
use Rattle.naming.specs.Claims.StepEditions.{StepsConverted, StepsKeepingConverted, converted, answer_on, answers_on, CallsConverted, AllCallsConverted}
use Rattle.naming.specs.Claims.StepEditions.{CallOrConversion, call, convert, after_converting, permitted_converting, calls_among, Fitting, of_call}
use Rattle.naming.specs.Claims.StepEditions.{of_conversion, ConvertedBetween, DemandConverted}
use Rattle.naming.proofs.StepLaws.{step-refused, step-ended, step-made}
use Rattle.naming.proofs.StepFrames.{next-sent}
use Rattle.naming.proofs.Summaries.{keeping-step-value}
use Rattle.naming.proofs.OverBytes.{demand_3}

-- ---- a step

ground_same :
    (f : List ℕ) (e : ℕ) (p : Position) (names buffer : List ℕ) → Convertible f e →
    step_ground (in_edition f e) p names buffer ≡ step_ground f p names buffer
unfolding step_ground
ground_same f e p names buffer convertible = grounds_behind convertible refl

pub steps-converted : StepsConverted
steps-converted f e p names buffer convertible nb small =
    let g : List ℕ = in_edition f e in
    let same = ground_same f e p names buffer convertible in
    by_case (eqb (step_ground f p names buffer) 0)
    (λ t.
    let none : step_ground f p names buffer ≡ 0 = eqb-true _ _ t in
    by_case (eqb p.end running)
    (λ u.
    let going : p.end ≡ running = eqb-true _ _ u in
    let (round, after) = sent-converted f e (sent (next_round names p)) buffer convertible (next-sent f p names buffer nb small none going) in
    let old = step-made f p names buffer none going in
    let new = step-made g p names buffer (same ∙ none) going in
    (rw (old, new, round), rw old after))
    (λ u.
    let old = step-ended f p names buffer none (eqb-false _ _ u) in
    let new = step-ended g p names buffer (same ∙ none) (eqb-false _ _ u) in
    (rw (old, new), rw old convertible)))
    (λ t.
    let old = step-refused f p names buffer (eqb-false _ _ t) in
    let new = step-refused g p names buffer (λ z. eqb-false _ _ t (sym same ∙ z)) in
    (rw (old, new, same), rw old convertible))

keeping-same :
    (f : List ℕ) (e : ℕ) (p : Position) (names : List ℕ) (summary : Summary) (buffer : List ℕ) → Convertible f e →
    step_keeping_ground (in_edition f e) p names summary buffer ≡ step_keeping_ground f p names summary buffer
unfolding step_keeping_ground
keeping-same f e p names summary buffer convertible = grounds_behind convertible (rw (names_same convertible))

pub steps_keeping_converted : StepsKeepingConverted
unfolding step_keeping
steps_keeping_converted f e p names summary buffer convertible nb small =
    let (same, after) = steps-converted f e p names buffer convertible nb small in
    by_case (eqb (step_keeping_ground f p names summary buffer) 0)
    (λ t. (rw (keeping-same f e p names summary buffer convertible, t, same, names_same after), rw t after))
    (λ t. (rw (keeping-same f e p names summary buffer convertible, t), rw t convertible))

-- ---- a call

record CallConverted (names : List ℕ) (s : State) (e : ℕ) (p : Position) (c : Call) : Type 0 where
  answer : answer_on names (converted s e) p c ≡ answer_on names s p c
  same : call_on names (converted s e) p c ≡ (converted (call_on names s p c).0 e, (call_on names s p c).1)
  permits : permitted_call names (converted s e) p c ≡ permitted_call names s p c
  after : Convertible (call_on names s p c).0.file e
  small : (call_on names s p c).1.place.value < 2 ^ bits

module _ (names : List ℕ) (nb : Bytes names) where
  call-converted :
      (s : State) (e : ℕ) (p : Position) {c : Call} → Convertible s.file e → p.place.value < 2 ^ bits → OfBytes c → CallConverted names s e p c
  unfolding call_on answer_on permitted_call converted
  call-converted s e p convertible small (of_step {arguments}) =
      let (same, after) = steps_keeping_converted s.file e p names arguments.summary arguments.buffer convertible nb small in
      record {
        answer = rw same;
        same = rw same;
        permits = rw (keeping-same s.file e p names arguments.summary arguments.buffer convertible);
        after = after;
        small = keeping-step-value s.file p names arguments.summary arguments.buffer small;
      }
  call-converted s e p convertible small (of_frame {arguments} bytes) =
      let (same, after) = keeping_converted s.file e arguments.summary arguments.bytes arguments.buffer convertible bytes in
      record {
        answer = rw same;
        same = rw same;
        permits = rw (keeping-ground s.file e arguments.summary arguments.bytes arguments.buffer convertible);
        after = after;
        small = small;
      }

  -- ---- a list of calls

  calls-converted :
      (s : State) (e : ℕ) (p : Position) {calls : List Call} → Convertible s.file e → p.place.value < 2 ^ bits → All OfBytes calls →
      CallsConverted names s e p calls
  unfolding answers_on after_calls permitted
  calls-converted s e p convertible small all_empty =
      record { answers = refl; same = refl; permits = unfold converted in refl; after = convertible }
  calls-converted s e p convertible small (all_next {a = c} b bs) =
      let one = call-converted s e p convertible small b in
      let more = calls-converted (call_on names s p c).0 e (call_on names s p c).1 one.after one.small bs in
      record {
        answers = rw (one.answer, one.same, more.answers);
        same = rw one.same more.same;
        permits = rw (one.same, one.permits, more.permits);
        after = more.after;
      }

-- ---- conversions between the calls

-- ready on a file: the frames of calls are bytes, and the file is convertible
data Ready (f : List ℕ) : CallOrConversion → Type 0 where
  ready_call : {c : Call} → OfBytes c → Ready f (call c)
  ready_conversion : {e : ℕ} → Convertible f e → Ready f (convert e)

fitting_ready : (f : List ℕ) → Bytes f → file_ground f ≡ 0 → (t : CallOrConversion) → Fitting f t → Ready f t
fitting_ready f fb none (call c) (of_call b) = ready_call b
fitting_ready f fb none (convert e) (of_conversion width room) =
    ready_conversion (record { bytes = fb; accepted = none; width = width; room = room })

fitting_bytes : (f : List ℕ) {mixed : List CallOrConversion} → All (Fitting f) mixed → All OfBytes (calls_among mixed)
unfolding calls_among
fitting_bytes f all_empty = all_empty
fitting_bytes f (all_next (of_call b) bs) = all_next b (fitting_bytes f bs)
fitting_bytes f (all_next (of_conversion width room) bs) = fitting_bytes f bs

-- a file converted twice is the file converted to the last of the two
again : (s : State) (e next : ℕ) → Convertible s.file e → converted (converted s e) next ≡ converted s next
unfolding converted
again s e next convertible = rw (form_again convertible next)

-- the edition after the calls and conversions, from edition e on
unfoldable last_edition : ℕ → List CallOrConversion → ℕ
last_edition e [] = e
last_edition e (call c ∷ ts) = last_edition e ts
last_edition e (convert next ∷ ts) = last_edition next ts

record Converting (names : List ℕ) (s : State) (e : ℕ) (p : Position) (mixed : List CallOrConversion) : Type 0 where
  same :
      after_converting names (converted s e) p mixed ≡
      (converted (after_calls names s p (calls_among mixed)).0 (last_edition e mixed), (after_calls names s p (calls_among mixed)).1)
  permits : permitted_converting names (converted s e) p mixed ≡ permitted names s p (calls_among mixed)
  after : Convertible (after_calls names s p (calls_among mixed)).0.file (last_edition e mixed)

module _ (names : List ℕ) (nb : Bytes names) where
  -- ready on the file that a call leaves
  ready-after :
      (s : State) (p : Position) {c : Call} → p.place.value < 2 ^ bits → OfBytes c → (t : CallOrConversion) → Ready s.file t → Ready (call_on names s p c).0.file t
  ready-after s p small b (call d) (ready_call h) = ready_call h
  ready-after s p small b (convert e) (ready_conversion convertible) =
      ready_conversion (call-converted names nb s e p convertible small b).after

  mixed-converted :
      (s : State) (e : ℕ) (p : Position) (mixed : List CallOrConversion) → Convertible s.file e → p.place.value < 2 ^ bits → All (Ready s.file) mixed →
      Converting names s e p mixed
  unfolding after_converting permitted_converting after_calls permitted calls_among last_edition
  mixed-converted s e p [] convertible small all_empty = record { same = refl; permits = unfold converted in refl; after = convertible }
  mixed-converted s e p (call c ∷ ts) convertible small (all_next (ready_call b) bs) =
      let one = call-converted names nb s e p convertible small b in
      let ready = all_map (ready-after s p small b) bs in
      let more = mixed-converted (call_on names s p c).0 e (call_on names s p c).1 ts one.after one.small ready in
      record { same = rw one.same more.same; permits = rw (one.same, one.permits, more.permits); after = more.after }
  mixed-converted s e p (convert next ∷ ts) convertible small (all_next (ready_conversion other) bs) =
      let more = mixed-converted s next p ts other small bs in
      let last = again s e next convertible in
      record { same = rw last more.same; permits = rw last more.permits; after = more.after }

pub all_calls_converted : AllCallsConverted
all_calls_converted names s e p calls convertible nb small bs = calls-converted names nb s e p convertible small bs

-- from a file in its own edition
module _ (names : List ℕ) (nb : Bytes names) (s : State) (p : Position) (small : p.place.value < 2 ^ bits) (fb : Bytes s.file) (none : file_ground s.file ≡ 0) where
  abbrev own : ℕ
  own = (decode s.file).edition

  as_it_was : s ≡ converted s own
  unfolding converted
  as_it_was = rw (own_edition s.file fb none).1

  module _ {mixed : List CallOrConversion} (fits : All (Fitting s.file) mixed) where
    abbrev calls : List Call
    calls = calls_among mixed

    from_own : Converting names s own p mixed
    from_own = mixed-converted names nb s own p mixed (own_edition s.file fb none).0 small (all_map (fitting_ready s.file fb none) fits)

    mixed_same : after_converting names s p mixed ≡ (converted (after_calls names s p calls).0 (last_edition own mixed), (after_calls names s p calls).1)
    mixed_same = ap (λ (t : State). after_converting names t p mixed) as_it_was ∙ from_own.same

    mixed_permitted : permitted_converting names s p mixed ≡ permitted names s p calls
    mixed_permitted = ap (λ (t : State). permitted_converting names t p mixed) as_it_was ∙ from_own.permits

    -- the calls leave a file of the same edition
    calls_own : (after_calls names s p calls).0.file ≡ in_edition (after_calls names s p calls).0.file own
    unfolding converted
    calls_own =
        let plain = calls-converted names nb s own p (own_edition s.file fb none).0 small (fitting_bytes s.file fits) in
        ap (λ (r : State × Position). r.0.file) (ap (λ (t : State). after_calls names t p calls) as_it_was ∙ plain.same)

    mixed_back : in_edition (after_converting names s p mixed).0.file own ≡ (after_calls names s p calls).0.file
    unfolding converted
    mixed_back =
        ap (λ (r : State × Position). in_edition r.0.file own) mixed_same
        ∙ form_again from_own.after own
        ∙ sym calls_own

pub converted-between : ConvertedBetween
converted-between names s p mixed fb none nb small fits =
    record {
      run = ap (λ (r : State × Position). r.1) (mixed_same names nb s p small fb none fits);
      back = mixed_back names nb s p small fb none fits;
      permits = mixed_permitted names nb s p small fb none fits;
    }

-- ---- demand 3

pub names_in : {f : List ℕ} {e : ℕ} → Convertible f e → names_in_lem (decode (in_edition f e)) ≡ names_in_lem (decode f)
unfolding names_in_lem
names_in convertible = rw (slaves-same convertible)

demand-in :
    {file names : List ℕ} {calls : List Call} {now : List ℕ} {p : Position} {e : ℕ} → Convertible now e → Demand file names calls now p →
    Demand file names calls (in_edition now e) p
demand-in {names = names} {now = now} {p = p} {e = e} convertible d =
    record {
      accepted = (form convertible).accepted;
      logical = names_in convertible ∙ d.logical;
      end = d.end;
      rounds = d.rounds;
      comparisons = d.comparisons;
      fit = d.fit;
      grounds = λ arguments.
          keeping-same now e p names arguments.summary arguments.buffer convertible
          ∙ d.grounds arguments
          ∙ ap (λ (l : List Named). arguments_ground l arguments) (sym (names_in convertible));
      outcome = rw (names_in convertible) d.outcome;
    }

fresh-small : (names : List ℕ) → (fresh names).place.value < 2 ^ bits
unfolding fresh
fresh-small names = omega arith

pub demand_converted : DemandConverted
unfolding start_on converted
demand_converted file fb none names nb accepted mixed fits may =
    let s : State = start_on file in
    let p : Position = fresh names in
    let may-call : permitted names s p (calls_among mixed) ≡ true = sym (mixed_permitted names nb s p (fresh-small names) fb none fits) ∙ may in
    let d = demand_3 file fb none names nb accepted (calls_among mixed) (fitting_bytes file fits) may-call in
    rw (mixed_same names nb s p (fresh-small names) fb none fits)
    (demand-in (from_own names nb s p (fresh-small names) fb none fits).after d)
