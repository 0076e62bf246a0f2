-- Both editions over the C calls: each call on a file's converted form, lists of calls, and demand 3 with conversions between the calls.
-- Assumes nothing.
use Prim.Native.Nat.{ℕ, ◌^◌, ◌<◌}
use native.Mathlib.Omega.{arith}
use mathlib.Core.Path.{◌≡◌, refl, sym, ap, ◌∙◌, subst}
use mathlib.Core.List.{List, [], ◌∷◌}
use mathlib.Core.Bool.{Bool, false}
use Rattle.file.specs.Rules.Bytes.{Bytes, All, all_empty, all_next}
use Rattle.file.specs.Rules.Results.{Result, refused, done}
use Rattle.file.specs.Rules.Decode.{decode}
use Rattle.file.specs.Rules.FileGrounds.{file_ground, load_ground, load_verdict}
use Rattle.file.specs.Rules.Changes.{with_edition}
use Rattle.file.specs.Rules.Editions.{in_edition}
use Rattle.file.proofs.Bytes.{all_map}
use Rattle.file.proofs.Results.{load_twice}
use Rattle.cluster.specs.Rules.RoundGrounds.{round_by_lem}
use Rattle.cluster.specs.Rules.MasterSlave.{Sent, address_sent}
use Rattle.cluster.specs.Rules.Summary.{without, kept}
use Rattle.cluster.specs.Claims.RoundEditions.{Convertible}
use Rattle.cluster.proofs.RoundEditions.{form, form_again, own_edition, grounds_behind, slaves-same, names_same, rounds-converted, keeping_converted, filling_converted}
use Rattle.trace.specs.Rules.Layout.{header_size}
use Rattle.trace.specs.Rules.Trace.{frame_count, frames_of}
use Rattle.trace.specs.Rules.TraceRun.{sent}
use Rattle.trace.proofs.Runs.{frames-bytes}
use Rattle.trace.proofs.TraceEditions.{sent-converted, traces_converted}
use Rattle.owner.proofs.OwnerEditions.{owner-converted}
use Rattle.screens.specs.Rules.Screens.{read_of}
use Rattle.screens.specs.Rules.Turn.{Turn as TurnDone, idle, served, read_sent, turn_on}
use Rattle.screens.proofs.ScreenEditions.{turns-converted}
use Rattle.convert.specs.Rules.Convert.{convert_grounds, convert_ground, convert_on}
use Rattle.join.specs.Rules.Join.{join_on}
use Rattle.join.proofs.JoinEditions.{second_in_either}
use Rattle.contents.specs.Rules.Contents.{contents_in, contents_on}
use Rattle.naming.specs.Rules.Account.{Named, arguments_ground}
use Rattle.naming.specs.Rules.Position.{Position, fresh}
use Rattle.naming.specs.Rules.Pass.{bits}
use Rattle.naming.specs.Rules.RunGrounds.{start_ground}
use Rattle.naming.specs.Rules.Step.{StepDone, ended, made, step_on, step_keeping}
use Rattle.naming.specs.Claims.Demand.{halfway_after, start_on}
use Rattle.naming.proofs.Renaming.{step_value}
use Rattle.naming.proofs.Summaries.{keeping-step-value}
use Rattle.naming.proofs.StepEditions.{steps-converted, steps_keeping_converted, names_in}
use Rattle.ttpa.specs.Rules.Calls.{check_call, start_call, step_call, step_words_lem, step_keeping_call, round_call, round_keeping_call, trace_call}
use Rattle.ttpa.specs.Rules.Calls.{turn_call, owner_call, convert_call, join_call, fill_call, contents_call, words_of, position_in}
use Rattle.demand.specs.Claims.Traces.{halfway_from}
use Rattle.demand.specs.Claims.DemandCalls.{CCall, GivenBytes, given-step, given-step_keeping, given-frame, given-frame-keeping}
use Rattle.demand.specs.Claims.DemandCalls.{given-trace, given-turn, Memory, returned, memory_after, after_calls}
use Rattle.demand.specs.Claims.DemandCalls.{frames_served, turn_frames, permitted_frames, permitted_call, halfway_on, permitted, TakenByRounds}
use Rattle.demand.specs.Claims.DemandCalls.{loads, equal_names, CallsDemand, started}
use Rattle.demand.specs.Claims.DemandEditions.{AllCallsAlike, converted, numbers_returned, ListConverted, ListsConverted, CallOrConversion}
use Rattle.demand.specs.Claims.DemandEditions.{call, convert, after_converting, permitted_converting, calls_among, Fitting, of_call}
use Rattle.demand.specs.Claims.DemandEditions.{of_conversion, CallsDemandConverted}
use Rattle.demand.proofs.TurnFrames.{turn-frames-bytes}
use Rattle.demand.proofs.DemandCalls.{runs-accepted, start-number, start-memory, demand_over_calls}

-- ---- each call

-- ground 22 goes by the names
load_same : {f : List ℕ} {e : ℕ} → Convertible f e → load_ground (in_edition f e) ≡ load_ground f
load_same {f} {e} convertible =
    load_twice (in_edition f e) (form convertible).accepted ∙ rw (names_same convertible) (sym (load_twice f convertible.accepted))

check-same : {f : List ℕ} {e : ℕ} → Convertible f e → check_call (in_edition f e) ≡ check_call f
unfolding check_call load_verdict
check-same convertible = rw (load_same convertible)

-- a conversion goes by the slaves, and writes the form in the edition asked for
conversion-ground :
    {f : List ℕ} {e : ℕ} (d : ℕ) (out : List ℕ) → Convertible f e → convert_ground (in_edition f e) d out ≡ convert_ground f d out
unfolding convert_ground convert_grounds
conversion-ground d out convertible = grounds_behind convertible (rw (slaves-same convertible))

conversion_same : {f : List ℕ} {e : ℕ} (d : ℕ) (out : List ℕ) → Convertible f e → convert_on (in_edition f e) d out ≡ convert_on f d out
unfolding convert_on
conversion_same d out convertible = rw (conversion-ground d out convertible, form_again convertible d)

-- a join asks of its second file what it holds
join-same : {f : List ℕ} {e : ℕ} (first out : List ℕ) → Convertible f e → join_on first (in_edition f e) out ≡ join_on first f out
join-same {f} {e} first out convertible =
    second_in_either first f e out
    (record { bytes = convertible.bytes; accepted = convertible.accepted; width = convertible.width; room = convertible.room })

-- a slave's file is that of the slaves
contents-same :
    {f : List ℕ} {e : ℕ} (slave number : ℕ) (buffer : List ℕ) → Convertible f e →
    contents_on (in_edition f e) slave number buffer ≡ contents_on f slave number buffer
unfolding contents_on contents_in
contents-same slave number buffer convertible = rw ((form convertible).accepted, convertible.accepted, slaves-same convertible)

pub all_calls_alike : AllCallsAlike
unfolding round_call round_keeping_call step_call step_keeping_call trace_call turn_call owner_call convert_call join_call fill_call contents_call
all_calls_alike f e convertible =
    record {
      check = check-same convertible;
      round = λ bytes answer senders rb. rw (rounds-converted f e bytes answer convertible rb).0;
      round_keeping = λ bytes answer senders held count rb. rw (keeping_converted f e (kept count held) bytes answer convertible rb).0;
      step = λ run names answer senders nb small. rw (steps-converted f e (position_in run) names answer convertible nb small).0;
      step_keeping = λ run names answer senders held count nb small.
          rw (steps_keeping_converted f e (position_in run) names (kept count held) answer convertible nb small).0;
      trace = λ t report tb. rw (traces_converted f e t convertible tb).0;
      turn = λ state answer senders screen sb. rw (turns-converted f e state answer convertible sb).0;
      owner = λ master buffer length. rw (owner-converted f e master buffer convertible);
      convert = λ d out length. rw (conversion_same d out convertible);
      join_second = λ first out length. rw (join-same first out convertible);
      fill = λ held count. rw (filling_converted f e held convertible);
      contents = λ slave number buffer length. rw (contents-same slave number buffer convertible);
    }

-- ---- the frames of a trace

record FramesAlike (f : List ℕ) (e : ℕ) (h : Bool) (xs : List (List ℕ)) : Type 0 where
  permits : permitted_frames h (in_edition f e) xs ≡ permitted_frames h f xs
  halfway : halfway_from h (in_edition f e) xs ≡ halfway_from h f xs

frames-alike : (f : List ℕ) (e : ℕ) (h : Bool) {xs : List (List ℕ)} → Convertible f e → All Bytes xs → FramesAlike f e h xs
unfolding permitted_frames halfway_from
frames-alike f e h convertible all_empty = record { permits = refl; halfway = refl }
frames-alike f e h convertible (all_next {a = x} b bs) =
    let one = sent-converted f e x convertible b in
    let more = frames-alike (sent f x).2 e (halfway_after h (sent f x).0 (round_by_lem x)) one.after bs in
    record { permits = rw (one.answer, one.file, more.permits); halfway = rw (one.answer, one.file) more.halfway }

-- ---- the frames of a turn

-- the epoch is the same
address-alike : {f : List ℕ} {e : ℕ} (s : Sent) → Convertible f e → address_sent (decode (in_edition f e)) s ≡ address_sent (decode f) s
unfolding address_sent
address-alike s convertible = unfold with_edition in rw (form convertible).decoded

turn-sends-alike :
    {f : List ℕ} {e : ℕ} (state buffer : List ℕ) → Convertible f e → Bytes state →
    turn_frames (in_edition f e) state buffer ≡ turn_frames f state buffer
unfolding turn_frames frames_served
turn-sends-alike {f} {e} state buffer convertible sb =
    rw (turns-converted f e state buffer convertible sb).0 (by (turn_on state f buffer).0)
  where
    by : (a : Result TurnDone) → frames_served (in_edition f e) state a ≡ frames_served f state a
    by (refused n) = refl
    by (done idle) = refl
    by (done (served i mask)) = rw (address-alike (read_sent (read_of state i)) convertible)

-- ---- a call of a list

words_small :
    (a : Result StepDone) (p : Position) (run : List ℕ) → p.place.value < 2 ^ bits → (position_in run).place.value < 2 ^ bits →
    (position_in (step_words_lem a p run)).place.value < 2 ^ bits
unfolding step_words_lem position_in words_of
words_small (refused n) p run new old = old
words_small (done ended) p run new old = old
words_small (done (made mask)) p run new old = new

record CallConverted (names : List ℕ) (m : Memory) (e : ℕ) (c : CCall) : Type 0 where
  number : returned names (converted m e) c ≡ returned names m c
  memory : memory_after names (converted m e) c ≡ converted (memory_after names m c) e
  may : (h : Bool) → permitted_call h (converted m e) c ≡ permitted_call h m c
  halfway : (h : Bool) → halfway_on h (converted m e) c ≡ halfway_on h m c
  after : Convertible (memory_after names m c).file e
  small : (position_in (memory_after names m c).run).place.value < 2 ^ bits

module _ (names : List ℕ) (nb : Bytes names) where
  call-converted :
      (m : Memory) (e : ℕ) {c : CCall} → Convertible m.file e → (position_in m.run).place.value < 2 ^ bits → GivenBytes c →
      CallConverted names m e c
  unfolding returned memory_after permitted_call halfway_on converted round_call round_keeping_call step_call step_keeping_call trace_call frames_of
  call-converted m e convertible small (given-step {buffer} {senders}) =
      let p : Position = position_in m.run in
      let (same, after) = steps-converted m.file e p names buffer convertible nb small in
      let r = step_on m.file p names buffer in
      record {
        number = rw same;
        memory = rw same;
        may = λ h. refl;
        halfway = λ h. refl;
        after = after;
        small = words_small r.0 r.1 m.run (step_value m.file p names buffer small) small;
      }
  call-converted m e convertible small (given-step_keeping {buffer} {senders} {held} {count}) =
      let p : Position = position_in m.run in
      let (same, after) = steps_keeping_converted m.file e p names (kept count held) buffer convertible nb small in
      let r = step_keeping m.file p names (kept count held) buffer in
      record {
        number = rw same;
        memory = rw same;
        may = λ h. refl;
        halfway = λ h. refl;
        after = after;
        small = words_small r.0 r.1 m.run (keeping-step-value m.file p names (kept count held) buffer small) small;
      }
  call-converted m e convertible small (given-frame {bytes} {buffer} {senders} rb) =
      let (same, after) = rounds-converted m.file e bytes buffer convertible rb in
      record { number = rw same; memory = rw same; may = λ h. refl; halfway = λ h. refl; after = after; small = small }
  call-converted m e convertible small (given-frame-keeping {bytes} {buffer} {senders} {held} {count} rb) =
      let (same, after) = keeping_converted m.file e (kept count held) bytes buffer convertible rb in
      record { number = rw same; memory = rw same; may = λ h. refl; halfway = λ h. refl; after = after; small = small }
  call-converted m e convertible small (given-trace {t} {report} tb) =
      let (same, after) = traces_converted m.file e t convertible tb in
      let frames = frames-bytes tb header_size (frame_count t) in
      record {
        number = rw same;
        memory = rw same;
        may = λ h. (frames-alike m.file e h convertible frames).permits;
        halfway = λ h. (frames-alike m.file e h convertible frames).halfway;
        after = after;
        small = small;
      }
  call-converted m e convertible small (given-turn {state} {buffer} {senders} {screen} sb) =
      let (same, after) = turns-converted m.file e state buffer convertible sb in
      let frames = turn-frames-bytes m.file state buffer sb in
      let sends = turn-sends-alike state buffer convertible sb in
      record {
        number = unfold turn_call in rw same;
        memory = unfold turn_call in rw same;
        may = λ h. rw sends (frames-alike m.file e h convertible frames).permits;
        halfway = λ h. rw sends (frames-alike m.file e h convertible frames).halfway;
        after = unfold turn_call in after;
        small = small;
      }

  -- ---- a list of calls

  list-converted :
      (m : Memory) (e : ℕ) {calls : List CCall} → Convertible m.file e → (position_in m.run).place.value < 2 ^ bits → All GivenBytes calls →
      ListConverted names m e calls
  unfolding after_calls permitted numbers_returned
  list-converted m e convertible small all_empty = record { numbers = refl; same = refl; permits = λ h. refl; after = convertible }
  list-converted m e convertible small (all_next {a = c} b bs) =
      let one = call-converted m e convertible small b in
      let more = list-converted (memory_after names m c) e one.after one.small bs in
      record {
        numbers = rw (one.number, one.memory, more.numbers);
        same = rw one.memory more.same;
        permits = λ h. rw (one.number, one.memory, one.may h, one.halfway h, more.permits _);
        after = more.after;
      }

pub lists_converted : ListsConverted
lists_converted names m e calls convertible nb small bs = list-converted names nb m e convertible small bs

-- ---- conversions between the calls

-- ready on a file: frames and traces are bytes, and the file is convertible
data Ready (f : List ℕ) : CallOrConversion → Type 0 where
  ready_call : {c : CCall} → GivenBytes c → Ready f (call c)
  ready_conversion : {e : ℕ} → Convertible f e → Ready f (convert e)

fitting_ready : (f : List ℕ) → Bytes f → file_ground f ≡ 0 → (t : CallOrConversion) → Fitting f t → Ready f t
fitting_ready f fb none (call c) (of_call b) = ready_call b
fitting_ready f fb none (convert e) (of_conversion width room) =
    ready_conversion (record { bytes = fb; accepted = none; width = width; room = room })

fitting_bytes : (f : List ℕ) {calls : List CallOrConversion} → All (Fitting f) calls → All GivenBytes (calls_among calls)
unfolding calls_among
fitting_bytes f all_empty = all_empty
fitting_bytes f (all_next (of_call b) bs) = all_next b (fitting_bytes f bs)
fitting_bytes f (all_next (of_conversion width room) bs) = fitting_bytes f bs

again : (m : Memory) (e next : ℕ) → Convertible m.file e → converted (converted m e) next ≡ converted m next
unfolding converted
again m e next convertible = rw (form_again convertible next)

-- the edition after them, from edition e on
unfoldable last_edition : ℕ → List CallOrConversion → ℕ
last_edition e [] = e
last_edition e (call c ∷ ts) = last_edition e ts
last_edition e (convert next ∷ ts) = last_edition next ts

record Converting (names : List ℕ) (m : Memory) (e : ℕ) (calls : List CallOrConversion) : Type 0 where
  same : after_converting names (converted m e) calls ≡ converted (after_calls names m (calls_among calls)) (last_edition e calls)
  permits : (h : Bool) → permitted_converting h names (converted m e) calls ≡ permitted h names m (calls_among calls)
  after : Convertible (after_calls names m (calls_among calls)).file (last_edition e calls)
  small : (position_in (after_calls names m (calls_among calls)).run).place.value < 2 ^ bits

module _ (names : List ℕ) (nb : Bytes names) where
  -- ready on the file that a call leaves
  ready-after :
      (m : Memory) {c : CCall} → (position_in m.run).place.value < 2 ^ bits → GivenBytes c → (t : CallOrConversion) → Ready m.file t →
      Ready (memory_after names m c).file t
  ready-after m small b (call d) (ready_call h) = ready_call h
  ready-after m small b (convert e) (ready_conversion convertible) =
      ready_conversion (call-converted names nb m e convertible small b).after

  calls-converting :
      (m : Memory) (e : ℕ) (calls : List CallOrConversion) → Convertible m.file e →
      (position_in m.run).place.value < 2 ^ bits → All (Ready m.file) calls →
      Converting names m e calls
  unfolding after_converting permitted_converting after_calls permitted calls_among last_edition
  calls-converting m e [] convertible small all_empty = record { same = refl; permits = λ h. refl; after = convertible; small = small }
  calls-converting m e (call c ∷ ts) convertible small (all_next (ready_call b) bs) =
      let one = call-converted names nb m e convertible small b in
      let more = calls-converting (memory_after names m c) e ts one.after one.small (all_map (ready-after m small b) bs) in
      record {
        same = rw one.memory more.same;
        permits = λ h. rw (one.number, one.memory, one.may h, one.halfway h, more.permits _);
        after = more.after;
        small = more.small;
      }
  calls-converting m e (convert next ∷ ts) convertible small (all_next (ready_conversion other) bs) =
      let more = calls-converting m next ts other small bs in
      record {
        same = rw (again m e next convertible) more.same;
        permits = λ h. rw (again m e next convertible) (more.permits h);
        after = more.after;
        small = more.small;
      }

-- ---- demand 3

taken_in : {f : List ℕ} {e : ℕ} → Convertible f e → TakenByRounds f → TakenByRounds (in_edition f e)
taken_in convertible (loads is) = loads (check-same convertible ∙ is)
taken_in convertible (equal_names is) = equal_names (check-same convertible ∙ is)

demand-in :
    {file names : List ℕ} {calls : List CCall} {m : Memory} {e : ℕ} → Bytes names → Convertible m.file e → (position_in m.run).place.value < 2 ^ bits →
    CallsDemand file names calls m → CallsDemand file names calls (converted m e)
demand-in {file} {names} {calls} {m} {e} nb convertible small d =
    let same = names_in convertible in
    unfold converted in
    record {
      logical = same ∙ d.logical;
      end = d.end;
      rounds = d.rounds;
      comparisons = d.comparisons;
      accepted = taken_in convertible d.accepted;
      loaded = λ is. check-same convertible ∙ d.loaded is;
      next = λ buffer senders.
          (call-converted names nb m e convertible small (given-step {buffer = buffer} {senders = senders})).number
          ∙ d.next buffer senders
          ∙ ap (λ (l : List Named). arguments_ground l (record { summary = without; buffer = buffer })) (sym same);
      next_keeping = λ buffer senders held count.
          (call-converted names nb m e convertible small (given-step_keeping {buffer = buffer} {senders = senders} {held = held} {count = count})).number
          ∙ d.next_keeping buffer senders held count
          ∙ ap (λ (l : List Named). arguments_ground l (record { summary = kept count held; buffer = buffer })) (sym same);
      outcome = rw same d.outcome;
    }

fresh-small : (file names run : List ℕ) → start_ground names ≡ 0 → (position_in (started file names run).run).place.value < 2 ^ bits
unfolding position_in words_of fresh start_on
fresh-small file names run none =
    subst (λ (m : Memory). (position_in m.run).place.value < 2 ^ bits) (sym (start-memory file names run none)) (omega arith)

-- calls and conversions on a file as they are on its form in its own edition, which is the file itself
record FromOwn (file names run : List ℕ) (calls : List CallOrConversion) : Type 0 where
  own : started file names run ≡ converted (started file names run) (decode file).edition
  converting : Converting names (started file names run) (decode file).edition calls

from_own :
    (file : List ℕ) → Bytes file → TakenByRounds file → (names : List ℕ) → Bytes names → (run : List ℕ) → (start_call names run).0 ≡ 0 →
    (calls : List CallOrConversion) → All (Fitting file) calls → FromOwn file names run calls
from_own file fb taken names nb run starts calls fits =
    let m : Memory = started file names run in
    let none : file_ground file ≡ 0 = runs-accepted taken in
    let (convertible, was) = own_edition file fb none in
    let small = fresh-small file names run (sym (start-number names run) ∙ starts) in
    record {
      own = unfold converted in rw was;
      converting = calls-converting names nb m (decode file).edition calls convertible small (all_map (fitting_ready file fb none) fits);
    }

-- permitted are those among which the calls are permitted
pub converting-permitted :
    (file : List ℕ) → Bytes file → TakenByRounds file → (names : List ℕ) → Bytes names → (run : List ℕ) → (start_call names run).0 ≡ 0 →
    (calls : List CallOrConversion) → All (Fitting file) calls →
    permitted_converting false names (started file names run) calls ≡ permitted false names (started file names run) (calls_among calls)
converting-permitted file fb taken names nb run starts calls fits =
    let r = from_own file fb taken names nb run starts calls fits in
    ap (λ (k : Memory). permitted_converting false names k calls) r.own ∙ r.converting.permits false

pub calls_demand_converted : CallsDemandConverted
calls_demand_converted file fb taken names nb run starts calls fits may =
    let r = from_own file fb taken names nb run starts calls fits in
    let same = ap (λ (k : Memory). after_converting names k calls) r.own ∙ r.converting.same in
    let may-call = sym (converting-permitted file fb taken names nb run starts calls fits) ∙ may in
    let d = demand_over_calls file fb taken names nb run starts (calls_among calls) (fitting_bytes file fits) may-call in
    rw same (demand-in nb r.converting.after r.converting.small d)
