-- The lists that demand 3 permits, with traces and over the C calls, from those over the rules: exactly the lists written out, and
-- permitted rounds among them, in calls and in traces.
-- Assumes nothing.
use Prim.Native.Nat.{ℕ, ◌≤◌}
use mathlib.Core.Path.{◌≡◌, refl, sym, ap, ◌∙◌}
use mathlib.Core.List.{List, [], ◌∷◌, ◌++◌, map, append-nil}
use mathlib.Core.Bool.{Bool}
use native.Mathlib.Omega.{arith}
use lib.ListN.{length}
use Rattle.file.specs.Rules.Bytes.{All, All.all_empty, All.all_next as also}
use Rattle.frame.specs.Rules.Frames.{address_frame, address_bytes, data_frame, frame_of}
use Rattle.frame.specs.Rules.Reading.{Parts}
use Rattle.trace.specs.Rules.Layout.{max_trace, max_frame}
use Rattle.trace.specs.Rules.Encode.{encode_trace, Frame, Frames}
use Rattle.trace.proofs.Encoded.{encoded-accepted}
use Rattle.naming.specs.Rules.Position.{fresh}
use Rattle.naming.specs.Rules.RunGrounds.{start_ground}
use Rattle.naming.specs.Rules.Account.{Call}
use Rattle.naming.specs.Claims.PermittedRounds.{IsStep as IsStepByRules, is-step as is-step-by-rules, PermittedFrom, address_of, DataFor, of_write_lem, of_other_lem}
use Rattle.naming.specs.Claims.PermittedRounds.{Rounds, no_rounds, multipartner_next, master_slave_next, SentBy, no_frames, one_more_lem}
use Rattle.naming.proofs.PermittedExactly.{permitted_exactly}
use Rattle.naming.proofs.PermittedRounds.{address_of_bytes, data-frame-bytes, rounds-fit}
use Rattle.demand.specs.Claims.Traces.{CallOrTrace, frame_call, frames_singly, singly}
use Rattle.demand.specs.Claims.DemandCalls.{CCall, Memory, memory_after, after_calls, started, IsStep, is-step, is-step_keeping, arguments_of}
use Rattle.demand.specs.Claims.DemandCalls.{arguments_of_all}
use Rattle.demand.specs.Claims.Permitted.{CallsPermittedExactly, TraceFits, RoundsFitCalls, TraceSends}
use Rattle.demand.proofs.Traces.{zeros-long, singly-append, singly_of_bytes}
use Rattle.demand.proofs.DemandCalls.{all-given, runs-accepted, start-number, start-same, arguments-append}

-- ---- exactly

pub calls_permitted_exactly : CallsPermittedExactly
calls_permitted_exactly file names run fresh-run calls given =
    let same = start-same file names run (sym (start-number names run) ∙ fresh-run) calls in
    let exactly = permitted_exactly names file (fresh names) (singly (arguments_of_all names (started file names run) calls))
    (singly_of_bytes (all-given names (started file names run) given)) in
    (λ e. exactly.0 (sym same ∙ e), λ l. same ∙ exactly.1 l)

-- ---- traces

-- the frames of permitted rounds are frames that a trace can hold
data-short : {write : Bool} {content : List ℕ} → DataFor write content → length content ≤ max_frame
unfolding data_frame frame_of
data-short (of_write_lem is bs) = omega arith
data-short (of_other_lem is) = omega arith

address-short : (a : Parts) → length (address_of a) ≤ max_frame
unfolding address_of address_frame address_bytes frame_of
address-short a = omega arith

rounds-each : {frames : List (List ℕ)} → Rounds frames → All Frame frames
rounds-each no_rounds = all_empty
rounds-each (multipartner_next byte is rounds) = also (record { bytes = also byte all_empty; short = omega arith }) (rounds-each rounds)
rounds-each (master_slave_next {a = a} may ask d rounds) =
    also (record { bytes = address_of_bytes may; short = address-short a })
    (also (record { bytes = data-frame-bytes d; short = data-short d }) (rounds-each rounds))

-- a trace made of frames stands for them
encoded-singly : (frames : List (List ℕ)) → Frames frames → frames_singly (encode_trace frames) ≡ map frame_call frames
unfolding frames_singly
encoded-singly frames f = let back = encoded-accepted frames f in rw (back.accepted, back.read)

pub frames-sent : (frames : List (List ℕ)) → SentBy frames (map frame_call frames)
unfolding frame_call
frames-sent [] = no_frames
frames-sent (x ∷ xs) = one_more_lem zeros-long (frames-sent xs)

trace-sent : {frames : List (List ℕ)} → Rounds frames → length (encode_trace frames) ≤ max_trace → SentBy frames (frames_singly (encode_trace frames))
trace-sent {frames} rounds whole = rw (encoded-singly frames (record { each = rounds-each rounds; whole = whole })) (frames-sent frames)

singly_calls : (ds : List Call) → singly (map CallOrTrace.call ds) ≡ ds
unfolding singly
singly_calls [] = refl
singly_calls (c ∷ ds) = ap (λ (l : List Call). c ∷ l) (singly_calls ds)

-- put between calls and other calls
with-trace :
    (calls : List CallOrTrace) (t : List ℕ) (ds : List Call) →
    singly (calls ++ CallOrTrace.trace t ∷ map CallOrTrace.call ds) ≡ singly calls ++ (frames_singly t ++ ds)
with-trace calls t ds = singly-append calls _ ∙ ap (λ (l : List Call). singly calls ++ l) (unfold singly in rw (singly_calls ds))

pub trace-fits : TraceFits
trace-fits file names calls from frames rounds whole ds steps =
    rw (with-trace calls (encode_trace frames) ds)
    (rounds-fit file names (singly calls) from frames rounds (frames_singly (encode_trace frames)) (trace-sent rounds whole) ds steps)

-- ---- the C calls

steps-singly : (names : List ℕ) (m : Memory) {ds : List CCall} → All IsStep ds → All IsStepByRules (singly (arguments_of_all names m ds))
unfolding singly arguments_of_all arguments_of
steps-singly names m all_empty = all_empty
steps-singly names m (also {a = c} is-step steps) = also is-step-by-rules (steps-singly names (memory_after names m c) steps)
steps-singly names m (also {a = c} is-step_keeping steps) = also is-step-by-rules (steps-singly names (memory_after names m c) steps)

pub calls-apart :
    (names : List ℕ) (m : Memory) (cs ds : List CCall) →
    singly (arguments_of_all names m (cs ++ ds)) ≡
    singly (arguments_of_all names m cs) ++ singly (arguments_of_all names (after_calls names m cs) ds)
calls-apart names m cs ds = rw (arguments-append names m cs ds) (singly-append (arguments_of_all names m cs) _)

pub rounds-fit_calls : RoundsFitCalls
rounds-fit_calls file b checked names n run fresh-run cs given may frames rounds rs sent ds steps =
    let none : start_ground names ≡ 0 = sym (start-number names run) ∙ fresh-run in
    let begun = started file names run in
    let then = after_calls names begun cs in
    let from : PermittedFrom file names (singly (arguments_of_all names begun cs)) =
    record {
      file_bytes = b;
      accepted = runs-accepted checked;
      name_bytes = n;
      start = none;
      call_bytes = singly_of_bytes (all-given names begun given);
      may = sym (start-same file names run none cs) ∙ may;
    } in
    start-same file names run none (cs ++ (rs ++ ds)) ∙
    rw (calls-apart names begun cs (rs ++ ds), calls-apart names then rs ds)
    (rounds-fit file names (singly (arguments_of_all names begun cs)) from frames rounds (singly (arguments_of_all names then rs)) sent
    (singly (arguments_of_all names (after_calls names then rs) ds)) (steps-singly names (after_calls names then rs) steps))

pub trace-sends : TraceSends
unfolding singly arguments_of_all arguments_of
trace-sends frames rounds whole report names m = rw (append-nil (frames_singly (encode_trace frames))) (trace-sent rounds whole)
