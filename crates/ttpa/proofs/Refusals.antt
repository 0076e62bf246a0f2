-- A refused C call leaves everything that it was lent: the answer of the layer below taken apart, or the test of its ground.
-- Assumes nothing.
use Prim.Native.Nat.{ℕ}
use mathlib.Core.Path.{◌≡◌, sym, ◌∙◌}
use mathlib.Core.Logic.{◌≢◌}
use mathlib.Core.List.{List}
use mathlib.Core.Bool.{cond}
use lib.Dec.{eqb}
use borrow.Author.Tests.{eqb-true}
use Rattle.file.specs.Rules.Results.{Result, refused, done, result_of, number_in}
use Rattle.file.specs.Rules.FileGrounds.{file_ground}
use Rattle.file.proofs.Order.{by_case}
use Rattle.frame.specs.Rules.Reading.{read_address}
use Rattle.frame.specs.Rules.Frames.{address_frame, data_frame}
use Rattle.frame.specs.Rules.Writing.{write_frame, write_ground, write_address, data_ground, write_data}
use Rattle.cluster.specs.Rules.Round.{round_ground, round_on}
use Rattle.cluster.specs.Rules.Summary.{kept, fill_ground, fill_on, holder_in, round_keeping_ground, round_keeping}
use Rattle.cluster.proofs.Keeping.{keeping-round}
use Rattle.trace.specs.Rules.TraceRun.{report_words, trace_ground, trace_on}
use Rattle.owner.specs.Rules.OwnerWriting.{owner_ground, owner_on}
use Rattle.convert.specs.Rules.Convert.{convert_ground, convert_on}
use Rattle.join.specs.Rules.Join.{join_ground, join_on}
use Rattle.naming.specs.Rules.Position.{running}
use Rattle.naming.specs.Rules.RunGrounds.{start_over}
use Rattle.naming.specs.Rules.Step.{step_ground, step_made, step_on, step_keeping_ground, step_keeping}
use Rattle.naming.proofs.StepKeeping.{keeping_step}
use Rattle.screens.specs.Rules.Screens.{read_by, post_ground, post_on}
use Rattle.screens.specs.Rules.Turn.{turn_ground}
use Rattle.screens.proofs.ScreenGrounds.{turn-refused}
use Rattle.ttpa.specs.Rules.Calls.{lent_after, part_bytes, read_address_call, write_address_call, write_data_call, round_call, trace_call, owner_call, convert_call}
use Rattle.ttpa.specs.Rules.Calls.{position_in, words_of, start_call, step_senders, step_words_lem, step_call, fill_call, place_of, holder_call, slice_of}
use Rattle.ttpa.specs.Rules.Calls.{round_keeping_call, step_keeping_call, post_call, turn_screen, turn_senders, turn_call, join_call}
use Rattle.line.specs.Rules.Patterns.{pattern_on}
use Rattle.contents.specs.Rules.Contents.{contents_on}
use Rattle.ttpa.specs.Rules.Calls.{class_number, pattern_call, contents_call}
use Rattle.ttpa.specs.Claims.Refusals.{RefusalsAlterNothing}
use Rattle.ttpa.proofs.Numbers.{turn-number}

-- ---- a frame read or written

-- what is written on 0 alone
lent-kept :
    {A B : Type 0} (r : Result A) (old : B) (new : A → B) (n : ℕ) → n ≢ 0 → number_in r ≡ n →
    ◌≡◌ {A = ℕ × B} (number_in r, lent_after r old new) (n, old)
unfolding number_in lent_after
lent-kept (refused m) old new n some e = rw e
lent-kept (done a) old new n some e = absurd (some (sym e))

write_kept :
    (reason : ℕ) (frame buffer : List ℕ) (n : ℕ) → n ≢ 0 → number_in (write_frame reason frame buffer).0 ≡ n →
    ◌≡◌ {A = ℕ × List ℕ} (number_in (write_frame reason frame buffer).0, (write_frame reason frame buffer).1) (n, buffer)
unfolding write_frame result_of number_in
write_kept reason frame buffer n some e =
    by_case (eqb reason 0)
    (λ t. absurd (some (sym (rw t at e))))
    (λ t. let same : reason ≡ n = rw t at e in rw (t, same))

-- ---- a frame or a trace on a file, and its owner file

-- the answer of a layer below, by its ground, and what it leaves
abbrev answered : {A C : Type 0} → ℕ → A → C → C → Result A × C
answered reason value new was = cond (eqb reason 0) (done value, new) (refused reason, was)

answer-kept :
    {A B C : Type 0} (reason : ℕ) (value : A) (new was : C) (old : B) (to : A → B) (n : ℕ) → n ≢ 0 → number_in (answered reason value new was).0 ≡ n →
    ◌≡◌ {A = ℕ × B × C}
    (number_in (answered reason value new was).0, lent_after (answered reason value new was).0 old to, (answered reason value new was).1)
    (n, old, was)
unfolding number_in lent_after
answer-kept reason value new was old to n some e =
    by_case (eqb reason 0)
    (λ t. absurd (some (sym (rw t at e))))
    (λ t. let same : reason ≡ n = rw t at e in rw (t, same))

round-kept :
    (file frame answer : List ℕ) (senders n : ℕ) → n ≢ 0 → (round_call file frame answer senders).0 ≡ n →
    round_call file frame answer senders ≡ (n, senders, answer, file)
unfolding round_call round_on number_in lent_after
round-kept file frame answer senders n some e =
    by_case (eqb (round_ground file frame answer) 0)
    (λ t. absurd (some (sym (rw t at e))))
    (λ t. let same : round_ground file frame answer ≡ n = rw t at e in rw (t, same))

trace-kept : (file t report : List ℕ) (n : ℕ) → n ≢ 0 → (trace_call file t report).0 ≡ n → trace_call file t report ≡ (n, report, file)
unfolding trace_call trace_on
trace-kept file t report n some e = answer-kept (trace_ground file t) _ _ file report report_words n some e

owner-kept :
    (file : List ℕ) (master : ℕ) (buffer : List ℕ) (length n : ℕ) → n ≢ 0 → (owner_call file master buffer length).0 ≡ n →
    owner_call file master buffer length ≡ (n, length, buffer)
unfolding owner_call owner_on
owner-kept file master buffer length n some e = answer-kept (owner_ground file master buffer) _ _ buffer length (λ (written : ℕ). written) n some e

convert-kept :
    (edition : ℕ) (file out : List ℕ) (length n : ℕ) → n ≢ 0 → (convert_call edition file out length).0 ≡ n →
    convert_call edition file out length ≡ (n, length, out)
unfolding convert_call convert_on
convert-kept edition file out length n some e = answer-kept (convert_ground file edition out) _ _ out length (λ (written : ℕ). written) n some e

join_kept :
    (first second out : List ℕ) (length n : ℕ) → n ≢ 0 → (join_call first second out length).0 ≡ n →
    join_call first second out length ≡ (n, length, out)
unfolding join_call join_on
join_kept first second out length n some e = answer-kept (join_ground first second out) _ _ out length (λ (written : ℕ). written) n some e

contents-kept :
    (file : List ℕ) (slave number : ℕ) (buffer : List ℕ) (length n : ℕ) → n ≢ 0 → (contents_call file slave number buffer length).0 ≡ n →
    contents_call file slave number buffer length ≡ (n, length, buffer)
unfolding contents_call contents_on
contents-kept file slave number buffer length n some e = answer-kept (file_ground file) _ _ buffer length (λ (size : ℕ). size) n some e

-- ---- a run

step_kept :
    (file run names answer : List ℕ) (senders n : ℕ) → n ≢ 0 → (step_call file run names answer senders).0 ≡ n →
    step_call file run names answer senders ≡ (n, senders, run, answer, file)
unfolding step_call step_on step_made number_in step_senders step_words_lem
step_kept file run names answer senders n some e =
    by_case (eqb (step_ground file (position_in run) names answer) 0)
    (λ t.
    by_case (eqb (position_in run).end running)
    (λ u. absurd (some (sym (rw (t, u) at e))))
    (λ u. absurd (some (sym (rw (t, u) at e)))))
    (λ t. let same : step_ground file (position_in run) names answer ≡ n = rw t at e in rw (t, same))

-- ---- a summary

fill-kept : (file held : List ℕ) (count n : ℕ) → n ≢ 0 → (fill_call file held count).0 ≡ n → fill_call file held count ≡ (n, count, held)
unfolding fill_call fill_on
fill-kept file held count n some e = answer-kept (fill_ground file held) _ _ held count (λ (filled : ℕ). filled) n some e

round-keeping-kept :
    (file frame answer : List ℕ) (senders : ℕ) (held : List ℕ) (count n : ℕ) → n ≢ 0 → (round_keeping_call file frame answer senders held count).0 ≡ n →
    round_keeping_call file frame answer senders held count ≡ (n, senders, answer, file, held)
unfolding round_keeping_call round_keeping round_on number_in lent_after slice_of
round-keeping-kept file frame answer senders held count n some e =
    by_case (eqb (round_keeping_ground file (kept count held) frame answer) 0)
    (λ t.
    let none : round_ground file frame answer ≡ 0 = keeping-round file (kept count held) frame answer (eqb-true _ _ t) in
    absurd (some (sym (rw (t, none) at e))))
    (λ t. let same : round_keeping_ground file (kept count held) frame answer ≡ n = rw t at e in rw (t, same))

step-keeping-kept :
    (file run names answer : List ℕ) (senders : ℕ) (held : List ℕ) (count n : ℕ) → n ≢ 0 → (step_keeping_call file run names answer senders held count).0 ≡ n →
    step_keeping_call file run names answer senders held count ≡ (n, senders, run, answer, file, held)
unfolding step_keeping_call step_keeping step_on step_made number_in step_senders step_words_lem slice_of
step-keeping-kept file run names answer senders held count n some e =
    by_case (eqb (step_keeping_ground file (position_in run) names (kept count held) answer) 0)
    (λ t.
    let none : step_ground file (position_in run) names answer ≡ 0 = keeping_step file (position_in run) names (kept count held) answer (eqb-true _ _ t) in
    by_case (eqb (position_in run).end running)
    (λ v. absurd (some (sym (rw (t, none, v) at e))))
    (λ v. absurd (some (sym (rw (t, none, v) at e)))))
    (λ t. let same : step_keeping_ground file (position_in run) names (kept count held) answer ≡ n = rw t at e in rw (t, same))

-- ---- screens

post-kept :
    (state : List ℕ) (i name file «record» n : ℕ) → n ≢ 0 → (post_call state i name file «record»).0 ≡ n →
    post_call state i name file «record» ≡ (n, state)
unfolding post_call post_on result_of number_in
post-kept state i name file record' n some e =
    by_case (eqb (post_ground state i (read_by name file record')) 0)
    (λ t. absurd (some (sym (rw t at e))))
    (λ t. let same : post_ground state i (read_by name file record') ≡ n = rw t at e in rw (t, same))

turn-kept :
    (file state answer : List ℕ) (senders screen n : ℕ) → n ≢ 0 → (turn_call file state answer senders screen).0 ≡ n →
    turn_call file state answer senders screen ≡ (n, senders, screen, state, answer, file)
unfolding turn_call turn_senders turn_screen number_in
turn-kept file state answer senders screen n some e =
    let number = turn-number file state answer senders screen in
    let is : turn_ground state file answer ≡ n = sym number ∙ e in
    let turned = turn-refused state file answer (λ z. some (sym is ∙ z)) in
    rw (turned, is)

pub refusals_alter_nothing : RefusalsAlterNothing
unfolding read_address_call write_address_call write_address write_data_call write_data start_call holder_call pattern_call
refusals_alter_nothing =
    record {
      read_address = λ frame parts n some e. lent-kept (read_address frame) parts part_bytes n some e;
      write_address =
          λ frame epoch name file operation record' n some e.
          write_kept (write_ground frame name file operation) (address_frame epoch name file operation record') frame n some e;
      write_data = λ frame bytes n some e. write_kept (data_ground frame) (data_frame bytes) frame n some e;
      round = round-kept;
      trace = trace-kept;
      owner = owner-kept;
      convert = convert-kept;
      join = join_kept;
      contents = contents-kept;
      start = λ names run n some e. lent-kept (start_over names) run words_of n some e;
      step = step_kept;
      fill = fill-kept;
      holder = λ held count name place n some e. lent-kept (holder_in name count held) place place_of n some e;
      round_keeping = round-keeping-kept;
      step_keeping = step-keeping-kept;
      post = post-kept;
      turn = turn-kept;
      pattern = λ pattern kind n some e. lent-kept (pattern_on pattern) kind class_number n some e;
    }
