-- One law for each way that a C call ends: the answer of the layer below, taken apart.
-- Assumes nothing.
use Prim.Native.Nat.{ℕ, ◌-◌, ◌^◌}
use mathlib.Core.Path.{◌≡◌, refl, ap}
use mathlib.Core.List.{List, [], ◌∷◌}
use Rattle.file.specs.Rules.FileGrounds.{load_verdict}
use Rattle.file.specs.declared.types.Refusal.{Refusal}
use Rattle.file.specs.declared.types.FileNumber.{FileNumber}
use Rattle.file.specs.declared.types.RecordNumber.{RecordNumber}
use Rattle.file.specs.declared.types.LogicalName.{LogicalName}
use Rattle.file.specs.declared.types.Operation.{Operation}
use Rattle.frame.specs.Rules.Reading.{parts, read_address}
use Rattle.frame.specs.Rules.Writing.{write_address, write_data}
use Rattle.frame.specs.Inner.FrameAnswers.{reading_of}
use Rattle.file.specs.Rules.Results.{Result, refused, done, number_in}
use Rattle.cluster.specs.Rules.Round.{Answer, round_on}
use Rattle.cluster.specs.Rules.Summary.{kept, round_keeping, fill_on, nobody, at, holder_in}
use Rattle.trace.specs.Rules.TraceRun.{report_words, trace_on}
use Rattle.trace.specs.Inner.TraceAnswers.{report_in, traced_of}
use Rattle.trace.specs.Inner.Sent.{FewFrames}
use Rattle.trace.specs.declared.report.Report.{Report}
use Rattle.trace.proofs.Calls.{ran-few}
use Rattle.convert.specs.Rules.Convert.{convert_on}
use Rattle.convert.specs.Inner.ConversionAnswers.{edition_in}
use Rattle.convert.specs.declared.editions.Edition.TheVariants as editions
use Rattle.join.specs.Rules.Join.{join_on}
use Rattle.owner.specs.Rules.OwnerWriting.{owner_on}
use Rattle.naming.specs.Rules.Position.{Position}
use Rattle.naming.specs.Rules.RunGrounds.{start_over}
use Rattle.naming.specs.Rules.Step.{step_on, step_keeping}
use Rattle.naming.specs.Inner.StepAnswers.{position_of, started_of, stepped_of, run_after}
use Rattle.naming.specs.declared.position.RunPosition.{RunPosition}
use Rattle.screens.specs.Rules.Screens.{read_by, fresh, post_on}
use Rattle.screens.specs.Rules.Turn.{idle, served, turn_on}
use Rattle.screens.specs.Inner.ScreenAnswers.{turned_of}
use Rattle.line.specs.Rules.Patterns.{pattern_on}
use Rattle.line.specs.Inner.LineAnswers.{class_in, read_of}
use Rattle.line.specs.declared.pattern.PatternClass.{PatternClass}
use Rattle.line.specs.declared.pattern.PatternClass.TheVariants as classes
use Rattle.contents.specs.Rules.Contents.{contents_on}
use Rattle.summary.specs.Inner.SummaryAnswers.{holder_of}
use Rattle.ttpa.specs.Rules.Calls.{lent_after, check_call, part_bytes, read_address_call, write_address_call, write_data_call, round_call, trace_call, owner_call}
use Rattle.ttpa.specs.Rules.Calls.{convert_call, words_of, position_in, start_call, step_senders, step_words_lem, step_call, fill_call, nobody_place, place_of}
use Rattle.ttpa.specs.Rules.Calls.{holder_call, slice_of, round_keeping_call, step_keeping_call, screens_call, post_call, none_waited, turn_screen, turn_senders}
use Rattle.ttpa.specs.Rules.Calls.{turn_call, join_call}
use Rattle.ttpa.specs.Rules.Calls.{class_number, pattern_call, contents_call}
use Rattle.ttpa.specs.Inner.Told.{number_told, step_told}
use Rattle.file.specs.Inner.Refusals.{Answered, refusal_number, outcome_of}
use Rattle.std.specs.Prelude.{Ok, Err, Option, Some, None}
use Rattle.frame.specs.declared.types.AddressFrame.{AddressFrame}
use Rattle.naming.specs.declared.run.MadeStep.{MadeStep}
use Rattle.screens.specs.declared.turn.Served.{Served}

-- ---- the number of an answer, and what a call has to tell

pub number_done : {a : Answered (Unit {0})} → a ≡ Ok tt → 0 ≡ number_in (outcome_of a)
unfolding number_in outcome_of
number_done e = rw e

pub number-refused : {A : Type 0} {a : Answered A} {why : Refusal} → a ≡ Err why → refusal_number why ≡ number_in (outcome_of a)
unfolding number_in outcome_of
number-refused e = rw e

module _ (word : ℕ) {a : Answered ℕ} where
  pub told_refused : {why : Refusal} → a ≡ Err why → (refusal_number why, word) ≡ number_told (outcome_of a) word
  unfolding number_told number_in lent_after outcome_of
  told_refused e = rw e

  pub told_done : {n : ℕ} → a ≡ Ok n → (0, n) ≡ number_told (outcome_of a) word
  unfolding number_told number_in lent_after outcome_of
  told_done e = rw e

-- ---- the checker

pub check-told : (f : List ℕ) {n : ℕ} {v : Result (Unit {0})} → v ≡ load_verdict f → n ≡ number_in v → n ≡ check_call f
unfolding check_call
check-told f is e = rw (← is, e)

-- ---- the reader

pub read_refuses : (f old : List ℕ) {a : Answered AddressFrame} {why : Refusal} → reading_of a ≡ read_address f → a ≡ Err why → (refusal_number why, old) ≡ read_address_call f old
unfolding read_address_call number_in lent_after part_bytes reading_of
read_refuses f old {why = why} is e =
    let r : refused (refusal_number why) ≡ read_address f = rw e at is in
    rw (← r)

pub read-parts :
    (f old : List ℕ) {a : Answered AddressFrame} {read : AddressFrame} → reading_of a ≡ read_address f → a ≡ Ok read →
    (0, read.epoch ∷ read.name.0 ∷ read.file.0 ∷ read.operation.0 ∷ read.«record».0 ∷ []) ≡ read_address_call f old
unfolding read_address_call number_in lent_after part_bytes reading_of
read-parts f old {read = read} is e =
    let r : done (parts read.epoch read.name.0 read.file.0 read.operation.0 read.«record».0) ≡ read_address f = rw e at is in
    rw (← r)

-- ---- the writers

pub address-written :
    (old : List ℕ) {new : List ℕ} {n : ℕ} {w : Result (Unit {0})} (epoch name file operation record' : ℕ) {x : ℕ} → x ≡ name →
    (w, new) ≡ write_address old epoch x file operation record' → n ≡ number_in w →
    (n, new) ≡ write_address_call old epoch name file operation record'
unfolding write_address_call
address-written old epoch name file operation record' same is e = rw (← same, ← is, e)

pub data-written :
    (old : List ℕ) {new : List ℕ} {n : ℕ} {w : Result (Unit {0})} (bytes : List ℕ) → (w, new) ≡ write_data old bytes → n ≡ number_in w →
    (n, new) ≡ write_data_call old bytes
unfolding write_data_call
data-written old bytes is e = rw (← is, e)

-- ---- a frame on a file

module _ (file frame answer : List ℕ) (senders : ℕ) {r : Answer} {n senders' : ℕ} (told : (n, senders') ≡ number_told r senders) {answer' file' : List ℕ} where
  pub round-told : (r, answer', file') ≡ round_on file frame answer → (n, senders', answer', file') ≡ round_call file frame answer senders
  unfolding round_call number_told
  round-told is = rw (← is, ap (λ (t : ℕ × ℕ). t.0) told, ap (λ (t : ℕ × ℕ). t.1) told)

  pub round-keeping-told :
      (held : List ℕ) (count : ℕ) {held' : List ℕ} {c : ℕ} → c ≡ count →
      (r, answer', file', kept c held') ≡ round_keeping file (kept c held) frame answer →
      (n, senders', answer', file', held') ≡ round_keeping_call file frame answer senders held count
  unfolding round_keeping_call number_told
  round-keeping-told held count same is =
      rw (← same, ← is, ap (λ (t : ℕ × ℕ). t.0) told, ap (λ (t : ℕ × ℕ). t.1) told) (unfold slice_of in refl)

-- ---- a trace on a file

module _ (file t report : List ℕ) {file' : List ℕ} (a : Answered Report) (is : (traced_of a, file') ≡ trace_on file t) where
  pub trace_refuses : {why : Refusal} → a ≡ Err why → (refusal_number why, report, file') ≡ trace_call file t report
  unfolding trace_call number_in lent_after traced_of
  trace_refuses {why} e =
      let r : (refused (refusal_number why), file') ≡ trace_on file t = rw e at is in
      rw (← r)

  pub trace-runs : {r : Report} {words : List ℕ} → a ≡ Ok r → words ≡ report_words (report_in r) → (0, words, file') ≡ trace_call file t report
  unfolding trace_call number_in lent_after traced_of
  trace-runs {r} e same =
      let ran : (done (report_in r), file') ≡ trace_on file t = rw e at is in
      rw (← ran, same)

  -- a report of few frames: its sum fits
  pub trace-few : {r : Report} → a ≡ Ok r → FewFrames (report_in r)
  unfolding traced_of
  trace-few {r} e =
      let ran : (done (report_in r), file') ≡ trace_on file t = rw e at is in
      ran-few file t (report_in r) (rw (← ran))

-- ---- a file that is written, with its length: the owner file, a file in an edition, two files joined, a slave's file

module _ (length : ℕ) (r : Result ℕ) {n length' : ℕ} (told : (n, length') ≡ number_told r length) where
  number_is : n ≡ number_in r
  unfolding number_told
  number_is = ap (λ (t : ℕ × ℕ). t.0) told

  length-is : length' ≡ lent_after r length (λ (k : ℕ). k)
  unfolding number_told
  length-is = ap (λ (t : ℕ × ℕ). t.1) told

  module _ (out : List ℕ) {out' : List ℕ} where
    pub owner-told : (file : List ℕ) (master : ℕ) {name : ℕ} → name ≡ master → (r, out') ≡ owner_on file name out → (n, length', out') ≡ owner_call file master out length
    unfolding owner_call
    owner-told file master same is = rw (← same, ← is, number_is, length-is)

    pub convert-told : (edition : ℕ) (file : List ℕ) → (r, out') ≡ convert_on file edition out → (n, length', out') ≡ convert_call edition file out length
    unfolding convert_call
    convert-told edition file is = rw (← is, number_is, length-is)

    pub join-told : (first second : List ℕ) → (r, out') ≡ join_on first second out → (n, length', out') ≡ join_call first second out length
    unfolding join_call
    join-told first second is = rw (← is, number_is, length-is)

    pub contents-told : (file : List ℕ) (slave number : ℕ) → (r, out') ≡ contents_on file slave number out → (n, length', out') ≡ contents_call file slave number out length
    unfolding contents_call
    contents-told file slave number is = rw (← is, number_is, length-is)

    pub fill-told : (file : List ℕ) → (r, out') ≡ fill_on file out → (n, length', out') ≡ fill_call file out length
    unfolding fill_call
    fill-told file is = rw (← is, number_is, length-is)

-- the editions of the two calls
module _ (file out : List ℕ) (length : ℕ) {x : ℕ × ℕ × List ℕ} where
  pub edition-one : x ≡ convert_call (edition_in editions.One) file out length → x ≡ convert_call 1 file out length
  unfolding edition_in
  edition-one is = is

  pub edition-two : x ≡ convert_call (edition_in editions.Two) file out length → x ≡ convert_call 2 file out length
  unfolding edition_in
  edition-two is = is

-- ---- a fresh run

module _ (names run : List ℕ) (a : Answered RunPosition) (is : started_of a ≡ start_over names) where
  pub start_refuses : {why : Refusal} → a ≡ Err why → (refusal_number why, run) ≡ start_call names run
  unfolding start_call number_in lent_after started_of
  start_refuses {why} e =
      let r : refused (refusal_number why) ≡ start_over names = rw e at is in
      rw (← r)

  pub start-begins : {p : RunPosition} → a ≡ Ok p → {words : List ℕ} → words ≡ words_of (position_of p) → (0, words) ≡ start_call names run
  unfolding start_call number_in lent_after started_of
  start-begins {p} e same =
      let r : done (position_of p) ≡ start_over names = rw e at is in
      rw (← r, same)

-- ---- a naming step

module _ (p : Position) (senders : ℕ) (run : List ℕ) {a : Answered (Option MadeStep)} where
  pub told-turned : {why : Refusal} → a ≡ Err why → (refusal_number why, senders, run) ≡ step_told (stepped_of a) (run_after p a) senders run
  unfolding step_told number_in step_senders step_words_lem stepped_of run_after
  told-turned e = rw e

  pub told-ended : {o : Option MadeStep} → a ≡ Ok o → o ≡ None → (0, senders, run) ≡ step_told (stepped_of a) (run_after p a) senders run
  unfolding step_told number_in step_senders step_words_lem stepped_of run_after
  told-ended e k = rw (e, k)

  pub told-made : {made : MadeStep} {words : List ℕ} → {o : Option MadeStep} → a ≡ Ok o → o ≡ Some made → words ≡ words_of (position_of made.run) → (0, made.senders, words) ≡ step_told (stepped_of a) (run_after p a) senders run
  unfolding step_told number_in step_senders step_words_lem stepped_of run_after
  told-made e k same = rw (e, k, same)

abbrev Told : Type 0
Told = ℕ × ℕ × List ℕ

module _
    (file run names answer : List ℕ) (senders : ℕ) (a : Answered (Option MadeStep)) {n senders' : ℕ} {run' : List ℕ}
    (told : (n, senders', run') ≡ step_told (stepped_of a) (run_after (position_in run) a) senders run)
    {position : RunPosition} (from : position_of position ≡ position_in run) {answer' file' : List ℕ} where
  pub step-told :
      (stepped_of a, run_after (position_of position) a, answer', file') ≡ step_on file (position_of position) names answer →
      (n, senders', run', answer', file') ≡ step_call file run names answer senders
  unfolding step_call step_told
  step-told by =
      let is : (stepped_of a, run_after (position_in run) a, answer', file') ≡ step_on file (position_in run) names answer = rw from at by in
      rw (← is, ap (λ (t : Told). t.0) told, ap (λ (t : Told). t.1) told, ap (λ (t : Told). t.2) told)

  pub step-keeping-told :
      (held : List ℕ) (count : ℕ) {held' : List ℕ} {c : ℕ} → c ≡ count →
      (stepped_of a, run_after (position_of position) a, answer', file', kept c held') ≡ step_keeping file (position_of position) names (kept c held) answer →
      (n, senders', run', answer', file', held') ≡ step_keeping_call file run names answer senders held count
  unfolding step_keeping_call step_told
  step-keeping-told held count {held'} {c} same by =
      let is : (stepped_of a, run_after (position_in run) a, answer', file', kept c held') ≡ step_keeping file (position_in run) names (kept c held) answer = rw from at by in
      rw (← same, ← is, ap (λ (t : Told). t.0) told, ap (λ (t : Told). t.1) told, ap (λ (t : Told). t.2) told) (unfold slice_of in refl)

-- ---- the summary asked

module _ (held : List ℕ) (count name place : ℕ) {c n : ℕ} (counted : c ≡ count) (named : n ≡ name) (a : Answered (Option ℕ)) (by : holder_of a ≡ holder_in n c held) where
  is : holder_of a ≡ holder_in name count held
  is = rw (counted, named) at by

  pub holder_refuses : {why : Refusal} → a ≡ Err why → (refusal_number why, place) ≡ holder_call held count name place
  unfolding holder_call number_in lent_after holder_of
  holder_refuses {why} e =
      let r : refused (refusal_number why) ≡ holder_in name count held = rw e at is in
      rw (← r)

  pub holder_found : {at' : ℕ} → {o : Option ℕ} → a ≡ Ok o → o ≡ Some at' → (0, at') ≡ holder_call held count name place
  unfolding holder_call number_in lent_after holder_of place_of
  holder_found {at'} e k =
      let r : done (at at') ≡ holder_in name count held = rw (e, k) at is in
      rw (← r)

  pub holder-nobody : {o : Option ℕ} → a ≡ Ok o → o ≡ None → (0, 2 ^ 64 - 1) ≡ holder_call held count name place
  unfolding holder_call number_in lent_after holder_of place_of nobody_place
  holder-nobody e k =
      let r : done nobody ≡ holder_in name count held = rw (e, k) at is in
      rw (← r)

-- ---- screens

pub screens-start : (state : List ℕ) {new : List ℕ} → new ≡ fresh → (0, new) ≡ screens_call state
unfolding screens_call
screens-start state e = rw e

module _ (state : List ℕ) (i name file «record» : ℕ) {n : ℕ} (same : n ≡ name) {after : List ℕ} {r : Result (Unit {0})}
    (is : (r, after) ≡ post_on state i (read_by n file «record»)) where
  pub post-told : {m : ℕ} → m ≡ number_in r → (m, after) ≡ post_call state i name file «record»
  unfolding post_call
  post-told e = rw (← same, ← is, e)

module _ (file state answer : List ℕ) (senders screen : ℕ) {state' answer' file' : List ℕ} {a : Answered (Option Served)}
    (is : (turned_of a, state', answer', file') ≡ turn_on state file answer) where
  pub turn-refuses :
      {why : Refusal} → a ≡ Err why → (refusal_number why, senders, screen, state', answer', file') ≡ turn_call file state answer senders screen
  unfolding turn_call turn_screen turn_senders number_in turned_of
  turn-refuses {why} e =
      let r : (refused (refusal_number why), state', answer', file') ≡ turn_on state file answer = rw e at is in
      rw (← r)

  pub turn_idles : {o : Option Served} → a ≡ Ok o → o ≡ None → (0, senders, 8, state', answer', file') ≡ turn_call file state answer senders screen
  unfolding turn_call turn_screen turn_senders none_waited number_in turned_of
  turn_idles e k =
      let r : (done idle, state', answer', file') ≡ turn_on state file answer = rw (e, k) at is in
      rw (← r)

  pub turn-serves :
      {s : Served} {o : Option Served} → a ≡ Ok o → o ≡ Some s → (0, s.senders, s.screen, state', answer', file') ≡ turn_call file state answer senders screen
  unfolding turn_call turn_screen turn_senders number_in turned_of
  turn-serves {s} e k =
      let r : (done (served s.screen s.senders), state', answer', file') ≡ turn_on state file answer = rw (e, k) at is in
      rw (← r)

-- ---- a pattern of the line

module _ {c : PatternClass} where
  pub data-number : c ≡ classes.DataByte → 0 ≡ class_number (class_in c)
  unfolding class_number class_in
  data-number e = rw e

  pub firework-number : c ≡ classes.Firework → 1 ≡ class_number (class_in c)
  unfolding class_number class_in
  firework-number e = rw e

  pub broken-number : c ≡ classes.Broken → 2 ≡ class_number (class_in c)
  unfolding class_number class_in
  broken-number e = rw e

module _ (pattern kind : ℕ) {a : Answered PatternClass} (is : read_of a ≡ pattern_on pattern) where
  pub pattern_refuses : {why : Refusal} → a ≡ Err why → (refusal_number why, kind) ≡ pattern_call pattern kind
  unfolding pattern_call number_in lent_after read_of
  pattern_refuses {why} e = let r : refused (refusal_number why) ≡ pattern_on pattern = rw e at is in rw (← r)

  pub pattern-reads :
      {c : PatternClass} {n : ℕ} → a ≡ Ok c → n ≡ class_number (class_in c) → (0, n) ≡ pattern_call pattern kind
  unfolding pattern_call number_in lent_after read_of
  pattern-reads {c} e same = let r : done (class_in c) ≡ pattern_on pattern = rw e at is in rw (← r, same)
