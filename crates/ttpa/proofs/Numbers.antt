-- A C call returns 0 or the number of one of its grounds.
-- Assumes nothing.
use Prim.Native.Nat.{ℕ}
use native.Mathlib.Omega.{arith}
use mathlib.Core.Path.{◌≡◌, refl, sym, ◌∙◌}
use mathlib.Core.Logic.{◌≢◌}
use mathlib.Core.List.{List, [], ◌∷◌, ◌++◌, map}
use mathlib.Core.Bool.{Bool}
use lib.ListN.{length}
use lib.Dec.{eqb, ltb}
use borrow.Author.Tests.{eqb-true}
use Rattle.file.specs.Rules.Bytes.{Bytes}
use Rattle.file.specs.Rules.Order.{Ground, first_of}
use Rattle.file.specs.Rules.Results.{refused, result_of, number_in}
use Rattle.file.specs.Rules.Cluster.{Cluster}
use Rattle.file.specs.Rules.Decode.{decode}
use Rattle.file.specs.Rules.FileGrounds.{file_grounds_at, file_grounds, file_ground, load_ground, load_verdict}
use Rattle.file.proofs.Order.{by_case}
use Rattle.file.proofs.Results.{file-first}
use Rattle.file.proofs.Width.{two_widths}
use Rattle.frame.specs.Rules.Fireworks.{Round, multipartner, msd, msa, no_round}
use Rattle.frame.specs.Rules.Reading.{read_ground, parts_of, read_address}
use Rattle.frame.specs.Rules.Writing.{write_frame, write_ground, write_address, data_ground, write_data}
use Rattle.cluster.specs.Rules.RoundGrounds.{short_answer, round_by_lem, grounds_on}
use Rattle.cluster.specs.Rules.Round.{round_ground, round_on}
use Rattle.cluster.specs.Rules.Summary.{kept, fill_ground, fill_on, holder_in, round_keeping_ground, round_keeping}
use Rattle.trace.specs.Rules.TraceRun.{trace_grounds, trace_ground, trace_on}
use Rattle.owner.specs.Rules.OwnerWriting.{owner_grounds, owner_ground, owner_on}
use Rattle.convert.specs.Rules.Convert.{convert_grounds, convert_ground, convert_on}
use Rattle.convert.proofs.ConversionGrounds.{only_narrowing}
use Rattle.join.specs.Rules.Join.{join_grounds, join_ground, join_on}
use Rattle.naming.specs.Rules.Position.{Position, running, fresh}
use Rattle.naming.specs.Rules.RunGrounds.{names_grounds, start_ground, run_grounds, start_over}
use Rattle.naming.specs.Rules.Step.{StepDone, step_ground, step_made, step_on, step_keeping_ground, step_keeping}
use Rattle.screens.specs.Rules.Screens.{Due, nobody, screen, read_by, due, read_grounds, post_ground, post_on}
use Rattle.screens.specs.Rules.Turn.{due_grounds, state_grounds, turn_ground, turn_made, turn_on}
use Rattle.ttpa.specs.Rules.Calls.{check_call, read_address_call, write_address_call, write_data_call, round_call, trace_call, owner_call, convert_call}
use Rattle.ttpa.specs.Rules.Calls.{position_in, start_call, step_call, fill_call, holder_call, round_keeping_call, step_keeping_call, screens_call, post_call}
use Rattle.ttpa.specs.Rules.Calls.{turn_call, join_call}
use Rattle.line.specs.Rules.Patterns.{class_of, pattern_ground, pattern_on}
use Rattle.contents.specs.Rules.Contents.{contents_on}
use Rattle.ttpa.specs.Rules.Calls.{pattern_call, contents_call}
use Rattle.ttpa.specs.Claims.Numbers.{OneOf, here, later, ZeroOr, file_numbers, RefusedByNumbers}

-- ---- the first ground that holds

numbers_of : List Ground → List ℕ
numbers_of gs = map (λ (g : Ground). g.0) gs

one_more : {n m : ℕ} {ns : List ℕ} → ZeroOr n ns → ZeroOr n (m ∷ ns)
one_more here = here
one_more (later x) = later (later x)

first-number : (gs : List Ground) → ZeroOr (first_of gs) (numbers_of gs)
unfolding first_of numbers_of
first-number [] = here
first-number (g ∷ gs) = by_case g.1 (λ e. rw e (later here)) (λ e. rw e (one_more (first-number gs)))

-- behind the same numbers
behind : (front : List ℕ) {n : ℕ} {ns ms : List ℕ} → (OneOf n ns → OneOf n ms) → OneOf n (front ++ ns) → OneOf n (front ++ ms)
behind [] f x = f x
behind (m ∷ front) f here = here
behind (m ∷ front) f (later x) = later (behind front f x)

-- in the front, or behind it
in_front : {n : ℕ} {ns : List ℕ} (ms : List ℕ) → OneOf n ns → OneOf n (ns ++ ms)
in_front ms here = here
in_front ms (later x) = later (in_front ms x)

split : {P : Type 0} (front : List ℕ) {n : ℕ} {ms : List ℕ} → (OneOf n front → P) → (OneOf n ms → P) → OneOf n (front ++ ms) → P
split [] f g x = g x
split (m ∷ front) f g here = f here
split (m ∷ front) f g (later x) = split front (λ y. f (later y)) g x

-- not by the first of them
but_first : {n m : ℕ} {ns : List ℕ} → n ≢ m → OneOf n (m ∷ ns) → OneOf n ns
but_first other here = absurd (other refl)
but_first other (later x) = x

-- ---- a call returns its ground

result_number : {A : Type 0} (reason : ℕ) (value : A) → number_in (result_of reason value) ≡ reason
unfolding result_of number_in
result_number reason value = by_case (eqb reason 0) (λ e. rw e (sym (eqb-true reason 0 e))) (λ e. rw e)

refused-number : (A : Type 0) (n : ℕ) → number_in {A = A} (refused n) ≡ n
unfolding number_in
refused-number A n = refl

pub round_number : (file frame answer : List ℕ) (senders : ℕ) → (round_call file frame answer senders).0 ≡ round_ground file frame answer
unfolding round_call round_on number_in
round_number file frame answer senders =
    by_case (eqb (round_ground file frame answer) 0) (λ e. rw e (sym (eqb-true _ _ e))) (λ e. rw e)

trace-number : (file t report : List ℕ) → (trace_call file t report).0 ≡ trace_ground file t
unfolding trace_call trace_on number_in
trace-number file t report = by_case (eqb (trace_ground file t) 0) (λ e. rw e (sym (eqb-true _ _ e))) (λ e. rw e)

owner-number : (file : List ℕ) (master : ℕ) (buffer : List ℕ) (length : ℕ) → (owner_call file master buffer length).0 ≡ owner_ground file master buffer
unfolding owner_call owner_on number_in
owner-number file master buffer length = by_case (eqb (owner_ground file master buffer) 0) (λ e. rw e (sym (eqb-true _ _ e))) (λ e. rw e)

pub convert_number : (edition : ℕ) (file out : List ℕ) (length : ℕ) → (convert_call edition file out length).0 ≡ convert_ground file edition out
unfolding convert_call convert_on number_in
convert_number edition file out length = by_case (eqb (convert_ground file edition out) 0) (λ e. rw e (sym (eqb-true _ _ e))) (λ e. rw e)

pub join-number : (first second out : List ℕ) (length : ℕ) → (join_call first second out length).0 ≡ join_ground first second out
unfolding join_call join_on number_in
join-number first second out length = by_case (eqb (join_ground first second out) 0) (λ e. rw e (sym (eqb-true _ _ e))) (λ e. rw e)

pub contents-number :
    (file : List ℕ) (slave number : ℕ) (buffer : List ℕ) (length : ℕ) → (contents_call file slave number buffer length).0 ≡ file_ground file
unfolding contents_call contents_on number_in
contents-number file slave number buffer length = by_case (eqb (file_ground file) 0) (λ e. rw e (sym (eqb-true _ _ e))) (λ e. rw e)

step-number : (file run names answer : List ℕ) (senders : ℕ) → (step_call file run names answer senders).0 ≡ step_ground file (position_in run) names answer
unfolding step_call step_on step_made number_in
step-number file run names answer senders =
    by_case (eqb (step_ground file (position_in run) names answer) 0)
    (λ e. by_case (eqb (position_in run).end running) (λ u. rw (e, u) (sym (eqb-true _ _ e))) (λ u. rw (e, u) (sym (eqb-true _ _ e))))
    (λ e. rw e)

fill-number : (file held : List ℕ) (count : ℕ) → (fill_call file held count).0 ≡ fill_ground file held
unfolding fill_call fill_on number_in
fill-number file held count = by_case (eqb (fill_ground file held) 0) (λ e. rw e (sym (eqb-true _ _ e))) (λ e. rw e)

pub post-number :
    (state : List ℕ) (i name file «record» : ℕ) → (post_call state i name file «record»).0 ≡ post_ground state i (read_by name file «record»)
unfolding post_call post_on
post-number state i name file record' = result_number _ _

-- by who is due
made-number : (d : Due) (state file answer : List ℕ) → number_in (turn_made d state file answer).0 ≡ 0
unfolding turn_made number_in
made-number nobody state file answer = refl
made-number (screen i) state file answer = refl

pub turn-number :
    (file state answer : List ℕ) (senders screen : ℕ) → (turn_call file state answer senders screen).0 ≡ turn_ground state file answer
unfolding turn_call turn_on
turn-number file state answer senders told =
    by_case (eqb (turn_ground state file answer) 0)
    (λ e. rw e (made-number (due state) state file answer ∙ sym (eqb-true _ _ e)))
    (λ e. rw e (refused-number _ _))

-- ---- the numbers of each call's grounds

-- those of a frame, whatever round it opens
frame-numbers : (c : Cluster) (round : Round) (frame : List ℕ) {n : ℕ} → OneOf n (numbers_of (grounds_on c round frame)) → OneOf n (10 ∷ 11 ∷ 12 ∷ 13 ∷ 14 ∷ [])
unfolding grounds_on numbers_of
frame-numbers c (multipartner r) frame (later never) = elim never [ ]
frame-numbers c msd frame (later (later never)) = elim never [ ]
frame-numbers c no_round frame (later never) = elim never [ ]
frame-numbers c no_round frame here = here
frame-numbers c (multipartner r) frame here = later here
frame-numbers c msd frame here = later here
frame-numbers c msd frame (later here) = later (later here)
frame-numbers c msa frame x = later x

check-numbers : (file : List ℕ) → ZeroOr (load_ground file) (file_numbers ++ 22 ∷ [])
unfolding load_ground file_grounds file_grounds_at numbers_of
check-numbers file = first-number _

read-numbers : (frame : List ℕ) → ZeroOr (read_ground frame) (10 ∷ 11 ∷ 12 ∷ 13 ∷ 14 ∷ [])
unfolding read_ground numbers_of
read-numbers frame = first-number _

write-numbers : (buffer : List ℕ) (name file operation : ℕ) → ZeroOr (write_ground buffer name file operation) (9 ∷ 13 ∷ 14 ∷ 18 ∷ [])
unfolding write_ground numbers_of
write-numbers buffer name file operation = first-number _

data-numbers : (buffer : List ℕ) → ZeroOr (data_ground buffer) (9 ∷ [])
unfolding data_ground numbers_of
data-numbers buffer = first-number _

round-numbers : (file frame buffer : List ℕ) → ZeroOr (round_ground file frame buffer) (file_numbers ++ 9 ∷ 10 ∷ 11 ∷ 12 ∷ 13 ∷ 14 ∷ [])
unfolding round_ground file_grounds file_grounds_at numbers_of
round-numbers file frame buffer =
    behind (0 ∷ file_numbers ++ 9 ∷ []) (frame-numbers (decode file) (round_by_lem frame) frame) (first-number _)

trace-numbers : (file t : List ℕ) → ZeroOr (trace_ground file t) (file_numbers ++ 19 ∷ [])
unfolding trace_ground trace_grounds file_grounds file_grounds_at numbers_of
trace-numbers file t = first-number _

owner-numbers : (file : List ℕ) (master : ℕ) (buffer : List ℕ) → ZeroOr (owner_ground file master buffer) (file_numbers ++ 23 ∷ 20 ∷ 21 ∷ [])
unfolding owner_ground owner_grounds file_grounds file_grounds_at numbers_of
owner-numbers file master buffer = first-number _

convert-numbers : (edition : ℕ) (file out : List ℕ) → ZeroOr (convert_ground file edition out) (file_numbers ++ 25 ∷ 26 ∷ [])
unfolding convert_ground convert_grounds file_grounds file_grounds_at numbers_of
convert-numbers edition file out = first-number _

-- no file exceeds the limits of edition 2
widen_numbers : (file out : List ℕ) → Bytes file → ZeroOr (convert_ground file 2 out) (file_numbers ++ 26 ∷ [])
widen_numbers file out b =
    behind (0 ∷ file_numbers) (but_first (λ over. omega (arith, (only_narrowing file 2 out b two_widths.1 over).to)))
    (convert-numbers 2 file out)

-- the second file's are the first's
join-numbers : (first second out : List ℕ) → ZeroOr (join_ground first second out) (file_numbers ++ 29 ∷ 30 ∷ [])
unfolding join_ground join_grounds file_grounds file_grounds_at numbers_of
join-numbers first second out = split (0 ∷ file_numbers) (in_front (29 ∷ 30 ∷ [])) later (first-number _)

file-numbers : (file : List ℕ) → ZeroOr (file_ground file) file_numbers
unfolding file_grounds file_grounds_at numbers_of
file-numbers file = rw (← file-first file) (first-number (file_grounds file))

start-numbers : (names : List ℕ) → ZeroOr (start_ground names) (15 ∷ 16 ∷ [])
unfolding start_ground names_grounds numbers_of
start-numbers names = first-number _

step-numbers : (file : List ℕ) (p : Position) (names buffer : List ℕ) → ZeroOr (step_ground file p names buffer) (file_numbers ++ 9 ∷ 15 ∷ 16 ∷ 17 ∷ [])
unfolding step_ground run_grounds names_grounds file_grounds file_grounds_at numbers_of
step-numbers file p names buffer = first-number _

fill-numbers : (file held : List ℕ) → ZeroOr (fill_ground file held) (file_numbers ++ 24 ∷ [])
unfolding fill_ground file_grounds file_grounds_at numbers_of
fill-numbers file held = first-number _

round-keeping-numbers :
    (file held : List ℕ) (count : ℕ) (frame buffer : List ℕ) → ZeroOr (round_keeping_ground file (kept count held) frame buffer) (file_numbers ++ 24 ∷ 9 ∷ 10 ∷ 11 ∷ 12 ∷ 13 ∷ 14 ∷ [])
unfolding round_keeping_ground file_grounds file_grounds_at numbers_of
round-keeping-numbers file held count frame buffer =
    behind (0 ∷ file_numbers ++ 24 ∷ 9 ∷ []) (frame-numbers (decode file) (round_by_lem frame) frame) (first-number _)

step-keeping-numbers :
    (file : List ℕ) (p : Position) (names held : List ℕ) (count : ℕ) (buffer : List ℕ) →
    ZeroOr (step_keeping_ground file p names (kept count held) buffer) (file_numbers ++ 24 ∷ 9 ∷ 15 ∷ 16 ∷ 17 ∷ [])
unfolding step_keeping_ground run_grounds names_grounds file_grounds file_grounds_at numbers_of
step-keeping-numbers file p names held count buffer = first-number _

-- ---- the claim

check_returns : (file : List ℕ) → ZeroOr (check_call file) (file_numbers ++ 22 ∷ [])
unfolding check_call load_verdict
check_returns file = rw (result_number (load_ground file) (tt {0})) (check-numbers file)

read_returns : (frame parts : List ℕ) → ZeroOr (read_address_call frame parts).0 (10 ∷ 11 ∷ 12 ∷ 13 ∷ 14 ∷ [])
unfolding read_address_call read_address
read_returns frame parts = rw (result_number (read_ground frame) (parts_of frame)) (read-numbers frame)

write-returns :
    (frame : List ℕ) (epoch name file operation «record» : ℕ) → ZeroOr (write_address_call frame epoch name file operation «record»).0 (9 ∷ 13 ∷ 14 ∷ 18 ∷ [])
unfolding write_address_call write_address write_frame
write-returns frame epoch name file operation «record» = rw (result_number (write_ground frame name file operation) (tt {0})) (write-numbers frame name file operation)

data_returns : (frame bytes : List ℕ) → ZeroOr (write_data_call frame bytes).0 (9 ∷ [])
unfolding write_data_call write_data write_frame
data_returns frame bytes = rw (result_number (data_ground frame) (tt {0})) (data-numbers frame)

start_returns : (names run : List ℕ) → ZeroOr (start_call names run).0 (15 ∷ 16 ∷ [])
unfolding start_call start_over
start_returns names run = rw (result_number (start_ground names) (fresh names)) (start-numbers names)

round_returns : (file frame answer : List ℕ) (senders : ℕ) → ZeroOr (round_call file frame answer senders).0 (file_numbers ++ 9 ∷ 10 ∷ 11 ∷ 12 ∷ 13 ∷ 14 ∷ [])
round_returns file frame answer senders = rw (round_number file frame answer senders) (round-numbers file frame answer)

step_returns : (file run names answer : List ℕ) (senders : ℕ) → ZeroOr (step_call file run names answer senders).0 (file_numbers ++ 9 ∷ 15 ∷ 16 ∷ 17 ∷ [])
step_returns file run names answer senders = rw (step-number file run names answer senders) (step-numbers file (position_in run) names answer)

holder_returns : (held : List ℕ) (count name place : ℕ) → ZeroOr (holder_call held count name place).0 (24 ∷ [])
unfolding holder_call holder_in number_in
holder_returns held count name place = by_case (ltb (length held) count) (λ e. rw e (later here)) (λ e. rw e here)

-- given a summary, by a ground of its own, or as the call without it
round-keeping-returns :
    (file frame answer : List ℕ) (senders : ℕ) (held : List ℕ) (count : ℕ) →
    ZeroOr (round_keeping_call file frame answer senders held count).0 (file_numbers ++ 24 ∷ 9 ∷ 10 ∷ 11 ∷ 12 ∷ 13 ∷ 14 ∷ [])
unfolding round_call round_keeping_call round_keeping
round-keeping-returns file frame answer senders held count =
    by_case (eqb (round_keeping_ground file (kept count held) frame answer) 0)
    (λ e. rw e (behind (0 ∷ file_numbers) later (round_returns file frame answer senders)))
    (λ e. rw (e, refused-number ℕ (round_keeping_ground file (kept count held) frame answer)) (round-keeping-numbers file held count frame answer))

step-keeping-returns :
    (file run names answer : List ℕ) (senders : ℕ) (held : List ℕ) (count : ℕ) →
    ZeroOr (step_keeping_call file run names answer senders held count).0 (file_numbers ++ 24 ∷ 9 ∷ 15 ∷ 16 ∷ 17 ∷ [])
unfolding step_call step_keeping_call step_keeping
step-keeping-returns file run names answer senders held count =
    by_case (eqb (step_keeping_ground file (position_in run) names (kept count held) answer) 0)
    (λ e. rw e (behind (0 ∷ file_numbers) later (step_returns file run names answer senders)))
    (λ e.
    rw (e, refused-number StepDone (step_keeping_ground file (position_in run) names (kept count held) answer))
    (step-keeping-numbers file (position_in run) names held count answer))

post-numbers :
    (state : List ℕ) (i name file «record» : ℕ) → ZeroOr (post_ground state i (read_by name file «record»)) (27 ∷ 28 ∷ 18 ∷ 14 ∷ [])
unfolding post_ground read_grounds numbers_of
post-numbers state i name file record' = first-number _

-- of a turn with nobody due, or with a read due
due-numbers :
    (d : Due) (state file answer : List ℕ) (last : Bool) →
    ZeroOr (first_of (((27, last) ∷ due_grounds state d) ++ (file_grounds file ++ (9, short_answer answer) ∷ [])))
    (27 ∷ 18 ∷ 14 ∷ file_numbers ++ 9 ∷ [])
unfolding due_grounds read_grounds file_grounds file_grounds_at numbers_of
due-numbers nobody state file answer last = behind (0 ∷ 27 ∷ []) (λ x. later (later x)) (first-number _)
due-numbers (screen i) state file answer last = first-number _

turn-numbers : (file state answer : List ℕ) → ZeroOr (turn_ground state file answer) (27 ∷ 18 ∷ 14 ∷ file_numbers ++ 9 ∷ [])
unfolding turn_ground state_grounds
turn-numbers file state answer = due-numbers (due state) state file answer _

pattern_returns : (pattern kind : ℕ) → ZeroOr (pattern_call pattern kind).0 (31 ∷ [])
unfolding pattern_call pattern_on pattern_ground numbers_of
pattern_returns pattern kind = rw (result_number (pattern_ground pattern) (class_of pattern)) (first-number _)

pub refused_by_numbers : RefusedByNumbers
unfolding screens_call
refused_by_numbers =
    record {
      check = check_returns;
      read_address = read_returns;
      write_address = write-returns;
      write_data = data_returns;
      round = round_returns;
      trace = λ file t report. rw (trace-number file t report) (trace-numbers file t);
      to_one = λ file out length. rw (convert_number 1 file out length) (convert-numbers 1 file out);
      to_two = λ file out length b. rw (convert_number 2 file out length) (widen_numbers file out b);
      join = λ first second out length. rw (join-number first second out length) (join-numbers first second out);
      owner = λ file master buffer length. rw (owner-number file master buffer length) (owner-numbers file master buffer);
      start = start_returns;
      step = step_returns;
      fill = λ file held count. rw (fill-number file held count) (fill-numbers file held);
      holder = holder_returns;
      round_keeping = round-keeping-returns;
      step_keeping = step-keeping-returns;
      screens = λ state. refl;
      post = λ state i name file record'. rw (post-number state i name file record') (post-numbers state i name file record');
      turn = λ file state answer senders told. rw (turn-number file state answer senders told) (turn-numbers file state answer);
      pattern = pattern_returns;
      contents = λ file slave number buffer length. rw (contents-number file slave number buffer length) (file-numbers file);
    }
