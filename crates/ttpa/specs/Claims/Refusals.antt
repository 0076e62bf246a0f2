-- "A refusal returns its number and alters nothing lent" (document 01, "Grounds for turning something away"), for every C call: where the
-- number that it returns is not 0, everything lent to it is what it was. The check of a file is lent nothing that a call could alter; the
-- version is asked for with nothing lent, and never refused; nor is the screens' state of the start.
use Rattle.std.specs.Prelude.{ℕ, ◌≡◌, ◌≢◌, List}
use Rattle.ttpa.specs.Rules.Calls.{read_address_call, write_address_call, write_data_call, round_call, trace_call, owner_call, convert_call, start_call}
use Rattle.ttpa.specs.Rules.Calls.{step_call, fill_call, holder_call, round_keeping_call, step_keeping_call, post_call, turn_call, join_call, pattern_call, contents_call}

pub record RefusalsAlterNothing : Type 0 where
  -- the five parts
  pub read_address : (frame parts : List ℕ) (n : ℕ) → n ≢ 0 → (read_address_call frame parts).0 ≡ n → read_address_call frame parts ≡ (n, parts)
  -- the frame's buffer
  pub write_address :
      (frame : List ℕ) (epoch name file operation «record» n : ℕ) → n ≢ 0 →
      (write_address_call frame epoch name file operation «record»).0 ≡ n → write_address_call frame epoch name file operation «record» ≡ (n, frame)
  pub write_data : (frame bytes : List ℕ) (n : ℕ) → n ≢ 0 → (write_data_call frame bytes).0 ≡ n → write_data_call frame bytes ≡ (n, frame)
  -- senders, answer buffer and file
  pub round :
      (file frame answer : List ℕ) (senders n : ℕ) → n ≢ 0 →
      (round_call file frame answer senders).0 ≡ n → round_call file frame answer senders ≡ (n, senders, answer, file)
  -- report and file
  pub trace : (file t report : List ℕ) (n : ℕ) → n ≢ 0 → (trace_call file t report).0 ≡ n → trace_call file t report ≡ (n, report, file)
  -- length and buffer
  pub owner :
      (file : List ℕ) (master : ℕ) (buffer : List ℕ) (length n : ℕ) → n ≢ 0 →
      (owner_call file master buffer length).0 ≡ n → owner_call file master buffer length ≡ (n, length, buffer)
  pub convert :
      (edition : ℕ) (file out : List ℕ) (length n : ℕ) → n ≢ 0 →
      (convert_call edition file out length).0 ≡ n → convert_call edition file out length ≡ (n, length, out)
  pub join :
      (first second out : List ℕ) (length n : ℕ) → n ≢ 0 →
      (join_call first second out length).0 ≡ n → join_call first second out length ≡ (n, length, out)
  pub contents :
      (file : List ℕ) (slave number : ℕ) (buffer : List ℕ) (length n : ℕ) → n ≢ 0 →
      (contents_call file slave number buffer length).0 ≡ n → contents_call file slave number buffer length ≡ (n, length, buffer)
  -- the run
  pub start : (names run : List ℕ) (n : ℕ) → n ≢ 0 → (start_call names run).0 ≡ n → start_call names run ≡ (n, run)
  -- senders, run, answer buffer and file
  pub step :
      (file run names answer : List ℕ) (senders n : ℕ) → n ≢ 0 →
      (step_call file run names answer senders).0 ≡ n → step_call file run names answer senders ≡ (n, senders, run, answer, file)
  -- count and slice
  pub fill : (file held : List ℕ) (count n : ℕ) → n ≢ 0 → (fill_call file held count).0 ≡ n → fill_call file held count ≡ (n, count, held)
  -- the place
  pub holder : (held : List ℕ) (count name place n : ℕ) → n ≢ 0 → (holder_call held count name place).0 ≡ n → holder_call held count name place ≡ (n, place)
  -- senders, answer buffer, file and slice
  pub round_keeping :
      (file frame answer : List ℕ) (senders : ℕ) (held : List ℕ) (count n : ℕ) → n ≢ 0 →
      (round_keeping_call file frame answer senders held count).0 ≡ n →
      round_keeping_call file frame answer senders held count ≡ (n, senders, answer, file, held)
  -- senders, run, answer buffer, file and slice
  pub step_keeping :
      (file run names answer : List ℕ) (senders : ℕ) (held : List ℕ) (count n : ℕ) → n ≢ 0 →
      (step_keeping_call file run names answer senders held count).0 ≡ n →
      step_keeping_call file run names answer senders held count ≡ (n, senders, run, answer, file, held)
  -- the screens' state
  pub post :
      (state : List ℕ) (screen name file «record» n : ℕ) → n ≢ 0 →
      (post_call state screen name file «record»).0 ≡ n → post_call state screen name file «record» ≡ (n, state)
  -- senders, screen, the screens' state, answer buffer and file
  pub turn :
      (file state answer : List ℕ) (senders screen n : ℕ) → n ≢ 0 →
      (turn_call file state answer senders screen).0 ≡ n →
      turn_call file state answer senders screen ≡ (n, senders, screen, state, answer, file)
  -- the class
  pub pattern : (pattern kind n : ℕ) → n ≢ 0 → (pattern_call pattern kind).0 ≡ n → pattern_call pattern kind ≡ (n, kind)
