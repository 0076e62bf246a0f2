-- "A cluster file, a frame, a list of names or a stored run position of any content is carried out or refused by one of document 01's
-- numbers (02 adds more)." (the customer's first demand): which numbers each C call returns, whatever it is handed.
use Rattle.std.specs.Prelude.{ℕ, ◌≡◌, List, [], ◌∷◌, ◌++◌}
use Rattle.file.specs.Rules.Bytes.{Bytes}
use Rattle.ttpa.specs.Rules.Calls.{check_call, read_address_call, write_address_call, write_data_call, round_call, trace_call, owner_call, convert_call}
use Rattle.ttpa.specs.Rules.Calls.{start_call, step_call, fill_call, holder_call, round_keeping_call, step_keeping_call, screens_call, post_call}
use Rattle.ttpa.specs.Rules.Calls.{turn_call, join_call, pattern_call, contents_call}

pub data OneOf : ℕ → List ℕ → Type 0 where
  here : {n : ℕ} {ns : List ℕ} → OneOf n (n ∷ ns)
  later : {n m : ℕ} {ns : List ℕ} → OneOf n ns → OneOf n (m ∷ ns)

-- carried out, which is 0, or refused by one of these
abbrev pub ZeroOr : ℕ → List ℕ → Type 0
ZeroOr n numbers = OneOf n (0 ∷ numbers)

-- the file's
abbrev pub file_numbers : List ℕ
file_numbers = 1 ∷ 2 ∷ 3 ∷ 4 ∷ 5 ∷ 6 ∷ 7 ∷ 8 ∷ []

pub record RefusedByNumbers : Type 0 where
  pub check : (file : List ℕ) → ZeroOr (check_call file) (file_numbers ++ 22 ∷ [])
  pub read_address : (frame parts : List ℕ) → ZeroOr (read_address_call frame parts).0 (10 ∷ 11 ∷ 12 ∷ 13 ∷ 14 ∷ [])
  pub write_address :
      (frame : List ℕ) (epoch name file operation «record» : ℕ) →
      ZeroOr (write_address_call frame epoch name file operation «record»).0 (9 ∷ 13 ∷ 14 ∷ 18 ∷ [])
  pub write_data : (frame bytes : List ℕ) → ZeroOr (write_data_call frame bytes).0 (9 ∷ [])
  pub round :
      (file frame answer : List ℕ) (senders : ℕ) →
      ZeroOr (round_call file frame answer senders).0 (file_numbers ++ 9 ∷ 10 ∷ 11 ∷ 12 ∷ 13 ∷ 14 ∷ [])
  pub trace : (file t report : List ℕ) → ZeroOr (trace_call file t report).0 (file_numbers ++ 19 ∷ [])
  pub owner :
      (file : List ℕ) (master : ℕ) (buffer : List ℕ) (length : ℕ) →
      ZeroOr (owner_call file master buffer length).0 (file_numbers ++ 23 ∷ 20 ∷ 21 ∷ [])
  -- 25 and 26 "in this order after 8" (document 02, job 10); 25 refuses narrowing alone, a lent file being bytes
  pub to_one : (file out : List ℕ) (length : ℕ) → ZeroOr (convert_call 1 file out length).0 (file_numbers ++ 25 ∷ 26 ∷ [])
  pub to_two : (file out : List ℕ) (length : ℕ) → Bytes file → ZeroOr (convert_call 2 file out length).0 (file_numbers ++ 26 ∷ [])
  -- 29 and 30 "in this order after 8, the first file being checked before the second" (document 02, job 13)
  pub join : (first second out : List ℕ) (length : ℕ) → ZeroOr (join_call first second out length).0 (file_numbers ++ 29 ∷ 30 ∷ [])
  pub start : (names run : List ℕ) → ZeroOr (start_call names run).0 (15 ∷ 16 ∷ [])
  pub step :
      (file run names answer : List ℕ) (senders : ℕ) →
      ZeroOr (step_call file run names answer senders).0 (file_numbers ++ 9 ∷ 15 ∷ 16 ∷ 17 ∷ [])
  -- 24 "after 8" (document 02, job 8)
  pub fill : (file held : List ℕ) (count : ℕ) → ZeroOr (fill_call file held count).0 (file_numbers ++ 24 ∷ [])
  pub holder : (held : List ℕ) (count name place : ℕ) → ZeroOr (holder_call held count name place).0 (24 ∷ [])
  pub round_keeping :
      (file frame answer : List ℕ) (senders : ℕ) (held : List ℕ) (count : ℕ) →
      ZeroOr (round_keeping_call file frame answer senders held count).0 (file_numbers ++ 24 ∷ 9 ∷ 10 ∷ 11 ∷ 12 ∷ 13 ∷ 14 ∷ [])
  pub step_keeping :
      (file run names answer : List ℕ) (senders : ℕ) (held : List ℕ) (count : ℕ) →
      ZeroOr (step_keeping_call file run names answer senders held count).0 (file_numbers ++ 24 ∷ 9 ∷ 15 ∷ 16 ∷ 17 ∷ [])
  -- "27, ..; 28, ..; then 18 and 14 on the read posted or due; all before the file's" (document 02, job 12); the state of the start is
  -- never refused
  pub screens : (state : List ℕ) → (screens_call state).0 ≡ 0
  pub post :
      (state : List ℕ) (screen name file «record» : ℕ) → ZeroOr (post_call state screen name file «record»).0 (27 ∷ 28 ∷ 18 ∷ 14 ∷ [])
  pub turn :
      (file state answer : List ℕ) (senders screen : ℕ) →
      ZeroOr (turn_call file state answer senders screen).0 (27 ∷ 18 ∷ 14 ∷ file_numbers ++ 9 ∷ [])
  -- "31, a pattern above 511, checked first" (document 02, job 14)
  pub pattern : (pattern kind : ℕ) → ZeroOr (pattern_call pattern kind).0 (31 ∷ [])
  -- a slave's file is read of every file that is accepted
  pub contents :
      (file : List ℕ) (slave number : ℕ) (buffer : List ℕ) (length : ℕ) →
      ZeroOr (contents_call file slave number buffer length).0 file_numbers
