-- The code's entry in the terms of Entries.antt: each operation by its code of 002, table 4. A struct's entry keeps the multiplex
-- field for the multiplexed operations alone, which alone evaluate it.
use Rattle.std.specs.Prelude.{ℕ, ◌≤◌, ◌<◌, ◌≡◌, cond, leb}
use Rattle.master_slave.specs.Rules.Bus.{slots}
use Rattle.multipartner.specs.Rules.Entries.{Entry, receives, sends, ends}
use Rattle.multipartner.specs.declared.entry.Entry as Code
use Rattle.multipartner.specs.declared.entry.EntryOperation.{EntryOperation}
use Rattle.multipartner.specs.declared.entry.EntryOperation.TheVariants.{Receive, Send, ReceiveSync, Execute, ReceiveSpeedup, SendSpeedup, EndOfRound, ExecuteAndEnd}
use Rattle.multipartner.specs.declared.entry.EntryOperation.TheVariants.{ReceiveMux4, SendMux4, ReceiveMux8, SendMux8, ReceiveSpeedupMux4, SendSpeedupMux4, ReceiveMux8High, SendMux8High}
use Rattle.multipartner.specs.declared.entry.EntryAction.{EntryAction}
use Rattle.multipartner.specs.declared.entry.EntryAction.TheVariants.{Receives, Sends, Ends, Rests}

-- the other codes of 002, table 4, and how many there are. Those from the first multiplexed one on evaluate the multiplex field.
abbrev pub execute : ℕ
execute = 3

abbrev pub receive_mux4 : ℕ
receive_mux4 = 8

abbrev pub send_mux4 : ℕ
send_mux4 = 9

abbrev pub receive_mux8 : ℕ
receive_mux8 = 10

abbrev pub send_mux8 : ℕ
send_mux8 = 11

abbrev pub receive_speedup_mux4 : ℕ
receive_speedup_mux4 = 12

abbrev pub send_speedup_mux4 : ℕ
send_speedup_mux4 = 13

abbrev pub receive_mux8_high : ℕ
receive_mux8_high = 14

abbrev pub send_mux8_high : ℕ
send_mux8_high = 15

abbrev pub operation_codes : ℕ
operation_codes = 16

abbrev pub first_multiplexed : ℕ
first_multiplexed = receive_mux4

-- "file number 0 to 63"
abbrev pub file_numbers : ℕ
file_numbers = 64

unfoldable pub code_of : EntryOperation → ℕ
code_of Receive = 0
code_of Send = 1
code_of ReceiveSync = 2
code_of Execute = execute
code_of ReceiveSpeedup = 4
code_of SendSpeedup = 5
code_of EndOfRound = 6
code_of ExecuteAndEnd = 7
code_of (ReceiveMux4 m) = receive_mux4
code_of (SendMux4 m) = send_mux4
code_of (ReceiveMux8 m) = receive_mux8
code_of (SendMux8 m) = send_mux8
code_of (ReceiveSpeedupMux4 m) = receive_speedup_mux4
code_of (SendSpeedupMux4 m) = send_speedup_mux4
code_of (ReceiveMux8High m) = receive_mux8_high
code_of (SendMux8High m) = send_mux8_high

unfoldable pub multiplex_of : EntryOperation → ℕ
multiplex_of Receive = 0
multiplex_of Send = 0
multiplex_of ReceiveSync = 0
multiplex_of Execute = 0
multiplex_of ReceiveSpeedup = 0
multiplex_of SendSpeedup = 0
multiplex_of EndOfRound = 0
multiplex_of ExecuteAndEnd = 0
multiplex_of (ReceiveMux4 m) = m
multiplex_of (SendMux4 m) = m
multiplex_of (ReceiveMux8 m) = m
multiplex_of (SendMux8 m) = m
multiplex_of (ReceiveSpeedupMux4 m) = m
multiplex_of (SendSpeedupMux4 m) = m
multiplex_of (ReceiveMux8High m) = m
multiplex_of (SendMux8High m) = m

-- the multiplex field of an operation that evaluates it, else 0
unfoldable pub multiplex_in : ℕ → ℕ → ℕ
multiplex_in operation multiplex = cond (leb first_multiplexed operation) multiplex 0

pub record OperationIs (r : EntryOperation) (operation multiplex : ℕ) : Type 0 where
  pub code : code_of r ≡ operation
  pub field : multiplex_of r ≡ multiplex_in operation multiplex

unfoldable pub entry_from : Code.Entry → Entry
entry_from e =
    record {
      file = e.address.file.0;
      align = e.address.align;
      «record» = e.address.«record».0;
      operation = code_of e.operation;
      length = e.length;
      multiplex = multiplex_of e.operation;
      start = e.slot;
    }

-- an entry with its multiplex field as far as it is evaluated
unfoldable pub evaluated : Entry → Entry
evaluated e =
    record {
      file = e.file;
      align = e.align;
      «record» = e.«record»;
      operation = e.operation;
      length = e.length;
      multiplex = multiplex_in e.operation e.multiplex;
      start = e.start;
    }

-- a slot of the round that the entry reaches: its byte place is small
pub record Reaches (e : Code.Entry) (slot : ℕ) : Type 0 where
  pub align : e.address.align < 4
  pub begun : e.slot ≤ slot
  pub in_round : slot < slots

-- what a slave does for an entry that covers a slot, by its operation
pub data Action : Type 0 where
  ending : Action
  sending : Action
  receiving : Action
  resting : Action

unfoldable pub action_by : ℕ → Action
action_by operation = cond (ends operation) ending (cond (sends operation) sending (cond (receives operation) receiving resting))

unfoldable pub action_from : EntryAction → Action
action_from Receives = receiving
action_from Sends = sending
action_from Ends = ending
action_from Rests = resting
