-- An entry by its bytes, and what it adds to the plan of its slave.
use Rattle.std.specs.Prelude.{ℕ, ◌+◌, ◌/◌, ◌%◌, ◌≤◌, ◌<◌, ◌≡◌, List, Bool, not, length, get_or, eqb, ltb}
use Rattle.file.specs.Rules.Order.{both, either}
use Rattle.file.specs.Rules.Layout.{record_size}
use Rattle.file.specs.Rules.Cluster.{Slave, bytes_in}
use Rattle.file.specs.Rules.Decode.{decode}
use Rattle.file.specs.Inner.Places.{slave_of}
use Rattle.file.specs.Inner.Accepted.{AcceptedFile, slave_count}
use Rattle.multipartner.specs.Rules.Entries.{Entry, covers, sends, eligible}
use Rattle.multipartner.specs.Rules.Multipartner.{within}
use Rattle.multipartner.specs.Inner.EntryForm.{file_numbers}
use Rattle.owner.specs.Rules.Plan.{is_multiplexed_receive, is_multiplexed_send}
use Rattle.owner.specs.Inner.Masks.{is_set, Marks, longest_entry}

-- byte 2 of the entry at a place: operation, and length less one
unfoldable pub kind_at : List ℕ → ℕ → ℕ
kind_at f at = get_or f (at + 2) 0

-- an entry of one slot, neither multiplexed nor an end
unfoldable pub is_single : ℕ → Bool
is_single kind = both (ltb (kind / longest_entry) 6) (eqb (kind % longest_entry) 0)

-- the size of the file that was looked for last, if there was one
pub record Kept (s : Slave) (number size : ℕ) : Type 0 where
  pub known : number < file_numbers → size ≡ length (bytes_in s number)

-- an entry that covers the slot would send there if it acted
unfoldable pub would_send : Slave → Entry → ℕ → Bool
would_send s e slot = both (covers e slot) (both (sends e.operation) (within s e slot))

-- four bytes of an accepted file, read as an entry of a slave
pub record EntryOf (f : List ℕ) (slave at number size : ℕ) : Type 0 where
  pub accepted : AcceptedFile f
  pub listed : slave < slave_count f
  pub inside : at + record_size ≤ length f
  pub kept : Kept (slave_of (decode f) slave) number size

-- a slot is hidden, with the entry
unfoldable pub hidden_with : Entry → ℕ → ℕ → Bool
hidden_with e hidden slot = either (is_set hidden slot) (eligible is_multiplexed_receive e slot)

-- the slave sends there, with the entry: if it sends already, or the slot is not hidden and the entry would send
unfoldable pub sends_with : Slave → Entry → ℕ → ℕ → ℕ → Bool
sends_with s e hidden sent slot = either (is_set sent slot) (both (would_send s e slot) (not (is_set hidden slot)))

-- the slots that are hidden and in which the slave sends, whether there is a multiplexed send, and the size kept, after the entry
pub record EntryTaken (s : Slave) (e : Entry) (hidden sent : ℕ) (multiplexed : Bool) (hidden' sent' : ℕ) (multiplexed' : Bool) (number size : ℕ) : Type 0 where
  pub hides : Marks hidden' (hidden_with e hidden)
  pub sending : Marks sent' (sends_with s e hidden sent)
  pub multiplexes : multiplexed' ≡ either multiplexed (is_multiplexed_send e)
  pub kept : Kept s number size
