-- Who sends in which slot of which round, by the slaves' round files (document 02, job 4: "Planners want the owner file 0x0B derived
-- from the slaves' round files."; job 7 of their multiplexed entries).
use Rattle.std.specs.Prelude.{ℕ, zero, suc, List, [], ◌∷◌, Bool, true, false, cond, not, length, eqb, leb}
use Rattle.file.specs.Rules.Order.{both, either}
use Rattle.file.specs.Rules.Cluster.{Slave, bytes_in, last_record}
use Rattle.master_slave.specs.Rules.Bus.{slots}
use Rattle.master_slave.specs.Rules.Slaves.{is_unnamed}
use Rattle.multipartner.specs.Rules.Entries.{Entry, entry_at, is_multiplexed, receives, sends, ends}
use Rattle.multipartner.specs.Rules.Multipartner.{SlaveByte, nowhere, byte_of, plans_from}

-- the eight rounds, and the two of them that are no multipartner rounds, MSD and MSA
abbrev pub rounds : ℕ
rounds = 8

abbrev pub data_round : ℕ
data_round = 1

abbrev pub address_round : ℕ
address_round = 5

-- "each of rounds 0, 2, 3, 4, 6 and 7"
unfoldable pub is_owned : ℕ → Bool
is_owned round = not (either (eqb round data_round) (eqb round address_round))

-- "the owner writer passes over every multiplexed receive"
unfoldable pub is_multiplexed_receive : Entry → Bool
is_multiplexed_receive e = both (is_multiplexed e.operation) (receives e.operation)

-- "Only entries that would send a byte count.": the slave's acting entry sends from a byte that is there
unfoldable pub is_there : SlaveByte → Bool
is_there nowhere = false
is_there (byte_of n k) = true

unfoldable pub sends_in : ℕ → ℕ → Slave → Bool
sends_in round slot s = is_there (plans_from is_multiplexed_receive round slot s)

-- the slaves that send in a slot
unfoldable pub senders_among : ℕ → ℕ → List Slave → List Slave
senders_among round slot [] = []
senders_among round slot (s ∷ ss) =
    let rest = senders_among round slot ss in cond (sends_in round slot s) (s ∷ rest) rest

-- document 01, "Slots 1 to 63 run in order": nobody sends in slot 0
unfoldable pub senders_in : ℕ → ℕ → List Slave → List Slave
senders_in round zero ss = []
senders_in round (suc slot) ss = senders_among round (suc slot) ss

-- one of the numbers below n passes a test
unfoldable pub some_below : (ℕ → Bool) → ℕ → Bool
some_below test zero = false
some_below test (suc n) = either (some_below test n) (test n)

-- "two slaves send in one slot of a round": two slaves, whatever their names; of the six rounds, since no round runs files 1 and 5
unfoldable pub two_send_in : ℕ → List Slave → Bool
two_send_in round ss = some_below (λ (slot : ℕ). leb 2 (length (senders_in round slot ss))) slots

unfoldable pub two_send : List Slave → Bool
two_send ss = some_below (λ (round : ℕ). both (is_owned round) (two_send_in round ss)) rounds

-- an entry before the end passes a test: of n records from k on
unfoldable pub some_entry_from : (Entry → Bool) → List ℕ → ℕ → ℕ → Bool
some_entry_from test rodl k zero = false
some_entry_from test rodl k (suc n) =
    let rest = some_entry_from test rodl (suc k) n in
    cond (ends (entry_at rodl k).operation) false (either (test (entry_at rodl k)) rest)

-- one before the end in that round file of a slave not unnamed
unfoldable pub some_entry : (Entry → Bool) → ℕ → Slave → Bool
some_entry test round s = both (not (is_unnamed s)) (some_entry_from test (bytes_in s round) 1 (last_record (bytes_in s round)))

unfoldable pub some_entry_of : (Entry → Bool) → ℕ → List Slave → Bool
some_entry_of test round [] = false
some_entry_of test round (s ∷ ss) = either (some_entry test round s) (some_entry_of test round ss)

-- "a multiplexed send before the end in file 0, 2, 3, 4, 6 or 7 of a slave not unnamed"
unfoldable pub is_multiplexed_send : Entry → Bool
is_multiplexed_send e = both (is_multiplexed e.operation) (sends e.operation)

unfoldable pub multiplexed_send : List Slave → Bool
multiplexed_send ss = some_below (λ (round : ℕ). both (is_owned round) (some_entry_of is_multiplexed_send round ss)) rounds
