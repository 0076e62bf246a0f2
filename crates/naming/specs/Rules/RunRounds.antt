-- The rounds that a naming run sends (document 01, "The naming run", first paragraph).
use Rattle.std.specs.Prelude.{ℕ, ◌^◌, List, [], ◌∷◌}
use Rattle.file.specs.Rules.Bytes.{bytes_of}
use Rattle.file.specs.Rules.Layout.{record_size}
use Rattle.cluster.specs.Rules.MasterSlave.{Sent}
use Rattle.file.specs.Rules.Cluster.{configuration, documentation, unnamed, read_operation, write_operation, execute_operation}

-- the values of one half: 32 bits
abbrev pub half : ℕ
half = 2 ^ 32

-- "A comparison is three rounds at 0xFF: write record 2, write record 3, execute record 2."
abbrev pub comparison_rounds : ℕ
comparison_rounds = 3

-- the rounds of a naming run: read 0x3D record 1 at a name; at 0xFF write record 1 with a name, record 2 or 3 with a half,
-- execute record 2, execute record 1
pub data RunRound : Type 0 where
  poll write_name write_high write_low : ℕ → RunRound
  compare baptize : RunRound

-- what the master sends
unfoldable pub at_unnamed : ℕ → ℕ → List ℕ → Sent
at_unnamed operation r content =
    record { name = unnamed; file = configuration; operation = operation; «record» = r; content = content }

unfoldable pub sent : RunRound → Sent
sent (poll n) = record { name = n; file = documentation; operation = read_operation; «record» = 1; content = [] }
sent (write_name n) = at_unnamed write_operation 1 (0 ∷ 0 ∷ n ∷ unnamed ∷ [])
sent (write_high h) = at_unnamed write_operation 2 (bytes_of record_size h)
sent (write_low l) = at_unnamed write_operation 3 (bytes_of record_size l)
sent compare = at_unnamed execute_operation 2 []
sent baptize = at_unnamed execute_operation 1 []
