-- What an accepted address frame does, and the answer and the buffer of any accepted frame.
use Rattle.std.specs.Prelude.{ℕ, List, get_or}
use Rattle.file.specs.Rules.Cluster.{Cluster}
use Rattle.file.specs.Rules.Results.{done}
use Rattle.master_slave.specs.Rules.Bus.{sender_mask, answer_bytes, answer_in, nobody}
use Rattle.master_slave.specs.Rules.Slaves.{with_address}
use Rattle.master_slave.specs.Rules.Effect.{Effect}
use Rattle.cluster.specs.Rules.Round.{Answer}

abbrev pub address_effect : Cluster → List ℕ → Effect
address_effect c frame =
    record { senders = nobody; after = with_address c (get_or frame 1 0) (get_or frame 2 0) (get_or frame 3 0) (get_or frame 4 0) }

abbrev pub carried_by : Effect → Answer
carried_by e = done (sender_mask e.senders)

abbrev pub buffer_by : Effect → ℕ → List ℕ → List ℕ
buffer_by e firework buffer = answer_in buffer (answer_bytes firework e.senders)
