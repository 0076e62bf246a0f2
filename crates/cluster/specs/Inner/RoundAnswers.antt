-- The code's answers in the terms of the rules. No two answers of one type are taken to the same.
use Rattle.std.specs.Prelude.{ℕ, List, Ok, Err}
use Rattle.file.specs.Rules.Results.{Result, refused, done}
use Rattle.file.specs.Inner.Refusals.{Answered, refusal_number}
use Rattle.cluster.specs.Rules.Round.{Answer}
use Rattle.master_slave.specs.Inner.Duties.{data_in}
use Rattle.master_slave.specs.declared.types.DataBytes.{DataBytes}

-- to a data frame: document 01's number, or its bytes
unfoldable pub data_read : Answered DataBytes → Result (List ℕ)
data_read (Err why) = refused (refusal_number why)
data_read (Ok d) = done (data_in d)
