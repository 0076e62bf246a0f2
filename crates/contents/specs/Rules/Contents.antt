-- The call that reads a slave's file from a cluster file, without a round. The documents have no such call (docs/DECISIONS.md, C55); what
-- it tells is the cluster that they say the file holds.
use Rattle.std.specs.Prelude.{ℕ, List, cond, length, get_or, take, eqb}
use Rattle.file.specs.Rules.Results.{Result, refused, done, written_in}
use Rattle.file.specs.Rules.Cluster.{no_slave_lem, bytes_in}
use Rattle.file.specs.Rules.Decode.{decode}
use Rattle.file.specs.Rules.FileGrounds.{file_ground}

-- the bytes of a file of the slave at a place of the table, 0 the first: none where there is no such slave or file
unfoldable pub contents_in : List ℕ → ℕ → ℕ → List ℕ
contents_in f slave number = bytes_in (get_or (decode f).slaves slave no_slave_lem) number

-- the answer, with how many bytes the file has, and the buffer: as many of them as fit, and "Past the bytes a call writes, a buffer keeps
-- its content." It is refused by the cluster file's grounds alone
unfoldable pub contents_on : List ℕ → ℕ → ℕ → List ℕ → Result ℕ × List ℕ
contents_on f slave number buffer =
    let reason = file_ground f in
    let bytes = contents_in f slave number in
    cond (eqb reason 0) (done (length bytes), written_in buffer (take (length buffer) bytes)) (refused reason, buffer)
