-- A file in another edition (document 02, job 10).
use Rattle.std.specs.Prelude.{ℕ, List, Bool, length, ltb}
use Rattle.file.specs.Rules.Order.{either}
use Rattle.file.specs.Rules.Layout.{max_slaves, max_length}
use Rattle.file.specs.Rules.Cluster.{Slave}
use Rattle.file.specs.Rules.Encode.{file_length, encode}
use Rattle.file.specs.Rules.Decode.{decode}
use Rattle.file.specs.Rules.Changes.{with_edition}

-- the encoding in that edition of the cluster that the file holds: the epoch, the pending bytes, the sleep bytes and the files are kept
unfoldable pub in_edition : List ℕ → ℕ → List ℕ
in_edition f e = encode (with_edition (decode f) e)

-- the slaves are too many for the edition of that width, or its form of the file is too long: "more than 32 slaves or an edition-1 form
-- above 32,768 bytes"
unfoldable pub exceeds : ℕ → List Slave → Bool
exceeds w ss = either (ltb (max_slaves w) (length ss)) (ltb (max_length w) (file_length w ss))
