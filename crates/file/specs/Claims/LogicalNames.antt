-- "Equal logical names do not refuse a file." (document 01, "The cluster file"): an accepted file with any other logical names in it is
-- accepted, equal ones among them, by every call but those that load a file from outside. These refuse it by 22, and by nothing else,
-- where two slaves have one name other than 0xFF (document 02, job 5).
use Rattle.std.specs.Prelude.{ℕ, ◌+◌, ◌≡◌, List, [], ◌∷◌, cond, length}
use Rattle.file.specs.Rules.Bytes.{Bytes}
use Rattle.file.specs.Rules.Layout.{record_size}
use Rattle.file.specs.Rules.Cluster.{Slave, configuration, logical_names}
use Rattle.file.specs.Rules.Encode.{encode}
use Rattle.file.specs.Rules.Decode.{decode}
use Rattle.file.specs.Rules.Changes.{put_in_slave, with_slaves}
use Rattle.file.specs.Rules.FileGrounds.{file_ground, has_repeat, held_names, load_ground}

-- slaves with these logical names in place of their own, "the logical name in byte 3" of record 1, and every other byte as it was
unfoldable pub renamed : List Slave → List ℕ → List Slave
renamed [] names = []
renamed (s ∷ ss) [] = s ∷ ss
renamed (s ∷ ss) (n ∷ ns) = put_in_slave s configuration (record_size + 3) n ∷ renamed ss ns

-- a file with these logical names in it, slave by slave
unfoldable pub with_names : List ℕ → List ℕ → List ℕ
with_names file names = encode (with_slaves (decode file) (renamed (decode file).slaves names))

-- it is accepted, and holds these names: "rounds may still run on a file that came to hold them"; on loading 22 decides
pub record TakesNames (file names : List ℕ) : Type 0 where
  pub accepted : file_ground (with_names file names) ≡ 0
  pub held : logical_names (decode (with_names file names)) ≡ names
  pub loaded : load_ground (with_names file names) ≡ cond (has_repeat (held_names names)) 22 0

-- "Equal logical names do not refuse a file.": a byte for each slave, whichever they are
abbrev pub AnyNamesAccepted : Type 0
AnyNamesAccepted =
    (file names : List ℕ) → Bytes file → file_ground file ≡ 0 → Bytes names → length names ≡ length (decode file).slaves → TakesNames file names
