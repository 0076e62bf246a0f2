-- What is accepted (document 01, "Grounds for turning something away": "A tester that turns every file away breaks this section, since
-- each ground is stated both ways."): exactly the encodings of legal clusters, so that of grounds 1 to 8 a reader may believe `encode`
-- and `Legal` in place of the walk.
use Rattle.std.specs.Prelude.{ℕ, ◌≡◌, ◌≢◌, ◌↔◌, List}
use Rattle.file.specs.Rules.Bytes.{Bytes}
use Rattle.file.specs.Rules.Cluster.{Cluster, logical_names}
use Rattle.file.specs.Rules.Encode.{encode}
use Rattle.file.specs.Rules.Decode.{decode}
use Rattle.file.specs.Rules.Legal.{Legal, Distinct}
use Rattle.file.specs.Rules.Results.{refused, done}
use Rattle.file.specs.Rules.FileGrounds.{file_ground, held_names, load_verdict}

-- bytes are accepted exactly where they are the encoding of a legal cluster
abbrev pub AcceptedExactly : Type 0
AcceptedExactly = (f : List ℕ) → Bytes f → (file_ground f ≡ 0) ↔ ((c : Cluster) × Legal c × (f ≡ encode c))

-- on loading, the checker's call accepts those with no logical name other than 0xFF twice, 0x00 being another (document 02, job 5:
-- "also refuses two slaves with one logical name other than 0xFF")
abbrev pub LoadedExactly : Type 0
LoadedExactly =
    (f : List ℕ) → Bytes f →
    (load_verdict f ≡ done tt) ↔ ((c : Cluster) × Legal c × Distinct (held_names (logical_names c)) × (f ≡ encode c))

-- "after 8": where one of grounds 1 to 8 holds, the first of them is the answer, whatever the names; 22 is the answer exactly for the
-- files that these accept and that hold a logical name other than 0xFF twice
pub record LoadedInOrder (f : List ℕ) : Type 0 where
  pub first : file_ground f ≢ 0 → load_verdict f ≡ refused (file_ground f)
  pub last : (load_verdict f ≡ refused 22) ↔ ((file_ground f ≡ 0) × (Distinct (held_names (logical_names (decode f))) → ⊥))

abbrev pub FileGroundsFirst : Type 0
FileGroundsFirst = (f : List ℕ) → LoadedInOrder f

-- a legal cluster comes back from its encoding, so that no two have the same
abbrev pub ClusterComesBack : Type 0
ClusterComesBack = (c : Cluster) → Legal c → decode (encode c) ≡ c

-- and an accepted file from its cluster
abbrev pub FileComesBack : Type 0
FileComesBack = (f : List ℕ) → Bytes f → file_ground f ≡ 0 → encode (decode f) ≡ f
