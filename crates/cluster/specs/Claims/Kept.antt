-- What a frame on a file leaves: refused, all as it was; accepted, an accepted file of the same length.
use Rattle.std.specs.Prelude.{ℕ, ◌≡◌, ◌≢◌, List, length}
use Rattle.file.specs.Rules.Bytes.{Bytes}
use Rattle.file.specs.Rules.Results.{refused}
use Rattle.file.specs.Rules.FileGrounds.{file_ground}
use Rattle.cluster.specs.Rules.Round.{round_ground, round_on}

-- document 01: "A refusal returns its number and alters nothing lent"
abbrev pub RefusedAltersNothing : Type 0
RefusedAltersNothing =
    (file frame buffer : List ℕ) → round_ground file frame buffer ≢ 0 →
    round_on file frame buffer ≡ (refused (round_ground file frame buffer), buffer, file)

-- an accepted file stays accepted and keeps its length, whatever the frame
abbrev pub RoundKeepsFile : Type 0
RoundKeepsFile =
    (file frame buffer : List ℕ) → Bytes file → Bytes frame → file_ground file ≡ 0 →
    (file_ground (round_on file frame buffer).2 ≡ 0) × (length (round_on file frame buffer).2 ≡ length file)
