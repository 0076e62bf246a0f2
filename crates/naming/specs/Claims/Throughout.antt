-- Demand 3 holds throughout a permitted list, "after every list of steps, permitted rounds .. and refused steps and frames" (document 01):
-- after the calls at its front, wherever it is cut, also within a round of others.
use Rattle.std.specs.Prelude.{ℕ, ◌≡◌, List, ◌++◌, true}
use Rattle.file.specs.Rules.Bytes.{Bytes, All}
use Rattle.file.specs.Rules.FileGrounds.{file_ground}
use Rattle.naming.specs.Rules.Position.{fresh}
use Rattle.naming.specs.Rules.RunGrounds.{start_ground}
use Rattle.naming.specs.Rules.Account.{Call}
use Rattle.naming.specs.Claims.Demand.{start_on, permitted, after_calls, OfBytes, Demand}

abbrev pub Throughout : Type 0
Throughout =
    (file : List ℕ) → Bytes file → file_ground file ≡ 0 → (names : List ℕ) → Bytes names → start_ground names ≡ 0 → (cs ds : List Call) →
    All OfBytes cs → permitted names (start_on file) (fresh names) (cs ++ ds) ≡ true →
    Demand file names cs (after_calls names (start_on file) (fresh names) cs).0.file (after_calls names (start_on file) (fresh names) cs).1
