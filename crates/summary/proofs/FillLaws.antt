-- One law for each way through the filling.
-- Assumes nothing.
use Prim.Native.Nat.{ℕ, ◌≤◌, ◌<◌}
use native.Mathlib.Omega.{arith}
use mathlib.Core.Path.{◌≡◌, sym, ◌∙◌}
use mathlib.Core.List.{List, ◌++◌}
use lib.ListN.{length, drop}
use Rattle.file.specs.Rules.Results.{refused, done}
use Rattle.file.specs.Rules.Cluster.{logical_names}
use Rattle.file.specs.Rules.Decode.{decode}
use Rattle.file.specs.Inner.Accepted.{slave_count}
use Rattle.file.specs.Inner.Surveyed.{Surveyed}
use Rattle.file.specs.declared.types.Refusal.{Refusal}
use Rattle.file.proofs.Surveyed.{survey-accepted, survey-refused}
use Rattle.cluster.specs.Rules.Summary.{fill_on}
use Rattle.cluster.proofs.Holders as holders
use Rattle.cluster.proofs.Holders.{fillings_refused}
use Rattle.file.specs.Inner.Refusals.{Answered, refusal_number, outcome_of}
use Rattle.std.specs.Prelude.{Ok, Err}

module _ (file slice : List ℕ) {a : Answered (Unit {0})} {places : List ℕ} (s : Surveyed file (outcome_of a) places) where
  pub fill-refused : {why : Refusal} → a ≡ Err why → (refused (refusal_number why), slice) ≡ fill_on file slice
  fill-refused e = let (is, some) = survey-refused s e in rw ((fillings_refused file slice).of_file (λ z. some (is ∙ z)), is)

  module _ {u : Unit {0}} (e : a ≡ Ok u) {count : ℕ} (is : count ≡ slave_count file) where
    pub fill-short : length slice < count → (refused 24, slice) ≡ fill_on file slice
    fill-short h =
        let short : length slice < length (decode file).slaves = omega arith in
        sym ((fillings_refused file slice).of_room (survey-accepted s e) short)

    pub fill_done : {new : List ℕ} → count ≤ length slice → new ≡ logical_names (decode file) ++ drop (slave_count file) slice → (done count, new) ≡ fill_on file slice
    fill_done h put =
        let few : length (decode file).slaves ≤ length slice = omega arith in
        rw (holders.fill_done file slice (survey-accepted s e) few, put, is)
