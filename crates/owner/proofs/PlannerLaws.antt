-- What is known of a planner's file: it is accepted, and the places are its slaves'.
-- Assumes nothing.
use Rattle.std.proofs.Common.{ℕ, List}
use Rattle.file.specs.Inner.Accepted.{AcceptedFile, Placed}
use Rattle.file.proofs.Accepted.{accepted-becomes}
use Rattle.file.proofs.SurveyLaws.{bytes-known}
use Rattle.owner.specs.Inner.Held.{PlannedFrom}

module _ {f places held : List ℕ} where
  pub planned-file : PlannedFrom f places held → AcceptedFile f
  planned-file p = accepted-becomes f (bytes-known f p.bytes) p.accepted

  pub planned-placed : PlannedFrom f places held → Placed f places
  planned-placed p = record { file = planned-file p; at = p.at }
