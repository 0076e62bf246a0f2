-- The marked cases of document 01, M1 to M10, together.
-- Assumes nothing.
use Rattle.frame.proofs.RoundTrip.{frame-cases}
use Rattle.cluster.proofs.Cases.{round-cases}
use Rattle.naming.specs.Claims.Cases.{MarkedCases}
use Rattle.naming.proofs.Examples as account
use Rattle.naming.proofs.Witnesses as files

pub marked_cases : MarkedCases
marked_cases =
    record {
      frames = frame-cases;
      rounds = round-cases;
      m6_file = files.m6;
      m7_file = files.m7;
      m8_file = files.m8;
      m8_checks = files.m8_checks;
      m9_file = files.m9;
      m10_accepted = account.m10_accepted;
      m10 = account.m10;
    }
