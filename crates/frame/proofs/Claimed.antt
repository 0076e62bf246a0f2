-- Each claim of specs/Claims, and the theorem that has it as its type.
use Rattle.frame.specs.Claims.Cases.{FrameCases}
use Rattle.frame.specs.Claims.RoundTrip.{WrittenReads, ReadWrites}
use Rattle.frame.proofs.RoundTrip.{frame-cases, written-reads, read-writes}

pub held-frame-cases : FrameCases
held-frame-cases = frame-cases

pub held-written-reads : WrittenReads
held-written-reads = written-reads

pub held-read-writes : ReadWrites
held-read-writes = read-writes
