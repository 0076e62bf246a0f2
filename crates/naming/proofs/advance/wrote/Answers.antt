-- `naming::advance::wrote` meets its contract: one law for each way.
-- Assumes nothing.
use Rattle.std.proofs.Common.{refl}
use Rattle.naming.specs.Rules.Run.{wrote}
use Rattle.naming.proofs.PositionLaws.{wrote-high, wrote-low, wrote_none}
use Rattle.naming.proofs.advance.wrote.Goals as goal

pub returns-then-at-eq-HIGH : goal.returns-then-at-eq-HIGH
returns-then-at-eq-HIGH c =
    wrote-high _ c.args.at.writes.which c.args.at.writes.halved c.if-at-eq-HIGH.true (unfold wrote in refl)

pub returns-then-at-eq-LOW : goal.returns-then-at-eq-LOW
returns-then-at-eq-LOW c =
    wrote-low _ c.args.at.writes.which c.args.at.writes.halved c.if-at-eq-LOW.true (unfold wrote in refl)

pub returns : goal.returns
returns c = search wrote_none
