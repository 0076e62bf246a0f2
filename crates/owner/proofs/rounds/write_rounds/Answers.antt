-- `owner::rounds::write_rounds` meets its contract. The invariant is `RoundsWritten`: the rounds passed are written.
-- Assumes nothing.
use Rattle.std.proofs.Common.{sym, ap, ◌∙◌, arith, rules, length}
use Rattle.file.specs.Rules.Decode.{decode}
use Rattle.file.proofs.Width.{few-slaves}
use Rattle.owner.proofs.RowLaws.{rounds-start, head-room, rows-room, rounds-next, rounds-done}
use Rattle.owner.proofs.rounds.write_rounds.Goals as goal

pub all_held-requires : goal.all_held-requires
all_held-requires c =
    (c.requires.0.file, few-slaves (decode c.args.file.now) c.requires.0.file.legal)

pub loop-round-init : goal.loop-round-init
loop-round-init c = rounds-start _ _ c.requires.1 c.requires.2

pub index_byte-requires : goal.index_byte-requires
index_byte-requires c = omega (arith, c.loop-round.invariant.written.most, c.loop-round.invariant.written.few)

pub bounds-head-round : goal.bounds-head-round
bounds-head-round c = omega (arith, head-room c.loop-round.invariant, c.loop-round-test.true)

pub loop-round-preserved : goal.loop-round-preserved
loop-round-preserved c = search (rules, rounds-next)

pub shape_of-head : goal.shape_of-head
shape_of-head c =
    head-room c.loop-round.invariant ∙ sym (ap length c.requires.1)

pub shape_of-rows : goal.shape_of-rows
shape_of-rows c =
    rows-room c.loop-round.invariant.written ∙ sym (ap length c.requires.2)

pub returns : goal.returns
returns c = search (rules, rounds-done)
