use Rattle.std.proofs.Common.{sym, arith}
use Rattle.cli_serve.proofs.Ordered.{place_behind, place_in_front, place_there}
use Rattle.cli_serve.proofs.rows.place_of.Goals as goal

pub returns-in-Equal : goal.returns-in-Equal
returns-in-Equal c =
    place_there c.args.port.now c.index-ports-at.result c.args.ports.now c.loop-at.at c.loop-at-test.true c.index-ports-at.is c.loop-at.invariant (sym c.in-Equal.ensures)

pub returns-in-Greater : goal.returns-in-Greater
returns-in-Greater c = (
  omega (arith, c.loop-at-test.true),
  place_in_front c.args.port.now c.index-ports-at.result c.args.ports.now c.loop-at.at c.loop-at-test.true c.index-ports-at.is c.loop-at.invariant (sym c.in-Greater.ensures),
)

pub loop-at-preserved : goal.loop-at-preserved
loop-at-preserved c =
    place_behind c.args.port.now c.index-ports-at.result c.args.ports.now c.loop-at.at c.loop-at-test.true c.index-ports-at.is c.loop-at.invariant (sym c.in-Less.ensures)
