use Rattle.std.proofs.Common.{arith}
use Rattle.run_arena.specs.Stands.{written}
use Rattle.run_nodes.proofs.Cases.{few_cases}
use Rattle.run_nodes.proofs.PortValues.{few_ports, switch_picks}
use Rattle.run_nodes.proofs.starts.pick.Goals as goal

pub selected-requires-clause-few : goal.selected-requires-clause-few
selected-requires-clause-few g c = let few = few_ports c.args.node.now.kind c.in-Switch.field-0 c.in-Switch.is in rw c.list.ensures (omega arith)

pub returns-in-Switch : goal.returns-in-Switch
returns-in-Switch g c = λ term view whole uid s k.
    switch_picks term view whole uid (record s { board = c.args.board.now }) c.args.node.now k c.args.memo c.in-Switch.field-0 c.selected.result c.in-Switch.is (few_cases (written term) k.fit) (cc)
