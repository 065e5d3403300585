use Rattle.std.proofs.Common.{List, length, ap, arith}
use Rattle.std.proofs.lemmas.Option.{IfSome_then}
use Rattle.std.specs.List.{flat_map}
use Rattle.spec_tree.specs.Boards.{literal_names, value_keys}
use Rattle.spec_tree.specs.declared.term.Port.{Port}
use Rattle.spec_tree.specs.declared.term.Term.{out-Term}
use Rattle.tree_board.proofs.NameCounts.{few_literals, other_ports, subtree_ports, taken_from}
use Rattle.tree_board.proofs.limit.left_by_node.Goals as goal

pub returns-in-SubTree : goal.returns-in-SubTree
returns-in-SubTree c =
    let node = out-Term c.args.node.now in
    let values = ap (λ (ports : List Port). length (flat_map (λ (port : Port). value_keys port.value) ports)) c.list.ensures in
    let ports = ap (λ (ports : List Port). length ports) c.list-in-SubTree.ensures in
    let made = subtree_ports node.kind (length (literal_names node.ports)) c.in-SubTree.is in
    IfSome_then c.checked_sub.result (taken_from c.checked_sub.result (length c.list-in-SubTree.result.now) c.in_ok-left-2.left c.checked_sub.ensures)
    (λ rest fits. omega (arith, fits, values, ports, made, few_literals node.ports, c.in_ok-left.ensures, c.in_ok-left-2.ensures))

pub returns-in_default : goal.returns-in_default
returns-in_default c =
    let node = out-Term c.args.node.now in
    let values = ap (λ (ports : List Port). length (flat_map (λ (port : Port). value_keys port.value) ports)) c.list.ensures in
    let none = other_ports node.kind (length (literal_names node.ports)) c.in_default.not-SubTree in
    omega (arith, values, none, c.in_ok-left.ensures, c.in_ok-left-2.ensures)
