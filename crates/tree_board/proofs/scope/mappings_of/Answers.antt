use Rattle.std.proofs.Common.{◌≡◌, List, [], drop, sym, ap, ◌∙◌, arith}
use Rattle.std.proofs.lemmas.List.{drop_all}
use Rattle.std.specs.Str.{bytes_eq}
use Rattle.indexmap.specs.IndexMap.{get}
use Rattle.spec_tree.specs.declared.term.Port.{Port}
use Rattle.tree_board.specs.Scopes.{cells_of}
use Rattle.tree_board.proofs.Scoping.{all_found, found_or}
use Rattle.tree_board.proofs.scope.mappings_of.Goals as goal

pub returns-clause-cells : goal.returns-clause-cells
returns-clause-cells c = λ key.
    let outer = cells_of c.args.outer.now in
    let found = get bytes_eq c.loop-port.cells key in
    let none : drop c.loop-port.port-index c.args.ports.now ≡ [] = drop_all c.loop-port.port-index c.args.ports.now (omega (arith, c.loop-port-test.false)) in
    all_found found (record { uid = c.args.uid; cells = c.loop-port.cells; autoremap = c.args.autoremap }) outer key
    ∙ ap (λ (ports : List Port). found_or found ports c.args.uid c.args.autoremap outer key) (sym none)
    ∙ c.loop-port.invariant key
