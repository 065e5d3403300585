-- The literals that a tree's nodes give.
use Rattle.std.specs.Prelude.{ℕ, List, [], if◌then◌else◌}
use Rattle.std.specs.List.{flat_map}
use Rattle.spec_script.specs.declared.value.Value.{Value}
use Rattle.spec_tree.specs.declared.cell.Cell.{Cell}
use Rattle.spec_tree.specs.declared.term.Port.{Port}
use Rattle.spec_tree.specs.declared.term.Term.{Term, out-Term}
use Rattle.spec_tree.specs.Boards.{makes_scope, value_literals}

-- the literals of a node of this uid
abbrev pub node_literals : Term → ℕ → List (Cell × Value)
node_literals node uid =
    if makes_scope (out-Term node).kind then flat_map (λ (port : Port). value_literals port.value port.name uid) (out-Term node).ports else []
