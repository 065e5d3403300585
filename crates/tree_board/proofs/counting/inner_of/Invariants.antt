use Rattle.std.proofs.Common.{◌≡◌, ℕ, List, true, drop}
use Rattle.std.specs.List.{list_any}
use Rattle.std.specs.Str.{bytes_eq}
use Rattle.indexmap.specs.IndexMap.{get}
use Rattle.spec_tree.specs.Boards.{Scope, scope_below}
use Rattle.tree_board.proofs.Scoping.{left_or}
use Rattle.tree_board.proofs.counting.inner_of.Given as goal

-- what is known of a key, and the ports that are left, give its cell
abbrev pub invariant-loop-port : goal.invariant-loop-port
invariant-loop-port l = (outer : Scope) (key : List ℕ) → list_any (bytes_eq key) l.keys ≡ true
    → left_or (get bytes_eq l.mapped key) (drop l.port-index l.ports) l.uid l.autoremap outer key ≡ scope_below l.uid l.ports l.autoremap outer key
