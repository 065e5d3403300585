use Rattle.std.proofs.Common.{◌≡◌, take}
use Rattle.std.specs.Str.{bytes_eq}
use Rattle.indexmap.specs.IndexSet.{insert_all}
use Rattle.spec_tree.specs.Boards.{literal_names}
use Rattle.tree_board.proofs.naming.name_literals.Given as goal

abbrev pub invariant-loop-port : goal.invariant-loop-port
invariant-loop-port l = l.keys ≡ insert_all bytes_eq l.initial.keys (literal_names (take l.port-index l.ports))
