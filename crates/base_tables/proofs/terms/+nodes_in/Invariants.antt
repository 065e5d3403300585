use Rattle.std.proofs.Common.{◌≡◌, ◌+◌, map, drop, sum}
use Rattle.spec_tree.specs.Terms.{node_count}
use Rattle.base_tables.proofs.terms.+nodes_in.Given as goal

abbrev pub invariant-loop-child : goal.invariant-loop-child
invariant-loop-child l = l.count + sum (map node_count (drop l.child-index l.child-items)) ≡ node_count l.term
