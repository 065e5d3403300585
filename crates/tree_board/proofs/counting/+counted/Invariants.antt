use Rattle.std.proofs.Common.{◌≡◌, ◌+◌, ◌++◌, ℕ, map, sum, drop}
use Rattle.spec_tree.specs.Boards.{Scope}
use Rattle.spec_tree.specs.Terms.{node_count}
use Rattle.tree_board.specs.Countings.{cells_named, found_so_far}
use Rattle.tree_board.specs.Namings.{HaveSame, namings_of_terms}
use Rattle.tree_board.proofs.counting.+counted.Given as goal

-- what has been found, and what is still to come, are all
abbrev pub invariant-count_terms-loop-term : goal.invariant-count_terms-loop-term
invariant-count_terms-loop-term l = record {
  counted : l.next + sum (map node_count (drop l.term-index l.terms)) ≡ l.uid + sum (map node_count l.terms);
  found : (number : ℕ) (scope : Scope) → HaveSame (found_so_far scope l.keys l.cells ++ cells_named (namings_of_terms (drop l.term-index l.terms) l.next number scope))
      (found_so_far scope l.initial.keys l.initial.cells ++ cells_named (namings_of_terms l.terms l.uid number scope));
}
