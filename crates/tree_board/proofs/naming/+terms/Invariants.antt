use Rattle.std.proofs.Common.{◌≡◌, ◌+◌, ◌++◌, map, sum, drop}
use Rattle.spec_tree.specs.Terms.{node_count}
use Rattle.tree_board.specs.Namings.{HaveSame, named_so_far, namings_of_terms}
use Rattle.tree_board.specs.Scopes.{number_of, cells_of}
use Rattle.tree_board.proofs.naming.+terms.Given as goal

abbrev pub invariant-name_terms-loop-term : goal.invariant-name_terms-loop-term
invariant-name_terms-loop-term l = record {
  counted : l.next + sum (map node_count (drop l.term-index l.terms)) ≡ l.uid + sum (map node_count l.terms);
  named : HaveSame (named_so_far l.scope l.keys l.namings ++ namings_of_terms (drop l.term-index l.terms) l.next (number_of l.scope) (cells_of l.scope))
      (named_so_far l.scope l.initial.keys l.initial.namings ++ namings_of_terms l.terms l.uid (number_of l.scope) (cells_of l.scope));
}
