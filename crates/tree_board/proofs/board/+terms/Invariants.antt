use Rattle.std.proofs.Common.{◌≡◌, ℕ, ◌+◌, map, sum, drop}
use Rattle.std.specs.List.{flat_map}
use Rattle.spec_tree.specs.Boards.{Scope, literals_at, standing_all, standing_from, with_literals}
use Rattle.spec_tree.specs.Terms.{node_count}
use Rattle.tree_board.proofs.board.+terms.Given as goal

abbrev pub invariant-open_terms-loop-term : goal.invariant-open_terms-loop-term
invariant-open_terms-loop-term l = record {
  counted : l.next + sum (map node_count (drop l.term-index l.terms)) ≡ l.uid + sum (map node_count l.terms);
  put : (number : ℕ) (scope : Scope)
      → with_literals l.slots.cells (flat_map literals_at (standing_all (map standing_from (drop l.term-index l.terms)) l.next number scope)) l.entries.items
      ≡ with_literals l.slots.cells (flat_map literals_at (standing_all (map standing_from l.terms) l.uid number scope)) l.initial.entries.items;
}
