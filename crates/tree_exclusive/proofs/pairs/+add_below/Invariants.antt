use Rattle.std.proofs.Common.{◌≡◌, ◌+◌, ◌*◌, ◌≤◌, map, drop, sum, length}
use Rattle.spec_tree.specs.declared.term.Term.{out-Term}
use Rattle.spec_tree.specs.Terms.{node_count}
use Rattle.tree_exclusive.specs.Steps.{Rising, below, beyond, pairs_from, steps_after}
use Rattle.tree_exclusive.proofs.Walks.{FoundSoFar, steps_below_of}
use Rattle.tree_exclusive.proofs.pairs.+add_below.Given as goal

-- the leaves are those after the children so far, and the pairs that were found, followed by those of the children still to
-- come, are all
abbrev pub invariant-loop-child : goal.invariant-loop-child
invariant-loop-child l =
    let kind = (out-Term l.term).kind in
    let end = l.uid + node_count l.term in
    record {
      steps : l.steps.items ≡ l.fn.steps.items;
      place : l.place ≡ l.child-index;
      nodes : l.first + sum (map node_count (drop l.child-index l.child-items)) ≡ end;
      after : l.uid + 1 ≤ l.first;
      rest : l.rest ≡ beyond l.first l.leaves;
      rising : Rising l.first l.rest;
      few : length l.rest ≤ length l.leaves;
      count : l.found.count + 4096 * l.uid ≤ l.fn.found.count + 4096 * l.first;
      pairs : FoundSoFar l.fn.found l.found
          (pairs_from (steps_below_of l.fn.steps.items kind l.place l.first (drop l.child-index l.child-items)) (below end l.rest) (beyond end l.rest))
          (pairs_from (steps_after l.fn.steps.items l.uid l.term) (below end l.leaves) (beyond end l.leaves));
    }
