use Rattle.std.proofs.Common.{◌≡◌, ◌+◌, ◌++◌, ◌&&◌, length, map, drop, sum}
use Rattle.spec_tree.specs.declared.term.Term.{out-Term}
use Rattle.spec_tree.specs.Terms.{node_count}
use Rattle.spec_dead.specs.Dead.{answers_of, marks_below, outlook}
use Rattle.spec_dead.specs.Guards.{before_rule}
use Rattle.spec_dead.specs.Reached.{all_before, reaches}
use Rattle.tree_dead.specs.Steps.{lets_on}
use Rattle.tree_dead.proofs.marking.+mark.Given as goal

-- the marks so far, followed by those of the children still to come, are all, and what the children may answer so far,
-- followed by what those still to come may answer, is what all may answer
abbrev pub invariant-loop-child : goal.invariant-loop-child
invariant-loop-child l =
    let node = out-Term l.term in
    let all = answers_of (map outlook l.child-items) in
    record {
      heard : l.heard.items ++ answers_of (map outlook (drop l.child-index l.child-items)) ≡ all;
      many : length l.heard.items ≡ l.child-index;
      passes : l.passes ≡ all_before (lets_on node.kind) all l.child-index;
      marks : l.marks.items ++ marks_below (λ place. l.reached && (before_rule node.guards).goes_on && reaches node.kind node.ports all place) l.child-index (map outlook (drop l.child-index l.child-items))
          ≡ l.fn.marks.items ++ (outlook l.term).marks l.reached;
      count : length l.marks.items + sum (map node_count (drop l.child-index l.child-items)) ≡ length l.fn.marks.items + node_count l.term;
    }
