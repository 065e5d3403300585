use Rattle.std.proofs.Common.{◌≡◌, ℕ, ◌+◌, [], List, Err, map, sum, append-nil, arith, ap, ◌∙◌}
use Rattle.std.proofs.lemmas.Result.{err_from_is_err_and}
use Rattle.spec_tree.specs.Boards.{scope_below}
use Rattle.spec_tree.specs.declared.term.Term.{Term, fold_out-Term, out-Term}
use Rattle.spec_tree.specs.Terms.{node_count}
use Rattle.tree_board.specs.Countings.{cells_named}
use Rattle.tree_board.proofs.Counted.{beside_children, cells_both, found_as, other_left, stopped, subtree_children, subtree_left}
use Rattle.tree_board.proofs.Named.{next_named, same_from, then_same}
use Rattle.tree_board.proofs.Standings.{counts_here, namings_here}
use Rattle.tree_board.proofs.counting.+counted.Goals as goal

-- too many are found among the children
pub count_subtree-returns-in_err-next-clause-found :
    goal.count_subtree-returns-in_err-next-clause-found
count_subtree-returns-in_err-next-clause-found t c number scope =
    let p = err_from_is_err_and c.from_residual-in_err-next.result c.from_residual-in_err-next.ensures.1 in
    let term = c.args.term.now in
    let below = scope_below c.args.uid (out-Term term).ports (out-Term term).autoremap scope in
    stopped ℕ c.from_residual-in_err-next.result c.in_err-next.field-0.0 c.args.limit.most scope below c.name_node.new.keys c.count_terms.new.keys c.count_terms.new.cells _
    (beside_children term c.args.uid scope c.args.keys.now) _
    (p.1 ∙ ap Err p.2) (c.in_err-next.ensures.found c.args.uid below)
    (subtree_children term c.args.uid number c.in_ok-first.first scope c.args.keys.now c.new-named.result c.args.cells.now c.list.result.now c.requires c.list.ensures c.in_ok-first.ensures c.new-named.ensures)

-- too many are found when its scope is left
pub count_subtree-returns-in_err-leave-clause-found :
    goal.count_subtree-returns-in_err-leave-clause-found
count_subtree-returns-in_err-leave-clause-found t c number scope =
    let p = err_from_is_err_and c.from_residual-in_err-leave.result c.from_residual-in_err-leave.ensures.1 in
    stopped (Unit {0}) c.from_residual-in_err-leave.result c.in_err-leave.field-0.0 c.args.limit.most scope scope c.leave.new.keys c.leave.new.keys c.leave.new.cells _ [] _
    (p.1 ∙ ap Err p.2) (c.in_err-leave.ensures scope)
    (then_same _ _ _ (same_from _ _ (append-nil _))
    (subtree_left c.args.term.now c.args.uid number c.in_ok-first.first scope c.args.keys.now c.name_node.new.keys c.new-named.result c.count_terms.new.keys c.name_literals.new.keys c.list-2.result.now
    c.args.cells.now c.count_terms.new.cells c.in_ok-inner.inner c.list-ports.result.now c.list.result.now
    c.requires c.list-ports.ensures c.list.ensures c.in_ok-first.ensures c.new-named.ensures c.list-2.ensures c.in_ok-name_node.ensures c.in_ok-next.ensures.found c.in_ok-name_literals.ensures c.in_ok-inner.ensures))

-- a SubTree node is counted before its children
pub count_subtree-returns-clause-next : goal.count_subtree-returns-clause-next
count_subtree-returns-clause-next t c =
    let counted : node_count c.args.term.now ≡ 1 + sum (map node_count (out-Term c.args.term.now).children) = fold_out-Term ℕ (λ node. 1 + sum node.children) c.args.term.now in
    let children = ap (λ (terms : List Term). sum (map node_count terms)) c.list.ensures in
    omega (arith, counted, children, c.in_ok-first.ensures, c.in_ok-next.ensures.next)

-- what is found of a SubTree node with all below it
pub count_subtree-returns-clause-found : goal.count_subtree-returns-clause-found
count_subtree-returns-clause-found t c number scope =
    then_same _ _ _ (c.in_ok-leave.ensures scope)
    (subtree_left c.args.term.now c.args.uid number c.in_ok-first.first scope c.args.keys.now c.name_node.new.keys c.new-named.result c.count_terms.new.keys c.name_literals.new.keys c.list-2.result.now
    c.args.cells.now c.count_terms.new.cells c.in_ok-inner.inner c.list-ports.result.now c.list.result.now
    c.requires c.list-ports.ensures c.list.ensures c.in_ok-first.ensures c.new-named.ensures c.list-2.ensures c.in_ok-name_node.ensures c.in_ok-next.ensures.found c.in_ok-name_literals.ensures c.in_ok-inner.ensures)

-- what is found of another node with all below it
pub count_term-returns-in_ok-name_node-clause-found :
    goal.count_term-returns-in_ok-name_node-clause-found
count_term-returns-in_ok-name_node-clause-found t c number scope =
    found_as c.count_terms.result c.args.limit.most scope c.count_terms.new.keys c.count_terms.new.cells _ _
    (other_left c.args.term.now c.args.uid number c.in_ok-first.first scope c.args.keys.now c.name_node.new.keys c.args.cells.now c.list.result.now
    c.in_default.not-SubTree c.list.ensures c.in_ok-first.ensures c.in_ok-name_node.ensures)
    (c.count_terms.ensures.found number scope)

-- what is found of one more of the terms
pub count_terms-loop-term-preserved : goal.count_terms-loop-term-preserved
count_terms-loop-term-preserved t c =
    let counted = counts_here c.args.terms.now c.loop-term.term-index c.term-item.result c.loop-term-test.true c.term-item.is in
    record {
      counted = omega (arith, counted, c.loop-term.invariant.counted, c.in_ok-next.ensures.next);
      found = λ number scope.
          let here = namings_here c.args.terms.now c.loop-term.term-index c.term-item.result c.loop-term.next c.in_ok-next.next number scope c.loop-term-test.true c.term-item.is c.in_ok-next.ensures.next in
          next_named _ _ _ _ _ _ (c.in_ok-next.ensures.found number scope) (ap cells_named here ∙ cells_both _ _) (c.loop-term.invariant.found number scope);
    }
