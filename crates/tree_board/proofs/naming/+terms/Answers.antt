use Rattle.std.proofs.Common.{◌≡◌, ℕ, ◌+◌, [], ◌++◌, List, map, sum, drop, arith, sym, ap, ◌∙◌}
use Rattle.std.proofs.lemmas.List.{drop_all}
use Rattle.std.proofs.lemmas.Result.{on_ok_weaker}
use Rattle.std.specs.List.{list_any}
use Rattle.std.specs.Str.{bytes_eq}
use Rattle.indexmap.specs.IndexSet.{insert_all}
use Rattle.spec_tree.specs.Boards.{literal_names, named_in, scope_below}
use Rattle.spec_tree.specs.declared.cell.Naming.{Naming}
use Rattle.spec_tree.specs.declared.term.Port.{Port}
use Rattle.spec_tree.specs.declared.term.Term.{Term, fold_out-Term, out-Term}
use Rattle.spec_tree.specs.Terms.{node_count}
use Rattle.tree_board.specs.Namings.{keys_of_node, names_here, named_so_far, namings_of_terms}
use Rattle.tree_board.specs.Scopes.{number_of, cells_of, cells_below}
use Rattle.tree_board.proofs.Named.{named_once, other_named, subtree_named, next_named, none_left, same_from, then_same}
use Rattle.tree_board.proofs.Standings.{counts_here, namings_here, subtree_namings, other_namings}
use Rattle.tree_board.proofs.naming.+terms.Goals as goal

-- a SubTree node is counted before its children
pub name_subtree-returns-clause-next :
    goal.name_subtree-returns-clause-next
name_subtree-returns-clause-next t c =
    let counted : node_count c.args.term.now ≡ 1 + sum (map node_count (out-Term c.args.term.now).children) = fold_out-Term ℕ (λ node. 1 + sum node.children) c.args.term.now in
    let children = ap (λ (terms : List Term). sum (map node_count terms)) c.list-children.ensures in
    omega (arith, counted, children, c.in_ok-first.ensures, c.in_ok-next.ensures.next)

-- what the nodes of a term name, of which the first is a SubTree node
pub name_subtree-returns-clause-named :
    goal.name_subtree-returns-clause-named
name_subtree-returns-clause-named t c =
    let outer = cells_of c.args.scope.now in
    let number = c.in_ok-mappings.mappings.uid in
    let inner = cells_below c.in_ok-mappings.mappings outer in
    let is_inner : (key : List ℕ) → inner key ≡ scope_below c.args.uid (out-Term c.args.term.now).ports (out-Term c.args.term.now).autoremap outer key =
    λ key. c.in_ok-mappings.ensures.cells key ∙ ap (λ (ports : List Port). scope_below c.args.uid ports (out-Term c.args.term.now).autoremap outer key) c.list-ports.ensures in
    let named = subtree_namings c.args.term.now c.args.uid (number_of c.args.scope.now) outer _ inner c.requires c.in_ok-mappings.ensures.uid is_inner in
    let names = literal_names (out-Term c.args.term.now).ports in
    let children = ap (λ (terms : List Term). namings_of_terms terms c.in_ok-first.first number inner) c.list-children.ensures
    ∙ ap (λ (uid : ℕ). namings_of_terms (out-Term c.args.term.now).children uid number inner) c.in_ok-first.ensures in
    let own = named_once (number_of c.args.scope.now) outer c.args.keys.now (keys_of_node c.args.term.now) _ c.in_ok-name_node.ensures in
    let ports = c.in_ok-name_literals.ensures
    ∙ ap (λ (ports : List Port). insert_all bytes_eq c.new-inner_keys.result (literal_names ports)) c.list-ports.ensures
    ∙ ap (λ (keys : List (List ℕ)). insert_all bytes_eq keys names) c.new-inner_keys.ensures in
    subtree_named c.args.namings.now (names_here c.args.scope.now c.args.keys.now) _ (names_here c.args.scope.now (keys_of_node c.args.term.now)) _ (map (named_in number inner) names) _ _ _
    own (named_once number inner [] names _ ports) (λ p. ap (list_any p) c.in_ok-name_scope.ensures ∙ c.in_ok-next.ensures.named p)
    (named ∙ ap (λ (ns : List Naming). names_here c.args.scope.now (keys_of_node c.args.term.now) ++ map (named_in number inner) names ++ ns) (sym children))

-- what the nodes of a term name, of which the first is another node
pub name_term-returns-in_ok-name_node-clause-named :
    goal.name_term-returns-in_ok-name_node-clause-named
name_term-returns-in_ok-name_node-clause-named t c =
    let number = number_of c.args.scope.now in
    let outer = cells_of c.args.scope.now in
    let named = other_namings c.args.term.now c.args.uid number outer c.in_default.not-SubTree in
    let children = ap (λ (terms : List Term). namings_of_terms terms c.in_ok-first.first number outer) c.list.ensures
    ∙ ap (λ (uid : ℕ). namings_of_terms (out-Term c.args.term.now).children uid number outer) c.in_ok-first.ensures in
    let own = named_once number outer c.args.keys.now (keys_of_node c.args.term.now) _ c.in_ok-name_node.ensures in
    on_ok_weaker c.name_terms.result
    (λ last. other_named c.args.namings.now (names_here c.args.scope.now c.args.keys.now) _ _ _ _ _ own last
    (named ∙ ap (λ (ns : List Naming). names_here c.args.scope.now (keys_of_node c.args.term.now) ++ ns) (sym children)))
    c.name_terms.ensures.named

-- what one more of the terms names
pub name_terms-loop-term-preserved : goal.name_terms-loop-term-preserved
name_terms-loop-term-preserved t c =
    let counted = counts_here c.args.terms.now c.loop-term.term-index c.term-item.result c.loop-term-test.true c.term-item.is in
    let number = number_of c.args.scope.now in
    let scope = cells_of c.args.scope.now in
    let named = namings_here c.args.terms.now c.loop-term.term-index c.term-item.result c.loop-term.next c.in_ok-next.next number scope c.loop-term-test.true c.term-item.is c.in_ok-next.ensures.next in
    record {
      counted = omega (arith, counted, c.loop-term.invariant.counted, c.in_ok-next.ensures.next);
      named = next_named _ _ _ _ _ _ c.in_ok-next.ensures.named named c.loop-term.invariant.named;
    }

-- all of the terms have been gone through
pub name_terms-returns-clause-named : goal.name_terms-returns-clause-named
name_terms-returns-clause-named t c =
    let number = number_of c.args.scope.now in
    let scope = cells_of c.args.scope.now in
    let so_far = named_so_far c.args.scope.now c.loop-term.keys c.loop-term.namings in
    let none : drop c.loop-term.term-index c.args.terms.now ≡ [] = drop_all c.loop-term.term-index c.args.terms.now (omega (arith, c.loop-term-test.false)) in
    none_left so_far _
    (then_same _ _ _ (same_from _ _ (ap (λ (terms : List Term). so_far ++ namings_of_terms terms c.loop-term.next number scope) (sym none))) c.loop-term.invariant.named)
