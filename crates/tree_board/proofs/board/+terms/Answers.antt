use Rattle.std.proofs.Common.{ℕ, ◌+◌, List, map, drop, arith, sym, ap, ◌∙◌}
use Rattle.std.proofs.lemmas.Result.{on_ok_weaker}
use Rattle.std.specs.List.{flat_map}
use Rattle.spec_script.specs.declared.value.Value.{Value}
use Rattle.spec_tree.specs.declared.cell.Cell.{Cell}
use Rattle.spec_tree.specs.declared.term.Term.{Term, out-Term}
use Rattle.spec_tree.specs.Boards.{children_scope, children_scope_number, literals_at, standing_from, standing_all, with_literals}
use Rattle.tree_board.specs.Openings.{node_literals}
use Rattle.tree_board.proofs.Openings.{with_literals_append, literals_out, literals_here}
use Rattle.tree_board.proofs.Standings.{counts_here}
use Rattle.tree_board.proofs.board.+terms.Goals as goal

-- the literals of a term: those of its node, and then those of its children
pub open_term-returns-clause-put : goal.open_term-returns-clause-put
open_term-returns-clause-put t c =
    let term = out-Term c.args.term.now in
    let cells = c.args.slots.now.cells in
    on_ok_weaker c.open_terms.result
    (λ last number scope.
    let inner_number = children_scope_number term.kind c.args.uid number in
    let inner = children_scope term.kind c.args.uid term.ports term.autoremap scope in
    let rest = flat_map literals_at (standing_all (map standing_from term.children) (c.args.uid + 1) inner_number inner) in
    last inner_number inner
    ∙ ap (λ (ts : List Term). with_literals cells (flat_map literals_at (standing_all (map standing_from ts) c.in_ok-first.first inner_number inner)) c.open_node.new.entries.items) c.list.ensures
    ∙ ap (λ (uid : ℕ). with_literals cells (flat_map literals_at (standing_all (map standing_from term.children) uid inner_number inner)) c.open_node.new.entries.items) c.in_ok-first.ensures
    ∙ ap (with_literals cells rest) c.in_ok-open_node.ensures
    ∙ sym (with_literals_append cells (node_literals c.args.term.now c.args.uid) rest c.args.entries.now.items)
    ∙ ap (λ (ls : List (Cell × Value)). with_literals cells ls c.args.entries.now.items) (sym (literals_out c.args.term.now c.args.uid number scope)))
    c.open_terms.ensures.put

-- the literals of one more of the terms
pub open_terms-loop-term-preserved : goal.open_terms-loop-term-preserved
open_terms-loop-term-preserved t c =
    let terms = c.args.terms.now in
    let cells = c.args.slots.now.cells in
    record {
      counted = omega (arith, counts_here terms c.loop-term.term-index c.term-item.result c.loop-term-test.true c.term-item.is, c.loop-term.invariant.counted, c.in_ok-next.ensures.next);
      put = λ number scope.
          let here = literals_here terms c.loop-term.term-index c.term-item.result c.loop-term.next c.in_ok-next.next number scope c.loop-term-test.true c.term-item.is c.in_ok-next.ensures.next in
          let rest = flat_map literals_at (standing_all (map standing_from (drop (c.loop-term.term-index + 1) terms)) c.in_ok-next.next number scope) in
          ap (with_literals cells rest) (c.in_ok-next.ensures.put number scope)
          ∙ sym (with_literals_append cells (flat_map literals_at (standing_from c.term-item.result c.loop-term.next number scope)) rest c.loop-term.entries.items)
          ∙ ap (λ (ls : List (Cell × Value)). with_literals cells ls c.loop-term.entries.items) (sym here)
          ∙ c.loop-term.invariant.put number scope;
    }
