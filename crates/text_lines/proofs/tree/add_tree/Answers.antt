use Rattle.std.proofs.Common.{◌∙◌, ap, map, sym}
use Rattle.std.proofs.lemmas.List.{map-append}
use Rattle.spec_tree.specs.PrintedTree.{WrittenTree, printed}
use Rattle.text_lines.specs.Trees.{written}
use Rattle.text_lines.proofs.Trees.{has_written, with_known, with_new}
use Rattle.text_lines.proofs.tree.add_tree.Goals as goal

pub returns-then-has_tree : goal.returns-then-has_tree
returns-then-has_tree c =
    let trees = c.args.trees.now.items in
    let tree : WrittenTree = (c.args.id.now, map (λ node. (printed node).lines) c.args.nodes.now) in
    let tested = rw c.deref.ensures.value at c.has_tree.ensures in
    sym (with_known (map written trees) tree (sym (has_written c.args.id.now trees) ∙ sym tested ∙ c.if-has_tree.true))

pub returns : goal.returns
returns c =
    let trees = c.args.trees.now.items in
    let tree : WrittenTree = (c.args.id.now, map (λ node. (printed node).lines) c.args.nodes.now) in
    let tested = rw c.deref.ensures.value at c.has_tree.ensures in
    ap (map written) c.in_ok-push.ensures.items ∙ map-append written trees _
    ∙ sym (with_new (map written trees) tree (sym (has_written c.args.id.now trees) ∙ sym tested ∙ c.if-has_tree.false))
