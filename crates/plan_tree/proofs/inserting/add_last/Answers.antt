use Rattle.std.proofs.Common.{◌++◌, ◌∷◌, [], List, ℕ, ap, ◌∙◌, subst, Some}
use Rattle.plan_tree.specs.Growth.{Edits, branch_tree, parts_of}
use Rattle.plan_tree.proofs.NewNodes.{adds_from}
use Rattle.plan_tree.proofs.inserting.add_last.Goals as goal

pub returns-clause-added : goal.returns-clause-added
returns-clause-added c =
    let old = c.args.nodes.now in
    let middle = c.add_branch-key.new.nodes in
    let key = c.add_branch-key.result in
    let keys = c.add_branch-key.ensures.added.0 in
    let parts = parts_of c.args.branch.now.conditions.now c.args.branch.now.action in
    let adds = adds_from old c.reserve.new.nodes middle c.in_ok-reserve.ensures.kept (Some c.args.parent) (key ∷ []) (branch_tree key c.args.branch.now.part keys parts) c.add_branch-key.ensures.added.1 in
    record {
      keys = keys;
      counted = c.add_branch-key.ensures.added.2;
      middle = middle;
      adds = adds;
      edits = λ node there.
          subst (λ (ks : List ℕ). Edits middle c.set_children.new.nodes c.args.parent node.parent ks node)
          (c.push_reserved.ensures.items ∙ ap (λ (ks : List ℕ). ks ++ key ∷ []) (c.in_ok-children.ensures.same node there))
          (c.set_children.ensures.edited node (adds.kept c.args.parent node there));
    }
