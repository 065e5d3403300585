use Rattle.std.proofs.Common.{List, ℕ, subst, Some}
use Rattle.spec_plan.specs.declared.part.Part.TheVariants.{Fallback}
use Rattle.plan_tree.specs.Growth.{Edits, blank}
use Rattle.plan_tree.proofs.NewNodes.{adds_node_from}
use Rattle.plan_tree.proofs.inserting.wrap.Goals as goal

pub returns-clause-added : goal.returns-clause-added
returns-clause-added c = record {
  fallback = c.insert-fallback.result;
  keys = c.add_branch-key.ensures.added.0;
  counted = c.add_branch-key.ensures.added.2;
  first = c.insert-fallback.new.nodes;
  second = c.add_branch-key.new.nodes;
  third = c.set_children.new.nodes;
  fourth = c.replace_child.new.nodes;
  inserted = adds_node_from c.args.nodes.now c.reserve.new.nodes c.insert-fallback.new.nodes c.in_ok-reserve.ensures.kept c.insert-fallback.result (blank Fallback (Some c.args.parent)) c.insert-fallback.ensures.added;
  adds = c.add_branch-key.ensures.added.1;
  filled = λ node there. subst (λ (ks : List ℕ). Edits c.add_branch-key.new.nodes c.set_children.new.nodes c.insert-fallback.result node.parent ks node) c.pair.ensures
      (c.set_children.ensures.edited node there);
  moved = c.replace_child.ensures;
  under = c.set_parent.ensures;
}
