use Rattle.spec_plan.specs.Expansion.{leaves}
use Rattle.plan_tree.specs.Growth.{parts_of}
use Rattle.plan_tree.proofs.NewNodes.{adds_branch}
use Rattle.plan_tree.proofs.inserting.add_branch.Goals as goal

pub returns-clause-added : goal.returns-clause-added
returns-clause-added c =
    let keys = c.add_leaves.new.keys.items in (
      keys,
      adds_branch c.args.nodes.now c.insert-key.new.nodes c.add_leaves.new.nodes c.set_children.new.nodes c.args.parent c.insert-key.result c.args.branch.now.part keys
          (leaves keys (parts_of c.args.branch.now.conditions.now c.args.branch.now.action)) c.insert-key.ensures.added c.add_leaves.ensures.added c.set_children.ensures.edited,
      c.add_leaves.ensures.count,
    )
