use Rattle.std.proofs.Common.{ap, sym, ◌∙◌}
use Rattle.run_arena.specs.declared.nodes.Node.{Node}
use Rattle.run_nodes.proofs.ToldLeaves.{is_there, serves_told, told_fits, told_instances}
use Rattle.run_nodes.proofs.telling.tell_leaf.Goals as goal

pub tell-requires-clause-there : goal.tell-requires-clause-there
tell-requires-clause-there g c =
    is_there c.args.nodes.now _ c.args.uid c.args.telling c.in-Some.leaf c.requires.leaves (ap (λ (n : Node). n.leaf) (sym c.node.ensures) ∙ c.in-Some.is)

pub tell-requires-clause-kind : goal.tell-requires-clause-kind
tell-requires-clause-kind g c =
    serves_told c.args.nodes.now _ c.args.uid c.args.telling c.in-Some.leaf c.requires.leaves (ap (λ (n : Node). n.leaf) (sym c.node.ensures) ∙ c.in-Some.is) c.requires.told

pub returns-clause-instances : goal.returns-clause-instances
returns-clause-instances g c =
    told_instances c.args.nodes.now _ c.args.uid c.args.telling c.in-Some.leaf c.requires.leaves (ap (λ (n : Node). n.leaf) (sym c.node.ensures) ∙ c.in-Some.is) _ c.tell.ensures

pub returns-clause-fits : goal.returns-clause-fits
returns-clause-fits g c =
    told_fits c.args.nodes.now _ c.args.uid c.args.telling c.in-Some.leaf c.requires.leaves (ap (λ (n : Node). n.leaf) (sym c.node.ensures) ∙ c.in-Some.is) _ c.tell.ensures
