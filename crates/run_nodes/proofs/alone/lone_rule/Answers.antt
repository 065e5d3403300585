use Rattle.std.proofs.Common.{◌≡◌, Some, ap, refl, subst, sym, ◌∙◌}
use Rattle.spec_tree.specs.declared.term.Kind.{Kind}
use Rattle.spec_run.specs.Visit.{node_rule, site_of}
use Rattle.run_arena.specs.declared.nodes.Node.{Node}
use Rattle.run_arena.specs.Ends.{Meets}
use Rattle.run_arena.specs.Nodes.{IsCompiled, kept_at, leaf_at}
use Rattle.run_arena.specs.Scenes.{scene}
use Rattle.run_arena.specs.Stages.{scene_on, state_on}
use Rattle.run_nodes.specs.Calls.{as_given}
use Rattle.run_nodes.proofs.MadeCalls.{can_be_called}
use Rattle.run_nodes.proofs.Needed.{script_needs}
use Rattle.run_nodes.proofs.Settled.{settles_met}
use Rattle.run_nodes.proofs.Standing.{kept_there}
use Rattle.run_nodes.proofs.alone.lone_rule.Goals as goal

pub node-node-requires : goal.node-node-requires
node-node-requires g c = c.requires.fits.2.there

pub leaf_call-requires-clause-here : goal.leaf_call-requires-clause-here
leaf_call-requires-clause-here g c = ap (λ (n : Node). n.leaf) (sym c.node-node.ensures) ∙ c.in-Some.is

pub leaf_call-requires-clause-there : goal.leaf_call-requires-clause-there
leaf_call-requires-clause-there g c = let f = c.requires.fits in kept_there f.0 f.1 c.args.uid _ _ f.2

pub leaf_call-requires-clause-callable : goal.leaf_call-requires-clause-callable
leaf_call-requires-clause-callable g c =
    let f = c.requires.fits in
    let s = c.args.stage.now in
    let leaf_is : leaf_at s.nodes.now c.args.uid ≡ Some c.in-Some.leaf = ap (λ (n : Node). n.leaf) (sym c.node-node.ensures) ∙ c.in-Some.is in
    can_be_called f.0 f.1 c.args.uid s.nodes.now (scene_on g.D.Drivers.states s) c.in-Some.leaf _ s.moment f.2 leaf_is (c.requires.phase c.in-Some.leaf leaf_is)

pub script_node-requires : goal.script_node-requires
script_node-requires g c =
    let f = c.requires.fits in
    script_needs _ f.1 (sym f.2.slots) f.0.code _ (subst (λ (n : Node). IsCompiled f.1 f.0.code n.code) (sym c.node-node.ensures) f.2.node.code)

pub script_condition-requires : goal.script_condition-requires
script_condition-requires g c =
    let f = c.requires.fits in
    script_needs _ f.1 (sym f.2.slots) f.0.code _ (subst (λ (n : Node). IsCompiled f.1 f.0.code n.code) (sym c.node-node.ensures) f.2.node.code)

pub returns-in-ScriptNode-clause-meets : goal.returns-in-ScriptNode-clause-meets
returns-in-ScriptNode-clause-meets g c = λ term view ms fits.
    let s = c.args.stage.now in
    let before = scene_on g.D.Drivers.states s in
    let after = scene s.kept.now c.script_node.new.board s.facts.now (g.D.Drivers.states s.drivers.now) in
    let kind = sym c.in-ScriptNode.is ∙ c.requires.kind ∙ fits.node.kind in
    subst (λ (k : Kind). Meets s.nodes.now s.moment (λ _. ms) (as_given c.script_node.result) before after s.notes.now.list s.notes.now.list (node_rule k (site_of term view c.args.uid) (kept_at s.kept.now c.args.uid).status (kept_at s.kept.now c.args.uid).memo ms (state_on g.D.Drivers.states s))) kind
    (settles_met s.nodes.now s.moment ms _ before after _ _ refl (c.script_node.ensures.settles term view term.code ms (state_on g.D.Drivers.states s) (subst (λ (n : Node). IsCompiled view term.code n.code) (sym c.node-node.ensures) fits.node.code)))

pub returns-in-ScriptCondition-clause-meets : goal.returns-in-ScriptCondition-clause-meets
returns-in-ScriptCondition-clause-meets g c = λ term view ms fits.
    let s = c.args.stage.now in
    let before = scene_on g.D.Drivers.states s in
    let after = scene s.kept.now c.script_condition.new.board s.facts.now (g.D.Drivers.states s.drivers.now) in
    let kind = sym c.in-ScriptCondition.is ∙ c.requires.kind ∙ fits.node.kind in
    subst (λ (k : Kind). Meets s.nodes.now s.moment (λ _. ms) (as_given c.script_condition.result) before after s.notes.now.list s.notes.now.list (node_rule k (site_of term view c.args.uid) (kept_at s.kept.now c.args.uid).status (kept_at s.kept.now c.args.uid).memo ms (state_on g.D.Drivers.states s))) kind
    (settles_met s.nodes.now s.moment ms _ before after _ _ refl (c.script_condition.ensures.settles term view term.code ms (state_on g.D.Drivers.states s) (subst (λ (n : Node). IsCompiled view term.code n.code) (sym c.node-node.ensures) fits.node.code)))
