use Rattle.std.proofs.Common.{refl, subst, sym, ap, length, ◌∙◌}
use Rattle.spec_tree.specs.declared.term.Term.{Term, out-Term}
use Rattle.spec_tree.specs.declared.term.Term.TheFolds.{map-Term}
use Rattle.spec_run.specs.Sites.{Meaning, remembered}
use Rattle.spec_run.specs.Visit.{meaning}
use Rattle.run_arena.specs.declared.nodes.Node.{Node}
use Rattle.run_arena.specs.Nodes.{AreCompiled, kept_at}
use Rattle.run_arena.specs.Stages.{scene_on}
use Rattle.run_arena.specs.Stands.{memory_of}
use Rattle.run_nodes.specs.Here.{children_in, ended_on}
use Rattle.run_nodes.proofs.Needed.{guards_need}
use Rattle.run_nodes.proofs.Standing.{beside_one, fits_here, kept_there, memory_now, read_as, stays_fit}
use Rattle.run_nodes.proofs.ending.end_visit.Goals as goal

pub node-requires : goal.node-requires
node-requires g c = let f = c.requires.fits in (fits_here f.0 f.1 c.args.uid _ _ f.2).there

pub end_node-requires-clause-there : goal.end_node-requires-clause-there
end_node-requires-clause-there g c =
    let f = c.requires.fits in kept_there _ f.1 c.args.uid _ _ (fits_here f.0 f.1 c.args.uid _ _ f.2)

pub end_node-requires-clause-guards : goal.end_node-requires-clause-guards
end_node-requires-clause-guards g c =
    let f = c.requires.fits in
    let here = fits_here f.0 f.1 c.args.uid _ _ f.2 in
    guards_need _ f.1 (sym f.2.slots) _ _ (subst (AreCompiled f.1 (out-Term f.0).guards) (sym (c.get-guards.ensures ∙ ap (λ (n : Node). n.guards) c.node.ensures)) here.node.guards)

pub returns-clause-meets : goal.returns-clause-meets
returns-clause-meets g c = λ term view fits.
    let s = c.args.stage.now in
    let here = fits_here term view c.args.uid _ _ fits in
    let after = c.end_node.new.stage in
    let ms = children_in term c.args.uid s.kept.now in
    read_as s.nodes.now s.moment (λ k. remembered (kept_at k c.args.uid).status (kept_at k c.args.uid).memo ms) (memory_of term c.args.uid) c.end_node.result
    (scene_on g.D.Drivers.states s) (scene_on g.D.Drivers.states after) s.notes.now.list after.notes.now.list
    (ended_on g.D.Drivers.states s c.args.uid (record { answer = c.args.answer; memo = c.args.memo }) term view)
    (sym (memory_now s.kept.now after.kept.now c.args.uid (record (kept_at after.kept.now c.args.uid) { held = (kept_at s.kept.now c.args.uid).held }) c.end_node.ensures.kept term))
    (c.end_node.ensures.meets (map-Term Term Meaning meaning (out-Term term)) view ms
    (subst (AreCompiled view (out-Term term).guards) (sym (c.get-guards.ensures ∙ ap (λ (n : Node). n.guards) c.node.ensures)) here.node.guards))

pub returns-clause-keeps : goal.returns-clause-keeps
returns-clause-keeps g c =
    let s = c.args.stage.now in
    let after = c.end_node.new.stage in
    let k = record (kept_at after.kept.now c.args.uid) { held = (kept_at s.kept.now c.args.uid).held } in
    record {
      same = c.end_node.ensures.same;
      beside = beside_one s.kept.now after.kept.now c.args.uid k c.end_node.ensures.kept;
      stays = stays_fit s.nodes.now c.args.uid k (scene_on g.D.Drivers.states s) (scene_on g.D.Drivers.states after) c.end_node.ensures.kept refl c.end_node.ensures.slots (ap length c.end_node.ensures.aside.facts) c.end_node.ensures.aside.drivers;
    }
