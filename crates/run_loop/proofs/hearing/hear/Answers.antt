use Rattle.std.proofs.Common.{◌≡◌, ◌-◌, ◌∷◌, [], List, slice_set, refl, sym, subst, ◌∙◌, arith}
use Rattle.spec_run.specs.Drivers.{DriverState}
use Rattle.run_arena.specs.declared.nodes.Node.{Node}
use Rattle.run_arena.specs.Ends.{StaysFit}
use Rattle.run_arena.specs.Rosters.{AreServed, instances_of, roster_after}
use Rattle.run_nodes.specs.Tellings.{CanBeTold, telling_at}
use Rattle.run_loop.specs.Parts.{scene_of}
use Rattle.run_loop.proofs.Growing.{indexed}
use Rattle.run_loop.proofs.Messages.{can_hear, fits, message_left}
use Rattle.run_loop.proofs.hearing.hear.Goals as goal

pub tell_leaf-requires-clause-leaves : goal.tell_leaf-requires-clause-leaves
tell_leaf-requires-clause-leaves g c =
    let r = c.requires.runs in
    let runs = c.args.runs.now in
    let at = indexed runs.runners.items runs.runners.items (c.args.message.runner - 1) c.index.result.now refl (omega (arith, r.1.first, r.1.last, r.1.are.fit.many)) c.index.ensures in
    subst (AreServed (g.D.Drivers.states c.args.drivers.now)) (sym c.as_slice-nodes.ensures.value)
    (fits r.0 c.args.message (g.D.Drivers.states c.args.drivers.now) runs r.1 c.index.result.now at).fits.leaves

pub tell_leaf-requires-clause-told : goal.tell_leaf-requires-clause-told
tell_leaf-requires-clause-told g c =
    let r = c.requires.runs in
    let runs = c.args.runs.now in
    let at = indexed runs.runners.items runs.runners.items (c.args.message.runner - 1) c.index.result.now refl (omega (arith, r.1.first, r.1.last, r.1.are.fit.many)) c.index.ensures in
    subst (λ (nodes : List Node). CanBeTold nodes c.args.message.uid) (sym c.as_slice-nodes.ensures.value)
    (can_hear r.0 c.args.message (g.D.Drivers.states c.args.drivers.now) runs r.1 c.index.result.now at)

pub returns : goal.returns
returns g c = λ of can.
    let runs = c.args.runs.now in
    let before : List DriverState = g.D.Drivers.states c.args.drivers.now in
    let after : List DriverState = g.D.Drivers.states c.tell_leaf.new.drivers in
    let r = c.index.result.now in
    let uid = c.args.message.uid in
    let telling = c.args.message.telling in
    let at = indexed runs.runners.items runs.runners.items (c.args.message.runner - 1) r refl (omega (arith, can.first, can.last, can.are.fit.many)) c.index.ensures in
    let same = c.as_slice-nodes.ensures.value in
    message_left of c.args.message before runs can r at after
    (subst (λ (nodes : List Node). after ≡ roster_after nodes (telling_at nodes before uid telling ∷ []) before) same c.tell_leaf.ensures.drivers)
    (subst (λ (nodes : List Node). instances_of nodes after ≡ slice_set (instances_of nodes before) uid (telling_at nodes before uid telling).left) same c.tell_leaf.ensures.instances)
    (subst (λ (nodes : List Node). StaysFit nodes (scene_of r runs.facts before) (scene_of r runs.facts after)) same (c.tell_leaf.ensures.fits r.arena.kept.items r.board runs.facts))
    c.args.block.now c.begin.new.block (c.begin.ensures.header ∙ c.header_of.ensures) c.begin.ensures.notes c.begin.ensures.facts c.begin.ensures.entries
