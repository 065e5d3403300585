use Rattle.run_loop.proofs.making.make_planned_runs.Goals as goal

pub prepared-requires-clause-made : goal.prepared-requires-clause-made
prepared-requires-clause-made g c = (c.args.tree.now, c.args.world.now, c.requires.tree, c.requires.world, c.in_ok-runs.ensures)

pub returns-clause-begun : goal.returns-clause-begun
returns-clause-begun g c = c.prepared.ensures.begun c.args.tree.now c.args.world.now c.requires.tree c.requires.world c.in_ok-runs.ensures

pub returns-clause-cut : goal.returns-clause-cut
returns-clause-cut g c = c.prepared.ensures.cut c.args.tree.now c.args.world.now c.in_ok-runs.ensures
