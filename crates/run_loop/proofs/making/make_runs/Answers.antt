use Rattle.run_loop.proofs.making.make_runs.Goals as goal

pub prepared-requires-clause-made : goal.prepared-requires-clause-made
prepared-requires-clause-made g c =
    (c.args.tree.now, c.args.world.now, c.requires.tree, c.requires.world, rw (← c.in_ok-world.ensures) c.in_ok-runs.ensures.runs)

pub returns-clause-begun : goal.returns-clause-begun
returns-clause-begun g c =
    c.in_ok-prepared.ensures.begun c.args.tree.now c.args.world.now c.requires.tree c.requires.world (rw (← c.in_ok-world.ensures) c.in_ok-runs.ensures.runs)
