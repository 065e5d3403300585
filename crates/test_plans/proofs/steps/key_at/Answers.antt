use Rattle.test_plans.proofs.steps.key_at.Goals as goal

pub returns : goal.returns
returns c = c.key_of.ensures.known c.args.world.now
