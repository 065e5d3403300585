use Rattle.test_plans.proofs.Raises.{after_raise}
use Rattle.test_plans.proofs.steps.tell_raise.Goals as goal

pub returns : goal.returns
returns c =
    let p = c.requires.plan in
    after_raise c.raise.result c.args.world.now c.args.growing.now.tree c.raise.new.t c.args.growing.now.added c.args.key p (c.raise.ensures.raised c.args.world.now p.0 p.1 (c.requires.sequence p.0 p.1))
