use Rattle.std.proofs.Common.{length}
use Rattle.plan_search.proofs.Growths.{ok_gives}
use Rattle.plan_search.proofs.Named.{ends_name}
use Rattle.plan_search.proofs.Reaching.{ends_reach}
use Rattle.plan_search.proofs.planning.plan.Goals as goal

pub returns-clause-reached : goal.returns-clause-reached
returns-clause-reached g c =
    ok_gives c.make_steps.result (λ planned is. ends_reach c.args.world.now c.args.limits.now (length planned.steps) is.last planned.end is.run.tried is.run.ends) c.make_steps.ensures.plan

pub returns-clause-named : goal.returns-clause-named
returns-clause-named g c =
    ok_gives c.make_steps.result (λ planned is. ends_name c.args.world.now c.requires.world c.args.limits.now planned is.trials is.last is.run) c.make_steps.ensures.plan
