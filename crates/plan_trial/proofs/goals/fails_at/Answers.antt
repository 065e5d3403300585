use Rattle.std.proofs.Common.{◌<◌, length, subst, sym}
use Rattle.spec_plan.specs.declared.domain.Test.{Test}
use Rattle.plan_trial.proofs.Wanted.{have_at}
use Rattle.plan_trial.proofs.goals.fails_at.Goals as goal

pub holds-requires : goal.holds-requires
holds-requires c =
    let found = c.in-Some.ensures.lookup in
    subst (λ (t : Test). t.fact < length c.args.facts.now) (sym found.1)
    (have_at (length c.args.facts.now) c.args.tests.now c.args.place c.in-Some.test.now c.requires found.3.0)
