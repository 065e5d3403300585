use Rattle.spec_plan.specs.Failing.{at_level}
use Rattle.plan_search.proofs.Marks.{level_more}
use Rattle.plan_search.proofs.failing.breadth_first.Goals as goal

pub loop-level-preserved : goal.loop-level-preserved
loop-level-preserved c =
    level_more (at_level c.args.places.now) c.loop-level.level c.loop-level.ordered.items c.add_level.new.ordered.items c.in_ok-add_level.ensures c.loop-level.invariant
