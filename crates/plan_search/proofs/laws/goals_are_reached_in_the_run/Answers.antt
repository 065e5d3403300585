use Rattle.plan_search.proofs.EngineRuns.{reached_in_run}
use Rattle.plan_search.proofs.laws.goals_are_reached_in_the_run.Goals as goal

pub returns : goal.returns
returns c = reached_in_run
