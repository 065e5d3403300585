-- Plan runs that end at the goals.
use Rattle.std.proofs.Common.{ℕ, ◌+◌, refl, sym, subst}
use Rattle.spec_tree.specs.declared.term.Tree.{Tree}
use Rattle.spec_world.specs.declared.world.World.{World}
use Rattle.spec_plan.specs.Modelled.{ReachedAt}
use Rattle.plan_trial.proofs.Traces.{reached_at}
use Rattle.spec_plan.specs.declared.ending.End.{End}
use Rattle.spec_plan.specs.declared.ending.End.TheVariants.{Reached, NoTemplate, NoOrder, Expansions, StillRunning, Faulted}
use Rattle.spec_plan.specs.declared.ending.Limits.{Limits}
use Rattle.spec_plan.specs.PlanRuns.{Ends, IsTried, Trial, pace_of, tree_of}
use Rattle.plan_search.specs.Reached.{IsReached}

pub ends_reach : (world : World) (limits : Limits) (added : ℕ) (t : Trial) (end : End) → IsTried world limits t → Ends world limits added t end → IsReached world limits end
ends_reach world limits added t (Reached tree tick) tried ends =
    subst (λ (n : ℕ). ReachedAt tree world limits.period n) (sym ends.2)
    (subst (λ (x : Tree). ReachedAt x world limits.period (t.before + 1)) (sym ends.1) (reached_at (tree_of world.rows t.tree) world limits.period (pace_of limits) t.before refl tried ends.0.last))
ends_reach world limits added t (NoTemplate names) tried ends = tt
ends_reach world limits added t (NoOrder action condition) tried ends = tt
ends_reach world limits added t (Expansions n) tried ends = tt
ends_reach world limits added t (StillRunning n) tried ends = tt
ends_reach world limits added t (Faulted uid cause) tried ends = tt
