use Rattle.std.proofs.Common.{sym, subst}
use Rattle.run_loop.specs.Opening.{AreOpening, AreOpeningRuns}
use Rattle.run_loop.proofs.openings.opening_runs.Goals as goal

pub returns-clause-runs : goal.returns-clause-runs
returns-clause-runs g c =
    let tree = c.args.tree.now in
    let world = c.args.world.now in
    let drivers = g.D.Drivers.states c.args.drivers.now in
    let are = subst (λ w. AreOpening tree w drivers c.in_ok-runners.runners.items) (sym c.world.ensures) c.in_ok-runners.ensures.runners in
    subst (λ w. AreOpeningRuns tree w drivers c.in_ok-runs_with.field-0) c.world.ensures (c.in_ok-runs_with.ensures tree drivers are)
